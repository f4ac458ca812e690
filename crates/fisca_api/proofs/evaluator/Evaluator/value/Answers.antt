use Rattle.fisca_api.proofs.evaluator.Evaluator.value.Goals as goal

pub value-requires-clause-memory : goal.value-requires-clause-memory
value-requires-clause-memory g c = rw (c.as_slice.ensures.value, c.as_slice-wheels.ensures.value) c.requires.ready.memory

pub returns-clause-ready : goal.returns-clause-ready
returns-clause-ready g c = record { ready = c.requires.ready.ready; memory = rw (c.as_slice.ensures.value, c.as_slice-wheels.ensures.value) at c.value.ensures.memory }
