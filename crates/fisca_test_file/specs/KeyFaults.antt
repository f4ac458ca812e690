-- What tests tell of the faults of evaluators.
use Rattle.std.specs.Prelude.{Option, option_map}
use Rattle.fisca_model.specs.EvalFaults.{told}
use Rattle.fisca_model.specs.declared.eval_fault.EvalFault.{EvalFault}
use Rattle.fisca_model.specs.Seen.{key_of}
use Rattle.fisca_model.specs.declared.key.Key.{Key}

-- the key that a fault is told of
abbrev pub key_told : EvalFault → Option Key
key_told fault = option_map (λ f. key_of f.key) (told fault)
