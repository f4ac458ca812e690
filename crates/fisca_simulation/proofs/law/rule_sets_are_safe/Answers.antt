use Rattle.fisca_simulation.proofs.law.rule_sets_are_safe.Goals as goal

pub returns : goal.returns
returns c nodes modules r h = record {
  formulas = c.rule_sets_are_never_stuck.ensures nodes modules r h;
  defaults = c.defaults_are_of_their_types.ensures nodes modules r h;
  uncomputed = c.days_and_texts_have_no_formulas.ensures nodes modules r h;
}
