use Rattle.std.proofs.Common.{refl}
use Rattle.fisca_rules.specs.Steps.Rules.{formulas_of}
use Rattle.fisca_rules.proofs.typed.formulas_of.Goals as goal

pub returns-in-Some-clause-formulas : goal.returns-in-Some-clause-formulas
unfolding formulas_of
returns-in-Some-clause-formulas c = rw (← c.type_in_formulas.ensures, c.in-Some.is) c.formulas_made.ensures.formulas

pub returns-in-None-clause-formulas : goal.returns-in-None-clause-formulas
unfolding formulas_of
returns-in-None-clause-formulas c = rw (← c.type_in_formulas.ensures, c.in-None.is, c.none.ensures) refl
