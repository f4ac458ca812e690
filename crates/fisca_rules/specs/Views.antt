-- The rule sets of the definition that those in memory stand for.
use Rattle.std.specs.Prelude.{map}
use Rattle.fisca_check.specs.Formulas.{formula_view}
use Rattle.fisca_declarations.specs.VariableForms.{written}
use Rattle.fisca_rules.specs.declared.dated.DatedFormula.{DatedFormula}
use Rattle.fisca_rules.specs.declared.rule_set.RuleSet.{RuleSet}
use Rattle.fisca_rules.specs.Rules as rules

abbrev pub dated : DatedFormula → rules.DatedFormula
dated d = record { start = d.start; formula = formula_view d.formula }

-- what is declared, and the typed formulas
abbrev pub rule_set : RuleSet → rules.Rules
rule_set r = record {
  entities = r.tables.entities;
  enums = r.tables.enums;
  variables = r.tables.variables;
  declarations = map written r.declarations.items;
  parameters = r.tables.parameters;
  formulas = map (λ gs. map dated gs.items.items) r.formulas.items;
}
