use Rattle.std.proofs.Common.{◌≡◌, map}
use Rattle.std.specs.List.{AllByRecursion}
use Rattle.std.specs.Map.{keys_of}
use Rattle.fisca_inputs.specs.Defaults.{HaveFirst, with_defaults}
use Rattle.fisca_inputs.specs.Rules.{rule_of}
use Rattle.fisca_inputs.proofs.inputs.Inputs.put_defaults.Given as goal

-- what is left, put into what there is, gives the whole
abbrev pub invariant-loop-row : goal.invariant-loop-row
invariant-loop-row l = record {
  whole : with_defaults (map rule_of l.variables) l.counts l.givens (keys_of l.row-iterator) l.self
      ≡ with_defaults (map rule_of l.fn.variables) l.fn.counts l.fn.givens (keys_of l.fn.rows.entries) l.fn.self;
  first : AllByRecursion (HaveFirst l.self) l.row-iterator;
}
