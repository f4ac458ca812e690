use Rattle.std.proofs.Common.{◌≡◌, ◌++◌, drop, map, string_bytes}
use Rattle.fisca_rule_files.specs.Listing.{starts_text}
use Rattle.fisca_rules.specs.Views.{dated}
use Rattle.fisca_rule_files.proofs.texts.write_starts.Given as goal

-- the days that are left come behind those so far
abbrev pub invariant-loop-formula : goal.invariant-loop-formula
invariant-loop-formula l =
    string_bytes l.text ++ starts_text (map dated (drop l.formula-index l.formulas)) ≡ string_bytes l.fn.text ++ starts_text (map dated l.formulas)
