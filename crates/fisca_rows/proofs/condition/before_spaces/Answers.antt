use Rattle.std.proofs.Common.{◌∙◌, ap, sym, lit<, rules, None, Some}
use Rattle.std.proofs.lemmas.Str.Pattern.{strip_suffix_char}
use Rattle.fisca_rows.specs.Steps.Conditions.{before_spaces}
use Rattle.fisca_rows.proofs.Spaces.{none_passed, space_passed}
use Rattle.fisca_rows.proofs.condition.before_spaces.Goals as goal

pub spaces-preserved : goal.spaces-preserved
spaces-preserved c =
    let last = strip_suffix_char 32 c.spaces.rest.now (Some c.in-Some.less) c.in-Some.ensures.cases (lit< tt) in
    (search rules, sym (space_passed c.in-Some.less.now) ∙ (ap before_spaces (sym last) ∙ c.spaces.invariant.1))

pub returns : goal.returns
returns c =
    let none = strip_suffix_char 32 c.spaces.rest.now None c.in_default.ensures.cases (lit< tt) in
    sym (none_passed c.spaces.rest.now none) ∙ c.spaces.invariant.1
