use Rattle.std.proofs.Common.{◌∙◌, sym, lit<, None}
use Rattle.std.proofs.lemmas.Str.Pattern.{strip_prefix_char}
use Rattle.fisca_grid.proofs.Prefixes.{spaces_passed}
use Rattle.fisca_grid.proofs.condition.past_spaces.Goals as goal

pub returns : goal.returns
returns c =
    let none = strip_prefix_char 32 c.spaces.rest.now None c.in_default.ensures.cases (lit< tt) in
    sym (spaces_passed c.spaces.rest.now none) ∙ c.spaces.invariant.1
