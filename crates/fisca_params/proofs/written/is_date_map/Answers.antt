use Rattle.std.proofs.Common.{ap, sym, ◌∙◌, eqb}
use Rattle.fisca_params.proofs.DateMaps.{date_map-some}
use Rattle.fisca_params.proofs.written.is_date_map.Goals as goal

pub returns-then-not-is_empty : goal.returns-then-not-is_empty
returns-then-not-is_empty c =
    c.are_instants.ensures ∙ date_map-some c.args.entries.now (λ none. let k = sym c.if-not-is_empty.true ∙ c.is_empty.ensures ∙ ap (λ n. eqb n 0) none in cc)
