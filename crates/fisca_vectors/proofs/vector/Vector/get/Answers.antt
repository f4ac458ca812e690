use Rattle.std.proofs.Common.{rules, arith, ◌≡◌, length, ap, sym, ◌∙◌, ◌<◌, pos, w64, FitsSigned}
use Rattle.std.proofs.lemmas.Int.{to_z-of_z}
use Rattle.std.proofs.lemmas.List.{get_or-map, get_or_read, length-map}
use Rattle.fisca_num.specs.Number.{zero_number}
use Rattle.fisca_vectors.specs.Numerators.{at, lane_of}
use Rattle.fisca_vectors.specs.Vectors.{lane}
use Rattle.fisca_vectors.proofs.vector.Vector.get.Goals as goal

pub returns : goal.returns
returns c =
    let d = c.self.inside.denominator in
    let ns = c.self.inside.numerators.items in
    let lt : c.args.index < length ns = omega (arith, ap length c.self.view_is, length-map ns (lane_of d)) in
    let fits : FitsSigned w64 c.index.result.now = search rules in
    let is : c.index.result.now ≡ at ns c.args.index = get_or_read ns _ _ lt c.index.ensures (pos 0) in
    c.fraction_of.ensures ∙ ap (lane_of d) (to_z-of_z w64 c.index.result.now fits ∙ is) ∙ sym (get_or-map (lane_of d) ns c.args.index (pos 0) zero_number lt) ∙ ap (λ z. lane z c.args.index) c.self.view_is
