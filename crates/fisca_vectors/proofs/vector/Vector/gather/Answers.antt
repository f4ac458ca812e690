use Rattle.std.proofs.Common.{◌≡◌, ◌<◌, length, ap, sym, ◌∙◌, subst, ℕ}
use Rattle.std.specs.List.{All}
use Rattle.fisca_vectors.proofs.Terms.{count}
use Rattle.fisca_vectors.proofs.Moved.{Gathers, gathers}
use Rattle.fisca_vectors.proofs.vector.Vector.gather.Goals as goal
use Rattle.fisca_vectors.proofs.vector.Vector.gather.Goals.{In_ok-numerators}

made : (c : In_ok-numerators) → Gathers c.args.places.now c.self.inside.denominator c.self.inside.bound c.self.inside.numerators.items c.in_ok-numerators.numerators.items
made c =
    let ns = c.self.inside.numerators.items in
    let e : length c.args.self.now ≡ length ns = sym (ap length c.self.view_is) ∙ count c.self.inside.denominator ns in
    let w : All (λ p. p < length ns) c.args.places.now = subst (λ (n : ℕ). All (λ p. p < n) c.args.places.now) e c.requires in
    gathers _ _ _ _ _ c.self.invariant w (rw c.deref.ensures.value at c.in_ok-numerators.ensures)

pub invariant_of-result : goal.invariant_of-result
invariant_of-result c = (made c).vector

pub returns : goal.returns
returns c = rw (← c.self.view_is) (made c).lanes
