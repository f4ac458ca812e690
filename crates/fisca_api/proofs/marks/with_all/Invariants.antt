use Rattle.std.proofs.Common.{◌≡◌, ◌==◌, ◌||◌, ℕ, drop}
use Rattle.std.specs.List.{list_any}
use Rattle.fisca_api.specs.Marks.{is_at}
use Rattle.fisca_api.proofs.marks.with_all.Given as goal

abbrev pub invariant-loop-place : goal.invariant-loop-place
invariant-loop-place l = (x : ℕ) → (list_any (λ place. x == place) (drop l.place-index l.places) || is_at l.all.items x) ≡ (list_any (λ place. x == place) l.places || is_at l.marks x)
