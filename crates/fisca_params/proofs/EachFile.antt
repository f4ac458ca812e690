-- What holds of each file of a list, and so of each file of the list in path order, and the other way round.
use Rattle.std.proofs.Common.{◌≡◌, Bool, true, false, cond, List, [], ◌∷◌, inl, inr}
use Rattle.std.proofs.lemmas.Bool.{cases_Bool}
use Rattle.fisca_params.specs.Files.{Placed}
use Rattle.fisca_params.specs.Steps.Files.{is_path_before, put_by_path, in_path_order_with}

abbrev pub Each : (Placed → Type 0) → List Placed → Type 0
Each P [] = Unit
Each P (p ∷ ps) = P p × Each P ps

each-cond : (P : Placed → Type 0) (v : Bool) (ps qs : List Placed) → Each P ps → Each P qs → Each P (cond v ps qs)
each-cond P true ps qs h k = h
each-cond P false ps qs h k = k

pub each-put : (P : Placed → Type 0) (p : Placed) (ps : List Placed) → P p → Each P ps → Each P (put_by_path p ps)
each-put P p [] h hs = (h, tt)
each-put P p (q ∷ qs) h hs =
    each-cond P (is_path_before p.1.path q.1.path) (p ∷ q ∷ qs) (q ∷ put_by_path p qs) (h, hs) (hs.0, each-put P p qs h hs.1)

pub each-ordered : (P : Placed → Type 0) (sorted rest : List Placed) → Each P sorted → Each P rest → Each P (in_path_order_with sorted rest)
each-ordered P sorted [] h k = h
each-ordered P sorted (p ∷ ps) h k = each-ordered P (put_by_path p sorted) ps (each-put P p sorted k.0 h) k.1

of-cond : (P : Placed → Type 0) (v : Bool) (ps qs : List Placed) → Each P (cond v ps qs) → (v ≡ true → Each P ps) × (v ≡ false → Each P qs)
of-cond P true ps qs h = (λ e. h, λ e. cc)
of-cond P false ps qs h = (λ e. cc, λ e. h)

of-put : (P : Placed → Type 0) (p : Placed) (ps : List Placed) → Each P (put_by_path p ps) → P p × Each P ps
of-put P p [] h = h
of-put P p (q ∷ qs) h =
    let by = of-cond P (is_path_before p.1.path q.1.path) (p ∷ q ∷ qs) (q ∷ put_by_path p qs) h in
    elim (cases_Bool (is_path_before p.1.path q.1.path)) [
      | inl e ↦ by.0 e
      | inr e ↦ let behind = by.1 e in let rest = of-put P p qs behind.1 in (rest.0, (behind.0, rest.1))
    ]

pub of-ordered : (P : Placed → Type 0) (sorted rest : List Placed) → Each P (in_path_order_with sorted rest) → Each P sorted × Each P rest
of-ordered P sorted [] h = (h, tt)
of-ordered P sorted (p ∷ ps) h =
    let later = of-ordered P (put_by_path p sorted) ps h in
    let here = of-put P p sorted later.0 in
    (here.1, (here.0, later.1))
