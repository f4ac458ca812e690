-- The laws of runs over ranges.
use Rattle.std.proofs.Common.{◌≡◌, ℕ, ◌-◌, ◌<◌, ◌≤◌, max, Bool, true, false, cond, nat_lt, ◌++◌, Option, None, refl, sym, ap, ◌∙◌, arith, subst, ⊎_elim}
use Rattle.std.proofs.lemmas.Bool.{cases_lt}
use Rattle.std.proofs.lemmas.Bool.Decides.{nat_tests}
use Rattle.std.proofs.lemmas.List.{append-nil}
use Rattle.fisca_writer.specs.Continued.{IsContinued}
use Rattle.fisca_writer.specs.Lines.{lines, End, AtEnd, MoreFrom, FaultAt, continued_from, run_end}
use Rattle.fisca_writer.specs.Ranges.{AreJoined, before, end_within, range_end, range_lines, stop_of}
use Rattle.fisca_writer.specs.Row.{Row, Fault}
use Rattle.fisca_writer.specs.declared.limit.Limit.{Limit}
use Rattle.fisca_writer.proofs.Remaining.{Goes, IsLeft, left_from, left_past}
use Rattle.fisca_writer.proofs.Walk.{lines-over}

-- how a run goes on behind its range, where a test says whether a position is left
abbrev on_from : {F : Type 0} → ℕ → Bool → End F
on_from rest b = cond b (MoreFrom rest) AtEnd

-- where a run can be continued behind its range
to_go : {F : Type 0} (size rest position : ℕ) → continued_from {F = F} size rest ≡ MoreFrom position → (rest ≡ position) × (rest < size)
to_go {F} size rest position e = go (nat_lt rest size) refl e
  where
    go : (b : Bool) → b ≡ nat_lt rest size → on_from {F = F} rest b ≡ MoreFrom position → (rest ≡ position) × (rest < size)
    go true is e = (let same : rest ≡ position = cc in same, grind (arith, nat_tests))
    go false is e = absurd (cc)

no_go : {F : Type 0} (size rest : ℕ) → continued_from {F = F} size rest ≡ AtEnd → size ≤ rest
no_go {F} size rest e = go (nat_lt rest size) refl e
  where
    go : (b : Bool) → b ≡ nat_lt rest size → on_from {F = F} rest b ≡ AtEnd → size ≤ rest
    go true is e = absurd (cc)
    go false is e = grind (arith, nat_tests)

no_fault : {F : Type 0} (size rest position : ℕ) (x : F) → continued_from {F = F} size rest ≡ FaultAt position x → ⊥
no_fault {F} size rest position x e = go (nat_lt rest size) e
  where
    go : (b : Bool) → on_from {F = F} rest b ≡ FaultAt position x → ⊥
    go true e = cc
    go false e = cc

-- what a run over a range leaves
left_in : {F : Type 0} (row : ℕ → Row F) (size from stop : ℕ) (rows : Option ℕ) → stop ≤ size → IsLeft row size stop (max from stop) from rows (run_end row stop from rows)
left_in row size from stop rows room = ⊎_elim
    (λ (within : from < stop).
    let rest : stop ≡ max from stop = omega arith in
    subst (λ rest. IsLeft row size stop rest from rows (run_end row stop from rows)) rest (left_from row size stop from (stop - from) rows room refl (omega arith)))
    (λ (over : stop ≤ from). left_past row size stop (max from stop) from rows room over (omega arith))
    (cases_lt from stop)

module _ {F : Type 0} (row : ℕ → Row F) (size from : ℕ) (limit : Limit) (room : stop_of size limit ≤ size) where
  more_left : (position : ℕ) (end : End F) → IsLeft row size (stop_of size limit) (max from (stop_of size limit)) from limit.rows end
      → end_within size (max from (stop_of size limit)) end ≡ MoreFrom position → IsContinued row size from limit position
  more_left position AtEnd left e =
      let rest = to_go size (max from (stop_of size limit)) position e in
      subst (IsContinued row size from limit) rest.0 (record { lines_follow = left.lines_follow; same_end = left.same_end; behind = left.behind; within = rest.1 })
  more_left position (MoreFrom there) left e =
      let same : there ≡ position = cc in
      let inside = left.1 in
      subst (IsContinued row size from limit) same (record { lines_follow = left.0.lines_follow; same_end = left.0.same_end; behind = left.0.behind; within = omega (arith, inside, room) })
  more_left position (FaultAt there x) left e = absurd (cc)

  end_left : (end : End F) → IsLeft row size (stop_of size limit) (max from (stop_of size limit)) from limit.rows end
      → end_within size (max from (stop_of size limit)) end ≡ AtEnd → lines row size from None ≡ range_lines row size from limit
  end_left AtEnd left e =
      let over = no_go size (max from (stop_of size limit)) e in
      left.lines_follow ∙ (ap (λ xs. range_lines row size from limit ++ xs) (lines-over row size (max from (stop_of size limit)) None over) ∙ append-nil (range_lines row size from limit))
  end_left (MoreFrom there) left e = absurd (cc)
  end_left (FaultAt there x) left e = absurd (cc)

  fault_left : (position : ℕ) (x : F) (end : End F) → IsLeft row size (stop_of size limit) (max from (stop_of size limit)) from limit.rows end
      → end_within size (max from (stop_of size limit)) end ≡ FaultAt position x → (row position ≡ Fault x) × (lines row size from None ≡ range_lines row size from limit)
  fault_left position x AtEnd left e = absurd (no_fault size (max from (stop_of size limit)) position x e)
  fault_left position x (MoreFrom there) left e = absurd (cc)
  fault_left position x (FaultAt there y) left e =
      let place : there ≡ position = cc in
      let same : y ≡ x = cc in
      (ap row (sym place) ∙ (left.0 ∙ ap Fault same), left.1)

pub more_law : {F : Type 0} (row : ℕ → Row F) (size from position : ℕ) (limit : Limit) → stop_of size limit ≤ size → range_end row size from limit ≡ MoreFrom position → IsContinued row size from limit position
more_law row size from position limit room e = more_left row size from limit room position _ (left_in row size from (stop_of size limit) limit.rows room) e

pub end_law : {F : Type 0} (row : ℕ → Row F) (size from : ℕ) (limit : Limit) → stop_of size limit ≤ size → range_end row size from limit ≡ AtEnd → lines row size from None ≡ range_lines row size from limit
end_law row size from limit room e = end_left row size from limit room _ (left_in row size from (stop_of size limit) limit.rows room) e

pub fault_law : {F : Type 0} (row : ℕ → Row F) (size from position : ℕ) (limit : Limit) (x : F) → stop_of size limit ≤ size → range_end row size from limit ≡ FaultAt position x
    → (row position ≡ Fault x) × (lines row size from None ≡ range_lines row size from limit)
fault_law row size from position limit x room e = fault_left row size from limit room position x _ (left_in row size from (stop_of size limit) limit.rows room) e

-- Ranges that join

-- a range to a position that no limit of lines ends
abbrev to_end : Option ℕ → Limit
to_end to = record { to = to; rows = None }

module _ {F : Type 0} (row : ℕ → Row F) (size from between : ℕ) (to : Option ℕ) (low : from ≤ between) (high : between ≤ stop_of size (to_end to)) (room : stop_of size (to_end to) ≤ size) where
  joined_at : (end : End F) → run_end row between from None ≡ end → IsLeft row (stop_of size (to_end to)) between (max from between) from None end → end_within size (max from between) end ≡ continued_from size between
      → AreJoined row size from between (to_end to)
  joined_at AtEnd is left e =
      let rest : max from between ≡ between = omega arith in
      let first : max from (stop_of size (to_end to)) ≡ max between (stop_of size (to_end to)) = omega arith in
      let goes = subst (Goes row (stop_of size (to_end to)) between from None) rest left in
      record {
        lines_follow = goes.lines_follow;
        same_end = ap (λ p. end_within size p (run_end row (stop_of size (to_end to)) from None)) first ∙ ap (end_within size (max between (stop_of size (to_end to)))) goes.same_end;
      }
  joined_at (MoreFrom there) is left e =
      let go = to_go size between there (sym e) in
      let inside = left.1 in absurd (omega (arith, go.0, inside))
  joined_at (FaultAt there x) is left e = absurd (no_fault size between there x (sym e))

  stopped_at : (position : ℕ) (x : F) (end : End F) → IsLeft row (stop_of size (to_end to)) between (max from between) from None end → end_within size (max from between) end ≡ FaultAt position x
      → (range_lines row size from (to_end to) ≡ range_lines row size from (before between)) × (range_end row size from (to_end to) ≡ FaultAt position x)
  stopped_at position x AtEnd left e = absurd (no_fault size (max from between) position x e)
  stopped_at position x (MoreFrom there) left e = absurd (cc)
  stopped_at position x (FaultAt there y) left e =
      (left.1, ap (end_within size (max from (stop_of size (to_end to)))) left.2 ∙ e)

pub joined_law : {F : Type 0} (row : ℕ → Row F) (size from between : ℕ) (to : Option ℕ) → from ≤ between → between ≤ stop_of size (record { to = to; rows = None }) → stop_of size (record { to = to; rows = None }) ≤ size
    → range_end row size from (before between) ≡ continued_from size between → AreJoined row size from between (record { to = to; rows = None })
joined_law row size from between to low high room e =
    joined_at row size from between to low high room _ refl (left_in row (stop_of size (to_end to)) from between None high) e

pub stopped_law : {F : Type 0} (row : ℕ → Row F) (size from between position : ℕ) (to : Option ℕ) (x : F) → from ≤ between → between ≤ stop_of size (record { to = to; rows = None }) → stop_of size (record { to = to; rows = None }) ≤ size
    → range_end row size from (before between) ≡ FaultAt position x
    → (range_lines row size from (record { to = to; rows = None }) ≡ range_lines row size from (before between)) × (range_end row size from (record { to = to; rows = None }) ≡ FaultAt position x)
stopped_law row size from between position to x low high room e =
    stopped_at row size from between to low high room position x _ (left_in row (stop_of size (to_end to)) from between None high) e
