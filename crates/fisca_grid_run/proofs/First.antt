-- The fault that ends a run is the first from its start on.
use Rattle.std.proofs.Common.{◌≡◌, ◌≤◌, ◌<◌, ◌-◌, ◌+◌, ◌∙◌, ℕ, zero, suc, Bool, true, false, cond, List, Option, Some, None, option_map, ap, sym, arith, nat_lt, refl, ⊎_elim, max}
use Rattle.std.proofs.lemmas.Bool.{cases_lt}
use Rattle.std.specs.List.{cons_option, filter_map, range_with_len}
use Rattle.std.specs.Option.{option_map_or}
use Rattle.std.specs.Prelude.{slice_get}
use Rattle.fisca_writer.specs.Lines.{AtEnd, End, FaultAt, MoreFrom, all_lines, continued_from, fault_at, first_fault, run_end, unlimited_end}
use Rattle.fisca_writer.specs.Ranges.{end_within, range_end, stop_of}
use Rattle.fisca_writer.specs.Row.{Fault, Line, Nothing, Row, fault_of}
use Rattle.fisca_writer.specs.declared.limit.Limit.{Limit}

module _ {F : Type 0} (row : ℕ → Row F) where
  -- a fault at a position below `stop`, and none from `from` on before it
  abbrev pub IsFirst : ℕ → ℕ → ℕ → Type 0
  IsFirst from stop position = (from ≤ position) × (position < stop) × ((before : ℕ) (x : F) → from ≤ before → before < position → row before ≡ Fault x → ⊥)

  -- no fault stands at the start
  later : (from stop position : ℕ) → ((x : F) → row from ≡ Fault x → ⊥) → IsFirst (from + 1) stop position → IsFirst from stop position
  later from stop position none is =
      let low = is.0 in (
        omega (arith, low),
        is.1,
        λ before x above below fault. ⊎_elim
            (λ (less : from < before). is.2 before x (omega (arith, less)) below fault)
            (λ (least : before ≤ from). let same : before ≡ from = omega (arith, least, above) in none x (ap row (sym same) ∙ fault))
            (cases_lt from before),
      )

  -- the row at the start, before the others
  first_row : (r : Row F) (from count position : ℕ) (x : F) → row from ≡ r
      → (slice_get (filter_map (fault_at row) (range_with_len (from + 1) count)) 0 ≡ Some (position, x) → IsFirst (from + 1) (from + 1 + count) position)
      → slice_get (cons_option (option_map (λ fault. (from, fault)) (fault_of r)) (filter_map (fault_at row) (range_with_len (from + 1) count))) 0 ≡ Some (position, x)
      → IsFirst from (from + suc count) position
  first_row Nothing from count position x is rest e =
      let first = rest e in
      let stop = first.1 in
      later from (from + suc count) position (λ y fault. let other = sym is ∙ fault in cc) (first.0, omega (arith, stop), first.2)
  first_row (Line text) from count position x is rest e =
      let first = rest e in
      let stop = first.1 in
      later from (from + suc count) position (λ y fault. let other = sym is ∙ fault in cc) (first.0, omega (arith, stop), first.2)
  first_row (Fault y) from count position x is rest e =
      let here : from ≡ position = ap (λ o. option_map_or (λ (at : ℕ × F). at.0) o 0) e in
      (omega (arith, here), omega (arith, here), λ before z above below fault. absurd (omega (arith, here, above, below)))

  first_from : (count from position : ℕ) (x : F) → slice_get (filter_map (fault_at row) (range_with_len from count)) 0 ≡ Some (position, x) → IsFirst from (from + count) position
  first_from zero from position x e = absurd (cc)
  first_from (suc count) from position x e = first_row (row from) from count position x refl (first_from count (from + 1) position x) e

  end_of : (o : Option (ℕ × F)) (position : ℕ) (x : F) → option_map_or (λ fault. FaultAt fault.0 fault.1) o AtEnd ≡ FaultAt position x → o ≡ Some (position, x)
  end_of None position x e = absurd (cc)
  end_of (Some (there, y)) position x e = let place : there ≡ position = cc in let same : y ≡ x = cc in rw (place, same) refl

  no_stop : (b : Bool) (from position : ℕ) (x : F) → cond b (MoreFrom from) AtEnd ≡ FaultAt position x → ⊥
  no_stop true from position x e = cc
  no_stop false from position x e = cc

  unlimited : (size : ℕ) (o : Option (ℕ × List ℕ)) (end : End F) (position : ℕ) (x : F) → option_map_or (λ line. continued_from size (line.0 + 1)) o end ≡ FaultAt position x → end ≡ FaultAt position x
  unlimited size None end position x e = e
  unlimited size (Some line) end position x e = absurd (no_stop (nat_lt (line.0 + 1) size) (line.0 + 1) position x e)

  stops_there : (size from : ℕ) (limit : Option ℕ) (position : ℕ) (x : F) → run_end row size from limit ≡ FaultAt position x → first_fault row size from ≡ Some (position, x)
  stops_there size from None position x e = end_of (first_fault row size from) position x e
  stops_there size from (Some zero) position x e = absurd (no_stop (nat_lt from size) from position x e)
  stops_there size from (Some (suc before)) position x e =
      end_of (first_fault row size from) position x (unlimited size (slice_get (all_lines row size from) before) (unlimited_end row size from) position x e)

  first_in : (size from : ℕ) (limit : Option ℕ) (position : ℕ) (x : F) → run_end row size from limit ≡ FaultAt position x → IsFirst from size position
  first_in size from limit position x e =
      let first = first_from (size - from) from position x (stops_there size from limit position x e) in
      let low = first.0 in
      let high = first.1 in
      (low, omega (arith, low, high), first.2)

  -- a fault that ends a range ends the grid up to where the range is to stop
  fault_within : (size rest : ℕ) (end : End F) (position : ℕ) (x : F) → end_within size rest end ≡ FaultAt position x → end ≡ FaultAt position x
  fault_within size rest AtEnd position x e = absurd (no_stop (nat_lt rest size) rest position x e)
  fault_within size rest (MoreFrom there) position x e = absurd (cc)
  fault_within size rest (FaultAt there y) position x e = e

  pub first_stops : (size from : ℕ) (limit : Limit) (position : ℕ) (x : F) → range_end row size from limit ≡ FaultAt position x → IsFirst from (stop_of size limit) position
  first_stops size from limit position x e = first_in (stop_of size limit) from limit.rows position x (fault_within size (max from (stop_of size limit)) (run_end row (stop_of size limit) from limit.rows) position x e)
