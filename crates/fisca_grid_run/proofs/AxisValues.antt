-- The values of axes at a position, taken one after another.
use Rattle.std.proofs.Common.{◌≡◌, ℕ, zero, suc, ◌<◌, List, [], ◌∷◌, map, drop, length, false, if◌then◌else◌, Some, Ok, slice_get, refl, sym, ap, ◌∙◌, arith}
use Rattle.std.specs.Option.{ForSome}
use Rattle.std.specs.Prelude.{nat_lt}
use Rattle.fisca_grid.proofs.Values.{before_some}
use Rattle.fisca_grid.specs.Axes.{step_of}
use Rattle.fisca_grid.specs.AxesRow.{values_of}
use Rattle.fisca_grid.specs.declared.axes.AxisSpec.{AxisSpec}
use Rattle.fisca_inputs.specs.Entries.{Entries}
use Rattle.fisca_num.specs.Number.{Number}
use Rattle.fisca_situations.specs.Slots as slots
use Rattle.fisca_slots.specs.Turning.{turned_below}
use Rattle.fisca_situations.specs.Steps.Slots.{turned}
use Rattle.fisca_situations.specs.Views.{slot as slot_view}
use Rattle.fisca_situations.specs.declared.slot.Slot.{Slot}

-- the value of an axis is among those of all
pub value_there : (axes : List (AxisSpec × ℕ)) (i : ℕ) (v : Number) (vs : List Number) → i < length axes → ForSome (slice_get axes i) (λ at. step_of at.0 at.1 ≡ Ok v)
    → values_of axes ≡ Some vs → slice_get vs i ≡ Some v
value_there [] i v vs less there e = absurd (omega arith)
value_there (at ∷ axes) zero v vs less there e =
    let b = before_some (step_of at.0 at.1) (values_of axes) vs e in
    let same : Ok b.0 ≡ Ok v = sym b.2 ∙ there at refl in
    let value : b.0 ≡ v = cc in
    ap (λ values. slice_get values 0) (sym b.4) ∙ ap Some value
value_there (at ∷ axes) (suc i) v vs less there e =
    let b = before_some (step_of at.0 at.1) (values_of axes) vs e in
    ap (λ values. slice_get values (suc i)) (sym b.4) ∙ value_there axes i v b.1 (omega arith) there b.3

-- one slot more is turned, where its wheel is one of the first
pub one_more : (t : ℕ) (ss : List Slot) (vs : List Number) (i : ℕ) (s : Slot) (v : Number) (es : Entries) → slice_get ss i ≡ Some s → slice_get vs i ≡ Some v
    → turned_below t (map slot_view (drop i ss)) (drop i vs) es
    ≡ turned_below t (map slot_view (drop (suc i) ss)) (drop (suc i) vs) (if nat_lt s.wheel t then turned (slot_view s) v es else es)
one_more t [] vs i s v es h k = absurd (cc)
one_more t (x ∷ ss) [] i s v es h k = absurd (cc)
one_more t (x ∷ ss) (w ∷ vs) zero s v es h k =
    let slot : x ≡ s = cc in
    let value : w ≡ v = cc in
    ap (λ s. turned_below t (map slot_view ss) vs (if nat_lt s.wheel t then turned (slot_view s) w es else es)) slot
    ∙ ap (λ v. turned_below t (map slot_view ss) vs (if nat_lt s.wheel t then turned (slot_view s) v es else es)) value
one_more t (x ∷ ss) (w ∷ vs) (suc i) s v es h k = one_more t ss vs i s v es h k

no_values : (t : ℕ) (ss : List slots.Slot) (es : Entries) → turned_below t ss [] es ≡ es
no_values t [] es = refl
no_values t (s ∷ ss) es = refl

-- a slot whose wheel is none of the first stays
pub one_passed : (t : ℕ) (ss : List Slot) (vs : List Number) (i : ℕ) (s : Slot) (es : Entries) → slice_get ss i ≡ Some s → nat_lt s.wheel t ≡ false
    → turned_below t (map slot_view (drop i ss)) (drop i vs) es ≡ turned_below t (map slot_view (drop (suc i) ss)) (drop (suc i) vs) es
one_passed t [] vs i s es h k = absurd (cc)
one_passed t (x ∷ ss) [] zero s es h k = sym (no_values t (map slot_view ss) es)
one_passed t (x ∷ ss) (w ∷ vs) zero s es h k =
    let slot : x ≡ s = cc in
    ap (λ b. turned_below t (map slot_view ss) vs (if b then turned (slot_view x) w es else es)) (ap (λ (s : Slot). nat_lt s.wheel t) slot ∙ k)
one_passed t (x ∷ ss) [] (suc i) s es h k = no_values t (map slot_view (drop i ss)) es ∙ sym (no_values t (map slot_view (drop (suc i) ss)) es)
one_passed t (x ∷ ss) (w ∷ vs) (suc i) s es h k = one_passed t ss vs i s es h k
