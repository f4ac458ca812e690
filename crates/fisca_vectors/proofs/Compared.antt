-- A comparison of lanes is the test of their numerators over one denominator.
use Rattle.std.proofs.Common.{◌≡◌, ℕ, ◌*◌, ◌<◌, ◌≤◌, ◌^◌, ℤ, pos, ◌*ℤ◌, arith, ap, sym, ◌∙◌, refl, List, length, Bool, not, int_lt}
use Rattle.std.proofs.lemmas.Cmp.{int_cmp_total}
use Rattle.std.specs.declared.cmp.Ordering.{Ordering}
use Rattle.std.specs.declared.cmp.Ordering.TheVariants as order
use Rattle.std.specs.Ordering.{int_cmp, ordering_reverse, is_lt, is_gt}
use Rattle.fisca_num.specs.Number.{Number, number_cmp}
use Rattle.fisca_vectors.specs.declared.comparison.LaneComparison.{LaneComparison}
use Rattle.fisca_vectors.specs.declared.comparison.LaneComparison.TheVariants.{AtLeast, AtMost, Equal, NotEqual, Above, Below}
use Rattle.fisca_vectors.specs.Vectors.{lane, flag, is_met_by, IsCompared, IsComparedWith}
use Rattle.fisca_vectors.specs.Numerators.{at, lane_of, lanes_of, IsVector, IsLevel}
use Rattle.fisca_vectors.specs.Compared.{test_of, brought_test, IsTested, IsComparedBeside}
use Rattle.fisca_vectors.proofs.Laws.{level_positive}
use Rattle.fisca_vectors.proofs.Operated.{IsBeside, beside_fits}
use Rattle.fisca_vectors.proofs.Ordered.{cmp_lane, lt_is}
use Rattle.fisca_vectors.proofs.Terms.{Fits, fits_lane, lane_at, count, own_lane}

reversed : (o : Ordering) → is_gt (ordering_reverse o) ≡ is_lt o
reversed order.Less = refl
reversed order.Equal = refl
reversed order.Greater = refl

gt_is : (x y : ℤ) → is_gt (int_cmp x y) ≡ int_lt y x
gt_is x y = ap is_gt (int_cmp_total.antisymm x y) ∙ reversed (int_cmp y x) ∙ lt_is y x

met_is : (comparison : LaneComparison) (x y : ℤ) → is_met_by comparison (int_cmp x y) ≡ test_of comparison x y
met_is AtLeast x y = ap not (lt_is x y)
met_is AtMost x y = ap not (gt_is x y)
met_is Equal x y = refl
met_is NotEqual x y = refl
met_is Above x y = gt_is x y
met_is Below x y = lt_is x y

-- with what stands at the right side
pub compares : (comparison : LaneComparison) (d e f g l a b : ℕ) (ns : List ℤ) (ms : ℕ → ℤ) (flags : List Bool) →
    IsVector d a ns → IsBeside (length ns) e b ms → IsLevel d e f g l → IsTested (brought_test comparison f g) ns ms flags → IsComparedBeside comparison (lanes_of d ns) (λ k. lane_of e (ms k)) flags
compares comparison d e f g l a b ns ms flags hn hm level tested = record { lanes = tested.lanes ∙ sym (count d ns); each = each }
  where
    here : (k : ℕ) → k < length ns → flag flags k ≡ is_met_by comparison (number_cmp (lane_of d (at ns k)) (lane_of e (ms k)))
    here k lt =
        let fits = fits_lane d a ns hn k lt in
        tested.each k lt
        ∙ sym (met_is comparison (at ns k *ℤ pos f) (ms k *ℤ pos g))
        ∙ ap (is_met_by comparison) (sym (cmp_lane (at ns k) (ms k) d e f g l fits (beside_fits (length ns) e b ms hm k lt) level.left_is level.right_is (level_positive d e f g l hn.positive level)))

    each : (k : ℕ) → k < length (lanes_of d ns) → flag flags k ≡ is_met_by comparison (number_cmp (lane (lanes_of d ns) k) (lane_of e (ms k)))
    each k lt = let p : k < length ns = omega (arith, count d ns) in rw (lane_at d ns k p) (here k p)

-- with a vector
pub compared_by_vector : (comparison : LaneComparison) (e : ℕ) (ms : List ℤ) (a b : List Number) (flags : List Bool) → length a ≡ length b → lanes_of e ms ≡ b → IsComparedBeside comparison a (λ k. lane_of e (at ms k)) flags → IsCompared comparison a b flags
compared_by_vector comparison e ms a b flags same is h = record { lanes = h.lanes; each = each }
  where
    each : (k : ℕ) → k < length a → flag flags k ≡ is_met_by comparison (number_cmp (lane a k) (lane b k))
    each k lt =
        let p : k < length ms = omega (arith, count e ms, ap length is) in
        h.each k lt ∙ ap (λ z. is_met_by comparison (number_cmp (lane a k) z)) (sym (lane_at e ms k p)) ∙ ap (λ z. is_met_by comparison (number_cmp (lane a k) (lane z k))) is

-- with one number
pub compared_by_uniform : (comparison : LaneComparison) (v : Number) (a : List Number) (flags : List Bool) → IsComparedBeside comparison a (λ _. lane_of v.denominator v.numerator) flags → IsComparedWith comparison a v flags
compared_by_uniform comparison v a flags h = record { lanes = h.lanes; each = λ k lt. h.each k lt ∙ ap (λ w. is_met_by comparison (number_cmp (lane a k) w)) (own_lane v) }
