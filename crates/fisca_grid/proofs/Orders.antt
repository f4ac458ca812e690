-- The order of an axis value to a number, by the unreduced parts of the axis's line.
use Rattle.std.proofs.Common.{◌≡◌, ℕ, ◌<◌, ℤ, pos, ◌+ℤ◌, ◌*ℤ◌, ◌<ℤ◌, IfOk, Result, Ok, Err, arith, ap, ap₂, sym, ◌∙◌, subst}
use Rattle.std.proofs.Math.Nat.{mul-lt-mul_of_pos_right}
use Rattle.std.specs.declared.cmp.Ordering.{Ordering}
use Rattle.std.specs.declared.cmp.Ordering.TheVariants.{Less, Equal, Greater}
use Rattle.std.specs.Ordering.{int_cmp, MatchOrdering}
use Rattle.std.specs.Cmp.{int_cmp_is, int_ranks}
use borrow.Author.Differences.{below_in, lt_out, product_is}
use Rattle.fisca_num.specs.declared.faults.NumFault.{NumFault}
use Rattle.fisca_num.specs.Rational.{Ratio, Reduces}
use Rattle.fisca_num.specs.Number.{Number, ratio_of, number_cmp}
use Rattle.fisca_num.specs.Value.{IsNumberOf}
use Rattle.fisca_num.specs.Operations.{number_of, is_number_of}
use Rattle.fisca_grid.specs.declared.axes.AxisSpec.{AxisSpec}
use Rattle.fisca_grid.specs.Axes.{step_of, IsLine}
use Rattle.fisca_num.specs.Integers.{times_swap}
use Rattle.fisca_grid.proofs.Steps.{step_on_line}

grown : (k : ℕ) → 0 < k → (x y : ℤ) (r : Ordering) → MatchOrdering r (x <ℤ y) (x ≡ y) (y <ℤ x) → MatchOrdering r ((x *ℤ pos k) <ℤ (y *ℤ pos k)) (x *ℤ pos k ≡ y *ℤ pos k) ((y *ℤ pos k) <ℤ (x *ℤ pos k))
grown k some x y Less h = below_in _ _ (omega (arith, product_is x (pos k), product_is y (pos k), mul-lt-mul_of_pos_right (lt_out x y h) some))
grown k some x y Equal h = ap (λ z. z *ℤ pos k) h
grown k some x y Greater h = below_in _ _ (omega (arith, product_is x (pos k), product_is y (pos k), mul-lt-mul_of_pos_right (lt_out y x h) some))

-- products by a positive number stand to each other as their other factors
cmp-times : (k : ℕ) → 0 < k → (x y : ℤ) → int_cmp x y ≡ int_cmp (x *ℤ pos k) (y *ℤ pos k)
cmp-times k some x y = int_cmp_is (x *ℤ pos k) (y *ℤ pos k) (int_cmp x y) (grown k some x y (int_cmp x y) (int_ranks x y))

-- a rational stands to a number as its lowest terms do
same_order : (r : Ratio) (v c : Number) → Reduces r (ratio_of v) → int_cmp (r.numerator *ℤ pos c.denominator) (c.numerator *ℤ pos r.denominator) ≡ number_cmp v c
same_order r v c x =
    cmp-times v.denominator v.lowest.positive (r.numerator *ℤ pos c.denominator) (c.numerator *ℤ pos r.denominator)
    ∙ ap₂ int_cmp
    (times_swap r.numerator (pos c.denominator) (pos v.denominator) ∙ ap (λ z. z *ℤ pos c.denominator) (sym x.same)
    ∙ times_swap v.numerator (pos r.denominator) (pos c.denominator))
    (times_swap c.numerator (pos r.denominator) (pos v.denominator))
    ∙ sym (cmp-times r.denominator x.some (v.numerator *ℤ pos c.denominator) (c.numerator *ℤ pos v.denominator))

order_of : (r : Ratio) (o : Result Number NumFault) (c : Number) → IsNumberOf r o → IfOk o (λ v. int_cmp (r.numerator *ℤ pos c.denominator) (c.numerator *ℤ pos r.denominator) ≡ number_cmp v c)
order_of r (Ok v) c h = same_order r v c h
order_of r (Err e) c h = tt

-- the value at a place stands to a number as the line's fraction does
pub order_on_line : (axis : AxisSpec) (f t : ℤ) (s : ℕ) → IsLine axis f t s → (place : ℕ) (c : Number)
    → IfOk (step_of axis place) (λ v. int_cmp ((f +ℤ pos place *ℤ t) *ℤ pos c.denominator) (c.numerator *ℤ pos s) ≡ number_cmp v c)
order_on_line axis f t s line place c =
    let r : Ratio = record { numerator = f +ℤ pos place *ℤ t; denominator = s } in
    subst (λ (o : Result Number NumFault). IfOk o (λ v. int_cmp (r.numerator *ℤ pos c.denominator) (c.numerator *ℤ pos r.denominator) ≡ number_cmp v c))
    (step_on_line axis f t s line place) (order_of r (number_of r) c (is_number_of r))
