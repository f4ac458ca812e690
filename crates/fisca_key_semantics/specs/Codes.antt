-- Dialogues are a set: what they are made of has codes.
use Rattle.std.specs.Prelude.{◌≡◌, ◌⊎◌, ℕ, zero, suc, Bool, Option, Some, None}
use Rattle.std.specs.Coded.{Coded, Coded-set, code_by, coded_option, coded_ℕ, coded_ℤ, coded_bool, coded×, coded⊎}
use mathlib.Core.Logic.{inl, inr}
use mathlib.Core.Path.{refl, ap}
use Rattle.fisca_key_semantics.specs.Dialogues.{Dialogue, Dialogue-set, OperationFault, zero_divisor, too_wide, parameter_undefined, bad_scale, no_member, period_mismatch, period_out_of_range}
use Rattle.fisca_model.specs.Values.{Value, number, bool, member, Key}
use Rattle.fisca_num.specs.Number.{Number, same_number}
use Rattle.fisca_time.specs.Period.{Span, eternity, months, days}
use Rattle.fisca_time.specs.Unit.{rank}
use Rattle.fisca_time.specs.declared.unit.Unit.{Unit}
use Rattle.fisca_time.specs.declared.unit.Unit.TheVariants.{Day, Month, Year, Eternity}

-- a number is its numerator and its denominator
number_coded : Coded Number
number_coded =
    let pair = coded× coded_ℤ coded_ℕ in
    record {
      code = λ n. pair.code (n.numerator, n.denominator);
      inj = λ a b same. let parts = pair.inj (a.numerator, a.denominator) (b.numerator, b.denominator) same in same_number a b (ap (λ p. p.0) parts) (ap (λ p. p.1) parts);
    }

abbrev value_cases : Value → Number ⊎ (Bool ⊎ ℕ)
value_cases (number n) = inl n
value_cases (bool b) = inr (inl b)
value_cases (member i) = inr (inr i)

abbrev value_of : Number ⊎ (Bool ⊎ ℕ) → Value
value_of (inl n) = number n
value_of (inr (inl b)) = bool b
value_of (inr (inr i)) = member i

value_back : (v : Value) → value_of (value_cases v) ≡ v
value_back (number n) = refl
value_back (bool b) = refl
value_back (member i) = refl

value_coded : Coded Value
value_coded = code_by (Number ⊎ (Bool ⊎ ℕ)) (coded⊎ number_coded (coded⊎ coded_bool coded_ℕ)) value_cases value_of value_back

abbrev unit_at : ℕ → Unit
unit_at zero = Day
unit_at (suc zero) = Month
unit_at (suc (suc zero)) = Year
unit_at (suc (suc (suc n))) = Eternity

unit_back : (u : Unit) → unit_at (rank u) ≡ u
unit_back Day = refl
unit_back Month = refl
unit_back Year = refl
unit_back Eternity = refl

abbrev span_cases : Span → Option ((Unit × (ℕ × ℕ)) ⊎ (ℕ × ℕ))
span_cases eternity = None
span_cases (months u first size) = Some (inl (u, (first, size)))
span_cases (days first size) = Some (inr (first, size))

abbrev span_of : Option ((Unit × (ℕ × ℕ)) ⊎ (ℕ × ℕ)) → Span
span_of None = eternity
span_of (Some (inl p)) = months p.0 p.1.0 p.1.1
span_of (Some (inr p)) = days p.0 p.1

span_back : (s : Span) → span_of (span_cases s) ≡ s
span_back eternity = refl
span_back (months u first size) = refl
span_back (days first size) = refl

span_coded : Coded Span
span_coded = code_by (Option ((Unit × (ℕ × ℕ)) ⊎ (ℕ × ℕ))) (coded_option (coded⊎ (coded× (code_by ℕ coded_ℕ rank unit_at unit_back) (coded× coded_ℕ coded_ℕ)) (coded× coded_ℕ coded_ℕ))) span_cases span_of span_back

key_coded : Coded Key
key_coded = code_by (ℕ × (ℕ × Span)) (coded× coded_ℕ (coded× coded_ℕ span_coded)) (λ k. (k.variable, (k.member, k.period))) (λ p. record { variable = p.0; member = p.1.0; period = p.1.1 }) (λ _. refl)

-- a mismatch is told of a key, and each other fault has a number
abbrev fault_cases : OperationFault → Key ⊎ ℕ
fault_cases (period_mismatch k) = inl k
fault_cases zero_divisor = inr 0
fault_cases too_wide = inr 1
fault_cases parameter_undefined = inr 2
fault_cases bad_scale = inr 3
fault_cases no_member = inr 4
fault_cases period_out_of_range = inr 5

abbrev fault_at : ℕ → OperationFault
fault_at zero = zero_divisor
fault_at (suc zero) = too_wide
fault_at (suc (suc zero)) = parameter_undefined
fault_at (suc (suc (suc zero))) = bad_scale
fault_at (suc (suc (suc (suc zero)))) = no_member
fault_at (suc (suc (suc (suc (suc n))))) = period_out_of_range

abbrev fault_of : Key ⊎ ℕ → OperationFault
fault_of (inl k) = period_mismatch k
fault_of (inr n) = fault_at n

fault_back : (e : OperationFault) → fault_of (fault_cases e) ≡ e
fault_back (period_mismatch k) = refl
fault_back zero_divisor = refl
fault_back too_wide = refl
fault_back parameter_undefined = refl
fault_back bad_scale = refl
fault_back no_member = refl
fault_back period_out_of_range = refl

fault_coded : Coded OperationFault
fault_coded = code_by (Key ⊎ ℕ) (coded⊎ key_coded coded_ℕ) fault_cases fault_of fault_back

pub dialogues_are_a_set : IsSet Dialogue
dialogues_are_a_set = Dialogue-set (Coded-set value_coded) (Coded-set fault_coded) (Coded-set key_coded)
