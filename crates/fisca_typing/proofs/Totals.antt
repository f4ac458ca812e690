-- What values of persons come to.
use Rattle.std.proofs.Common.{◌≡◌, ℕ, List, [], ◌∷◌, true, false, refl, subst}
use Rattle.fisca_num.specs.Number.{zero_number}
use Rattle.fisca_model.specs.declared.value_type.ValueType.{ValueType}
use Rattle.fisca_model.specs.declared.value_type.ValueType.TheVariants as vt
use Rattle.fisca_typing.specs.declared.operations.Arithmetic.{Arithmetic}
use Rattle.fisca_typing.specs.declared.operations.Arithmetic.TheVariants as arith
use Rattle.fisca_typing.specs.declared.operations.Logic.TheVariants as logic
use Rattle.fisca_typing.specs.declared.operations.Total.{Total}
use Rattle.fisca_typing.specs.declared.operations.Total.TheVariants as total
use Rattle.fisca_typing.specs.Asks.{takes, gives as type_given}
use Rattle.fisca_model.specs.Tables.{Tables}
use Rattle.fisca_typing.specs.Types.{is_numeric, is_bool}
use Rattle.fisca_typing.specs.Answers.{arithmetic_of}
use Rattle.fisca_model.specs.Values.{Value, number, bool}
use Rattle.fisca_key_semantics.specs.Dialogues.{Dialogue}
use Rattle.fisca_typing.specs.Meaning.{in_turn, from_first, total_over}
use Rattle.fisca_typing.specs.Safe.{is_of, IsSafe}
use Rattle.fisca_typing.proofs.Operands.{safe_then, on_number, arithmetic-safe, logic-safe}

in_turn-safe : (c : Tables) (s t : ValueType) (step : Value → Value → Dialogue) (each : ℕ → Dialogue) → ((m : ℕ) → IsSafe c s (each m)) → ((x y : Value) → is_of c t x ≡ true → is_of c s y ≡ true → IsSafe c t (step x y)) → (ms : List ℕ) (sum : Value) → is_of c t sum ≡ true → IsSafe c t (in_turn step each ms sum)
in_turn-safe c s t step each safe steps [] sum is = is
in_turn-safe c s t step each safe steps (m ∷ ms) sum is =
    safe_then c s t (each m) _ (safe m) (λ x it. safe_then c t t (step sum x) _ (steps sum x is it) (λ y now. in_turn-safe c s t step each safe steps ms y now))

from_first-safe : (c : Tables) (s : ValueType) (step : Value → Value → Dialogue) (each : ℕ → Dialogue) → is_numeric s ≡ true → ((m : ℕ) → IsSafe c s (each m)) → ((x y : Value) → is_of c vt.Number x ≡ true → is_of c s y ≡ true → IsSafe c vt.Number (step x y)) → (ms : List ℕ) → IsSafe c vt.Number (from_first step each ms)
from_first-safe c s step each numeric safe steps [] = tt
from_first-safe c s step each numeric safe steps (m ∷ ms) =
    safe_then c s vt.Number (each m) _ (safe m) (λ x it. on_number c s vt.Number x _ numeric it (λ n. in_turn-safe c s vt.Number step each safe steps ms (number n) refl))

numbers : (c : Tables) (o : Arithmetic) (s : ValueType) → is_numeric s ≡ true → (x y : Value) → is_of c vt.Number x ≡ true → is_of c s y ≡ true → IsSafe c vt.Number (arithmetic_of o x y)
numbers c o s numeric x y is it = arithmetic-safe c o vt.Number s x y refl numeric is it

pub bool-is : (s : ValueType) → is_bool s ≡ true → s ≡ vt.Bool
bool-is vt.Number e = cc
bool-is vt.Bool e = refl
bool-is (vt.Enum f) e = cc

bools-safe : (c : Tables) (s : ValueType) (each : ℕ → Dialogue) → is_bool s ≡ true → ((m : ℕ) → IsSafe c s (each m)) → (m : ℕ) → IsSafe c vt.Bool (each m)
bools-safe c s each is safe m = subst (λ r. IsSafe c r (each m)) (bool-is s is) (safe m)

pub total-safe : (c : Tables) (o : Total) (s : ValueType) (each : ℕ → Dialogue) (ms : List ℕ) → takes o s ≡ true → ((m : ℕ) → IsSafe c s (each m)) → IsSafe c (type_given o) (total_over o each ms)
total-safe c total.Sum s each ms is safe = in_turn-safe c s vt.Number _ each safe (numbers c arith.Add s is) ms (number zero_number) refl
total-safe c total.Min s each ms is safe = from_first-safe c s _ each is safe (numbers c arith.Min s is) ms
total-safe c total.Max s each ms is safe = from_first-safe c s _ each is safe (numbers c arith.Max s is) ms
total-safe c total.Any s each ms is safe = in_turn-safe c vt.Bool vt.Bool _ each (bools-safe c s each is safe) (logic-safe c logic.Or) ms (bool false) refl
total-safe c total.All s each ms is safe = in_turn-safe c vt.Bool vt.Bool _ each (bools-safe c s each is safe) (logic-safe c logic.And) ms (bool true) refl
