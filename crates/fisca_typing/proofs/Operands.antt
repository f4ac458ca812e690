-- Operands of the right type.
use Rattle.std.proofs.Common.{◌≡◌, ℕ, Bool, true, false, refl, subst}
use Rattle.std.specs.Prelude.{nat_lt, length, if◌then◌else◌, Result, Ok, Err}
use Rattle.std.proofs.lemmas.Bool.{eqb-true}
use Rattle.fisca_num.specs.Number.{Number, zero_number, one_number}
use Rattle.fisca_num.specs.declared.faults.NumFault.{NumFault}
use Rattle.fisca_ast.specs.declared.tree.Comparison.{Comparison}
use Rattle.fisca_model.specs.declared.value_type.ValueType.{ValueType}
use Rattle.fisca_model.specs.declared.value_type.ValueType.TheVariants as vt
use Rattle.fisca_typing.specs.declared.operations.Arithmetic.{Arithmetic}
use Rattle.fisca_typing.specs.declared.operations.Logic.{Logic}
use Rattle.fisca_typing.specs.declared.operations.Unary.{Unary}
use Rattle.fisca_typing.specs.declared.operations.Unary.TheVariants as unary
use Rattle.fisca_typing.specs.Operations.{unary_type, is_places}
use Rattle.fisca_model.specs.Tables.{Tables, members_at}
use Rattle.fisca_typing.specs.Types.{is_numeric}
use Rattle.fisca_typing.specs.Answers.{number_by, arithmetic_of, logic_of, comparison_of, same_of, unary_of}
use Rattle.fisca_model.specs.Values.{Value, number, bool, member}
use Rattle.fisca_key_semantics.specs.Dialogues.{Dialogue, gives, fails, stuck, asks, ◌>>=◌, with_number, with_bool, with_member, computed}
use Rattle.fisca_typing.specs.Safe.{is_of, IsSafe}
use Rattle.fisca_typing.specs.Wellformed.{has_places, is_below}

pub safe_then : (c : Tables) (s t : ValueType) (d : Dialogue) (f : Value → Dialogue) → IsSafe c s d → ((v : Value) → is_of c s v ≡ true → IsSafe c t (f v)) → IsSafe c t (d >>= f)
safe_then c s t (gives v) f safe on = on v safe
safe_then c s t (fails e) f safe on = tt
safe_then c s t stuck f safe on = safe
safe_then c s t (asks k g) f safe on = (safe.0, safe.1, λ v is. safe_then c s t (g v) f (safe.2 v is) on)

pub below_is : (c : Tables) (s t : ValueType) (v : Value) → is_below s t ≡ true → is_of c s v ≡ true → is_of c t v ≡ true
below_is c vt.Number vt.Number v b is = is
below_is c vt.Number vt.Bool v b is = cc
below_is c vt.Number (vt.Enum e) v b is = cc
below_is c vt.Bool vt.Number (number n) b is = cc
below_is c vt.Bool vt.Number (bool q) b is = refl
below_is c vt.Bool vt.Number (member i) b is = cc
below_is c vt.Bool vt.Bool v b is = is
below_is c vt.Bool (vt.Enum e) v b is = cc
below_is c (vt.Enum e) vt.Number v b is = cc
below_is c (vt.Enum e) vt.Bool v b is = cc
below_is c (vt.Enum e) (vt.Enum f) v b is = subst (λ g. is_of c (vt.Enum g) v ≡ true) (eqb-true e f b) is

pub safe_below : (c : Tables) (s t : ValueType) (d : Dialogue) → is_below s t ≡ true → IsSafe c s d → IsSafe c t d
safe_below c s t (gives v) b safe = below_is c s t v b safe
safe_below c s t (fails e) b safe = tt
safe_below c s t stuck b safe = safe
safe_below c s t (asks k g) b safe = (safe.0, safe.1, λ v is. safe_below c s t (g v) b (safe.2 v is))

pub on_number : (c : Tables) (s t : ValueType) (v : Value) (f : Number → Dialogue) → is_numeric s ≡ true → is_of c s v ≡ true → ((n : Number) → IsSafe c t (f n)) → IsSafe c t (with_number v f)
on_number c s t (number n) f numeric is on = on n
on_number c s t (bool true) f numeric is on = on one_number
on_number c s t (bool false) f numeric is on = on zero_number
on_number c vt.Number t (member i) f numeric is on = cc
on_number c vt.Bool t (member i) f numeric is on = cc
on_number c (vt.Enum e) t (member i) f numeric is on = cc

pub on_bool : (c : Tables) (t : ValueType) (v : Value) (f : Bool → Dialogue) → is_of c vt.Bool v ≡ true → ((b : Bool) → IsSafe c t (f b)) → IsSafe c t (with_bool v f)
on_bool c t (number n) f is on = cc
on_bool c t (bool b) f is on = on b
on_bool c t (member i) f is on = cc

pub on_member : (c : Tables) (e : ℕ) (t : ValueType) (v : Value) (f : ℕ → Dialogue) → is_of c (vt.Enum e) v ≡ true → ((i : ℕ) → nat_lt i (length (members_at c e)) ≡ true → IsSafe c t (f i)) → IsSafe c t (with_member v f)
on_member c e t (number n) f is on = cc
on_member c e t (bool b) f is on = cc
on_member c e t (member i) f is on = on i is

pub computed-safe : (c : Tables) (o : Result Number NumFault) → IsSafe c vt.Number (computed o)
computed-safe c (Ok n) = refl
computed-safe c (Err e) = tt

pub arithmetic-safe : (c : Tables) (o : Arithmetic) (s u : ValueType) (x y : Value) → is_numeric s ≡ true → is_numeric u ≡ true → is_of c s x ≡ true → is_of c u y ≡ true → IsSafe c vt.Number (arithmetic_of o x y)
arithmetic-safe c o s u x y p q is it =
    on_number c s vt.Number x _ p is (λ a. on_number c u vt.Number y _ q it (λ b. computed-safe c (number_by o a b)))

pub comparison-safe : (c : Tables) (o : Comparison) (s u : ValueType) (x y : Value) → is_numeric s ≡ true → is_numeric u ≡ true → is_of c s x ≡ true → is_of c u y ≡ true → IsSafe c vt.Bool (comparison_of o x y)
comparison-safe c o s u x y p q is it = on_number c s vt.Bool x _ p is (λ a. on_number c u vt.Bool y _ q it (λ b. refl))

pub logic-safe : (c : Tables) (o : Logic) (x y : Value) → is_of c vt.Bool x ≡ true → is_of c vt.Bool y ≡ true → IsSafe c vt.Bool (logic_of o x y)
logic-safe c o x y is it = on_bool c vt.Bool x _ is (λ a. on_bool c vt.Bool y _ it (λ b. refl))

pub same-safe : (c : Tables) (e : ℕ) (x y : Value) → is_of c (vt.Enum e) x ≡ true → is_of c (vt.Enum e) y ≡ true → IsSafe c vt.Bool (same_of x y)
same-safe c e x y is it = on_member c e vt.Bool x _ is (λ i _. on_member c e vt.Bool y _ it (λ j _. refl))

pub unary-safe : (c : Tables) (o : Unary) (x : Value) → has_places o ≡ true → is_of c (unary_type o) x ≡ true → IsSafe c (unary_type o) (unary_of o x)
unary-safe c unary.Not x has is = on_bool c vt.Bool x _ is (λ b. refl)
unary-safe c unary.Minus x has is = on_number c vt.Number vt.Number x _ refl is (λ a. refl)
unary-safe c unary.Floor x has is = on_number c vt.Number vt.Number x _ refl is (λ a. computed-safe c _)
unary-safe c unary.Ceil x has is = on_number c vt.Number vt.Number x _ refl is (λ a. computed-safe c _)
unary-safe c (unary.Round places) x has is = if_places (is_places places) _ has (on_number c vt.Number vt.Number x _ refl is (λ a. computed-safe c _)) where
  if_places : (b : Bool) (d : Dialogue) → b ≡ true → IsSafe c vt.Number d → IsSafe c vt.Number (if b then d else stuck)
  if_places true d e safe = safe
  if_places false d e safe = cc
unary-safe c unary.Absolute x has is = on_number c vt.Number vt.Number x _ refl is (λ a. refl)
