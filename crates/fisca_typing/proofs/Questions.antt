-- What is asked for is answered by values of the right type.
use Rattle.std.proofs.Common.{◌≡◌, ℕ, List, [], ◌∷◌, Bool, true, false, refl, sym, ◌∙◌, subst, Option, Some, None}
use Rattle.std.specs.Prelude.{⊤, slice_get, ◌&&◌, if◌then◌else◌, Result, Ok, Err}
use Rattle.fisca_num.specs.Number.{Number, zero_number}
use Rattle.fisca_num.specs.Operations.{sum_of, quotient_of}
use Rattle.fisca_time.specs.Instant.{CivilDate}
use Rattle.fisca_time.specs.Period.{Span, this_year_of, subs, start_of}
use Rattle.fisca_time.specs.Unit.{is_year}
use Rattle.fisca_time.specs.declared.fault.TimeFault.{TimeFault}
use Rattle.fisca_time.specs.declared.unit.Unit.{Unit}
use Rattle.fisca_time.specs.declared.unit.Unit.TheVariants as unit
use Rattle.fisca_typing.specs.declared.asking.Asking.{Asking}
use Rattle.fisca_typing.specs.declared.asking.Asking.TheVariants as asking
use Rattle.fisca_typing.specs.declared.asking.Whom.{Whom}
use Rattle.fisca_typing.specs.declared.asking.Whom.TheVariants as whom
use Rattle.fisca_model.specs.declared.value_type.ValueType.{ValueType}
use Rattle.fisca_model.specs.declared.value_type.ValueType.TheVariants as vt
use Rattle.fisca_typing.specs.declared.moves.Move.{Move}
use Rattle.fisca_typing.specs.Asks.{asked_type, numeric_only}
use Rattle.fisca_model.specs.Tables.{Tables, Variable}
use Rattle.fisca_typing.specs.Types.{is_numeric}
use Rattle.fisca_key_semantics.specs.Dialogues.{Dialogue, computed}
use Rattle.fisca_model.specs.Values.{number}
use Rattle.fisca_model.specs.Groups.{Groups, Point, persons_at}
use Rattle.fisca_typing.specs.Questions.{moved_all, in_range, at_period, on_start, at_start, ask_plain, ask_all, has_no_parts, ask_sum, ask_year, ask_part, ask_by, twelve, default_of, default_by, ask_first, ask_person, ask_of, ask_typed, ask_known}
use Rattle.fisca_model.specs.Periods.{fits}
use Rattle.fisca_model.specs.Tables.{type_in, variable_type}
use Rattle.fisca_typing.specs.Safe.{is_of, IsSafe}
use Rattle.fisca_typing.specs.Wellformed.{HasMembers, IsAskable}
use Rattle.fisca_typing.proofs.Operands.{safe_then, on_number, computed-safe}

in_range-safe : {X : Type 0} (c : Tables) (t : ValueType) (o : Result X TimeFault) (f : X → Dialogue) → ((x : X) → IsSafe c t (f x)) → IsSafe c t (in_range o f)
in_range-safe c t (Ok x) f on = on x
in_range-safe c t (Err e) f on = tt

pub at_period-safe : (c : Tables) (t : ValueType) (ms : List Move) (p : Span) (f : Span → Dialogue) → ((q : Span) → IsSafe c t (f q)) → IsSafe c t (at_period ms p f)
at_period-safe c t ms p f on = in_range-safe c t (moved_all ms p) f on

on_start-safe : (c : Tables) (t : ValueType) (o : Option CivilDate) (f : CivilDate → Dialogue) → ((d : CivilDate) → IsSafe c t (f d)) → IsSafe c t (on_start o f)
on_start-safe c t None f on = tt
on_start-safe c t (Some d) f on = on d

pub at_start-safe : (c : Tables) (t : ValueType) (ms : List Move) (p : Span) (f : CivilDate → Dialogue) → ((d : CivilDate) → IsSafe c t (f d)) → IsSafe c t (at_start ms p f)
at_start-safe c t ms p f on = at_period-safe c t ms p _ (λ q. on_start-safe c t (start_of q) f on)

if-safe : (c : Tables) (t : ValueType) (b : Bool) (d e : Dialogue) → IsSafe c t d → IsSafe c t e → IsSafe c t (if b then d else e)
if-safe c t true d e p q = p
if-safe c t false d e p q = q

pub chosen-safe : (c : Tables) (t : ValueType) (b : Bool) (d e : Dialogue) → IsSafe c t d → IsSafe c t e → IsSafe c t (if b then d else e)
chosen-safe = if-safe

plain-safe : (c : Tables) (v : ℕ) (s : ValueType) (u : Unit) (m : ℕ) (p : Span) → variable_type c v ≡ Some s → IsSafe c s (ask_plain v u m p)
plain-safe c v s u m p known = if-safe c s (fits u p) _ _ (s, known, λ x is. is) tt

all-safe : (c : Tables) (v : ℕ) (s : ValueType) (m : ℕ) (ps : List Span) (sum : Number) → variable_type c v ≡ Some s → is_numeric s ≡ true → IsSafe c vt.Number (ask_all v m ps sum)
all-safe c v s m [] sum known numeric = refl
all-safe c v s m (p ∷ ps) sum known numeric = (
  s,
  known,
  λ x is. on_number c s vt.Number x _ numeric is (λ n.
      safe_then c vt.Number vt.Number (computed (sum_of sum n)) _ (computed-safe c (sum_of sum n)) (λ y it.
      on_number c vt.Number vt.Number y _ refl it (λ r. all-safe c v s m ps r known numeric))),
)

sum-safe : (c : Tables) (v : ℕ) (s : ValueType) (u : Unit) (m : ℕ) (p : Span) → variable_type c v ≡ Some s → is_numeric s ≡ true → IsSafe c vt.Number (ask_sum v u m p)
sum-safe c v s u m p known numeric = if-safe c vt.Number (has_no_parts u p) _ _ tt (all-safe c v s m (subs p u) zero_number known numeric)

year-safe : (c : Tables) (v : ℕ) (s : ValueType) (m : ℕ) (p : Span) (f : Number → Dialogue) → variable_type c v ≡ Some s → is_numeric s ≡ true → ((n : Number) → IsSafe c vt.Number (f n)) → IsSafe c vt.Number (ask_year v m p f)
year-safe c v s m p f known numeric on =
    in_range-safe c vt.Number (this_year_of p) _ (λ y. (s, known, λ x is. on_number c s vt.Number x f numeric is on))

part-safe : (c : Tables) (v : ℕ) (s : ValueType) (u : Unit) (m : ℕ) (p : Span) → variable_type c v ≡ Some s → is_numeric s ≡ true → IsSafe c vt.Number (ask_part v u m p)
part-safe c v s u m p known numeric =
    if-safe c vt.Number (is_year u && fits unit.Month p) _ _ (year-safe c v s m p _ known numeric (λ n. computed-safe c (quotient_of n twelve)))
    (if-safe c vt.Number (is_year u && fits unit.Year p) _ _ (year-safe c v s m p _ known numeric (λ n. refl)) tt)

numeric-only : (s t : ValueType) → numeric_only s ≡ Ok t → (is_numeric s ≡ true) × (vt.Number ≡ t)
numeric-only vt.Number t e = (refl, cc)
numeric-only vt.Bool t e = (refl, cc)
numeric-only (vt.Enum f) t e = cc

plain-type : (s t : ValueType) → asked_type asking.Plain s ≡ Ok t → s ≡ t
plain-type s t e = cc

by-safe : (c : Tables) (how : Asking) (v : ℕ) (s t : ValueType) (u : Unit) (m : ℕ) (p : Span) → variable_type c v ≡ Some s → asked_type how s ≡ Ok t → IsSafe c t (ask_by how v u m p)
by-safe c asking.Plain v s t u m p known e = subst (λ r. IsSafe c r (ask_plain v u m p)) (plain-type s t e) (plain-safe c v s u m p known)
by-safe c asking.Add v s t u m p known e =
    let q = numeric-only s t e in subst (λ r. IsSafe c r (ask_sum v u m p)) q.1 (sum-safe c v s u m p known q.0)
by-safe c asking.Divide v s t u m p known e =
    let q = numeric-only s t e in subst (λ r. IsSafe c r (ask_part v u m p)) q.1 (part-safe c v s u m p known q.0)

default-is : (c : Tables) (v : ℕ) (s : ValueType) → HasMembers c → variable_type c v ≡ Some s → is_of c s (default_of s) ≡ true
default-is c v vt.Number have known = refl
default-is c v vt.Bool have known = refl
default-is c v (vt.Enum e) have known = have v e known

default-safe : (c : Tables) (how : Asking) (v : ℕ) (s t : ValueType) → HasMembers c → variable_type c v ≡ Some s → asked_type how s ≡ Ok t → is_of c t (default_by how s) ≡ true
default-safe c asking.Plain v s t have known e = subst (λ r. is_of c r (default_of s) ≡ true) (plain-type s t e) (default-is c v s have known)
default-safe c asking.Add v s t have known e = subst (λ r. is_of c r (number zero_number) ≡ true) (numeric-only s t e).1 refl
default-safe c asking.Divide v s t have known e = subst (λ r. is_of c r (number zero_number) ≡ true) (numeric-only s t e).1 refl

first-safe : (c : Tables) (how : Asking) (v : ℕ) (u : Unit) (s t : ValueType) (p : Span) (ms : List ℕ) → HasMembers c → variable_type c v ≡ Some s → asked_type how s ≡ Ok t → IsSafe c t (ask_first how v u s p ms)
first-safe c how v u s t p [] have known e = default-safe c how v s t have known e
first-safe c how v u s t p (m ∷ ms) have known e = by-safe c how v s t u m p known e

-- a person is at hand where values of persons are worked out
abbrev pub HasPerson : Bool → Option ℕ → Type 0
HasPerson true (Some m) = ⊤
HasPerson true None = ⊥
HasPerson false o = ⊤

person-safe : (c : Tables) (how : Asking) (v : ℕ) (u : Unit) (s t : ValueType) (p : Span) (at_persons : Bool) (o : Option ℕ) → HasPerson at_persons o → at_persons ≡ true → variable_type c v ≡ Some s → asked_type how s ≡ Ok t → IsSafe c t (ask_person how v u p o)
person-safe c how v u s t p true None has is known e = has
person-safe c how v u s t p false None has is known e = cc
person-safe c how v u s t p at_persons (Some m) has is known e = by-safe c how v s t u m p known e

of-safe : (c : Tables) (g : Groups) (p : Point) (w : Whom) (how : Asking) (v : ℕ) (u : Unit) (s t : ValueType) (q : Span) (at_persons : Bool) → HasPerson at_persons p.person → IsAskable w at_persons → HasMembers c → variable_type c v ≡ Some s → asked_type how s ≡ Ok t → IsSafe c t (ask_of g p w how v u s q)
of-safe c g p whom.Own how v u s t q a has ask have known e = by-safe c how v s t u p.member q known e
of-safe c g p (whom.Group k) how v u s t q a has ask have known e = by-safe c how v s t u (g.group_of k p.member) q known e
of-safe c g p whom.Person how v u s t q a has ask have known e = person-safe c how v u s t q a p.person has ask known e
of-safe c g p (whom.Holder r) how v u s t q a has ask have known e = first-safe c how v u s t q (persons_at g p (Some r)) have known e

typed-safe : (c : Tables) (g : Groups) (p : Point) (w : Whom) (how : Asking) (v : ℕ) (u : Unit) (s t : ValueType) (q : Span) (at_persons : Bool) (o : Option ValueType) → o ≡ Some s → HasPerson at_persons p.person → IsAskable w at_persons → HasMembers c → variable_type c v ≡ Some s → asked_type how s ≡ Ok t → IsSafe c t (ask_typed g p w how v u q o)
typed-safe c g p w how v u s t q a None is has ask have known e = cc
typed-safe c g p w how v u s t q a (Some r) is has ask have known e = of-safe c g p w how v u r t q a has ask have (known ∙ sym is) (subst (λ x. asked_type how x ≡ Ok t) (sym (some-same r s is)) e) where
  some-same : (r s : ValueType) → Some r ≡ Some s → r ≡ s
  some-same r s e = cc

known-safe : (c : Tables) (g : Groups) (p : Point) (w : Whom) (how : Asking) (v : ℕ) (s t : ValueType) (q : Span) (at_persons : Bool) (o : Option Variable) → type_in o ≡ Some s → HasPerson at_persons p.person → IsAskable w at_persons → HasMembers c → variable_type c v ≡ Some s → asked_type how s ≡ Ok t → IsSafe c t (ask_known g p w how v q o)
known-safe c g p w how v s t q a None is has ask have known e = cc
known-safe c g p w how v s t q a (Some x) is has ask have known e = typed-safe c g p w how v x.definition_period s t q a x.value_type is has ask have known e

pub asked-safe : (c : Tables) (g : Groups) (p : Point) (w : Whom) (how : Asking) (v : ℕ) (s t : ValueType) (ms : List Move) (at_persons : Bool) → HasPerson at_persons p.person → IsAskable w at_persons → HasMembers c → variable_type c v ≡ Some s → asked_type how s ≡ Ok t → IsSafe c t (at_period ms p.period (λ q. ask_known g p w how v q (slice_get c.variables v)))
asked-safe c g p w how v s t ms a has ask have known e =
    at_period-safe c t ms p.period _ (λ q. known-safe c g p w how v s t q a (slice_get c.variables v) known has ask have known e)
