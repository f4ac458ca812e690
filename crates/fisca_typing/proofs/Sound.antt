-- Typed nodes are safe.
use Rattle.std.proofs.Common.{◌≡◌, ℕ, zero, suc, ◌+◌, ◌*◌, ◌<◌, ◌≤◌, List, [], ◌∷◌, ◌++◌, length, Bool, true, false, refl, sym, subst, arith, Option, Some}
use Rattle.std.specs.Prelude.{slice_get, nat_lt}
use Rattle.std.proofs.Math.Nat.{mul-le-mul_right}
use Rattle.std.proofs.lemmas.Bool.{ltb-true}
use Rattle.fisca_params.specs.Lookup.{sum_in}
use Rattle.fisca_params.specs.Tree.{content_at}
use Rattle.fisca_model.specs.declared.value_type.ValueType.{ValueType}
use Rattle.fisca_model.specs.declared.value_type.ValueType.TheVariants as vt
use Rattle.fisca_typing.specs.Formulas.{Formula}
use Rattle.fisca_typing.specs.Nodes.{Node, Indices, no_index, index}
use Rattle.fisca_typing.specs.Nodes as node
use Rattle.fisca_typing.specs.Operations.{unary_type}
use Rattle.fisca_model.specs.Tables.{Tables, members_at}
use Rattle.fisca_key_semantics.specs.Dialogues.{Dialogue, gives}
use Rattle.fisca_model.specs.Values.{number, bool, member}
use Rattle.fisca_typing.specs.Meaning.{Locals, local_at, mean, at_index, at_person, mean_from, formula_means}
use Rattle.fisca_model.specs.Groups.{Groups, Point, persons_at, has as has_it}
use Rattle.fisca_typing.specs.Questions.{person_of}
use Rattle.fisca_typing.specs.Safe.{IsSafe}
use Rattle.fisca_typing.specs.Wellformed.{Sort, Within, IsTyped, AreIndices, IsTypedFrom, IsTypedFormula, HasMembers, choices_of}
use Rattle.fisca_typing.proofs.Operands.{safe_then, safe_below, on_number, on_bool, on_member, computed-safe, arithmetic-safe, comparison-safe, logic-safe, same-safe, unary-safe}
use Rattle.fisca_typing.proofs.Parameters.{place-safe, scale-safe}
use Rattle.fisca_typing.proofs.Questions.{HasPerson, asked-safe, at_start-safe, chosen-safe}
use Rattle.fisca_typing.proofs.Totals.{total-safe}

as_type : (c : Tables) (t s : ValueType) (d : Dialogue) → t ≡ s → IsSafe c s d → IsSafe c t d
as_type c t s d e safe = subst (λ r. IsSafe c r d) (sym e) safe

-- the locals mean what their types say
abbrev IsContext : Tables → List Sort → Locals → Type 0
IsContext c [] [] = Unit {0}
IsContext c [] (d ∷ ls) = ⊥
IsContext c (s ∷ G) [] = ⊥
IsContext c (s ∷ G) (d ∷ ls) = ((p : Point) → HasPerson s.of_persons p.person → IsSafe c s.value_type (d p)) × IsContext c G ls

local-safe : (c : Tables) (G : List Sort) (ls : Locals) (i : ℕ) (s : Sort) (p : Point) → IsContext c G ls → slice_get G i ≡ Some s → HasPerson s.of_persons p.person → IsSafe c s.value_type (local_at (slice_get ls i) p)
local-safe c [] ls i s p safe e has = cc
local-safe c (r ∷ G) [] i s p safe e has = absurd safe
local-safe c (r ∷ G) (d ∷ ls) zero s p safe e has = at (same r s e) where
  same : (r s : Sort) → Some r ≡ Some s → r ≡ s
  same r s e = cc

  at : r ≡ s → IsSafe c s.value_type (d p)
  at q = subst (λ x. HasPerson x.of_persons p.person → IsSafe c x.value_type (d p)) q (safe.0 p) has
local-safe c (r ∷ G) (d ∷ ls) (suc i) s p safe e has = local-safe c G ls i s p safe.1 e has

behind : (c : Tables) (G : List Sort) (ls : Locals) (s : Sort) (d : Point → Dialogue) → IsContext c G ls → ((p : Point) → HasPerson s.of_persons p.person → IsSafe c s.value_type (d p)) → IsContext c (G ++ s ∷ []) (ls ++ d ∷ [])
behind c [] [] s d safe one = (one, tt)
behind c [] (x ∷ ls) s d safe one = absurd safe
behind c (r ∷ G) [] s d safe one = absurd safe
behind c (r ∷ G) (x ∷ ls) s d safe one = (safe.0, behind c G ls s d safe.1 one)

within-person : (a b : Bool) (o : Option ℕ) → Within a b → HasPerson b o → HasPerson a o
within-person false b o w has = tt
within-person true b o w has = subst (λ x. HasPerson x o) (w refl) has

-- a member of the next Enum chooses among the parameters that are left
next_index : (i j size k n : ℕ) → j < size → suc i * (size * k) ≤ n → suc (i * size + j) * k ≤ n
next_index i j size k n below whole = let h : suc (i * size + j) * k ≤ (suc i * size) * k = mul-le-mul_right k (omega (arith, below)) in omega (arith, h, whole)

one_left : (i n : ℕ) → suc i * 1 ≤ n → i < n
one_left i n h = omega (arith, h)

in_size : (j size n : ℕ) → size ≡ n → nat_lt j n ≡ true → j < size
in_size j size n e below = let h : j < n = ltb-true j n below in omega (arith, h, e)

module _ (c : Tables) (g : Groups) (G : List Sort) (ls : Locals) (have : HasMembers c) (context : IsContext c G ls) where
  mutual
    pub mean-safe : (n : Node) (t : ValueType) (a : Bool) → IsTyped c G n t a → (p : Point) → HasPerson a p.person → IsSafe c t (mean c g ls n p)
    mean-safe (node.literal n) t a typed p has = as_type c t vt.Number (gives (number n)) typed refl
    mean-safe (node.truth b) t a typed p has = as_type c t vt.Bool (gives (bool b)) typed refl
    mean-safe (node.member e i) t a typed p has = as_type c t (vt.Enum e) (gives (member i)) typed.0 typed.1
    mean-safe (node.local i) t a typed p has =
        subst (λ r. IsSafe c r (local_at (slice_get ls i) p)) typed.2 (local-safe c G ls i typed.0 p context typed.1 (within-person typed.0.of_persons a p.person typed.3 has))
    mean-safe (node.date_part d ms) t a typed p has =
        as_type c t vt.Number _ typed (at_start-safe c vt.Number ms p.period _ (λ day. computed-safe c _))
    mean-safe (node.ask v w how ms) t a typed p has = asked-safe c g p w how v typed.0 t ms a has typed.3 have typed.1 typed.2
    mean-safe (node.has_role e r) t a typed p has = as_type c t vt.Bool (gives (bool (has_it r (g.role_of e (person_of p))))) typed refl
    mean-safe (node.count e r) t a typed p has = as_type c t vt.Number _ typed (computed-safe c _)
    mean-safe (node.total o r n) t a typed p has =
        as_type c t _ _ typed.0 (total-safe c o typed.1 _ (persons_at g p r) typed.2 (λ m. mean-safe n typed.1 true typed.3 (at_person p m) tt))
    mean-safe (node.unary o n) t a typed p has =
        as_type c t (unary_type o) _ typed.0 (safe_then c (unary_type o) (unary_type o) _ _ (safe_below c typed.2 (unary_type o) _ typed.3 (mean-safe n typed.2 a typed.4 p has)) (λ x is. unary-safe c o x typed.1 is))
    mean-safe (node.arithmetic o m n) t a typed p has =
        as_type c t vt.Number _ typed.0 (safe_then c typed.1 vt.Number _ _ (mean-safe m typed.1 a typed.5 p has) (λ x is.
        safe_then c typed.2 vt.Number _ _ (mean-safe n typed.2 a typed.6 p has) (λ y it. arithmetic-safe c o typed.1 typed.2 x y typed.3 typed.4 is it)))
    mean-safe (node.logic o m n) t a typed p has =
        as_type c t vt.Bool _ typed.0 (safe_then c vt.Bool vt.Bool _ _ (mean-safe m vt.Bool a typed.1 p has) (λ x is.
        safe_then c vt.Bool vt.Bool _ _ (mean-safe n vt.Bool a typed.2 p has) (λ y it. logic-safe c o x y is it)))
    mean-safe (node.comparison o m n) t a typed p has =
        as_type c t vt.Bool _ typed.0 (safe_then c typed.1 vt.Bool _ _ (mean-safe m typed.1 a typed.5 p has) (λ x is.
        safe_then c typed.2 vt.Bool _ _ (mean-safe n typed.2 a typed.6 p has) (λ y it. comparison-safe c o typed.1 typed.2 x y typed.3 typed.4 is it)))
    mean-safe (node.same m n) t a typed p has =
        as_type c t vt.Bool _ typed.0 (safe_then c (vt.Enum typed.1) vt.Bool _ _ (mean-safe m (vt.Enum typed.1) a typed.2 p has) (λ x is.
        safe_then c (vt.Enum typed.1) vt.Bool _ _ (mean-safe n (vt.Enum typed.1) a typed.3 p has) (λ y it. same-safe c typed.1 x y is it)))
    mean-safe (node.choose q m n) t a typed p has =
        safe_then c vt.Bool t _ _ (mean-safe q vt.Bool a typed.4 p has) (λ x is. on_bool c t x _ is (λ b.
        chosen-safe c t b _ _ (safe_below c typed.0 t _ typed.2 (mean-safe m typed.0 a typed.5 p has)) (safe_below c typed.1 t _ typed.3 (mean-safe n typed.1 a typed.6 p has))))
    mean-safe (node.parameter is places ms) t a typed p has =
        at_start-safe c t ms p.period _ (λ day. at_index-safe is t a typed.2 p has 0 (length places) _ (omega (arith, typed.1)) (λ i below.
        place-safe c t c.nodes places i day typed.0 below))
    mean-safe (node.scale_sum place ms n) t a typed p has =
        as_type c t vt.Number _ typed.0 (at_start-safe c vt.Number ms p.period _ (λ day.
        safe_then c typed.1 vt.Number _ _ (mean-safe n typed.1 a typed.3 p has) (λ x it. on_number c typed.1 vt.Number x _ typed.2 it (λ b.
        scale-safe c (sum_in (content_at c.nodes place) day b)))))

    at_index-safe : (is : Indices) (t : ValueType) (a : Bool) → AreIndices c G is a → (p : Point) → HasPerson a p.person → (i n : ℕ) (f : ℕ → Dialogue) → suc i * choices_of is ≤ n → ((j : ℕ) → j < n → IsSafe c t (f j)) → IsSafe c t (at_index c g ls is i p f)
    at_index-safe no_index t a typed p has i n f whole safe = safe i (one_left i n whole)
    at_index-safe (index m size is) t a typed p has i n f whole safe =
        safe_then c (vt.Enum typed.0) t _ _ (mean-safe m (vt.Enum typed.0) a typed.2 p has) (λ x it. on_member c typed.0 t x _ it (λ j below.
        at_index-safe is t a typed.3 p has (i * size + j) n f (next_index i j size (choices_of is) n (in_size j size (length (members_at c typed.0)) typed.1 below) whole) safe))

from-safe : (c : Tables) (g : Groups) (G : List Sort) (ls : Locals) (ns : List Node) (result : Node) (t : ValueType) → HasMembers c → IsContext c G ls → IsTypedFrom c G ns result t → (p : Point) → IsSafe c t (mean_from c g ls ns result p)
from-safe c g G ls [] result t have context typed p = safe_below c typed.0 t _ typed.1 (mean-safe c g G ls have context result typed.0 false typed.2 p tt)
from-safe c g G ls (n ∷ ns) result t have context typed p =
    from-safe c g (G ++ typed.0 ∷ []) (ls ++ (λ q. mean c g ls n q) ∷ []) ns result t have
    (behind c G ls typed.0 (λ q. mean c g ls n q) context (λ q has. mean-safe c g G ls have context n typed.0.value_type typed.0.of_persons typed.1 q has)) typed.2 p

pub formula-safe : (c : Tables) (g : Groups) (f : Formula) (t : ValueType) → HasMembers c → IsTypedFormula c f t → (p : Point) → IsSafe c t (formula_means c g f p)
formula-safe c g f t have typed p = from-safe c g [] [] f.values f.result t have tt typed p
