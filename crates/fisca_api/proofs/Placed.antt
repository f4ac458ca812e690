-- Where nodes may be worked out: whom they ask for, and whose roles they read, in a formula of an entity.
use Rattle.std.proofs.Common.{◌≡◌, ℕ, zero, suc, List, [], ◌∷◌, ◌++◌, Bool, true, false, Some}
use Rattle.std.specs.Prelude.{⊤, ◌⊎◌, slice_get}
use Rattle.fisca_typing.specs.Wellformed.{Within}
use Rattle.fisca_model.specs.Tables.{Entity, Tables, Variable, is_person_at}
use Rattle.fisca_typing.specs.Asks.{person_place}
use Rattle.fisca_typing.specs.Formulas.{Formula}
use Rattle.fisca_typing.specs.Nodes.{Node, Indices, no_index, index}
use Rattle.fisca_typing.specs.Nodes as node
use Rattle.fisca_typing.specs.declared.asking.Whom.{Whom}
use Rattle.fisca_typing.specs.declared.asking.Whom.TheVariants as whom

-- a group is at this place
pub record IsGroup (c : Tables) (e : ℕ) : Type 0 where
  pub entity : Entity
  pub there : slice_get c.entities e ≡ Some entity
  pub group : entity.is_person ≡ false

-- persons have no roles
abbrev pub RolesFit : Tables → Type 0
RolesFit c = (e : ℕ) (x : Entity) → slice_get c.entities e ≡ Some x → x.is_person ≡ true → x.roles ≡ []

-- a variable of this entity may be asked for so in a formula of the first entity, where persons are at hand or not
abbrev pub IsFor : Tables → ℕ → Bool → Whom → ℕ → Type 0
IsFor c own at_persons whom.Own x = x ≡ own
IsFor c own at_persons (whom.Group e) x = (is_person_at c own ≡ true) × (x ≡ e) × IsGroup c e
IsFor c own at_persons whom.Person x = (is_person_at c own ≡ false) × (at_persons ≡ true) × (x ≡ person_place c)
IsFor c own at_persons (whom.Holder r) x = (is_person_at c own ≡ false) × (x ≡ person_place c)

-- the persons of the formula's own group are counted, or those of the group of its person
abbrev pub IsCounted : Tables → ℕ → ℕ → Type 0
IsCounted c own e = ((is_person_at c own ≡ false) × (e ≡ own)) ⊎ ((is_person_at c own ≡ true) × IsGroup c e)

abbrev mutual
  pub IsPlaced : Tables → ℕ → List Bool → Node → Bool → Type 0
  IsPlaced c own G (node.literal n) at_persons = ⊤
  IsPlaced c own G (node.truth b) at_persons = ⊤
  IsPlaced c own G (node.member e i) at_persons = ⊤
  IsPlaced c own G (node.local i) at_persons = (b : Bool) × (slice_get G i ≡ Some b) × Within b at_persons
  IsPlaced c own G (node.date_part d ms) at_persons = ⊤
  IsPlaced c own G (node.ask v w how ms) at_persons = (x : Variable) × (slice_get c.variables v ≡ Some x) × IsFor c own at_persons w x.entity
  IsPlaced c own G (node.has_role e r) at_persons = IsGroup c e × (is_person_at c own ≡ false → at_persons ≡ true)
  IsPlaced c own G (node.count e r) at_persons = IsCounted c own e
  IsPlaced c own G (node.total o r a) at_persons = (is_person_at c own ≡ false) × IsPlaced c own G a true
  IsPlaced c own G (node.unary o a) at_persons = IsPlaced c own G a at_persons
  IsPlaced c own G (node.arithmetic o a b) at_persons = IsPlaced c own G a at_persons × IsPlaced c own G b at_persons
  IsPlaced c own G (node.logic o a b) at_persons = IsPlaced c own G a at_persons × IsPlaced c own G b at_persons
  IsPlaced c own G (node.comparison o a b) at_persons = IsPlaced c own G a at_persons × IsPlaced c own G b at_persons
  IsPlaced c own G (node.same a b) at_persons = IsPlaced c own G a at_persons × IsPlaced c own G b at_persons
  IsPlaced c own G (node.choose q a b) at_persons = IsPlaced c own G q at_persons × IsPlaced c own G a at_persons × IsPlaced c own G b at_persons
  IsPlaced c own G (node.parameter is places ms) at_persons = ArePlaced c own G is at_persons
  IsPlaced c own G (node.scale_sum place ms a) at_persons = IsPlaced c own G a at_persons

  pub ArePlaced : Tables → ℕ → List Bool → Indices → Bool → Type 0
  ArePlaced c own G no_index at_persons = ⊤
  ArePlaced c own G (index n size is) at_persons = IsPlaced c own G n at_persons × ArePlaced c own G is at_persons

-- each local with those before it, and the result, which is not of persons
abbrev pub IsPlacedFrom : Tables → ℕ → List Bool → List Node → Node → Type 0
IsPlacedFrom c own G [] result = IsPlaced c own G result false
IsPlacedFrom c own G (n ∷ ns) result = (b : Bool) × IsPlaced c own G n b × IsPlacedFrom c own (G ++ b ∷ []) ns result

abbrev pub IsPlacedFormula : Tables → ℕ → Formula → Type 0
IsPlacedFormula c own f = IsPlacedFrom c own [] f.values f.result

-- More locals, and where persons are

abbrev pub Extends : List Bool → List Bool → Type 0
Extends G H = (i : ℕ) (b : Bool) → slice_get G i ≡ Some b → slice_get H i ≡ Some b

pub extended : (G : List Bool) (r : Bool) → Extends G (G ++ r ∷ [])
extended [] r i b e = cc
extended (x ∷ G) r zero b e = e
extended (x ∷ G) r (suc i) b e = extended G r i b e

for_more : (c : Tables) (own : ℕ) (w : Whom) (x : ℕ) (a b : Bool) → Within a b → IsFor c own a w x → IsFor c own b w x
for_more c own whom.Own x a b more is = is
for_more c own (whom.Group e) x a b more is = is
for_more c own whom.Person x a b more is = (is.0, more is.1, is.2)
for_more c own (whom.Holder r) x a b more is = is

module _ (c : Tables) (own : ℕ) (G H : List Bool) (extends : Extends G H) where
  mutual
    pub weaken : (n : Node) (a b : Bool) → Within a b → IsPlaced c own G n a → IsPlaced c own H n b
    weaken (node.literal n) a b more is = tt
    weaken (node.truth q) a b more is = tt
    weaken (node.member e i) a b more is = tt
    weaken (node.local i) a b more is = (is.0, extends i is.0 is.1, λ w. more (is.2 w))
    weaken (node.date_part d ms) a b more is = tt
    weaken (node.ask v w how ms) a b more is = (is.0, is.1, for_more c own w is.0.entity a b more is.2)
    weaken (node.has_role e r) a b more is = (is.0, λ group. more (is.1 group))
    weaken (node.count e r) a b more is = is
    weaken (node.total o r n) a b more is = (is.0, weaken n true true (λ w. w) is.1)
    weaken (node.unary o n) a b more is = weaken n a b more is
    weaken (node.arithmetic o m n) a b more is = (weaken m a b more is.0, weaken n a b more is.1)
    weaken (node.logic o m n) a b more is = (weaken m a b more is.0, weaken n a b more is.1)
    weaken (node.comparison o m n) a b more is = (weaken m a b more is.0, weaken n a b more is.1)
    weaken (node.same m n) a b more is = (weaken m a b more is.0, weaken n a b more is.1)
    weaken (node.choose q m n) a b more is = (weaken q a b more is.0, weaken m a b more is.1, weaken n a b more is.2)
    weaken (node.parameter is places ms) a b more all = weaken_all is a b more all
    weaken (node.scale_sum place ms n) a b more is = weaken n a b more is

    pub weaken_all : (is : Indices) (a b : Bool) → Within a b → ArePlaced c own G is a → ArePlaced c own H is b
    weaken_all no_index a b more all = tt
    weaken_all (index m size is) a b more all = (weaken m a b more all.0, weaken_all is a b more all.1)
