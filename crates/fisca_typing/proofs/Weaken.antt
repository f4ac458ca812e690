-- What is typed stays so with more locals, and where persons are.
use Rattle.std.proofs.Common.{◌≡◌, ℕ, zero, suc, List, [], ◌∷◌, ◌++◌, Bool, true, Some}
use Rattle.std.specs.Prelude.{slice_get}
use Rattle.fisca_typing.specs.declared.asking.Whom.{Whom}
use Rattle.fisca_typing.specs.declared.asking.Whom.TheVariants as whom
use Rattle.fisca_model.specs.declared.value_type.ValueType.{ValueType}
use Rattle.fisca_model.specs.declared.value_type.ValueType.TheVariants as vt
use Rattle.fisca_typing.specs.Nodes.{Node, Indices, no_index, index}
use Rattle.fisca_typing.specs.Nodes as node
use Rattle.fisca_model.specs.Tables.{Tables}
use Rattle.fisca_typing.specs.Wellformed.{Sort, Within, IsAskable, IsTyped, AreIndices}

abbrev pub Extends : List Sort → List Sort → Type 0
Extends G H = (i : ℕ) (s : Sort) → slice_get G i ≡ Some s → slice_get H i ≡ Some s

pub extended : (G : List Sort) (r : Sort) → Extends G (G ++ r ∷ [])
extended [] r i s e = cc
extended (x ∷ G) r zero s e = e
extended (x ∷ G) r (suc i) s e = extended G r i s e

askable : (w : Whom) (a b : Bool) → Within a b → IsAskable w a → IsAskable w b
askable whom.Own a b more ask = tt
askable (whom.Group e) a b more ask = tt
askable whom.Person a b more ask = more ask
askable (whom.Holder r) a b more ask = tt

module _ (c : Tables) (G H : List Sort) (extends : Extends G H) where
  mutual
    pub weaken : (n : Node) (t : ValueType) (a b : Bool) → Within a b → IsTyped c G n t a → IsTyped c H n t b
    weaken (node.literal n) t a b more typed = typed
    weaken (node.truth q) t a b more typed = typed
    weaken (node.member e i) t a b more typed = typed
    weaken (node.local i) t a b more typed = (typed.0, extends i typed.0 typed.1, typed.2, λ is. more (typed.3 is))
    weaken (node.date_part d ms) t a b more typed = typed
    weaken (node.ask v w how ms) t a b more typed = (typed.0, typed.1, typed.2, askable w a b more typed.3)
    weaken (node.has_role e r) t a b more typed = typed
    weaken (node.count e r) t a b more typed = typed
    weaken (node.total o r n) t a b more typed = (typed.0, typed.1, typed.2, weaken n typed.1 true true (λ is. is) typed.3)
    weaken (node.unary o n) t a b more typed = (typed.0, typed.1, typed.2, typed.3, weaken n typed.2 a b more typed.4)
    weaken (node.arithmetic o m n) t a b more typed = (typed.0, typed.1, typed.2, typed.3, typed.4, weaken m typed.1 a b more typed.5, weaken n typed.2 a b more typed.6)
    weaken (node.logic o m n) t a b more typed = (typed.0, weaken m vt.Bool a b more typed.1, weaken n vt.Bool a b more typed.2)
    weaken (node.comparison o m n) t a b more typed = (typed.0, typed.1, typed.2, typed.3, typed.4, weaken m typed.1 a b more typed.5, weaken n typed.2 a b more typed.6)
    weaken (node.same m n) t a b more typed = (typed.0, typed.1, weaken m (vt.Enum typed.1) a b more typed.2, weaken n (vt.Enum typed.1) a b more typed.3)
    weaken (node.choose q m n) t a b more typed = (typed.0, typed.1, typed.2, typed.3, weaken q vt.Bool a b more typed.4, weaken m typed.0 a b more typed.5, weaken n typed.1 a b more typed.6)
    weaken (node.parameter is places ms) t a b more typed = (typed.0, typed.1, weaken_all is a b more typed.2)
    weaken (node.scale_sum place ms n) t a b more typed = (typed.0, typed.1, typed.2, weaken n typed.1 a b more typed.3)

    pub weaken_all : (is : Indices) (a b : Bool) → Within a b → AreIndices c G is a → AreIndices c H is b
    weaken_all no_index a b more typed = tt
    weaken_all (index m size is) a b more typed = (typed.0, typed.1, weaken m (vt.Enum typed.0) a b more typed.2, weaken_all is a b more typed.3)
