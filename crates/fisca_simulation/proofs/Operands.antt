-- Operands of noted dialogues: numbers, bools and members of Enums.
use Rattle.std.proofs.Common.{◌≡◌, ◌∙◌, ℕ, Bool, Option, true, false, if◌then◌else◌, ap}
use Rattle.fisca_num.specs.Number.{Number, one_number, zero_number}
use Rattle.fisca_model.specs.Values.{Value, Key, number, bool, member}
use Rattle.fisca_key_semantics.specs.Dialogues.{Dialogue}
use Rattle.fisca_key_semantics.specs.Dialogues as plain
use Rattle.fisca_ops.specs.Ended.{IsMoving}
use Rattle.fisca_simulation.specs.NotedFormulas.{chosen, with_member, with_number}
use Rattle.fisca_simulation.specs.Noted.{Noted}
use Rattle.fisca_simulation.specs.Played.{Moves}

module _ (W : Key → Option Value) where
  pub number_moving : (x : Value) (f : Number → Noted) → Moves W (with_number x f) → IsMoving (plain.with_number x (λ n. plain.gives (number n)))
  number_moving (number n) f m = tt
  number_moving (bool true) f m = tt
  number_moving (bool false) f m = tt
  number_moving (member i) f m = m

  pub member_moving : (x : Value) (f : ℕ → Noted) → Moves W (with_member x f) → IsMoving (plain.with_member x (λ i. plain.gives (member i)))
  member_moving (number n) f m = m
  member_moving (bool b) f m = m
  member_moving (member i) f m = tt

  pub truth_moving : (x : Value) (a b : Noted) → Moves W (chosen x a b) → IsMoving (plain.with_bool x (λ t. plain.gives (bool t)))
  truth_moving (number n) a b m = m
  truth_moving (bool true) a b m = tt
  truth_moving (bool false) a b m = tt
  truth_moving (member i) a b m = m

-- the number that a value counts as, as plain dialogues tell it
pub number_is : (x : Value) (r : Number) → ((f : Number → Dialogue) → plain.with_number x f ≡ f r) → (f : Number → Noted) → with_number x f ≡ f r
number_is (number n) r h f = let e : plain.gives (number n) ≡ plain.gives (number r) = h (λ m. plain.gives (number m)) in let same : n ≡ r = cc in ap f same
number_is (bool true) r h f = let e : plain.gives (number one_number) ≡ plain.gives (number r) = h (λ m. plain.gives (number m)) in let same : one_number ≡ r = cc in ap f same
number_is (bool false) r h f = let e : plain.gives (number zero_number) ≡ plain.gives (number r) = h (λ m. plain.gives (number m)) in let same : zero_number ≡ r = cc in ap f same
number_is (member i) r h f = let e : plain.stuck ≡ plain.gives (number r) = h (λ m. plain.gives (number m)) in absurd cc

pub member_is : (x : Value) (r : ℕ) → ((f : ℕ → Dialogue) → plain.with_member x f ≡ f r) → (f : ℕ → Noted) → with_member x f ≡ f r
member_is (number n) r h f = let e : plain.stuck ≡ plain.gives (member r) = h (λ m. plain.gives (member m)) in absurd cc
member_is (bool b) r h f = let e : plain.stuck ≡ plain.gives (member r) = h (λ m. plain.gives (member m)) in absurd cc
member_is (member i) r h f = let e : plain.gives (member i) ≡ plain.gives (member r) = h (λ m. plain.gives (member m)) in let same : i ≡ r = cc in ap f same

-- which one of two a bool chooses
chosen_by : (x : Value) (t : Bool) → ((f : Bool → Dialogue) → plain.with_bool x f ≡ f t) → (a b : Noted) → chosen x a b ≡ (if t then a else b)
chosen_by (number n) t h a b = let e : plain.stuck ≡ plain.gives (bool t) = h (λ u. plain.gives (bool u)) in absurd cc
chosen_by (bool true) t h a b = let e : plain.gives (bool true) ≡ plain.gives (bool t) = h (λ u. plain.gives (bool u)) in let same : true ≡ t = cc in ap (λ u. if u then a else b) same
chosen_by (bool false) t h a b = let e : plain.gives (bool false) ≡ plain.gives (bool t) = h (λ u. plain.gives (bool u)) in let same : false ≡ t = cc in ap (λ u. if u then a else b) same
chosen_by (member i) t h a b = let e : plain.stuck ≡ plain.gives (bool t) = h (λ u. plain.gives (bool u)) in absurd cc

pub chosen_left : (x : Value) (t : Bool) → ((f : Bool → Dialogue) → plain.with_bool x f ≡ f t) → t ≡ true → (a b : Noted) → chosen x a b ≡ a
chosen_left x t h is a b = chosen_by x t h a b ∙ ap (λ u. if u then a else b) is

pub chosen_right : (x : Value) (t : Bool) → ((f : Bool → Dialogue) → plain.with_bool x f ≡ f t) → t ≡ false → (a b : Noted) → chosen x a b ≡ b
chosen_right x t h is a b = chosen_by x t h a b ∙ ap (λ u. if u then a else b) is
