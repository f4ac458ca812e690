-- Fronts of fronts, and the groups of what is left.
use Rattle.std.proofs.Common.{◌≡◌, ℕ, ◌+◌, ◌<◌, ◌≤◌, List, [], ◌∷◌, length, Option, Some, None, option_map, IfNone, IfSome, refl, sym, ap, ◌∙◌, arith}
use Rattle.std.proofs.lemmas.Bool.Decides.{nat_tests}
use Rattle.fisca_yaml_scalars.specs.Rows.{Row}
use Rattle.fisca_yaml_scalars.specs.Steps.Rows.{rank}
use Rattle.fisca_yaml.specs.Grouping.{Group, groups, joined, all_of}
use Rattle.fisca_yaml_scalars.specs.Deeper.{front, after}

-- the first lines deeper than r, among those deeper than f
pub front_front : (f r : ℕ) (ls : List Row) → f ≤ r → front r (front f ls) ≡ front r ls
front_front f r [] h = refl
front_front f r (l ∷ ls) h = let e = front_front f r ls h in grind (arith, nat_tests)

pub groups_front : (f r : ℕ) (ls : List Row) → f ≤ r → groups r (front f ls) ≡ groups r (front f (after r ls))
groups_front f r [] h = refl
groups_front f r (l ∷ ls) h = let e = groups_front f r ls h in grind (arith, nat_tests)

pub after_after : (f r : ℕ) (ls : List Row) → f ≤ r → after f (after r ls) ≡ after f ls
after_after f r [] h = refl
after_after f r (l ∷ ls) h = let e = after_after f r ls h in grind (arith, nat_tests)

pub front_after : (r : ℕ) (ls : List Row) → front r (after r ls) ≡ []
front_after r [] = refl
front_after r (l ∷ ls) = let e = front_after r ls in grind (arith, nat_tests)

-- the line that comes next and then the deeper lines, as the loops have them
abbrev pub pending : ℕ → Option Row → List Row → List Row
pending f None ls = []
pending f (Some l) ls = l ∷ front f ls

abbrev pub waiting : {A : Type 0} → Option A → ℕ
waiting None = 0
waiting (Some a) = 1

module _ {A B : Type 0} (none : B) (put : ℕ → A → B → B) (value : Group → Option A) (f r : ℕ) (l : Row) (ls : List Row) (below : f ≤ r) where
  pub all_turn : rank l ≡ r → all_of none put value r (groups r (l ∷ front f ls)) ≡ joined (put l.number) (value (record { head = l; inside = front r ls })) (all_of none put value r (groups r (front f (after r ls))))
  all_turn e = let a = front_front f r ls below in let b = groups_front f r ls below in grind (arith, nat_tests)

-- what a call that takes the next deeper line leaves
abbrev pub Takes : ℕ → List Row → Option Row → List Row → Type 0
Takes f old None new = (front f old ≡ []) × (new ≡ after f old)
Takes f old (Some l) new = (old ≡ l ∷ new) × (f < rank l)

pub takes : {A : Type 0} (f : ℕ) (old : List Row) (view : A → Row) (o : Option A) (new : List Row)
    → IfNone o ((front f old ≡ []) × (new ≡ after f old)) → IfSome o (λ a. (old ≡ view a ∷ new) × (f < rank (view a))) → Takes f old (option_map view o) new
takes f old view None new n s = n
takes f old view (Some a) new n s = s

pub front_deeper : (f : ℕ) (l : Row) (ls : List Row) → f < rank l → front f (l ∷ ls) ≡ l ∷ front f ls
front_deeper f l ls h = grind (arith, nat_tests)

after_deeper : (f : ℕ) (l : Row) (ls : List Row) → f < rank l → after f (l ∷ ls) ≡ after f ls
after_deeper f l ls h = grind (arith, nat_tests)

pub Takes-pending : (f : ℕ) (old : List Row) (next : Option Row) (new : List Row) → Takes f old next new → pending f next new ≡ front f old
Takes-pending f old None new t = sym t.0
Takes-pending f old (Some l) new t = sym (front_deeper f l new t.1) ∙ ap (front f) (sym t.0)

pub Takes-after : (f : ℕ) (old : List Row) (next : Option Row) (new : List Row) → Takes f old next new → after f new ≡ after f old
Takes-after f old None new t = ap (after f) t.1 ∙ after_after f f old (omega arith)
Takes-after f old (Some l) new t = sym (after_deeper f l new t.1) ∙ ap (after f) (sym t.0)

head_shallow : (r : ℕ) (l : Row) (ls : List Row) → front r (l ∷ ls) ≡ [] → rank l ≤ r
head_shallow r l ls e = grind (arith, nat_tests)

-- once the lines deeper than r are gone, the next one is no deeper than r, and where there is none, nothing deeper than f is left
abbrev pub Settled : ℕ → ℕ → Option Row → List Row → Type 0
Settled f r None new = after f new ≡ new
Settled f r (Some l) new = rank l ≤ r

pub Takes-settled : (f r : ℕ) (old : List Row) (next : Option Row) (new : List Row) → front r old ≡ [] → Takes f old next new → Settled f r next new
Takes-settled f r old None new e t = ap (after f) t.1 ∙ after_after f f old (omega arith) ∙ sym t.1
Takes-settled f r old (Some l) new e t = head_shallow r l new (ap (front r) (sym t.0) ∙ e)

length-after : (r : ℕ) (ls : List Row) → length (after r ls) ≤ length ls
length-after r [] = omega arith
length-after r (l ∷ ls) = let e = length-after r ls in grind (arith, nat_tests)

-- a turn uses a line up
pub Takes-fewer : (f r : ℕ) (ls : List Row) (next : Option Row) (new : List Row) → Takes f (after r ls) next new → length new + waiting next < length ls + 1
Takes-fewer f r ls None new t = omega (arith, length-after f (after r ls), length-after r ls, ap length t.1)
Takes-fewer f r ls (Some l) new t = omega (arith, length-after r ls, ap length t.0)

pub waiting-map : {A : Type 0} (view : A → Row) (o : Option A) → waiting (option_map view o) ≡ waiting o
waiting-map view None = refl
waiting-map view (Some a) = refl

-- no line is at 0
pub front_all : (ls : List Row) → front 0 ls ≡ ls
front_all [] = refl
front_all (l ∷ ls) = let e = front_all ls in grind (arith, nat_tests)
