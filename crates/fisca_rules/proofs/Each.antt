-- One after another, up to the first fault.
use Rattle.std.proofs.Common.{◌≡◌, ◌∙◌, sym, ap, List, [], ◌∷◌, ◌++◌, map, zip, ◌⊎◌, inl, inr, refl, append_assoc, append-nil}
use Rattle.std.specs.Prelude.{Result, Ok, Err}
use Rattle.fisca_check.specs.Formulas.{assigned as local}
use Rattle.fisca_num.specs.Results.{and_then}
use Rattle.fisca_rules.specs.Rules.{all_of, assigned_of}
use Rattle.fisca_ast.specs.ModuleViews.{assigned}
use Rattle.fisca_ast.specs.declared.module.Assignment.{Assignment}

-- behind those that are made
abbrev pub all_behind : {X Y E : Type 0} → (X → Result Y E) → List Y → List X → Result (List Y) E
all_behind make done [] = Ok done
all_behind make done (x ∷ xs) = and_then (make x) (λ y. all_behind make (done ++ y ∷ []) xs)

abbrev behind : {Y E : Type 0} → List Y → Result (List Y) E → Result (List Y) E
behind done rest = and_then rest (λ ys. Ok (done ++ ys))

one-more : {Y E : Type 0} (rest : Result (List Y) E) (done : List Y) (y : Y) → behind (done ++ y ∷ []) rest ≡ behind done (and_then rest (λ ys. Ok (y ∷ ys)))
one-more (Ok ys) done y = ap (λ zs. Ok zs) (append_assoc done (y ∷ []) ys)
one-more (Err e) done y = refl

first-then : {X Y E : Type 0} (make : X → Result Y E) (done : List Y) (xs : List X) (o : Result Y E) →
    ((more : List Y) → all_behind make more xs ≡ behind more (all_of make xs)) →
    and_then o (λ y. all_behind make (done ++ y ∷ []) xs) ≡ behind done (and_then o (λ y. and_then (all_of make xs) (λ ys. Ok (y ∷ ys))))
first-then make done xs (Ok y) rest = rest (done ++ y ∷ []) ∙ one-more (all_of make xs) done y
first-then make done xs (Err e) rest = refl

all_behind_is : {X Y E : Type 0} (make : X → Result Y E) (done : List Y) (xs : List X) → all_behind make done xs ≡ behind done (all_of make xs)
all_behind_is make done [] = ap (λ ys. Ok ys) (sym (append-nil done))
all_behind_is make done (x ∷ xs) = first-then make done xs (make x) (λ more. all_behind_is make more xs)

none-before : {Y E : Type 0} (rest : Result (List Y) E) → behind [] rest ≡ rest
none-before (Ok ys) = refl
none-before (Err e) = refl

-- with none before them
pub all_behind_none : {X Y E : Type 0} (make : X → Result Y E) (xs : List X) → all_behind make [] xs ≡ all_of make xs
all_behind_none make xs = all_behind_is make [] xs ∙ none-before (all_of make xs)

-- where all are made
pub behind_end : {X Y E : Type 0} (make : X → Result Y E) (done : List Y) (left all : List X) →
    all_behind make done left ≡ all_behind make [] all → left ≡ [] → all_of make all ≡ Ok done
behind_end make done left all h none = sym (all_behind_none make all) ∙ sym h ∙ ap (λ xs. all_behind make done xs) none

-- where one has a fault
pub behind_fault : {X Y E : Type 0} (make : X → Result Y E) (done : List Y) (left rest all : List X) (x : X) (fault : E) →
    all_behind make done left ≡ all_behind make [] all → left ≡ x ∷ rest → make x ≡ Err fault → all_of make all ≡ Err fault
behind_fault make done left rest all x fault h cut is =
    sym (all_behind_none make all) ∙ sym h ∙ ap (λ xs. all_behind make done xs) cut
    ∙ ap (λ o. and_then o (λ y. all_behind make (done ++ y ∷ []) rest)) is

-- where one is made
pub behind_next : {X Y E : Type 0} (make : X → Result Y E) (done : List Y) (left rest all : List X) (x : X) (y : Y) →
    all_behind make done left ≡ all_behind make [] all → left ≡ x ∷ rest → make x ≡ Ok y → all_behind make (done ++ y ∷ []) rest ≡ all_behind make [] all
behind_next make done left rest all x y h cut is =
    sym (ap (λ o. and_then o (λ z. all_behind make (done ++ z ∷ []) rest)) is) ∙ sym (ap (λ xs. all_behind make done xs) cut) ∙ h

-- Two lists side by side

-- the pair that comes next
pub next_pair : {A B C : Type 0} (view : B → C) (xs rest : List A) (ys more : List B) (x : A) (y : B) → xs ≡ x ∷ rest → ys ≡ y ∷ more
    → zip xs (map view ys) ≡ (x, view y) ∷ zip rest (map view more)
next_pair view xs rest ys more x y e f = λ i. zip (e i) (map view (f i))

-- one of both has come to its end
pub no_pair : {A B C : Type 0} (view : B → C) (xs : List A) (ys : List B) → (xs ≡ []) ⊎ (ys ≡ []) → zip xs (map view ys) ≡ []
no_pair view xs ys (inl e) = ap (λ vs. zip vs (map view ys)) e
no_pair view xs ys (inr e) = ap (λ vs. zip xs (map view vs)) e ∙ none-beside xs
  where
    none-beside : {A C : Type 0} (vs : List A) → zip {X = C} vs [] ≡ []
    none-beside [] = refl
    none-beside (v ∷ vs) = refl

-- locals as they are written are those of the theory
pub locals_are : (ls : List Assignment) → map assigned_of (map assigned ls) ≡ map local ls
locals_are [] = refl
locals_are (l ∷ ls) = ap (λ rest. local l ∷ rest) (locals_are ls)
