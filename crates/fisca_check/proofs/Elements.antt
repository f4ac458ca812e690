-- Elements of lists, and arguments, one after another.
use Rattle.std.proofs.Common.{◌≡◌, ◌∙◌, sym, ap, arith, ℕ, zero, suc, ◌≤◌, length, take, List, [], ◌∷◌, ◌++◌, map, Bool, true, false, if◌then◌else◌, Result, Ok, Err, refl, append_assoc, append-nil}
use Rattle.fisca_ast.specs.Tree.{Argument}
use Rattle.fisca_ast.specs.Views.{series_of}
use Rattle.fisca_ast.specs.declared.tree.Delimiter.TheVariants as bracket
use Rattle.fisca_ast.specs.Outcomes.{Gives}
use Rattle.fisca_ir.specs.Views.{all_things, thing}
use Rattle.fisca_ir.specs.declared.thing.Thing.{Thing as Held}
use Rattle.fisca_num.specs.Results.{and_then}
use Rattle.fisca_ast.specs.declared.fault.FormulaKind.{FormulaKind}
use Rattle.fisca_typing.specs.Calls.{CallArgument}
use Rattle.fisca_typing.specs.Names.{Names}
use Rattle.fisca_typing.specs.Things.{Thing, Things, listed, more}
use Rattle.fisca_typing.specs.Types.{bad_type}
use Rattle.fisca_typing.specs.Typing.{all_given, elements, given_of, in_brackets, is_positional}
use Rattle.fisca_check.proofs.Outcomes.{gives_same}
use Rattle.fisca_check.specs.Elements.{all_elements, element_of, list_view}

abbrev behind-these : {X : Type 0} → List X → Result (List X) FormulaKind → Result (List X) FormulaKind
behind-these xs rest = and_then rest (λ ys. Ok (xs ++ ys))

one-more : {X : Type 0} (rest : Result (List X) FormulaKind) (xs : List X) (x : X) → behind-these xs (and_then rest (λ ys. Ok (x ∷ ys))) ≡ behind-these (xs ++ x ∷ []) rest
one-more (Ok ys) xs x = ap (λ zs. Ok zs) (sym (append_assoc xs (x ∷ []) ys))
one-more (Err e) xs x = refl

pub elements_step : (all : Result (List Thing) FormulaKind) (items rest : List CallArgument) (g : CallArgument) (x : Thing) (xs ys : List Thing) →
    all ≡ and_then (all_elements items) (λ zs. Ok (xs ++ zs)) → items ≡ g ∷ rest → element_of g ≡ Ok x → ys ≡ xs ++ x ∷ [] → all ≡ and_then (all_elements rest) (λ zs. Ok (ys ++ zs))
elements_step all items rest g x xs ys h e f k =
    h ∙ ap (λ gs. behind-these xs (all_elements gs)) e
    ∙ ap (λ o. behind-these xs (and_then o (λ w. and_then (all_elements rest) (λ vs. Ok (w ∷ vs))))) f
    ∙ one-more (all_elements rest) xs x
    ∙ ap (λ zs. behind-these zs (all_elements rest)) (sym k)

pub elements_end : (all : Result (List Thing) FormulaKind) (items : List CallArgument) (xs : List Thing) → all ≡ and_then (all_elements items) (λ zs. Ok (xs ++ zs)) → items ≡ [] → all ≡ Ok xs
elements_end all items xs h e = h ∙ ap (λ gs. behind-these xs (all_elements gs)) e ∙ ap (λ zs. Ok zs) (append-nil xs)

-- as a list of things

first-then : (o : Result Thing FormulaKind) (b : Bool) (rest : Result (List Thing) FormulaKind) →
    and_then o (λ x. if b then and_then (and_then rest (λ xs. Ok (all_things xs))) (λ xs. Ok (more x xs)) else bad_type)
    ≡ and_then (and_then (and_then o (λ x. if b then Ok x else bad_type)) (λ x. and_then rest (λ xs. Ok (x ∷ xs)))) (λ xs. Ok (all_things xs))
first-then (Ok x) true (Ok xs) = refl
first-then (Ok x) true (Err k) = refl
first-then (Ok x) false rest = refl
first-then (Err k) b rest = refl

pub elements_are : (gs : List CallArgument) → elements gs ≡ and_then (all_elements gs) (λ xs. Ok (all_things xs))
elements_are [] = refl
elements_are (g ∷ gs) =
    ap (λ (rest : Result Things FormulaKind). and_then g.thing (λ x. if is_positional g.keyword then and_then rest (λ xs. Ok (more x xs)) else bad_type)) (elements_are gs)
    ∙ first-then g.thing (is_positional g.keyword) (all_elements gs)

list-then : (o : Result (List Thing) FormulaKind) → and_then (and_then o (λ xs. Ok (all_things xs))) (λ xs. Ok (listed xs)) ≡ and_then o (λ xs. Ok (listed (all_things xs)))
list-then (Ok xs) = refl
list-then (Err k) = refl

pub in_square : (gs : List CallArgument) (r : Result Held FormulaKind) → Gives thing (list_view gs) r → Gives thing (in_brackets bracket.Square gs) r
in_square gs r g = gives_same thing (list_view gs) (in_brackets bracket.Square gs) r g (ap (λ o. and_then o (λ xs. Ok (listed xs))) (elements_are gs) ∙ list-then (all_elements gs))

-- Arguments, with a comma behind the last or without

pub take_all : {X : Type 0} (xs : List X) (i : ℕ) → length xs ≤ i → take i xs ≡ xs
take_all [] zero h = refl
take_all [] (suc i) h = refl
take_all (x ∷ xs) zero h = absurd (omega arith)
take_all (x ∷ xs) (suc i) h = ap (λ ys. x ∷ ys) (take_all xs i (omega arith))

pub series_given : (c : Names) (m : Bool) (xs : List Argument) → map (given_of c) xs ≡ all_given c (series_of m xs)
series_given c m [] = refl
series_given c true (a ∷ []) = refl
series_given c false (a ∷ []) = refl
series_given c m (a ∷ b ∷ xs) = ap (λ gs. given_of c a ∷ gs) (series_given c m (b ∷ xs))

pub none_left : {X : Type 0} (n : ℕ) (xs : List X) → n ≡ 0 → n ≡ length xs → xs ≡ []
none_left n [] e f = refl
none_left n (x ∷ xs) e f = absurd (omega arith)
