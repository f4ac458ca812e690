-- Arguments that grow at their end.
use Rattle.std.proofs.Common.{◌≡◌, ℕ, List, [], ◌∷◌, ◌++◌, Bool, true, false, max, refl, sym, ap, ◌∙◌, rules, Vec, arith}
use Rattle.std.specs.Prelude.{map}
use Rattle.std.specs.declared.alloc.Global.{Global}
use Rattle.fisca_ast.specs.Tree.{Series, Argument, nothing, last, next, height_all, height_of}
use Rattle.fisca_ast.specs.Views.{argument_view, series_view, in_front, series_of, before}
use Rattle.fisca_ast.specs.declared.tree.Argument.{Argument as Given}
use Rattle.fisca_ast.specs.declared.tree.Arguments.{the_lemmas as all_lemmas}
use Rattle.fisca_ast.specs.declared.tree.Arguments.TheVariants as arguments

in_front_more : (xs : List Given) (a : Given) (more : Series) → in_front (map argument_view (xs ++ a ∷ [])) more ≡ in_front (map argument_view xs) (next (argument_view a) more)
in_front_more [] a more = refl
in_front_more (x ∷ xs) a more = ap (next (argument_view x)) (in_front_more xs a more)

pub before_more : (old new : List Given) (a : Given) → new ≡ old ++ a ∷ [] → (more : Series) → before new more ≡ before old (next (argument_view a) more)
before_more old new a e more = ap (λ xs. before xs more) e ∙ in_front_more old a more

with_comma : (xs : List Argument) → series_of true xs ≡ in_front xs nothing
with_comma [] = refl
with_comma (a ∷ []) = refl
with_comma (a ∷ b ∷ xs) = ap (next a) (with_comma (b ∷ xs))

without_comma : (xs : List Given) (a : Given) → series_of false (map argument_view (xs ++ a ∷ [])) ≡ in_front (map argument_view xs) (last (argument_view a))
without_comma [] a = refl
without_comma (x ∷ []) a = refl
without_comma (x ∷ y ∷ xs) a = ap (next (argument_view x)) (without_comma (y ∷ xs) a)

heights : (xs : List Argument) (more : Series) → height_all (in_front xs more) ≡ max (height_all (in_front xs nothing)) (height_all more)
heights [] more = omega arith
heights (a ∷ xs) more = omega (arith, heights xs more)

seen : (v : Vec Given Global) (comma : Bool) → series_view (arguments.Several v comma) ≡ series_of comma (map argument_view v.items)
seen v comma = search (rules, all_lemmas)

pub one_view : (old : List Given) (a : Given) → old ≡ [] → series_view (arguments.One a) ≡ before old (last (argument_view a))
one_view old a e =
    let one : series_view (arguments.One a) ≡ last (argument_view a) = search (rules, all_lemmas) in
    one ∙ ap (λ xs. before xs (last (argument_view a))) (sym e)

pub one_height : (old : List Given) (a : Given) (h k m : ℕ) → old ≡ [] → h ≡ height_all (before old nothing) → k ≡ height_of (argument_view a) → m ≡ max h k → m ≡ height_all (series_view (arguments.One a))
one_height old a h k m e p q r =
    let none : h ≡ 0 = p ∙ ap (λ xs. height_all (before xs nothing)) e in
    let all : max h k ≡ height_all (before old (last (argument_view a))) = omega (arith, none, q, ap (λ xs. height_all (before xs (last (argument_view a)))) e) in
    r ∙ all ∙ ap height_all (sym (one_view old a e))

pub commas_view : (v : Vec Given Global) → series_view (arguments.Several v true) ≡ before v.items nothing
commas_view v = seen v true ∙ with_comma (map argument_view v.items)

pub commas_height : (v : Vec Given Global) (h : ℕ) → h ≡ height_all (before v.items nothing) → h ≡ height_all (series_view (arguments.Several v true))
commas_height v h e = e ∙ ap height_all (sym (commas_view v))

pub last_view : (v : Vec Given Global) (old : List Given) (a : Given) → v.items ≡ old ++ a ∷ [] → series_view (arguments.Several v false) ≡ before old (last (argument_view a))
last_view v old a e = seen v false ∙ ap (λ xs. series_of false (map argument_view xs)) e ∙ without_comma old a

pub last_height : (v : Vec Given Global) (old : List Given) (a : Given) (h k m : ℕ) → v.items ≡ old ++ a ∷ [] → h ≡ height_all (before old nothing) → k ≡ height_of (argument_view a) → m ≡ max h k → m ≡ height_all (series_view (arguments.Several v false))
last_height v old a h k m e p q r =
    let whole : height_all (before old (last (argument_view a))) ≡ max (height_all (before old nothing)) (height_of (argument_view a)) = heights (map argument_view old) (last (argument_view a)) in
    let all : max h k ≡ height_all (before old (last (argument_view a))) = omega (arith, whole, p, q) in
    r ∙ all ∙ ap height_all (sym (last_view v old a e))

-- one more, with its height
pub more_height : (old new : List Given) (a : Given) (h k : ℕ) → ((more : Series) → before new more ≡ before old (next (argument_view a) more)) → h ≡ height_all (before old nothing) → k ≡ height_of (argument_view a) → max h k ≡ height_all (before new nothing)
more_height old new a h k e p q =
    let whole : height_all (before old (next (argument_view a) nothing)) ≡ max (height_all (before old nothing)) (height_all (next (argument_view a) nothing)) = heights (map argument_view old) (next (argument_view a) nothing) in
    let all : max h k ≡ height_all (before old (next (argument_view a) nothing)) = omega (arith, whole, p, q) in
    all ∙ ap height_all (sym (e nothing))
