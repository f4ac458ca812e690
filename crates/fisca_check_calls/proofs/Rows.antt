-- Lists that are made one element after another, up to the first fault.
use Rattle.std.proofs.Common.{◌≡◌, ℕ, length, arith, List, [], ◌∷◌, ◌++◌, Some, None, Result, Ok, Err, refl, sym, ◌∙◌, ap, append_assoc, append-nil}
use Rattle.std.specs.Prelude.{ok_or}
use Rattle.fisca_ir.specs.Views.{listed, thing}
use Rattle.fisca_ir.specs.declared.thing.Thing.{Thing as Held}
use Rattle.fisca_num.specs.Results.{and_then}
use Rattle.fisca_params.specs.Tree.{TreeNode, child_of}
use Rattle.fisca_ast.specs.declared.fault.FormulaKind.{FormulaKind}
use Rattle.fisca_ast.specs.declared.fault.FormulaKind.TheVariants as kind
use Rattle.fisca_typing.specs.declared.operations.Arithmetic.{Arithmetic}
use Rattle.fisca_typing.specs.Calls.{CallArgument, Settled, extreme_all, settled}
use Rattle.fisca_typing.specs.Operations.{extreme, operated, typed_all}
use Rattle.fisca_typing.specs.Parameters.{children_named, children_below}
use Rattle.fisca_typing.specs.Things.{Thing, Typed, value_of}

-- these, and then what is still to come
abbrev behind_these : {X : Type 0} → List X → Result (List X) FormulaKind → Result (List X) FormulaKind
behind_these xs rest = and_then rest (λ ys. Ok (xs ++ ys))

one_more : {X : Type 0} (rest : Result (List X) FormulaKind) (xs : List X) (x : X) → behind_these xs (and_then rest (λ ys. Ok (x ∷ ys))) ≡ behind_these (xs ++ x ∷ []) rest
one_more (Ok ys) xs x = ap (λ zs. Ok zs) (sym (append_assoc xs (x ∷ []) ys))
one_more (Err e) xs x = refl

some_more : {X : Type 0} (rest : Result (List X) FormulaKind) (xs zs : List X) → behind_these xs (and_then rest (λ ys. Ok (zs ++ ys))) ≡ behind_these (xs ++ zs) rest
some_more (Ok ys) xs zs = ap (λ ws. Ok ws) (sym (append_assoc xs zs ys))
some_more (Err e) xs zs = refl

-- values

pub values_step : (all : Result (List Typed) FormulaKind) (items rest : List Held) (x : Held) (v : Typed) (xs ys : List Typed) →
    all ≡ behind_these xs (typed_all (listed items)) → items ≡ x ∷ rest → value_of (thing x) ≡ Ok v → ys ≡ xs ++ v ∷ [] → all ≡ behind_these ys (typed_all (listed rest))
values_step all items rest x v xs ys h e f g =
    h ∙ ap (λ ts. behind_these xs (typed_all (listed ts))) e
    ∙ ap (λ o. behind_these xs (and_then o (λ w. and_then (typed_all (listed rest)) (λ vs. Ok (w ∷ vs))))) f
    ∙ one_more (typed_all (listed rest)) xs v
    ∙ ap (λ zs. behind_these zs (typed_all (listed rest))) (sym g)

pub values_end : (all : Result (List Typed) FormulaKind) (items : List Held) (xs : List Typed) → all ≡ behind_these xs (typed_all (listed items)) → items ≡ [] → all ≡ Ok xs
values_end all items xs h e = h ∙ ap (λ ts. behind_these xs (typed_all (listed ts))) e ∙ ap (λ zs. Ok zs) (append-nil xs)

-- arguments

pub settled_step : (all : Result (List Settled) FormulaKind) (items : List CallArgument) (g : CallArgument) (rest : List CallArgument) (x : Thing) (xs ys : List Settled) →
    all ≡ behind_these xs (settled items) → items ≡ g ∷ rest → g.thing ≡ Ok x → ys ≡ xs ++ record { keyword = g.keyword; tree = g.tree; thing = x } ∷ [] → all ≡ behind_these ys (settled rest)
settled_step all items g rest x xs ys h i f e =
    h ∙ ap (λ gs. behind_these xs (settled gs)) i
    ∙ ap (λ o. behind_these xs (and_then o (λ z. and_then (settled rest) (λ ss. Ok (record { keyword = g.keyword; tree = g.tree; thing = z } ∷ ss))))) f
    ∙ one_more (settled rest) xs (record { keyword = g.keyword; tree = g.tree; thing = x })
    ∙ ap (λ zs. behind_these zs (settled rest)) (sym e)

pub settled_end : (all : Result (List Settled) FormulaKind) (items : List CallArgument) (xs : List Settled) → all ≡ behind_these xs (settled items) → items ≡ [] → all ≡ Ok xs
settled_end all items xs h i = h ∙ ap (λ gs. behind_these xs (settled gs)) i ∙ ap (λ zs. Ok zs) (append-nil xs)

-- the lowest or the highest

pub extreme_step : (o : Arithmetic) (all : Result Thing FormulaKind) (x : Thing) (items : List Settled) (s : Settled) (rest : List Settled) (y : Thing) →
    all ≡ extreme_all o x items → items ≡ s ∷ rest → operated (extreme o) x s.thing ≡ Ok y → all ≡ extreme_all o y rest
extreme_step o all x items s rest y h i f =
    h ∙ ap (extreme_all o x) i ∙ ap (λ r. and_then r (λ z. extreme_all o z rest)) f

pub extreme_end : (o : Arithmetic) (all : Result Thing FormulaKind) (x : Thing) (items : List Settled) → all ≡ extreme_all o x items → items ≡ [] → all ≡ Ok x
extreme_end o all x items h i = h ∙ ap (extreme_all o x) i

-- children

pub child_step : (all : Result (List ℕ) FormulaKind) (ns : List TreeNode) (place : ℕ) (t : List ℕ) (rest : List (List ℕ)) (p : ℕ) (xs ys : List ℕ) →
    all ≡ behind_these xs (children_named ns place (t ∷ rest)) → child_of ns place t ≡ Some p → ys ≡ xs ++ p ∷ [] → all ≡ behind_these ys (children_named ns place rest)
child_step all ns place t rest p xs ys h f e =
    h ∙ ap (λ o. behind_these xs (and_then (ok_or o kind.UnknownParameter) (λ q. and_then (children_named ns place rest) (λ ps. Ok (q ∷ ps))))) f
    ∙ one_more (children_named ns place rest) xs p
    ∙ ap (λ zs. behind_these zs (children_named ns place rest)) (sym e)

pub child_fault : (all : Result (List ℕ) FormulaKind) (ns : List TreeNode) (place : ℕ) (t : List ℕ) (rest : List (List ℕ)) (xs : List ℕ) →
    all ≡ behind_these xs (children_named ns place (t ∷ rest)) → child_of ns place t ≡ None → all ≡ Err kind.UnknownParameter
child_fault all ns place t rest xs h f =
    h ∙ ap (λ o. behind_these xs (and_then (ok_or o kind.UnknownParameter) (λ q. and_then (children_named ns place rest) (λ ps. Ok (q ∷ ps))))) f

pub children_step : (all : Result (List ℕ) FormulaKind) (ns : List TreeNode) (place : ℕ) (rest : List ℕ) (ts : List (List ℕ)) (ps xs ys : List ℕ) →
    all ≡ behind_these xs (children_below ns (place ∷ rest) ts) → children_named ns place ts ≡ Ok ps → ys ≡ xs ++ ps → all ≡ behind_these ys (children_below ns rest ts)
children_step all ns place rest ts ps xs ys h f e =
    h ∙ ap (λ o. behind_these xs (and_then o (λ qs. and_then (children_below ns rest ts) (λ rs. Ok (qs ++ rs))))) f
    ∙ some_more (children_below ns rest ts) xs ps
    ∙ ap (λ zs. behind_these zs (children_below ns rest ts)) (sym e)

pub children_fault : (all : Result (List ℕ) FormulaKind) (ns : List TreeNode) (place : ℕ) (rest : List ℕ) (ts : List (List ℕ)) (k : FormulaKind) (xs : List ℕ) →
    all ≡ behind_these xs (children_below ns (place ∷ rest) ts) → children_named ns place ts ≡ Err k → all ≡ Err k
children_fault all ns place rest ts k xs h f =
    h ∙ ap (λ o. behind_these xs (and_then o (λ qs. and_then (children_below ns rest ts) (λ rs. Ok (qs ++ rs))))) f

pub none_left : {X : Type 0} (n : ℕ) (xs : List X) → n ≡ 0 → n ≡ length xs → xs ≡ []
none_left n [] e f = refl
none_left n (x ∷ xs) e f = absurd (omega arith)
