-- One local more.
use Rattle.std.proofs.Common.{ℕ, suc, ◌+◌, add-one, ◌≡◌, ◌∙◌, ap, List, [], ◌∷◌, ◌++◌, map, Bool, true, false, if◌then◌else◌, Some, None, Result, Ok, Err, refl}
use Rattle.std.proofs.lemmas.List.{reverse-append}
use Rattle.fisca_check_calls.specs.Locals.{local, locals, sized, sizes}
use Rattle.fisca_check_calls.specs.declared.local.Local.{Local}
use Rattle.fisca_ast.specs.declared.fault.FormulaKind.{FormulaKind}
use Rattle.fisca_ast.specs.declared.fault.FormulaKind.TheVariants as kind
use Rattle.fisca_ast.specs.Tree.{Tree}
use Rattle.fisca_num.specs.Results.{and_then}
use Rattle.fisca_model.specs.declared.value_type.ValueType.{ValueType}
use Rattle.fisca_typing.specs.Formulas.{Assigned, Formula, RefusedFormula, Scope, at, behind_local, formula_from, if_small}
use Rattle.fisca_check.specs.Formulas.{Tells}
use Rattle.fisca_check.specs.declared.formula.FormulaRefusal.{FormulaRefusal as Told}
use Rattle.fisca_typing.specs.Sizes.{Size, is_small}

pub locals_more : (old new : List Local) (l : Local) → new ≡ old ++ l ∷ [] → locals new ≡ local l ∷ locals old
locals_more old new l e = ap locals e ∙ ap (map local) (reverse-append old (l ∷ []))

pub sizes_more : (old new : List Local) (l : Local) → new ≡ old ++ l ∷ [] → sizes new ≡ sized l ∷ sizes old
sizes_more old new l e = ap sizes e ∙ ap (map sized) (reverse-append old (l ∷ []))

-- within the limits

pub small_is : (s t : Size) → Some s ≡ (if is_small t then Some t else None) → is_small s ≡ true
small_is s t h = by (is_small t) refl h
  where
    by : (b : Bool) → is_small t ≡ b → Some s ≡ (if b then Some t else None) → is_small s ≡ true
    by true e k =
        let same : s ≡ t = cc in
        ap is_small same ∙ e
    by false e k = cc

pub small_same : (s t : Size) → Some s ≡ (if is_small t then Some t else None) → t ≡ s
small_same s t h = by (is_small t) h
  where
    by : (b : Bool) → Some s ≡ (if b then Some t else None) → t ≡ s
    by true k = cc
    by false k = cc

pub small_then : {X : Type 0} (s t : Size) (x : X) → Some s ≡ (if is_small t then Some t else None) → if_small t x ≡ Ok x
small_then {X} s t x h = by (is_small t) h
  where
    by : (b : Bool) → Some s ≡ (if b then Some t else None) → ◌≡◌ {A = Result X FormulaKind} (if b then Ok x else Err kind.TooDeep) (Ok x)
    by true k = refl
    by false k = cc

pub large_then : {X : Type 0} (t : Size) (x : X) → None ≡ (if is_small t then Some t else None) → if_small t x ≡ Err kind.TooDeep
large_then {X} t x h = by (is_small t) h
  where
    by : (b : Bool) → None ≡ (if b then Some t else None) → ◌≡◌ {A = Result X FormulaKind} (if b then Ok x else Err kind.TooDeep) (Err kind.TooDeep)
    by true k = cc
    by false k = refl

-- One local after another

pub formula_next : (whole : Result Formula RefusedFormula) (i : ℕ) (s u : Scope) (t : ValueType) (l : Assigned) (ls : List Assigned) (e : Tree) →
    whole ≡ formula_from i s t (l ∷ ls) e → at i (behind_local s l.name l.value) ≡ Ok u → whole ≡ formula_from (i + 1) u t ls e
formula_next whole i s u t l ls e h f = rw add-one (h ∙ ap (λ (o : Result Scope RefusedFormula). and_then o (λ v. formula_from (suc i) v t ls e)) f)

pub tells_same : {X Y : Type 0} (view : X → Y) (o p : Result Y RefusedFormula) (r : Result X Told) → Tells view o r → p ≡ o → Tells view p r
tells_same view o p (Ok x) g e = e ∙ g
tells_same view o p (Err k) g e = λ h. e ∙ g h
