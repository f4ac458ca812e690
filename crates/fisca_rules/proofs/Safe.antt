-- The formulas of an accepted rule set are never stuck.
use Rattle.std.proofs.Common.{arith, ◌≡◌, ap, subst, ℕ, List, [], ◌∷◌, map, length, refl}
use Rattle.std.specs.Prelude.{Option, Some, None, Result, Ok, Err}
use Rattle.fisca_declarations.specs.VariableForms.{Written}
use Rattle.fisca_ast.specs.Tree.{Tree}
use Rattle.fisca_typing.specs.Meaning.{formula_means}
use Rattle.fisca_model.specs.Groups.{Groups, Point}
use Rattle.fisca_typing.specs.Safe.{IsSafe}
use Rattle.fisca_typing.specs.Wellformed.{HasMembers, before_cast}
use Rattle.fisca_params.specs.Tree.{TreeNode}
use Rattle.fisca_rules.specs.Rules.{DatedFormula, Rules, all_of, assigned_of, known}
use Rattle.fisca_rules.specs.Steps.Rules.{all_formulas, dated_of, formulas_by, formulas_of, names_for, rules_of, told_in}
use Rattle.fisca_rules.specs.Safety.{IsNeverStuck, AllNeverStuck, EachNeverStuck, AreNeverStuck}
use Rattle.fisca_ast.specs.Modules.{Formula, Statement}
use Rattle.fisca_symbols.specs.KnownVariables.{value_type}
use Rattle.fisca_symbols.specs.declared.variable.Variable.{Variable}
use Rattle.fisca_typing.specs.Formulas as typing
use Rattle.fisca_typing.specs.Names.{Names}
use Rattle.fisca_model.specs.Tables.{Tables}
use Rattle.fisca_model.specs.declared.value_type.ValueType.{ValueType}
use Rattle.fisca_rules.proofs.Beside.{declared_beside}
use Rattle.fisca_rules.proofs.FoundMembers.{then_ok, members_there_in}

-- what is known of formulas that have a type
abbrev pub TypedAreSafe : Type 0
TypedAreSafe = (n : Names) (groups : Groups) (t : ValueType) (locals : List typing.Assigned) (e : Tree) (f : typing.Formula) → n.locals ≡ [] → HasMembers n.tables → typing.formula_of n t locals e ≡ Ok f → (p : Point) → IsSafe n.tables (before_cast t) (formula_means n.tables groups f p)

told_in_ok : {X : Type 0} (place : ℕ) (f : Formula) (r : Result X typing.RefusedFormula) (x : X) → told_in place f r ≡ Ok x → r ≡ Ok x
told_in_ok place f (Ok x) y h = let same : x ≡ y = cc in ap (λ z. Ok z) same
told_in_ok place f (Err r) y h = cc

dated_safe : TypedAreSafe → (c : Tables) → HasMembers c → (v : Variable) (t : ValueType) → value_type v.value_type ≡ Some t → (place : ℕ) (f : Formula) (d : DatedFormula) → dated_of c place v.entity t f ≡ Ok d → IsNeverStuck c v d
unfolding dated_of
dated_safe safe c have v t is place f d h = λ groups u of_u p.
    let formula = typing.formula_of (names_for c v.entity f) t (map assigned_of f.locals) f.returned.value in
    let one = then_ok (told_in place f formula) (λ g. Ok (record { start = f.start; formula = g })) d h in
    let typed = told_in_ok place f formula one.0 one.1 in
    let same : t ≡ u = cc in
    let made : one.0 ≡ d.formula = cc in
    subst (λ g. IsSafe c (before_cast u) (formula_means c groups g p)) made
    (subst (λ s. IsSafe c (before_cast s) (formula_means c groups one.0 p)) same
    (safe (names_for c v.entity f) groups t (map assigned_of f.locals) f.returned.value one.0 refl have typed p))

all_safe : TypedAreSafe → (c : Tables) → HasMembers c → (v : Variable) (t : ValueType) → value_type v.value_type ≡ Some t → (place : ℕ) (fs : List Formula) (ds : List DatedFormula) → all_of (dated_of c place v.entity t) fs ≡ Ok ds → AllNeverStuck c v ds
all_safe safe c have v t is place [] ds h = let same : [] ≡ ds = cc in subst (λ xs. AllNeverStuck c v xs) same tt
all_safe safe c have v t is place (f ∷ fs) ds h =
    let one = then_ok _ _ _ h in
    let rest = then_ok _ _ _ one.2 in
    let same : one.0 ∷ rest.0 ≡ ds = cc in
    subst (λ xs. AllNeverStuck c v xs) same (dated_safe safe c have v t is place f one.0 one.1, all_safe safe c have v t is place fs rest.0 rest.1)

variable_safe : TypedAreSafe → (c : Tables) → HasMembers c → (v : Variable) (w : Written) (o : Option ValueType) → value_type v.value_type ≡ o → (ds : List DatedFormula) → formulas_by c v.entity w o ≡ Ok ds → AllNeverStuck c v ds
variable_safe safe c have v w None is ds h = let same : [] ≡ ds = cc in subst (λ xs. AllNeverStuck c v xs) same tt
variable_safe safe c have v w (Some t) is ds h = all_safe safe c have v t is w.module w.formulas ds h

variables_safe : TypedAreSafe → (c : Tables) → HasMembers c → (vs : List Variable) (ws : List Written) → length vs ≡ length ws → (fs : List (List DatedFormula)) → all_formulas c vs ws ≡ Ok fs → EachNeverStuck c vs fs
unfolding formulas_of
variables_safe safe c have [] [] long fs h = let same : [] ≡ fs = cc in subst (λ xs. EachNeverStuck c [] xs) same tt
variables_safe safe c have [] (w ∷ ws) long fs h = absurd (omega (arith, long))
variables_safe safe c have (v ∷ vs) [] long fs h = absurd (omega (arith, long))
variables_safe safe c have (v ∷ vs) (w ∷ ws) long fs h =
    let one = then_ok _ _ _ h in
    let rest = then_ok _ _ _ one.2 in
    let same : one.0 ∷ rest.0 ≡ fs = cc in
    let shorter : length vs ≡ length ws = omega (arith, long) in
    subst (λ xs. EachNeverStuck c (v ∷ vs) xs) same (variable_safe safe c have v w _ refl one.0 one.1, variables_safe safe c have vs ws shorter rest.0 rest.1)

pub rules_safe : TypedAreSafe → (nodes : List TreeNode) (ms : List (List Statement)) (r : Rules) → rules_of nodes ms ≡ Ok r → AreNeverStuck r
unfolding rules_of
rules_safe safe nodes ms r h =
    let whole = then_ok _ _ _ h in
    let formulas = then_ok _ _ _ whole.2 in
    let same : record { entities = whole.0.entities; enums = whole.0.enums; variables = whole.0.variables; declarations = whole.0.declarations; parameters = nodes; formulas = formulas.0 } ≡ r = cc in
    subst AreNeverStuck same (variables_safe safe (known whole.0 nodes) (members_there_in ms whole.0 nodes whole.1) whole.0.variables whole.0.declarations (declared_beside ms whole.0 whole.1) formulas.0 formulas.1)
