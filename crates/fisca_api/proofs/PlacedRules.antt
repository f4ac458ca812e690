-- The formulas of an accepted rule set are placed, and its persons have no roles.
use Rattle.std.proofs.Common.{◌≡◌, ℕ, zero, suc, List, [], ◌∷◌, ◌++◌, map, length, Bool, true, false, refl, ap, sym, ◌∙◌, subst, arith, Option, Some, None}
use Rattle.std.proofs.lemmas.Bool.{eqb-true}
use Rattle.std.specs.Prelude.{⊤, ◌==◌, if◌then◌else◌, slice_get, Result, Ok, Err, codes}
use Rattle.fisca_ast.specs.Modules.{Assigned, Formula, Statement, choices, entities, entity, variable}
use Rattle.fisca_ast.specs.Steps.Groups.{bare}
use Rattle.fisca_ast.specs.declared.fault.FormulaKind.{FormulaKind}
use Rattle.fisca_ast.specs.declared.fault.FormulaKind.TheVariants as kind
use Rattle.fisca_attributes.specs.Steps.EntityForms.{arguments_of, entity_of, entity_of_fields, if_roles_fit, role_value}
use Rattle.fisca_attributes.specs.EntityForms.{entity_labels, same}
use Rattle.fisca_attributes.specs.Steps.Values.{fields_from, text_value, truth_value, value_of}
use Rattle.fisca_attributes.specs.Values.{Field, bad_attribute, list_value, needed, or_else, perhaps}
use Rattle.fisca_declarations.specs.VariableForms.{Written}
use Rattle.fisca_declarations.specs.declared.declared.Declared.{Declared}
use Rattle.fisca_model.specs.Tables as typing
use Rattle.fisca_model.specs.declared.value_type.ValueType.{ValueType}
use Rattle.fisca_rules.specs.FirstPass.{Placed, fault_at, names_from, placed_from, told_at}
use Rattle.fisca_rules.specs.declared.build_fault.BuildFault.{BuildFault}
use Rattle.fisca_num.specs.Results.{and_then}
use Rattle.fisca_params.specs.Tree.{TreeNode}
use Rattle.fisca_api.proofs.Placed.{IsPlacedFormula, RolesFit}
use Rattle.fisca_api.proofs.PlacedFormulas.{formula-placed}
use Rattle.fisca_rules.specs.Build.{Found, Whole, none_yet, with_variable}
use Rattle.fisca_rules.specs.Rules.{DatedFormula, Rules, all_of, assigned_of, known, known_by}
use Rattle.fisca_rules.specs.Steps.Build.{declared_in, entities_fit, enums_in, found_from, members_fit, second_pass, statement_found, tables_of, variable_in, with_entity, with_person}
use Rattle.fisca_rules.specs.Steps.Rules.{all_formulas, dated_of, formulas_by, formulas_of, names_for, rules_of, told_in, with_formulas}
use Rattle.fisca_symbols.specs.KnownEntities.{entity as known_entity}
use Rattle.fisca_symbols.specs.KnownRoles.{roles as known_roles}
use Rattle.fisca_symbols.specs.KnownVariables.{value_type}
use Rattle.fisca_symbols.specs.declared.entity.Entity.{Entity}
use Rattle.fisca_symbols.specs.declared.variable.Variable.{Variable}
use Rattle.fisca_typing.specs.Formulas as formulas

pub then_ok : {X Y E : Type 0} (r : Result X E) (f : X → Result Y E) (y : Y) → and_then r f ≡ Ok y → (x : X) × (r ≡ Ok x) × (f x ≡ Ok y)
then_ok (Ok x) f y h = (x, refl, h)
then_ok (Err e) f y h = cc

ok_same : {X E : Type 0} (x y : X) → ◌≡◌ {A = Result X E} (Ok x) (Ok y) → x ≡ y
ok_same x y e = cc

told_ok : {X : Type 0} (place line : ℕ) (r : Result X FormulaKind) (x : X) → told_at place line r ≡ Ok x → r ≡ Ok x
told_ok place line (Ok y) x h = let same : y ≡ x = cc in ap (λ z. Ok z) same
told_ok place line (Err k) x h = cc

-- Persons have no roles

abbrev HasFit : Entity → Type 0
HasFit e = e.is_person ≡ true → e.roles ≡ []

abbrev AllFit : List Entity → Type 0
AllFit [] = ⊤
AllFit (e ∷ es) = HasFit e × AllFit es

no_roles : {X : Type 0} (xs : List X) → (length xs == 0) ≡ true → xs ≡ []
no_roles [] e = refl
no_roles (x ∷ xs) e = absurd (omega (arith, eqb-true (suc (length xs)) 0 e))

by_roles : (e x : Entity) (person : Bool) → e.is_person ≡ person → (if same person (length e.roles == 0) then Ok e else bad_attribute) ≡ Ok x → HasFit x
by_roles e x true is h = by (length e.roles == 0) refl h
  where
    by : (b : Bool) → (length e.roles == 0) ≡ b → ◌≡◌ {A = Result Entity FormulaKind} (if b then Ok e else bad_attribute) (Ok x) → HasFit x
    by true none k = subst HasFit (ok_same e x k) (λ _. no_roles e.roles none)
    by false some k = cc
by_roles e x false is h = λ person. absurd (both x.is_person person (ok_is h))
  where
    both : (b : Bool) → b ≡ true → b ≡ false → ⊥
    both true p q = cc
    both false p q = cc

    kept : (b : Bool) → ◌≡◌ {A = Result Entity FormulaKind} (if b then Ok e else bad_attribute) (Ok x) → e ≡ x
    kept true k = ok_same e x k
    kept false k = cc

    ok_is : (if same false (length e.roles == 0) then Ok e else bad_attribute) ≡ Ok x → x.is_person ≡ false
    ok_is k = ap (λ (y : Entity). y.is_person) (sym (kept (same false (length e.roles == 0)) k)) ∙ is

roles_fit : (e x : Entity) → if_roles_fit e ≡ Ok x → HasFit x
roles_fit e x h = by_roles e x e.is_person refl h

fields_fit : (constant : List ℕ) (fs : List Field) (x : Entity) → entity_of_fields constant fs ≡ Ok x → HasFit x
fields_fit constant fs x h =
    let key = then_ok (needed text_value (value_of (codes "key") fs)) _ x h in
    let plural = then_ok (needed text_value (value_of (codes "plural") fs)) _ x key.2 in
    let label = then_ok (perhaps text_value (value_of (codes "label") fs)) _ x plural.2 in
    let doc = then_ok (perhaps text_value (value_of (codes "doc") fs)) _ x label.2 in
    let person = then_ok (or_else false truth_value (value_of (codes "is_person") fs)) _ x doc.2 in
    let roles = then_ok (or_else [] (list_value role_value) (value_of (codes "roles") fs)) _ x person.2 in
    roles_fit (record { constant = constant; key = key.0; plural = plural.0; label = label.0; doc = doc.0; is_person = person.0; roles = roles.0 }) x roles.2

entity_fits : (a : Assigned) (x : Entity) → entity_of a ≡ Ok x → HasFit x
entity_fits a x h = let fields = then_ok (fields_from entity_labels [] (arguments_of (bare a.value))) (entity_of_fields a.name) x h in fields_fit a.name fields.0 x fields.2

one_more : (es : List Entity) (e : Entity) → AllFit es → HasFit e → AllFit (es ++ e ∷ [])
one_more [] e all fits = (fits, tt)
one_more (x ∷ es) e all fits = (all.0, one_more es e all.1 fits)

unless_person : (b : Bool) (f g : Found) (e : Entity) → ◌≡◌ {A = Result Found FormulaKind} (if b then bad_attribute else Ok (record f { entities = f.entities ++ e ∷ [] })) (Ok g) → f.entities ++ e ∷ [] ≡ g.entities
unless_person true f g e h = cc
unless_person false f g e h = ap (λ (x : Found). x.entities) (ok_same (record f { entities = f.entities ++ e ∷ [] }) g h)

statement_fits : (c : Declared) (f g : Found) (place : ℕ) (s : Statement) → AllFit f.entities → statement_found c f place s ≡ Ok g → AllFit g.entities
statement_fits c f g place (entity a) all h =
    let told = told_ok place a.line (and_then (entity_of a) (with_entity f)) g h in
    let one = then_ok (entity_of a) (with_entity f) g told in
    subst AllFit (unless_person _ f g one.0 one.2) (one_more f.entities one.0 all (entity_fits a one.0 one.1))
statement_fits c f g place (entities a) all h =
    let one = then_ok (told_at place a.line (entities_fit c a)) (λ _. Ok f) g h in subst AllFit (ap (λ (x : Found). x.entities) (ok_same f g one.2)) all
statement_fits c f g place (choices line n ms) all h =
    let one = then_ok (told_at place line (members_fit ms)) (λ _. Ok f) g h in subst AllFit (ap (λ (x : Found). x.entities) (ok_same f g one.2)) all
statement_fits c f g place (variable line n xs) all h =
    let one = then_ok (variable_in c place line n xs) (λ v. Ok (with_variable f v)) g h in subst AllFit (ap (λ (x : Found). x.entities) (ok_same (with_variable f one.0) g one.2)) all

found_fits : (c : Declared) (ps : List Placed) (f g : Found) → AllFit f.entities → found_from c f ps ≡ Ok g → AllFit g.entities
found_fits c [] f g all h = subst AllFit (ap (λ (x : Found). x.entities) (ok_same f g h)) all
found_fits c (p ∷ ps) f g all h =
    let one = then_ok (statement_found c f p.module p.statement) (λ x. found_from c x ps) g h in found_fits c ps one.0 g (statement_fits c f one.0 p.module p.statement all one.1) one.2

if_person : (b : Bool) (f g : Found) → ◌≡◌ {A = Result Found BuildFault} (if b then Ok f else fault_at 0 1 kind.BadAttribute) (Ok g) → f ≡ g
if_person true f g h = ok_same f g h
if_person false f g h = cc

whole_fits : (ms : List (List Statement)) (w : Whole) → tables_of ms ≡ Ok w → AllFit w.entities
unfolding tables_of
whole_fits ms w h =
    let ps = placed_from 0 ms in
    let names = then_ok (names_from [] ps) (λ _. second_pass ps) w h in
    let person = then_ok (and_then (found_from (declared_in ps) none_yet ps) with_person) (λ f. Ok (record { entities = f.entities; enums = enums_in ps; variables = f.variables; declarations = f.declarations })) w names.2 in
    let found = then_ok (found_from (declared_in ps) none_yet ps) with_person person.0 person.1 in
    let kept : found.0 ≡ person.0 = if_person _ found.0 person.0 found.2 in
    let same : person.0.entities ≡ w.entities = ap (λ (x : Whole). x.entities) (ok_same (record { entities = person.0.entities; enums = enums_in ps; variables = person.0.variables; declarations = person.0.declarations }) w person.2) in
    subst AllFit (ap (λ (x : Found). x.entities) kept ∙ same) (found_fits (declared_in ps) ps none_yet found.0 tt found.1)

some_same : {X : Type 0} (x y : X) → Some x ≡ Some y → x ≡ y
some_same x y e = cc

fit_at : (es : List Entity) → AllFit es → (i : ℕ) (x : typing.Entity) → slice_get (map known_entity es) i ≡ Some x → x.is_person ≡ true → x.roles ≡ []
fit_at [] all i x is person = cc
fit_at (e ∷ es) all zero x is person =
    let same : known_entity e ≡ x = some_same (known_entity e) x is in
    let none : e.roles ≡ [] = all.0 (ap (λ (y : typing.Entity). y.is_person) same ∙ person) in
    ap (λ (y : typing.Entity). y.roles) (sym same) ∙ ap known_roles none
fit_at (e ∷ es) all (suc i) x is person = fit_at es all.1 i x is person

-- Formulas are placed

-- each formula of a variable
abbrev pub AllPlaced : typing.Tables → ℕ → List DatedFormula → Type 0
AllPlaced c own [] = ⊤
AllPlaced c own (d ∷ ds) = IsPlacedFormula c own d.formula × AllPlaced c own ds

abbrev pub EachPlaced : typing.Tables → List Variable → List (List DatedFormula) → Type 0
EachPlaced c vs [] = ⊤
EachPlaced c [] (ds ∷ more) = ⊤
EachPlaced c (v ∷ vs) (ds ∷ more) = AllPlaced c v.entity ds × EachPlaced c vs more

told_in_ok : {X : Type 0} (place : ℕ) (f : Formula) (r : Result X formulas.RefusedFormula) (x : X) → told_in place f r ≡ Ok x → r ≡ Ok x
told_in_ok place f (Ok y) x h = let same : y ≡ x = cc in ap (λ z. Ok z) same
told_in_ok place f (Err r) x h = cc

module _ (c : typing.Tables) (fit : RolesFit c) where
  dated_placed : (own : ℕ) (t : ValueType) (place : ℕ) (f : Formula) (d : DatedFormula) → dated_of c place own t f ≡ Ok d → IsPlacedFormula c own d.formula
  unfolding dated_of
  dated_placed own t place f d h =
      let formula = formulas.formula_of (names_for c own f) t (map assigned_of f.locals) f.returned.value in
      let one = then_ok (told_in place f formula) (λ g. Ok (record { start = f.start; formula = g })) d h in
      let typed = told_in_ok place f formula one.0 one.1 in
      let made : one.0 ≡ d.formula = ap (λ (x : DatedFormula). x.formula) (ok_same (record { start = f.start; formula = one.0 }) d one.2) in
      subst (λ g. IsPlacedFormula c own g) made (formula-placed (names_for c own f) t (map assigned_of f.locals) f.returned.value one.0 fit refl typed)

  all_placed : (own : ℕ) (t : ValueType) (place : ℕ) (fs : List Formula) (ds : List DatedFormula) → all_of (dated_of c place own t) fs ≡ Ok ds → AllPlaced c own ds
  all_placed own t place [] ds h = subst (AllPlaced c own) (ok_same [] ds h) tt
  all_placed own t place (f ∷ fs) ds h =
      let one = then_ok (dated_of c place own t f) (λ y. and_then (all_of (dated_of c place own t) fs) (λ ys. Ok (y ∷ ys))) ds h in
      let rest = then_ok (all_of (dated_of c place own t) fs) (λ ys. Ok (one.0 ∷ ys)) ds one.2 in
      subst (AllPlaced c own) (ok_same (one.0 ∷ rest.0) ds rest.2) (dated_placed own t place f one.0 one.1, all_placed own t place fs rest.0 rest.1)

  variable_placed : (own : ℕ) (w : Written) (o : Option ValueType) (ds : List DatedFormula) → formulas_by c own w o ≡ Ok ds → AllPlaced c own ds
  variable_placed own w None ds h = subst (AllPlaced c own) (ok_same [] ds h) tt
  variable_placed own w (Some t) ds h = all_placed own t w.module w.formulas ds h

  variables_placed : (vs : List Variable) (ws : List Written) (fs : List (List DatedFormula)) → all_formulas c vs ws ≡ Ok fs → EachPlaced c vs fs
  unfolding formulas_of
  variables_placed [] ws fs h = subst (EachPlaced c []) (ok_same [] fs h) tt
  variables_placed (v ∷ vs) [] fs h = subst (EachPlaced c (v ∷ vs)) (ok_same [] fs h) tt
  variables_placed (v ∷ vs) (w ∷ ws) fs h =
      let one = then_ok (formulas_by c v.entity w (value_type v.value_type)) (λ y. and_then (all_formulas c vs ws) (λ ys. Ok (y ∷ ys))) fs h in
      let rest = then_ok (all_formulas c vs ws) (λ ys. Ok (one.0 ∷ ys)) fs one.2 in
      subst (EachPlaced c (v ∷ vs)) (ok_same (one.0 ∷ rest.0) fs rest.2) (variable_placed v.entity w (value_type v.value_type) one.0 one.1, variables_placed vs ws rest.0 rest.1)

pub rules_placed : (nodes : List TreeNode) (ms : List (List Statement)) (r : Rules) → rules_of nodes ms ≡ Ok r → EachPlaced (known_by r) r.variables r.formulas
unfolding rules_of
rules_placed nodes ms r h =
    let whole = then_ok (tables_of ms) (with_formulas nodes) r h in
    let w = whole.0 in
    let c = known w nodes in
    let made = then_ok (all_formulas c w.variables w.declarations) (λ fs. Ok (record { entities = w.entities; enums = w.enums; variables = w.variables; declarations = w.declarations; parameters = nodes; formulas = fs })) r whole.2 in
    let same : record { entities = w.entities; enums = w.enums; variables = w.variables; declarations = w.declarations; parameters = nodes; formulas = made.0 } ≡ r = ok_same _ r made.2 in
    let fit : RolesFit c = λ i x is person. fit_at w.entities (whole_fits ms w whole.1) i x is person in
    subst (λ (x : Rules). EachPlaced (known_by x) x.variables x.formulas) same (variables_placed c fit w.variables w.declarations made.0 made.1)
