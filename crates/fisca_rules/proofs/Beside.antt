-- Each variable that modules declare has its declaration beside it.
use Rattle.std.proofs.Common.{arith, ◌≡◌, ap, subst, ℕ, ◌+◌, List, [], ◌∷◌, ◌++◌, length, refl}
use Rattle.std.specs.Prelude.{Result, Ok}
use Rattle.std.proofs.lemmas.List.{length-append}
use Rattle.fisca_ast.specs.Modules.{Item, Statement, entity, entities, choices, variable}
use Rattle.fisca_declarations.specs.VariableForms.{Written}
use Rattle.fisca_declarations.specs.declared.declared.Declared.{Declared}
use Rattle.fisca_rules.specs.FirstPass.{Placed, placed_from, names_from}
use Rattle.fisca_rules.specs.Build.{Found, Whole, none_yet, with_variable}
use Rattle.fisca_rules.specs.Steps.Build.{declared_in, enums_in, found_from, second_pass, statement_found, tables_of, variable_in, with_person}
use Rattle.fisca_symbols.specs.declared.variable.Variable.{Variable}
use Rattle.fisca_rules.proofs.FoundMembers.{entity_keeps, kept, person_keeps, same_found, then_ok, told_ok}

abbrev AreBeside : List Variable × List Written → Type 0
AreBeside p = length p.0 ≡ length p.1

one_more : (f : Found) (p : Variable × Written) → AreBeside (kept f) → AreBeside (kept (with_variable f p))
one_more f p h = omega (arith, h, length-append f.variables (p.0 ∷ []), length-append f.declarations (p.1 ∷ []))

beside_step : (c : Declared) (ps : List Placed) (f g : Found) (place : ℕ) (s : Statement) → ((x : Found) → found_from c x ps ≡ Ok g → AreBeside (kept x) → AreBeside (kept g)) →
    AreBeside (kept f) → (x : Found) × (statement_found c f place s ≡ Ok x) × (found_from c x ps ≡ Ok g) → AreBeside (kept g)
beside_step c ps f g place (entity a) rest k t = rest t.0 t.2 (subst AreBeside (entity_keeps f t.0 _ (told_ok place a.line _ t.0 t.1)) k)
beside_step c ps f g place (entities a) rest k t = rest t.0 t.2 (subst AreBeside (same_found _ f t.0 t.1) k)
beside_step c ps f g place (choices line n ms) rest k t = rest t.0 t.2 (subst AreBeside (same_found _ f t.0 t.1) k)
beside_step c ps f g place (variable line n xs) rest k t =
    let one = then_ok (variable_in c place line n xs) (λ v. Ok (with_variable f v)) t.0 t.1 in
    let same : with_variable f one.0 ≡ t.0 = cc in
    rest t.0 t.2 (subst (λ (x : Found). AreBeside (kept x)) same (one_more f one.0 k))

all_beside : (c : Declared) (ps : List Placed) (f g : Found) → found_from c f ps ≡ Ok g → AreBeside (kept f) → AreBeside (kept g)
all_beside c [] f g h k = let same : f ≡ g = cc in subst (λ (x : Found). AreBeside (kept x)) same k
all_beside c (p ∷ ps) f g h k = beside_step c ps f g p.module p.statement (λ x e. all_beside c ps x g e) k (then_ok _ _ _ h)

pub declared_beside : (ms : List (List Statement)) (w : Whole) → tables_of ms ≡ Ok w → length w.variables ≡ length w.declarations
unfolding tables_of
declared_beside ms w h =
    let ps = placed_from 0 ms in
    let names = then_ok (names_from [] ps) (λ _. second_pass ps) w h in
    let person = then_ok _ (λ f. Ok (record { entities = f.entities; enums = enums_in ps; variables = f.variables; declarations = f.declarations })) w names.2 in
    let found = then_ok (found_from (declared_in ps) none_yet ps) with_person person.0 person.1 in
    let same_person : found.0 ≡ person.0 = person_keeps _ found.0 person.0 found.2 in
    let same : record { entities = person.0.entities; enums = enums_in ps; variables = person.0.variables; declarations = person.0.declarations } ≡ w = cc in
    subst (λ (x : Whole). length x.variables ≡ length x.declarations) same
    (subst (λ (x : Found). AreBeside (kept x)) same_person (all_beside (declared_in ps) ps none_yet found.0 found.1 refl))
