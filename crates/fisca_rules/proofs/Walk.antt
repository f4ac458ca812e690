-- The walk over the statements, one after another.
use Rattle.std.proofs.Common.{◌≡◌, ◌∙◌, sym, ap, refl, arith, ℕ, length, List, [], ◌∷◌, ◌++◌, Option, None, Result, Ok, Err}
use Rattle.fisca_rules.specs.Steps.Clashes.{second_name}
use Rattle.fisca_rules.specs.FirstPass.{Placed, named_once, names_from}
use Rattle.fisca_rules.specs.Outcomes.{Tells}
use Rattle.fisca_rules.specs.Seen.{TellsOne}
use Rattle.fisca_rules.specs.declared.build_fault.BuildFault.{BuildFault}
use Rattle.fisca_rules.specs.declared.seen.Seen.{Seen}
use Rattle.fisca_num.specs.Results.{and_then}
use Rattle.fisca_ast.specs.Modules.{Statement}
use Rattle.fisca_symbols.specs.declared.entity.Entity.{Entity}
use Rattle.fisca_symbols.specs.declared.variable.Variable.{Variable}
use Rattle.fisca_declarations.specs.declared.declared.Declared.{Declared}
use Rattle.fisca_rules.specs.declared.found.Found.{Found as Held}
use Rattle.fisca_rules.specs.Build.{Found, Whole as Tables, none_yet}
use Rattle.fisca_rules.specs.Steps.Build.{declared_by, declared_in, enums_in, found_from, statement_found, with_person}
use Rattle.fisca_rules.specs.FoundViews.{found}
use Rattle.fisca_rules.specs.Walk.{Reached}

abbrev Names : Type 0
Names = Result (Unit {0}) BuildFault

abbrev Whole : Type 0
Whole = Result Found BuildFault

abbrev placed : ℕ → Statement → Placed
placed place s = record { «module» = place; statement = s }

joined : (r : Whole) (f g h : Found → Whole) → ((x : Found) → f x ≡ and_then (g x) h) → and_then r f ≡ and_then (and_then r g) h
joined (Ok x) f g h e = e x
joined (Err k) f g h e = refl

-- the next statement decides, or what comes behind it
next_statement : (earlier : List Statement) (place : ℕ) (s : Statement) (left : List Placed) (o : Option ℕ) → o ≡ second_name earlier s
    → names_from earlier (placed place s ∷ left) ≡ and_then (named_once place o) (λ _. names_from (earlier ++ s ∷ []) left)
next_statement earlier place s left o same = ap (λ p. and_then (named_once place p) (λ _. names_from (earlier ++ s ∷ []) left)) (sym same)

-- a statement whose names are new
pub one_on : (c : Declared) (old new : Seen) (so_far behind : Result Held BuildFault) (names : Names) (whole : Whole) (place : ℕ) (s : Statement) (left : List Placed)
    → Reached c old so_far names whole (placed place s ∷ left) → TellsOne old new s None
    → ((o : Whole) → Tells found o so_far → Tells found (and_then o (λ f. statement_found c f place s)) behind) → Reached c new behind names whole left
one_on c old new so_far behind names whole place s left r one step = record {
  earlier = r.earlier ++ s ∷ [];
  held = one.noted refl r.earlier r.held;
  named = r.named ∙ next_statement r.earlier place s left None (one.told r.earlier r.held);
  outcome = and_then r.outcome (λ f. statement_found c f place s);
  told = step r.outcome r.told;
  found_behind = r.found_behind ∙ joined r.outcome (λ f. found_from c f (placed place s ∷ left)) (λ f. statement_found c f place s) (λ g. found_from c g left) (λ f. refl);
}

-- behind the last one
pub none_left : {X : Type 0} (n : ℕ) (xs : List X) → n ≡ 0 → n ≡ length xs → xs ≡ []
none_left n [] e f = refl
none_left n (x ∷ xs) e f = absurd (omega arith)

-- The tables behind both passes

with_tables : {X Y : Type 0} (names : Names) (outcome : Result X BuildFault) (next : X → Result Y BuildFault) → and_then names (λ _. and_then outcome next) ≡ and_then (and_then names (λ _. outcome)) next
with_tables (Ok u) outcome next = refl
with_tables (Err f) outcome next = refl

-- what both passes find among what is declared
abbrev pub both : Declared → List Placed → Whole
both c ps = and_then (names_from [] ps) (λ _. and_then (found_from c none_yet ps) with_person)

abbrev tables : List Placed → Found → Result Tables BuildFault
tables ps f = Ok (record { entities = f.entities; enums = enums_in ps; variables = f.variables; declarations = f.declarations })

pub declared_same : (c : Declared) (ps : List Placed) (outcome : Whole) → c ≡ declared_in ps → both c ps ≡ outcome → declared_by ps ≡ and_then outcome (tables ps)
declared_same c ps outcome d e =
    with_tables (names_from [] ps) (and_then (found_from (declared_in ps) none_yet ps) with_person) (tables ps)
    ∙ ap (λ k. and_then (both k ps) (tables ps)) (sym d) ∙ ap (λ o. and_then o (tables ps)) e

-- what both passes find, kept under other names
pub declared_whole : (c : Declared) (ps : List Placed) (f : Found) (es : List Entity) (vs : List Variable) → c ≡ declared_in ps → both c ps ≡ Ok f → es ≡ f.entities → vs ≡ f.variables → declared_by ps ≡ Ok (record { entities = es; enums = c.enums; variables = vs; declarations = f.declarations })
declared_whole c ps f es vs d e p q = declared_same c ps (Ok f) d e ∙ (λ i. Ok (record { entities = sym p i; enums = (sym d i).enums; variables = sym q i; declarations = f.declarations }))
