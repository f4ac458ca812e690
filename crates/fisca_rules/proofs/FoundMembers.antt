-- In an accepted rule set the Enum of each variable has a member.
use Rattle.std.proofs.Common.{◌≡◌, ◌∙◌, sym, ap, subst, arith, ℕ, zero, suc, ◌+◌, ◌<◌, List, [], ◌∷◌, ◌++◌, map, length, Bool, true, false, refl}
use Rattle.std.specs.Prelude.{⊤, ◌||◌, ◌==◌, nat_lt, if◌then◌else◌, slice_get, Option, Some, None, Result, Ok, Err, codes}
use Rattle.std.specs.List.{position_from}
use Rattle.fisca_attributes.specs.Steps.AttributeForms.{value_at, type_value, period_value}
use Rattle.fisca_attributes.specs.Values.{bad_attribute, needed}
use Rattle.fisca_attributes.specs.Steps.Values.{name_value, or_bad}
use Rattle.fisca_attributes.specs.declared.attributes.TypeName.{TypeName}
use Rattle.fisca_attributes.specs.declared.attributes.TypeName.TheVariants as named
use Rattle.fisca_rules.specs.Build.{Found, Whole, items_fit, items_said, with_variable, none_yet}
use Rattle.fisca_rules.specs.Steps.Build.{members_of, members_fit, enums_in, declared_in, found_from, statement_found, second_pass, variable_in, with_entity, with_person, tables_of}
use Rattle.fisca_declarations.specs.VariableForms.{Written, place_of_enum}
use Rattle.fisca_declarations.specs.Steps.VariableForms.{or_unknown, enum_value, declared_type, default_or_none, said, type_lines, variable_by, declaration_by, variable_of}
use Rattle.fisca_declarations.specs.declared.attributes.Attributes.{Attributes}
use Rattle.fisca_declarations.specs.declared.types.TypeLines.{TypeLines}
use Rattle.fisca_declarations.specs.declared.declared.Declared.{Declared}
use Rattle.fisca_ast.specs.Tree.{Tree}
use Rattle.fisca_model.specs.Tables.{type_in}
use Rattle.fisca_typing.specs.Wellformed.{HasMembers}
use Rattle.fisca_rules.specs.declared.build_fault.BuildFault.{BuildFault}
use Rattle.fisca_rules.specs.FirstPass.{Placed, placed_from, names_from, fault_at, told_at}
use Rattle.fisca_num.specs.Results.{and_then}
use Rattle.fisca_params.specs.Tree.{TreeNode}
use Rattle.fisca_rules.specs.Rules.{known}
use Rattle.std.proofs.lemmas.Bool.{lt-ltb}
use Rattle.fisca_ast.specs.Modules.{Item, Statement, entity, entities, choices, variable}
use Rattle.fisca_symbols.specs.KnownEnums.{choices as known_choices}
use Rattle.fisca_symbols.specs.KnownVariables.{value_type, variable as known_variable}
use Rattle.fisca_symbols.specs.declared.choices.Choices.{Choices}
use Rattle.fisca_symbols.specs.declared.entity.Entity.{Entity}
use Rattle.fisca_symbols.specs.declared.variable.Variable.{Variable}
use Rattle.fisca_symbols.specs.declared.variable.DeclaredType.{DeclaredType}
use Rattle.fisca_symbols.specs.declared.variable.DeclaredType.TheVariants as type
use Rattle.fisca_symbols.specs.declared.variable.DefaultValue.{DefaultValue}
use Rattle.fisca_time.specs.declared.unit.Unit.{Unit as TimeUnit}
use Rattle.fisca_ast.specs.declared.fault.FormulaKind.{FormulaKind}
use Rattle.fisca_ast.specs.declared.fault.FormulaKind.TheVariants as kind
use Rattle.fisca_model.specs.Tables.{members_of as members_of_known}
use Rattle.fisca_model.specs.declared.value_type.ValueType.TheVariants as vt

-- One step after another

pub then_ok : {X Y E : Type 0} (r : Result X E) (f : X → Result Y E) (y : Y) → and_then r f ≡ Ok y → (x : X) × (r ≡ Ok x) × (f x ≡ Ok y)
then_ok (Ok x) f y h = (x, refl, h)
then_ok (Err e) f y h = cc

same_ok : {X E F : Type 0} {x y : X} → ◌≡◌ {A = Result X E} (Ok x) (Ok y) → ◌≡◌ {A = Result X F} (Ok x) (Ok y)
same_ok {x = x} {y = y} h = let same : x ≡ y = cc in ap (λ z. Ok z) same

pub told_ok : {X : Type 0} (place line : ℕ) (r : Result X FormulaKind) (x : X) → told_at place line r ≡ Ok x → r ≡ Ok x
told_ok place line (Ok x) y h = same_ok h
told_ok place line (Err k) y h = cc

-- Members of Enums

abbrev AllHave : List Choices → Type 0
AllHave [] = ⊤
AllHave (e ∷ es) = (0 < length e.members) × AllHave es

members_there : (xs : List (List ℕ × List ℕ)) → ◌≡◌ {A = Result (Unit {0}) FormulaKind} (if (length xs == 0) || nat_lt 1000 (length xs) then bad_attribute else Ok tt) (Ok tt) → 0 < length xs
members_there [] h = cc
members_there (x ∷ xs) h = omega arith

enum_step : (c : Declared) (ps : List Placed) (f g : Found) (place : ℕ) (s : Statement) →
    ((x : Found) → found_from c x ps ≡ Ok g → AllHave (enums_in ps)) → (x : Found) × (statement_found c f place s ≡ Ok x) × (found_from c x ps ≡ Ok g) →
    AllHave (enums_in (record { «module» = place; statement = s } ∷ ps))
enum_step c ps f g place (entity a) rest t = rest t.0 t.2
enum_step c ps f g place (entities a) rest t = rest t.0 t.2
enum_step c ps f g place (choices line n ms) rest t =
    let one = then_ok (told_at place line (members_fit ms)) (λ _. Ok f) t.0 t.1 in
    (members_there (members_of ms) (told_ok place line (members_fit ms) one.0 one.1), rest t.0 t.2)
enum_step c ps f g place (variable line n xs) rest t = rest t.0 t.2

-- each Enum of statements that were found has a member
enums_there : (c : Declared) (ps : List Placed) (f g : Found) → found_from c f ps ≡ Ok g → AllHave (enums_in ps)
enums_there c [] f g h = tt
enums_there c (p ∷ ps) f g h = enum_step c ps f g p.module p.statement (λ x k. enums_there c ps x g k) (then_ok _ _ _ h)

-- The Enum of each variable is one of those declared

abbrev IsInside : ℕ → DeclaredType → Type 0
IsInside n type.Float = ⊤
IsInside n type.Int = ⊤
IsInside n type.Bool = ⊤
IsInside n type.Date = ⊤
IsInside n type.Text = ⊤
IsInside n (type.Enum e) = e < n

position_step : (b : Bool) (i e n : ℕ) (rest : Option ℕ) → (if b then Some i else rest) ≡ Some e → (rest ≡ Some e → e < (i + 1) + n) → e < i + suc n
position_step true i e n rest h k = let same : i ≡ e = cc in omega (arith, same)
position_step false i e n rest h k = let later = k h in omega (arith, later)

pub position_inside : {X : Type 0} (test : X → Bool) (i : ℕ) (xs : List X) (e : ℕ) → position_from test i xs ≡ Some e → e < i + length xs
position_inside test i [] e h = cc
position_inside test i (x ∷ xs) e h = position_step (test x) i e (length xs) (position_from test (i + 1) xs) h (λ k. position_inside test (i + 1) xs e k)

or_unknown_ok : (o : Option ℕ) (n : ℕ) → or_unknown o ≡ Ok n → o ≡ Some n
or_unknown_ok (Some m) n h = let same : m ≡ n = cc in ap (λ k. Some k) same
or_unknown_ok None n h = cc

enum_inside : (c : Declared) (e : Option Tree) (n : ℕ) → needed (enum_value c) e ≡ Ok n → n < length c.enums
enum_inside c None n h = cc
enum_inside c (Some tree) n h =
    let name = then_ok (name_value tree) (λ t. or_unknown (place_of_enum c t)) n h in
    let inside = position_inside _ 0 c.enums n (or_unknown_ok (place_of_enum c name.0) n name.2) in
    omega (arith, inside)

declared_inside : (c : Declared) (t : TypeName) (e : Option Tree) (d : DeclaredType) → declared_type t (needed (enum_value c) e) ≡ Ok d → IsInside (length c.enums) d
declared_inside c named.Float e d h = let same : type.Float ≡ d = cc in subst (IsInside (length c.enums)) same tt
declared_inside c named.Int e d h = let same : type.Int ≡ d = cc in subst (IsInside (length c.enums)) same tt
declared_inside c named.Bool e d h = let same : type.Bool ≡ d = cc in subst (IsInside (length c.enums)) same tt
declared_inside c named.Date e d h = let same : type.Date ≡ d = cc in subst (IsInside (length c.enums)) same tt
declared_inside c named.Text e d h = let same : type.Text ≡ d = cc in subst (IsInside (length c.enums)) same tt
declared_inside c named.Enum e d h =
    let one = then_ok (needed (enum_value c) e) (λ n. Ok (type.Enum n)) d h in
    let same : type.Enum one.0 ≡ d = cc in
    subst (IsInside (length c.enums)) same (enum_inside c e one.0 one.1)

value_ok : (make : DefaultValue → Variable) (d : DeclaredType) (w : Variable) (r : Result DefaultValue FormulaKind) → ((v : DefaultValue) → (make v).value_type ≡ d) →
    and_then r (λ v. Ok (make v)) ≡ Ok w → d ≡ w.value_type
value_ok make d w (Ok v) keeps h = let same : make v ≡ w = cc in sym (keeps v) ∙ ap (λ (x : Variable). x.value_type) same
value_ok make d w (Err k) keeps h = cc

declared_ok : (n : ℕ) (make : DeclaredType → DefaultValue → Variable) (w : Variable) (r : Result DeclaredType FormulaKind) (value : Result DefaultValue FormulaKind) →
    ((d : DeclaredType) (v : DefaultValue) → (make d v).value_type ≡ d) → ((d : DeclaredType) → r ≡ Ok d → IsInside n d) →
    and_then r (λ d. and_then value (λ v. Ok (make d v))) ≡ Ok w → IsInside n w.value_type
declared_ok n make w (Ok d) value keeps inside h = subst (IsInside n) (value_ok (make d) d w value (keeps d) h) (inside d refl)
declared_ok n make w (Err k) value keeps inside h = cc

parts_inside : (c : Declared) (w : Variable) (make : ℕ → TimeUnit → DeclaredType → DefaultValue → Variable) →
    ((place : ℕ) (period : TimeUnit) (d : DeclaredType) (v : DefaultValue) → (make place period d v).value_type ≡ d) →
    (types : Result TypeName FormulaKind) (places : Result ℕ FormulaKind) (periods : Result TimeUnit FormulaKind) (values : Option Tree) (default : Option DefaultValue) →
    and_then types (λ t. and_then places (λ place. and_then periods (λ period. and_then (declared_type t (needed (enum_value c) values)) (λ d. and_then (default_or_none t default) (λ v.
    Ok (make place period d v)))))) ≡ Ok w → IsInside (length c.enums) w.value_type
parts_inside c w make keeps (Ok t) (Ok place) (Ok period) values default h =
    declared_ok (length c.enums) (make place period) w (declared_type t (needed (enum_value c) values)) (default_or_none t default) (keeps place period) (λ d e. declared_inside c t values d e) h
parts_inside c w make keeps (Ok t) (Ok place) (Err k) values default h = cc
parts_inside c w make keeps (Ok t) (Err k) periods values default h = cc
parts_inside c w make keeps (Err k) places periods values default h = cc

-- a variable of these parts
abbrev pub made : List ℕ → Attributes → ℕ → TimeUnit → DeclaredType → DefaultValue → Variable
made n s place period d v = record { name = n; entity = place; value_type = d; definition_period = period; default_value = v; end = s.end; set_input = s.set_input }

variable_inside : (c : Declared) (place line : ℕ) (n : List ℕ) (s : Attributes) (xs : List Item) (v : Variable × Written) → variable_of place line n (type_lines c xs) s xs ≡ Ok v → IsInside (length c.enums) v.0.value_type
variable_inside c place line n s xs v h =
    let one = then_ok (variable_by n (type_lines c xs) s) (λ w. Ok (w, declaration_by place line s xs)) v h in
    let same : (one.0, declaration_by place line s xs) ≡ v = cc in
    subst (λ (p : Variable × Written). IsInside (length c.enums) p.0.value_type) same
    (parts_inside c one.0 (made n s) (λ p u d w. refl) (needed type_value (value_at (codes "value_type") xs)) (or_bad s.entity) (needed period_value (value_at (codes "definition_period") xs))
    (value_at (codes "possible_values") xs) s.default_value one.1)

-- a variable that was found is made of what its lines say
pub variable_made : (c : Declared) (place line : ℕ) (n : List ℕ) (xs : List Item) (v : Variable × Written) → variable_in c place line n xs ≡ Ok v
    → variable_of place line n (type_lines c xs) (said c (type_lines c xs) xs) xs ≡ Ok v
variable_made c place line n xs v h =
    let k = type_lines c xs in
    let read = then_ok (items_said c place xs) (λ p. told_at place line (variable_of place line n p.0 p.1 xs)) v h in
    let fits = then_ok (items_fit c place k [] xs) (λ _. Ok (k, said c k xs)) read.0 read.1 in
    let same : (k, said c k xs) ≡ read.0 = cc in
    told_ok place line _ v (subst (λ (p : TypeLines × Attributes). told_at place line (variable_of place line n p.0 p.1 xs) ≡ Ok v) (sym same) read.2)

abbrev AllInside : ℕ → List Variable → Type 0
AllInside n [] = ⊤
AllInside n (v ∷ vs) = IsInside n v.value_type × AllInside n vs

inside_and : (n : ℕ) (vs : List Variable) (v : Variable) → AllInside n vs → IsInside n v.value_type → AllInside n (vs ++ v ∷ [])
inside_and n [] v h k = (k, tt)
inside_and n (w ∷ vs) v h k = (h.0, inside_and n vs v h.1 k)

-- the variables and their declarations
abbrev pub kept : Found → List Variable × List Written
kept f = (f.variables, f.declarations)

pub unless_keeps : (b : Bool) (f x : Found) (es : List Entity) → ◌≡◌ {A = Result Found FormulaKind} (if b then bad_attribute else Ok (record f { entities = es })) (Ok x) → kept f ≡ kept x
unless_keeps true f x es q = cc
unless_keeps false f x es q = let same : record f { entities = es } ≡ x = cc in ap kept same

pub entity_keeps : (f x : Found) (o : Result Entity FormulaKind) → and_then o (with_entity f) ≡ Ok x → kept f ≡ kept x
entity_keeps f x o q = let one = then_ok o (with_entity f) x q in unless_keeps _ f x (f.entities ++ one.0 ∷ []) one.2

pub same_found : {X : Type 0} (o : Result X BuildFault) (f x : Found) → and_then o (λ _. Ok f) ≡ Ok x → kept f ≡ kept x
same_found o f x q = let one = then_ok o (λ _. Ok f) x q in let same : f ≡ x = cc in ap kept same

variable_step : (c : Declared) (ps : List Placed) (f g : Found) (place : ℕ) (s : Statement) →
    ((x : Found) → found_from c x ps ≡ Ok g → AllInside (length c.enums) x.variables → AllInside (length c.enums) g.variables) →
    AllInside (length c.enums) f.variables → (x : Found) × (statement_found c f place s ≡ Ok x) × (found_from c x ps ≡ Ok g) → AllInside (length c.enums) g.variables
variable_step c ps f g place (entity a) rest k t = rest t.0 t.2 (subst (λ (p : List Variable × List Written). AllInside (length c.enums) p.0) (entity_keeps f t.0 _ (told_ok place a.line _ t.0 t.1)) k)
variable_step c ps f g place (entities a) rest k t = rest t.0 t.2 (subst (λ (p : List Variable × List Written). AllInside (length c.enums) p.0) (same_found _ f t.0 t.1) k)
variable_step c ps f g place (choices line n ms) rest k t = rest t.0 t.2 (subst (λ (p : List Variable × List Written). AllInside (length c.enums) p.0) (same_found _ f t.0 t.1) k)
variable_step c ps f g place (variable line n xs) rest k t =
    let one = then_ok (variable_in c place line n xs) (λ v. Ok (with_variable f v)) t.0 t.1 in
    let inside = variable_inside c place line n (said c (type_lines c xs) xs) xs one.0 (variable_made c place line n xs one.0 one.1) in
    let same : with_variable f one.0 ≡ t.0 = cc in
    rest t.0 t.2 (subst (λ (x : Found). AllInside (length c.enums) x.variables) same (inside_and (length c.enums) f.variables one.0.0 k inside))

variables_inside : (c : Declared) (ps : List Placed) (f g : Found) → found_from c f ps ≡ Ok g → AllInside (length c.enums) f.variables → AllInside (length c.enums) g.variables
variables_inside c [] f g h k = let same : f ≡ g = cc in subst (λ (x : Found). AllInside (length c.enums) x.variables) same k
variables_inside c (p ∷ ps) f g h k = variable_step c ps f g p.module p.statement (λ x e. variables_inside c ps x g e) k (then_ok _ _ _ h)

-- What formulas may name

members_known : (ms : List (List ℕ × List ℕ)) → 0 < length ms → nat_lt 0 (length (map (λ m. m.0) ms)) ≡ true
members_known [] h = absurd (omega (arith, h))
members_known (m ∷ ms) h = lt-ltb 0 (length (map (λ m. m.0) (m ∷ ms))) (omega arith)

enum_at : (es : List Choices) (e : ℕ) → e < length es → AllHave es → nat_lt 0 (length (members_of_known (slice_get (map known_choices es) e))) ≡ true
enum_at [] e h k = absurd (omega (arith, h))
enum_at (x ∷ es) zero h k = members_known x.members k.0
enum_at (x ∷ es) (suc e) h k = enum_at es e (omega (arith, h)) k.1

typed_inside : (n : ℕ) (d : DeclaredType) (e : ℕ) → IsInside n d → value_type d ≡ Some (vt.Enum e) → e < n
typed_inside n type.Float e k h = cc
typed_inside n type.Int e k h = cc
typed_inside n type.Bool e k h = cc
typed_inside n type.Date e k h = cc
typed_inside n type.Text e k h = cc
typed_inside n (type.Enum i) e k h = let same : i ≡ e = cc in subst (λ x. x < n) same k

variable_at : (n : ℕ) (vs : List Variable) (v e : ℕ) → AllInside n vs → type_in (slice_get (map known_variable vs) v) ≡ Some (vt.Enum e) → e < n
variable_at n [] v e k h = cc
variable_at n (w ∷ vs) zero e k h = typed_inside n w.value_type e k.0 h
variable_at n (w ∷ vs) (suc v) e k h = variable_at n vs v e k.1 h

pub person_keeps : (b : Bool) (f g : Found) → ◌≡◌ {A = Result Found BuildFault} (if b then Ok f else fault_at 0 1 kind.BadAttribute) (Ok g) → f ≡ g
person_keeps true f g q = cc
person_keeps false f g q = cc

-- in what modules declare
pub members_there_in : (ms : List (List Statement)) (w : Whole) (nodes : List TreeNode) → tables_of ms ≡ Ok w → HasMembers (known w nodes)
unfolding tables_of
members_there_in ms w nodes h = λ v e t.
    let ps = placed_from 0 ms in
    let names = then_ok (names_from [] ps) (λ _. second_pass ps) w h in
    let person = then_ok (and_then (found_from (declared_in ps) none_yet ps) with_person) (λ f. Ok (record { entities = f.entities; enums = enums_in ps; variables = f.variables; declarations = f.declarations })) w names.2 in
    let found = then_ok (found_from (declared_in ps) none_yet ps) with_person person.0 person.1 in
    let same_person : found.0 ≡ person.0 = person_keeps _ found.0 person.0 found.2 in
    let same : record { entities = person.0.entities; enums = enums_in ps; variables = person.0.variables; declarations = person.0.declarations } ≡ w = cc in
    let inside : AllInside (length (enums_in ps)) person.0.variables = subst (λ (x : Found). AllInside (length (enums_in ps)) x.variables) same_person (variables_inside (declared_in ps) ps none_yet found.0 found.1 tt) in
    let have : AllHave (enums_in ps) = enums_there (declared_in ps) ps none_yet found.0 found.1 in
    enum_at w.enums e
    (variable_at (length w.enums) w.variables v e (subst (λ (x : Whole). AllInside (length x.enums) x.variables) same inside) t)
    (subst (λ (x : Whole). AllHave x.enums) same have)
