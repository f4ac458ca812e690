-- In an accepted rule set each default is of its variable's type, and days and texts have no formulas.
use Rattle.std.proofs.Common.{arith, ◌≡◌, ◌∙◌, ap, sym, subst, ℕ, zero, suc, ◌<◌, List, [], ◌∷◌, ◌++◌, map, length, Bool, true, false, refl}
use Rattle.std.specs.Prelude.{nat_lt, if◌then◌else◌, slice_get, Option, Some, None, option_map, Result, Ok, Err, codes}
use Rattle.std.specs.Result.{result_ok}
use Rattle.std.specs.Str.{bytes_eq}
use Rattle.std.proofs.lemmas.Bool.{lt-ltb}
use Rattle.std.proofs.lemmas.List.{length-map}
use Rattle.fisca_attributes.specs.Steps.AttributeForms.{value_at}
use Rattle.fisca_attributes.specs.Steps.Values.{or_bad, number_value, truth_value, text_value, date_value, dotted_value}
use Rattle.fisca_attributes.specs.declared.attributes.TypeName.{TypeName}
use Rattle.fisca_attributes.specs.declared.attributes.TypeName.TheVariants as named
use Rattle.fisca_attributes.specs.declared.dotted.Dotted.{Dotted}
use Rattle.fisca_rules.specs.Build.{Found, Whole, with_variable, none_yet}
use Rattle.fisca_rules.specs.Steps.Build.{enums_in, declared_in, found_from, statement_found, second_pass, variable_in, with_person, tables_of}
use Rattle.fisca_ast.specs.Tree.{Tree}
use Rattle.fisca_ast.specs.Words.{is}
use Rattle.fisca_rules.specs.FirstPass.{Placed, placed_from, names_from, told_at}
use Rattle.fisca_num.specs.Number.{Number}
use Rattle.fisca_num.specs.Results.{and_then}
use Rattle.fisca_params.specs.Tree.{TreeNode}
use Rattle.fisca_ast.specs.Modules.{Item, Statement, entity, entities, choices, variable}
use Rattle.fisca_symbols.specs.KnownEnums.{choices as known_choices}
use Rattle.fisca_symbols.specs.KnownVariables.{value_type}
use Rattle.fisca_symbols.specs.declared.choices.Choices.{Choices}
use Rattle.fisca_symbols.specs.declared.variable.DeclaredType.{DeclaredType}
use Rattle.fisca_symbols.specs.declared.variable.DeclaredType.TheVariants as type
use Rattle.fisca_symbols.specs.declared.variable.DefaultValue.{DefaultValue}
use Rattle.fisca_symbols.specs.declared.variable.DefaultValue.TheVariants as default
use Rattle.fisca_symbols.specs.declared.variable.Variable.{Variable}
use Rattle.fisca_time.specs.Instant.{CivilDate}
use Rattle.fisca_time.specs.declared.unit.Unit.{Unit as TimeUnit}
use Rattle.fisca_ast.specs.declared.fault.FormulaKind.{FormulaKind}
use Rattle.fisca_model.specs.Tables.{Tables, members_of, place_in}
use Rattle.fisca_model.specs.declared.value_type.ValueType.{ValueType}
use Rattle.fisca_declarations.specs.VariableForms.{Written}
use Rattle.fisca_declarations.specs.Steps.VariableForms.{declaration_by, declared_type, default_of, default_or_none, default_typed, if_allowed, is_int, joined, member_of, member_place, no_default, read, said, type_lines, variable_by, variable_of}
use Rattle.fisca_declarations.specs.declared.declared.Declared.{Declared}
use Rattle.fisca_declarations.specs.declared.types.TypeLines.{TypeLines}
use Rattle.fisca_rules.specs.Rules.{DatedFormula, Rules, known}
use Rattle.fisca_rules.specs.Steps.Rules.{all_formulas, formulas_by, formulas_of, rules_of, with_formulas}
use Rattle.fisca_rules.specs.Safety.{is_number, is_whole, is_bool, is_date, is_text, is_member, is_default, AllDefaultsFit, DefaultsFit, AreUncomputed, DaysAndTextsHaveNoFormulas}
use Rattle.fisca_rules.proofs.Beside.{declared_beside}
use Rattle.fisca_rules.proofs.FoundMembers.{then_ok, told_ok, position_inside, entity_keeps, same_found, person_keeps, made, variable_made}

-- Each type

number_fits : (r : Result Number FormulaKind) (v : DefaultValue) → and_then r (λ n. Ok (default.Number n)) ≡ Ok v → is_number v ≡ true
number_fits (Ok n) v h = let same : default.Number n ≡ v = cc in subst (λ x. is_number x ≡ true) same refl
number_fits (Err k) v h = cc

whole_fits : (r : Result Number FormulaKind) (v : DefaultValue) → and_then r (λ n. if_allowed (is_int n) (default.Number n)) ≡ Ok v → is_whole v ≡ true
whole_fits (Ok n) v h = by (is_int n) refl h
  where
    by : (b : Bool) → is_int n ≡ b → if_allowed b (default.Number n) ≡ Ok v → is_whole v ≡ true
    by true e q = let same : default.Number n ≡ v = cc in subst (λ x. is_whole x ≡ true) same e
    by false e q = cc
whole_fits (Err k) v h = cc

bool_fits : (r : Result Bool FormulaKind) (v : DefaultValue) → and_then r (λ b. Ok (default.Bool b)) ≡ Ok v → is_bool v ≡ true
bool_fits (Ok b) v h = let same : default.Bool b ≡ v = cc in subst (λ x. is_bool x ≡ true) same refl
bool_fits (Err k) v h = cc

date_fits : (r : Result CivilDate FormulaKind) (v : DefaultValue) → and_then r (λ d. Ok (default.Date (Some d))) ≡ Ok v → is_date v ≡ true
date_fits (Ok d) v h = let same : default.Date (Some d) ≡ v = cc in subst (λ x. is_date x ≡ true) same refl
date_fits (Err k) v h = cc

text_fits : (r : Result (List ℕ) FormulaKind) (v : DefaultValue) → and_then r (λ t. Ok (default.Text (Some t))) ≡ Ok v → is_text v ≡ true
text_fits (Ok t) v h = let same : default.Text (Some t) ≡ v = cc in subst (λ x. is_text x ≡ true) same refl
text_fits (Err k) v h = cc

known_at : (es : List Choices) (e : ℕ) (x : Choices) → slice_get es e ≡ Some x → length (members_of (slice_get (map known_choices es) e)) ≡ length x.members
known_at [] e x h = cc
known_at (y ∷ es) zero x h = let same : y ≡ x = cc in length-map y.members (λ m. m.0) ∙ ap (λ (z : Choices). length z.members) same
known_at (y ∷ es) (suc e) x h = known_at es e x h

place_inside : (x : Choices) (d : Dotted) (i : ℕ) → member_place x d ≡ Some i → i < length x.members
place_inside x d i h = by (is d.left x.name) h
  where
    by : (b : Bool) → (if b then place_in (λ m. bytes_eq m.0 d.right) x.members else None) ≡ Some i → i < length x.members
    by true e = let inside = position_inside (λ m. bytes_eq m.0 d.right) 0 x.members i e in omega (arith, inside)
    by false e = cc

member_fits : (es : List Choices) (e : ℕ) (d : Dotted) (v : DefaultValue) → or_bad (option_map default.Member (member_of (slice_get es e) d)) ≡ Ok v
    → is_member (length (members_of (slice_get (map known_choices es) e))) v ≡ true
member_fits es e d v h = by (slice_get es e) refl h
  where
    at : (x : Choices) → slice_get es e ≡ Some x → (o : Option ℕ) → member_place x d ≡ o → or_bad (option_map default.Member o) ≡ Ok v
        → is_member (length (members_of (slice_get (map known_choices es) e))) v ≡ true
    at x s None p q = cc
    at x s (Some i) p q =
        let same : default.Member i ≡ v = cc in
        let count = known_at es e x s in
        subst (λ y. is_member (length (members_of (slice_get (map known_choices es) e))) y ≡ true) same
        (subst (λ n. nat_lt i n ≡ true) (sym count) (lt-ltb i (length x.members) (place_inside x d i p)))

    by : (o : Option Choices) → slice_get es e ≡ o → or_bad (option_map default.Member (member_of o d)) ≡ Ok v
        → is_member (length (members_of (slice_get (map known_choices es) e))) v ≡ true
    by None s q = cc
    by (Some x) s q = at x s (member_place x d) refl q

abbrev fits_in : Declared → DeclaredType → DefaultValue → Type 0
fits_in c d v = is_default (map known_choices c.enums) d v ≡ true

-- what is made of the declared type
declared_as : (c : Declared) (d made_type : DeclaredType) (v : DefaultValue) → ◌≡◌ {A = Result DeclaredType FormulaKind} (Ok made_type) (Ok d) → fits_in c made_type v → fits_in c d v
declared_as c d made_type v h t = let same : made_type ≡ d = cc in subst (λ x. fits_in c x v) same t

made_default : (v w : DefaultValue) (is_fit : DefaultValue → Bool) → ◌≡◌ {A = Result DefaultValue FormulaKind} (Ok w) (Ok v) → is_fit w ≡ true → is_fit v ≡ true
made_default v w is_fit h t = let same : w ≡ v = cc in subst (λ x. is_fit x ≡ true) same t

-- of what is said, by each type
said_fits : (c : Declared) (t : TypeName) (enums : Result ℕ FormulaKind) (d : DeclaredType) (e : Tree) (v : DefaultValue) → declared_type t enums ≡ Ok d → default_of c (result_ok enums) t e ≡ Ok v → fits_in c d v
said_fits c named.Float enums d e v h k = declared_as c d type.Float v h (number_fits (number_value e) v k)
said_fits c named.Int enums d e v h k = declared_as c d type.Int v h (whole_fits (number_value e) v k)
said_fits c named.Bool enums d e v h k = declared_as c d type.Bool v h (bool_fits (truth_value e) v k)
said_fits c named.Date enums d e v h k = declared_as c d type.Date v h (date_fits (date_value e) v k)
said_fits c named.Text enums d e v h k = declared_as c d type.Text v h (text_fits (text_value e) v k)
said_fits c named.Enum (Ok n) d e v h k =
    let one = then_ok (dotted_value e) (λ x. or_bad (option_map default.Member (member_of (slice_get c.enums n) x))) v k in
    declared_as c d (type.Enum n) v h (member_fits c.enums n one.0 v one.2)
said_fits c named.Enum (Err k) d e v h p = cc

-- of what is taken where nothing is said
none_fits : (c : Declared) (t : TypeName) (enums : Result ℕ FormulaKind) (d : DeclaredType) (v : DefaultValue) → declared_type t enums ≡ Ok d → no_default t ≡ Ok v → fits_in c d v
none_fits c named.Float enums d v h k = declared_as c d type.Float v h (made_default v _ is_number k refl)
none_fits c named.Int enums d v h k = declared_as c d type.Int v h (made_default v _ is_whole k refl)
none_fits c named.Bool enums d v h k = declared_as c d type.Bool v h (made_default v _ is_bool k refl)
none_fits c named.Date enums d v h k = declared_as c d type.Date v h (made_default v _ is_date k refl)
none_fits c named.Text enums d v h k = declared_as c d type.Text v h (made_default v _ is_text k refl)
none_fits c named.Enum enums d v h k = cc

default_fits : (c : Declared) (t : TypeName) (enums : Result ℕ FormulaKind) (d : DeclaredType) (o : Option Tree) (v : DefaultValue) → declared_type t enums ≡ Ok d →
    default_or_none t (joined (read (default_typed c (result_ok enums) (Ok t)) o)) ≡ Ok v → fits_in c d v
default_fits c t enums d None v h k = none_fits c t enums d v h k
default_fits c t enums d (Some e) v h k = by (default_of c (result_ok enums) t e) refl k
  where
    by : (r : Result DefaultValue FormulaKind) → default_of c (result_ok enums) t e ≡ r → default_or_none t (joined (result_ok (and_then r (λ w. Ok (Some w))))) ≡ Ok v → fits_in c d v
    by (Ok w) p q = let same : w ≡ v = cc in said_fits c t enums d e v h (p ∙ ap (λ x. Ok x) same)
    by (Err f) p q = none_fits c t enums d v h q

-- Variables

abbrev VariableFits : Declared → Variable → Type 0
VariableFits c v = fits_in c v.value_type v.default_value

parts_fit : (c : Declared) (w : Variable) (make : ℕ → TimeUnit → DeclaredType → DefaultValue → Variable) →
    ((place : ℕ) (period : TimeUnit) (d : DeclaredType) (v : DefaultValue) → fits_in c d v → VariableFits c (make place period d v)) →
    (types : Result TypeName FormulaKind) (places : Result ℕ FormulaKind) (periods : Result TimeUnit FormulaKind) (enums : Result ℕ FormulaKind) (default : Option Tree) →
    and_then types (λ t. and_then places (λ place. and_then periods (λ period. and_then (declared_type t enums) (λ d. and_then (default_or_none t (joined (read (default_typed c (result_ok enums) types) default))) (λ v.
    Ok (make place period d v)))))) ≡ Ok w → VariableFits c w
parts_fit c w make keeps (Ok t) (Ok place) (Ok period) enums default h =
    let taken = default_or_none t (joined (read (default_typed c (result_ok enums) (Ok t)) default)) in
    let one = then_ok (declared_type t enums) (λ d. and_then taken (λ v. Ok (make place period d v))) w h in
    let two = then_ok taken (λ v. Ok (make place period one.0 v)) w one.2 in
    let same : make place period one.0 two.0 ≡ w = cc in
    subst (VariableFits c) same (keeps place period one.0 two.0 (default_fits c t enums one.0 default two.0 one.1 two.1))
parts_fit c w make keeps (Ok t) (Ok place) (Err k) enums default h = cc
parts_fit c w make keeps (Ok t) (Err k) periods enums default h = cc
parts_fit c w make keeps (Err k) places periods enums default h = cc

variable_fits : (c : Declared) (place line : ℕ) (n : List ℕ) (k : TypeLines) (xs : List Item) (v : Variable × Written) → variable_of place line n k (said c k xs) xs ≡ Ok v → VariableFits c v.0
variable_fits c place line n k xs v h =
    let s = said c k xs in
    let one = then_ok (variable_by n k s) (λ w. Ok (w, declaration_by place line s xs)) v h in
    let same : (one.0, declaration_by place line s xs) ≡ v = cc in
    subst (λ (p : Variable × Written). VariableFits c p.0) same
    (parts_fit c one.0 (made n s) (λ p u d w t. t) k.value_type (or_bad s.entity) k.definition_period k.possible_values (value_at (codes "default_value") xs) one.1)

abbrev AllFit : Declared → Found → Type 0
AllFit c f = AllDefaultsFit (map known_choices c.enums) f.variables

fits_and : (es : List Rattle.fisca_model.specs.Tables.Choices) (vs : List Variable) (v : Variable) → AllDefaultsFit es vs → is_default es v.value_type v.default_value ≡ true → AllDefaultsFit es (vs ++ v ∷ [])
fits_and es [] v h k = (k, tt)
fits_and es (w ∷ vs) v h k = (h.0, fits_and es vs v h.1 k)

variable_step : (c : Declared) (ps : List Placed) (f g : Found) (place : ℕ) (s : Statement) → ((x : Found) → found_from c x ps ≡ Ok g → AllFit c x → AllFit c g) →
    AllFit c f → (x : Found) × (statement_found c f place s ≡ Ok x) × (found_from c x ps ≡ Ok g) → AllFit c g
variable_step c ps f g place (entity a) rest k t = rest t.0 t.2 (subst (λ (p : List Variable × List Written). AllDefaultsFit (map known_choices c.enums) p.0) (entity_keeps f t.0 _ (told_ok place a.line _ t.0 t.1)) k)
variable_step c ps f g place (entities a) rest k t = rest t.0 t.2 (subst (λ (p : List Variable × List Written). AllDefaultsFit (map known_choices c.enums) p.0) (same_found _ f t.0 t.1) k)
variable_step c ps f g place (choices line n ms) rest k t = rest t.0 t.2 (subst (λ (p : List Variable × List Written). AllDefaultsFit (map known_choices c.enums) p.0) (same_found _ f t.0 t.1) k)
variable_step c ps f g place (variable line n xs) rest k t =
    let one = then_ok (variable_in c place line n xs) (λ v. Ok (with_variable f v)) t.0 t.1 in
    let fit = variable_fits c place line n (type_lines c xs) xs one.0 (variable_made c place line n xs one.0 one.1) in
    let same : with_variable f one.0 ≡ t.0 = cc in
    rest t.0 t.2 (subst (AllFit c) same (fits_and (map known_choices c.enums) f.variables one.0.0 k fit))

variables_fit : (c : Declared) (ps : List Placed) (f g : Found) → found_from c f ps ≡ Ok g → AllFit c f → AllFit c g
variables_fit c [] f g h k = let same : f ≡ g = cc in subst (AllFit c) same k
variables_fit c (p ∷ ps) f g h k = variable_step c ps f g p.module p.statement (λ x e. variables_fit c ps x g e) k (then_ok _ _ _ h)

-- Rule sets

abbrev WholeFits : Whole → Type 0
WholeFits w = AllDefaultsFit (map known_choices w.enums) w.variables

whole_fits_in : (ms : List (List Statement)) (w : Whole) → tables_of ms ≡ Ok w → WholeFits w
unfolding tables_of
whole_fits_in ms w h =
    let ps = placed_from 0 ms in
    let names = then_ok (names_from [] ps) (λ _. second_pass ps) w h in
    let person = then_ok (and_then (found_from (declared_in ps) none_yet ps) with_person) (λ f. Ok (record { entities = f.entities; enums = enums_in ps; variables = f.variables; declarations = f.declarations })) w names.2 in
    let found = then_ok (found_from (declared_in ps) none_yet ps) with_person person.0 person.1 in
    let kept : found.0 ≡ person.0 = person_keeps _ found.0 person.0 found.2 in
    let same : record { entities = person.0.entities; enums = enums_in ps; variables = person.0.variables; declarations = person.0.declarations } ≡ w = cc in
    subst WholeFits same (subst (AllFit (declared_in ps)) kept (variables_fit (declared_in ps) ps none_yet found.0 found.1 tt))

pub defaults_fit : (nodes : List TreeNode) (ms : List (List Statement)) (r : Rules) → rules_of nodes ms ≡ Ok r → DefaultsFit r
unfolding rules_of
defaults_fit nodes ms r h =
    let whole = then_ok (tables_of ms) (with_formulas nodes) r h in
    let formulas = then_ok (all_formulas (known whole.0 nodes) whole.0.variables whole.0.declarations) (λ fs. Ok (record { entities = whole.0.entities; enums = whole.0.enums; variables = whole.0.variables; declarations = whole.0.declarations; parameters = nodes; formulas = fs })) r whole.2 in
    let same : record { entities = whole.0.entities; enums = whole.0.enums; variables = whole.0.variables; declarations = whole.0.declarations; parameters = nodes; formulas = formulas.0 } ≡ r = cc in
    subst DefaultsFit same (whole_fits_in ms whole.0 whole.1)

-- Days and texts

none_computed : (c : Tables) (place : ℕ) (d : Written) (o : Option ValueType) (ds : List DatedFormula) → formulas_by c place d o ≡ Ok ds → o ≡ None → ds ≡ []
none_computed c place d None ds h none = cc
none_computed c place d (Some t) ds h none = cc

all_uncomputed : (c : Tables) (vs : List Variable) (ws : List Written) → length vs ≡ length ws → (fs : List (List DatedFormula)) → all_formulas c vs ws ≡ Ok fs → AreUncomputed vs fs
unfolding formulas_of
all_uncomputed c [] [] long fs h = let same : [] ≡ fs = cc in subst (AreUncomputed []) same tt
all_uncomputed c [] (w ∷ ws) long fs h = absurd (omega (arith, long))
all_uncomputed c (v ∷ vs) [] long fs h = absurd (omega (arith, long))
all_uncomputed c (v ∷ vs) (w ∷ ws) long fs h =
    let one = then_ok _ _ _ h in
    let rest = then_ok _ _ _ one.2 in
    let same : one.0 ∷ rest.0 ≡ fs = cc in
    let shorter : length vs ≡ length ws = omega (arith, long) in
    subst (AreUncomputed (v ∷ vs)) same (none_computed c v.entity w (value_type v.value_type) one.0 one.1, all_uncomputed c vs ws shorter rest.0 rest.1)

pub uncomputed : (nodes : List TreeNode) (ms : List (List Statement)) (r : Rules) → rules_of nodes ms ≡ Ok r → DaysAndTextsHaveNoFormulas r
unfolding rules_of
uncomputed nodes ms r h =
    let whole = then_ok (tables_of ms) (with_formulas nodes) r h in
    let formulas = then_ok (all_formulas (known whole.0 nodes) whole.0.variables whole.0.declarations) (λ fs. Ok (record { entities = whole.0.entities; enums = whole.0.enums; variables = whole.0.variables; declarations = whole.0.declarations; parameters = nodes; formulas = fs })) r whole.2 in
    let same : record { entities = whole.0.entities; enums = whole.0.enums; variables = whole.0.variables; declarations = whole.0.declarations; parameters = nodes; formulas = formulas.0 } ≡ r = cc in
    subst DaysAndTextsHaveNoFormulas same (all_uncomputed (known whole.0 nodes) whole.0.variables whole.0.declarations (declared_beside ms whole.0 whole.1) formulas.0 formulas.1)
