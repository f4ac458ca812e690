-- The lines of a variable beside all before each, and beside what is kept of these.
use Rattle.std.proofs.Common.{◌≡◌, ◌∙◌, sym, ap, refl, ℕ, List, [], ◌∷◌, ◌++◌, Bool, true, false, not, ◌&&◌, ◌||◌, if◌then◌else◌, Option, Some, None, is_some, Result, Ok, Err}
use Rattle.std.proofs.lemmas.Slice.Eq.{bytes_eq-Decides}
use Rattle.std.specs.List.{list_any}
use Rattle.std.specs.Str.{bytes_eq}
use Rattle.fisca_attributes.specs.Steps.AttributeForms.{value_at}
use Rattle.fisca_attributes.specs.Values.{bad_attribute}
use Rattle.fisca_rules.specs.declared.build_fault.BuildFault.{BuildFault}
use Rattle.fisca_rules.specs.FirstPass.{told_at}
use Rattle.fisca_num.specs.Results.{and_then}
use Rattle.fisca_ast.specs.Modules.{Assigned, Item, attribute, formula}
use Rattle.fisca_ast.specs.Tree.{Tree}
use Rattle.fisca_ast.specs.Words.{is}
use Rattle.fisca_time.specs.Instant.{CivilDate}
use Rattle.fisca_ast.specs.declared.fault.FormulaKind.{FormulaKind}
use Rattle.fisca_declarations.specs.declared.declared.Declared.{Declared}
use Rattle.fisca_declarations.proofs.LineByLine.{attribute-as, said-formula, says-type}
use Rattle.fisca_declarations.specs.declared.attributes.Attributes.{Attributes}
use Rattle.fisca_declarations.specs.declared.types.TypeLines.{TypeLines}
use Rattle.fisca_declarations.specs.Lines.{Before, nothing_before, nothing_said, with_attribute}
use Rattle.fisca_declarations.specs.Steps.VariableForms.{attribute_fits, has_attribute, if_allowed, may_have_formulas, said, same_day, starts_on, type_lines, variable_of}
use Rattle.fisca_rules.specs.Build.{items_fit, items_said}
use Rattle.fisca_rules.specs.Steps.Build.{variable_in}
use Rattle.fisca_rules.specs.Steps.Passes.{lines_read}

abbrev names_of : List Item → List (List ℕ)
names_of [] = []
names_of (attribute a ∷ xs) = a.name ∷ names_of xs
names_of (formula f ∷ xs) = names_of xs

abbrev days_of : List Item → List CivilDate
days_of [] = []
days_of (attribute a ∷ xs) = days_of xs
days_of (formula f ∷ xs) = f.start ∷ days_of xs

abbrev before_of : List Item → Before
before_of xs = record { names = names_of xs; days = days_of xs }

-- a name came before where it is one of those kept

name-there : (t : List ℕ) (xs : List Item) → has_attribute t xs ≡ list_any (λ k. bytes_eq k t) (names_of xs)
name-there t [] = refl
name-there t (attribute a ∷ xs) = by (bytes_eq a.name t) (name-there t xs)
  where
    by : (b : Bool) → has_attribute t xs ≡ list_any (λ k. bytes_eq k t) (names_of xs)
        → is_some (if b then Some a.value else value_at t xs) ≡ (b || list_any (λ k. bytes_eq k t) (names_of xs))
    by true e = refl
    by false e = e
name-there t (formula f ∷ xs) = name-there t xs

day-there : (d : CivilDate) (xs : List Item) → starts_on d xs ≡ list_any (λ e. same_day e d) (days_of xs)
day-there d [] = refl
day-there d (attribute a ∷ xs) = day-there d xs
day-there d (formula f ∷ xs) = by (same_day f.start d) (day-there d xs)
  where
    by : (b : Bool) → starts_on d xs ≡ list_any (λ e. same_day e d) (days_of xs) → (if b then true else starts_on d xs) ≡ (b || list_any (λ e. same_day e d) (days_of xs))
    by true e = refl
    by false e = e

-- one line more

names-more : (xs ys : List Item) → names_of (xs ++ ys) ≡ names_of xs ++ names_of ys
names-more [] ys = refl
names-more (attribute a ∷ xs) ys = ap (λ ts. a.name ∷ ts) (names-more xs ys)
names-more (formula f ∷ xs) ys = names-more xs ys

days-more : (xs ys : List Item) → days_of (xs ++ ys) ≡ days_of xs ++ days_of ys
days-more [] ys = refl
days-more (attribute a ∷ xs) ys = days-more xs ys
days-more (formula f ∷ xs) ys = ap (λ ds. f.start ∷ ds) (days-more xs ys)

no-more : {X : Type 0} (xs : List X) → xs ++ [] ≡ xs
no-more [] = refl
no-more (x ∷ xs) = ap (λ ys. x ∷ ys) (no-more xs)

before-attribute : (earlier : List Item) (a : _) → before_of (earlier ++ attribute a ∷ []) ≡ record { names = names_of earlier ++ a.name ∷ []; days = days_of earlier }
before-attribute earlier a = λ i. record { names = names-more earlier (attribute a ∷ []) i; days = (days-more earlier (attribute a ∷ []) ∙ no-more (days_of earlier)) i }

before-formula : (earlier : List Item) (f : _) → before_of (earlier ++ formula f ∷ []) ≡ record { names = names_of earlier; days = days_of earlier ++ f.start ∷ [] }
before-formula earlier f = λ i. record { names = (names-more earlier (formula f ∷ []) ∙ no-more (names_of earlier)) i; days = days-more earlier (formula f ∷ []) i }

-- what is right, and goes on

goes-on : {X : Type 0} (place line : ℕ) (fits : Result (Unit {0}) FormulaKind) (reads : Result Attributes FormulaKind) (b : Before) (s : Attributes) (rest : Result (Unit {0}) BuildFault) (x : X)
    (next : Before × Attributes → Result X BuildFault) → reads ≡ and_then fits (λ _. Ok s) → and_then rest (λ _. Ok x) ≡ next (b, s)
    → and_then (and_then (told_at place line fits) (λ _. rest)) (λ _. Ok x) ≡ and_then (told_at place line (and_then reads (λ said. Ok (b, said)))) next
goes-on place line fits reads b s rest x next e h = by fits ∙ ap (λ r. and_then (told_at place line (and_then r (λ said. Ok (b, said)))) next) (sym e)
  where
    by : (r : Result (Unit {0}) FormulaKind) → and_then (and_then (told_at place line r) (λ _. rest)) (λ _. Ok x)
        ≡ and_then (told_at place line (and_then (and_then r (λ _. Ok s)) (λ said. Ok (b, said)))) next
    by (Ok tt) = h
    by (Err k) = refl

goes-if : {X : Type 0} (place line : ℕ) (allowed : Bool) (b : Before) (s : Attributes) (rest : Result (Unit {0}) BuildFault) (x : X)
    (next : Before × Attributes → Result X BuildFault) → and_then rest (λ _. Ok x) ≡ next (b, s)
    → and_then (and_then (told_at place line (if_allowed {X = Unit {0}} allowed tt)) (λ _. rest)) (λ _. Ok x)
    ≡ and_then (told_at place line (and_then (if_allowed allowed b) (λ c. Ok (c, s)))) next
goes-if place line true b s rest x next h = h
goes-if place line false b s rest x next h = refl

-- an attribute that came before is refused; another goes on
goes-first : {X : Type 0} (place line : ℕ) (came : Bool) (fits : Result (Unit {0}) FormulaKind) (reads : Result Attributes FormulaKind) (b : Before) (s : Attributes)
    (rest : Result (Unit {0}) BuildFault) (x : X) (next : Before × Attributes → Result X BuildFault)
    → (came ≡ false → reads ≡ and_then fits (λ _. Ok s)) → and_then rest (λ _. Ok x) ≡ next (b, s)
    → and_then (and_then (told_at place line (if came then bad_attribute else fits)) (λ _. rest)) (λ _. Ok x)
    ≡ and_then (told_at place line (if came then bad_attribute else and_then reads (λ said. Ok (b, said)))) next
goes-first place line true fits reads b s rest x next e h = refl
goes-first place line false fits reads b s rest x next e h = goes-on place line fits reads b s rest x next (e refl) h

none-came : (o : Option Tree) → is_some o ≡ false → o ≡ None
none-came None h = refl
none-came (Some e) h = absurd cc

own : (a : Assigned) (xs : List Item) → value_at a.name (attribute a ∷ xs) ≡ Some a.value
own a xs = ap (λ b. if b then Some a.value else value_at a.name xs) ((bytes_eq-Decides a.name a.name).1 refl)

-- what comes for the first time is the first of its name
first-own : (earlier xs : List Item) (a : Assigned) → value_at a.name earlier ≡ None → value_at a.name (earlier ++ attribute a ∷ xs) ≡ Some a.value
first-own [] xs a h = own a xs
first-own (attribute b ∷ earlier) xs a h = by (is b.name a.name) (λ e. first-own earlier xs a e) h
  where
    by : (same : Bool) → (value_at a.name earlier ≡ None → value_at a.name (earlier ++ attribute a ∷ xs) ≡ Some a.value)
        → (if same then Some b.value else value_at a.name earlier) ≡ None
        → (if same then Some b.value else value_at a.name (earlier ++ attribute a ∷ xs)) ≡ Some a.value
    by true behind e = absurd cc
    by false behind e = behind e
first-own (formula f ∷ earlier) xs a h = first-own earlier xs a h

part-more : {X : Type 0} (xs : List X) (x : X) (ys : List X) → (xs ++ x ∷ []) ++ ys ≡ xs ++ x ∷ ys
part-more [] x ys = refl
part-more (y ∷ xs) x ys = ap (λ zs. y ∷ zs) (part-more xs x ys)

-- what an attribute says beside what is known behind it, unless it came before
abbrev unless_came : Bool → Result Attributes FormulaKind → Before → Result (Before × Attributes) FormulaKind
unless_came came reads b = if came then bad_attribute else and_then reads (λ s. Ok (b, s))

-- what is said with the lines behind
abbrev read_on : Declared → ℕ → TypeLines → List Item → Before × Attributes → Result Attributes BuildFault
read_on c place k xs n = lines_read c place k n.0 n.1 xs

same-lines : (c : Declared) (place : ℕ) (all earlier xs : List Item) → all ≡ earlier ++ xs
    → and_then (items_fit c place (type_lines c all) earlier xs) (λ _. Ok (said c (type_lines c all) all))
    ≡ lines_read c place (type_lines c all) (before_of earlier) (said c (type_lines c all) earlier) xs
same-lines c place all earlier [] p = ap (λ xs. Ok (said c (type_lines c all) xs)) (p ∙ no-more earlier)
same-lines c place all earlier (attribute a ∷ xs) p =
    let k = type_lines c all in
    let behind = earlier ++ attribute a ∷ [] in
    let noted : Before = record { names = names_of earlier ++ a.name ∷ []; days = days_of earlier } in
    let more = same-lines c place all behind xs (p ∙ sym (part-more earlier (attribute a) xs)) ∙ ap (λ b. lines_read c place k b (said c k behind) xs) (before-attribute earlier a) in
    goes-first place a.line (has_attribute a.name earlier) (attribute_fits c k a.name a.value) (with_attribute c k (said c k earlier) a.name a.value) noted
    (said c k behind) (items_fit c place k behind xs) (said c k all) (read_on c place k xs)
    (λ came. let none = none-came (value_at a.name earlier) came in
    attribute-as c k earlier a none (says-type c all a (ap (λ ys. value_at a.name ys) p ∙ first-own earlier xs a none)))
    more
    ∙ ap (λ came. and_then (told_at place a.line (unless_came came (with_attribute c k (said c k earlier) a.name a.value) noted)) (read_on c place k xs)) (name-there a.name earlier)
same-lines c place all earlier (formula f ∷ xs) p =
    let k = type_lines c all in
    let behind = earlier ++ formula f ∷ [] in
    let noted : Before = record { names = names_of earlier; days = days_of earlier ++ f.start ∷ [] } in
    let more = same-lines c place all behind xs (p ∙ sym (part-more earlier (formula f) xs)) ∙ (λ i. lines_read c place k (before-formula earlier f i) (said-formula c k earlier f i) xs) in
    ap (λ known. and_then (and_then (told_at place f.line (if_allowed {X = Unit {0}} (may_have_formulas k && not known) tt)) (λ _. items_fit c place k behind xs)) (λ _. Ok (said c k all))) (day-there f.start earlier)
    ∙ goes-if place f.line (may_have_formulas k && not (list_any (λ d. same_day d f.start) (days_of earlier))) noted
    (said c k earlier) (items_fit c place k behind xs) (said c k all) (read_on c place k xs) more

-- all lines

-- what lines say beside what they say of the type
abbrev behind_types : TypeLines → Result Attributes BuildFault → Result (TypeLines × Attributes) BuildFault
behind_types k o = and_then o (λ s. Ok (k, s))

both-said : (r : Result (Unit {0}) BuildFault) (k : TypeLines) (s : Attributes) (o : Result Attributes BuildFault) → and_then r (λ _. Ok s) ≡ o
    → and_then {Y = TypeLines × Attributes} r (λ _. Ok (k, s)) ≡ behind_types k o
both-said (Ok x) k s o h = ap (behind_types k) h
both-said (Err f) k s o h = ap (behind_types k) h

all-said : (c : Declared) (place : ℕ) (xs : List Item)
    → items_said c place xs ≡ behind_types (type_lines c xs) (lines_read c place (type_lines c xs) nothing_before nothing_said xs)
all-said c place xs =
    both-said (items_fit c place (type_lines c xs) [] xs) (type_lines c xs) (said c (type_lines c xs) xs)
    (lines_read c place (type_lines c xs) nothing_before nothing_said xs) (same-lines c place xs [] xs refl)

-- what all lines say of the type is known
said_by : (c : Declared) (place : ℕ) (xs : List Item) (k : TypeLines) → k ≡ type_lines c xs
    → items_said c place xs ≡ behind_types k (lines_read c place k nothing_before nothing_said xs)
said_by c place xs k e = all-said c place xs ∙ ap (λ l. behind_types l (lines_read c place l nothing_before nothing_said xs)) (sym e)

pub lines_said : (c : Declared) (place : ℕ) (xs : List Item) (k : TypeLines) (s : Attributes) → k ≡ type_lines c xs
    → lines_read c place k nothing_before nothing_said xs ≡ Ok s → items_said c place xs ≡ Ok (k, s)
lines_said c place xs k s e h = said_by c place xs k e ∙ ap (behind_types k) h

pub lines_refused : (c : Declared) (place : ℕ) (xs : List Item) (k : TypeLines) (f : BuildFault) → k ≡ type_lines c xs
    → lines_read c place k nothing_before nothing_said xs ≡ Err f → items_said c place xs ≡ Err f
lines_refused c place xs k f e h = said_by c place xs k e ∙ ap (behind_types k) h

-- a variable, by what its lines say
pub variable_said : (c : Declared) (place line : ℕ) (n : List ℕ) (xs : List Item) (k : TypeLines) (s : Attributes) → items_said c place xs ≡ Ok (k, s)
    → variable_in c place line n xs ≡ told_at place line (variable_of place line n k s xs)
variable_said c place line n xs k s h =
    ap (λ (r : Result (TypeLines × Attributes) BuildFault). and_then r (λ p. told_at place line (variable_of place line n p.0 p.1 xs))) h
