-- What is said line by line is what the lines say.
use Rattle.std.proofs.Common.{◌≡◌, ◌∙◌, sym, ap, refl, ℕ, List, [], ◌∷◌, ◌++◌, Bool, true, false, if◌then◌else◌, Option, Some, None, Result, Ok, Err, codes}
use Rattle.std.proofs.lemmas.Slice.Eq.{bytes_eq-Decides}
use Rattle.std.specs.Result.{result_ok}
use Rattle.fisca_ast.specs.Modules.{Assigned, Formula, Item, attribute, formula}
use Rattle.fisca_ast.specs.Tree.{Tree}
use Rattle.fisca_ast.specs.Words.{is}
use Rattle.fisca_ast.specs.declared.fault.FormulaKind.{FormulaKind}
use Rattle.fisca_attributes.specs.Steps.AttributeForms.{value_at, type_value, period_value}
use Rattle.fisca_attributes.specs.Values.{needed}
use Rattle.fisca_attributes.specs.Steps.Values.{text_value, instant_value, references_value}
use Rattle.fisca_num.specs.Results.{and_then}
use Rattle.fisca_declarations.specs.declared.attributes.Attributes.{Attributes}
use Rattle.fisca_declarations.specs.declared.declared.Declared.{Declared}
use Rattle.fisca_declarations.specs.declared.types.TypeLines.{TypeLines}
use Rattle.fisca_declarations.specs.Lines.{with_attribute, with_told}
use Rattle.fisca_declarations.specs.VariableForms.{fine, passed_over}
use Rattle.fisca_declarations.specs.Steps.VariableForms.{attribute_fits, default_said, entity_value, enum_fits, enum_value, joined, read, said, said_at, set_input_said, told_fits, type_lines}

-- What stands behind a name, with a line more

abbrev first_of : Option Tree → Option Tree → Option Tree
first_of None old = old
first_of (Some e) None = Some e
first_of (Some e) (Some d) = Some d

abbrev if_named : List ℕ → List ℕ → Tree → Option Tree
if_named n t e = if is n t then Some e else None

first-alone : (b : Bool) (e : Tree) → (if b then Some e else None) ≡ first_of (if b then Some e else None) None
first-alone true e = refl
first-alone false e = refl

first-before : (o : Option Tree) (e : Tree) → Some e ≡ first_of o (Some e)
first-before None e = refl
first-before (Some d) e = refl

first-behind : (b : Bool) (o old more : Option Tree) (e : Tree) → more ≡ first_of o old → (if b then Some e else more) ≡ first_of o (if b then Some e else old)
first-behind true o old more e h = first-before o e
first-behind false o old more e h = h

at-more : (t : List ℕ) (xs : List Item) (a : Assigned) → value_at t (xs ++ attribute a ∷ []) ≡ first_of (if_named a.name t a.value) (value_at t xs)
at-more t [] a = first-alone (is a.name t) a.value
at-more t (attribute b ∷ xs) a = first-behind (is b.name t) (if_named a.name t a.value) (value_at t xs) (value_at t (xs ++ attribute a ∷ [])) b.value (at-more t xs a)
at-more t (formula f ∷ xs) a = at-more t xs a

at-same : (t : List ℕ) (xs : List Item) (f : Formula) → value_at t (xs ++ formula f ∷ []) ≡ value_at t xs
at-same t [] f = refl
at-same t (attribute b ∷ xs) f = ap (λ o. if is b.name t then Some b.value else o) (at-same t xs f)
at-same t (formula g ∷ xs) f = at-same t xs f

-- a formula says nothing of an attribute
pub said-formula : (c : Declared) (k : TypeLines) (xs : List Item) (f : Formula) → said c k (xs ++ formula f ∷ []) ≡ said c k xs
said-formula c k xs f = λ i. said_at c k (λ t. at-same t xs f i)

-- an attribute says what stands behind its name
said-as : (c : Declared) (k : TypeLines) (xs : List Item) (a : Assigned) (n : List ℕ) → a.name ≡ n
    → said_at c k (λ t. first_of (if_named n t a.value) (value_at t xs)) ≡ said c k (xs ++ attribute a ∷ [])
said-as c k xs a n e = sym ((λ i. said_at c k (λ t. at-more t xs a i)) ∙ (λ i. said_at c k (λ t. first_of (if_named (e i) t a.value) (value_at t xs))))

-- Fields

newly : {X : Type 0} (say : Tree → Result X FormulaKind) (o : Option Tree) (e : Tree) (v : X) → o ≡ None → say e ≡ Ok v → Some v ≡ read say (first_of (Some e) o)
newly say o e v none h = sym (ap (λ p. read say (first_of (Some e) p)) none ∙ ap (λ r. result_ok r) h)

-- what has a value says it, and what has none is refused for the same reason
fill : {X : Type 0} (r : Result X FormulaKind) (put : X → Attributes) (whole : Attributes) → ((v : X) → r ≡ Ok v → put v ≡ whole)
    → and_then r (λ v. Ok (put v)) ≡ and_then (fine r) (λ _. Ok whole)
fill (Ok v) put whole h = ap (λ s. Ok s) (h v refl)
fill (Err k) put whole h = refl

fill-fine : (r : Result (Unit {0}) FormulaKind) (s whole : Attributes) → s ≡ whole → and_then r (λ _. Ok s) ≡ and_then r (λ _. Ok whole)
fill-fine r s whole h = ap (λ x. and_then r (λ _. Ok x)) h

arm : (b : Bool) (x y : Result Attributes FormulaKind) (f g : Result (Unit {0}) FormulaKind) (whole : Attributes)
    → (b ≡ true → x ≡ and_then f (λ _. Ok whole)) → y ≡ and_then g (λ _. Ok whole) → (if b then x else y) ≡ and_then (if b then f else g) (λ _. Ok whole)
arm true x y f g whole h k = h refl
arm false x y f g whole h k = k

-- Attributes by their names

-- what all lines say of the type is what this attribute says of it
pub record SaysType (c : Declared) (k : TypeLines) (a : Assigned) : Type 0 where
  pub value_type : is a.name (codes "value_type") ≡ true → k.value_type ≡ type_value a.value
  pub possible_values : is a.name (codes "possible_values") ≡ true → k.possible_values ≡ enum_value c a.value
  pub definition_period : is a.name (codes "definition_period") ≡ true → k.definition_period ≡ period_value a.value

named : (t n : List ℕ) → is t n ≡ true → t ≡ n
named t n h = (bytes_eq-Decides t n).0 h

pub says-type : (c : Declared) (xs : List Item) (a : Assigned) → value_at a.name xs ≡ Some a.value → SaysType c (type_lines c xs) a
says-type c xs a h = record {
  value_type = λ same. ap (λ t. needed type_value (value_at t xs)) (sym (named a.name (codes "value_type") same)) ∙ ap (needed type_value) h;
  possible_values = λ same. ap (λ t. needed (enum_value c) (value_at t xs)) (sym (named a.name (codes "possible_values") same)) ∙ ap (needed (enum_value c)) h;
  definition_period = λ same. ap (λ t. needed period_value (value_at t xs)) (sym (named a.name (codes "definition_period") same)) ∙ ap (needed period_value) h;
}

none-at : (xs : List Item) (a : Assigned) (n : List ℕ) → value_at a.name xs ≡ None → a.name ≡ n → value_at n xs ≡ None
none-at xs a n none e = ap (λ t. value_at t xs) (sym e) ∙ none

fill-arm : (b : Bool) (f g : Result (Unit {0}) FormulaKind) (s whole : Attributes) → (b ≡ true → s ≡ whole) → and_then g (λ _. Ok s) ≡ and_then g (λ _. Ok whole)
    → and_then (if b then f else g) (λ _. Ok s) ≡ and_then (if b then f else g) (λ _. Ok whole)
fill-arm true f g s whole h k = fill-fine f s whole (h refl)
fill-arm false f g s whole h k = k

-- what is passed over says nothing
passed-as : (c : Declared) (k : TypeLines) (xs : List Item) (a : Assigned)
    → and_then (passed_over a.name a.value) (λ _. Ok (said c k xs)) ≡ and_then (passed_over a.name a.value) (λ _. Ok (said c k (xs ++ attribute a ∷ [])))
unfolding passed_over
passed-as c k xs a =
    fill-arm (is a.name (codes "max_length")) _ _ _ _ (λ h. said-as c k xs a (codes "max_length") (named a.name _ h))
    (fill-arm (is a.name (codes "metadata")) _ _ _ _ (λ h. said-as c k xs a (codes "metadata") (named a.name _ h))
    (fill-arm (is a.name (codes "is_period_size_independent")) _ _ _ _ (λ h. said-as c k xs a (codes "is_period_size_independent") (named a.name _ h))
    refl))

told-as : (c : Declared) (k : TypeLines) (xs : List Item) (a : Assigned) → value_at a.name xs ≡ None
    → with_told (said c k xs) a.name a.value ≡ and_then (told_fits a.name a.value) (λ _. Ok (said c k (xs ++ attribute a ∷ [])))
unfolding with_told told_fits
told-as c k xs a none =
    let s = said c k xs in
    arm (is a.name (codes "label")) _ _ _ _ _ (λ h.
    let n = named a.name (codes "label") h in
    fill (text_value a.value) (λ v. record s { label = Some v }) _ (λ v r. (λ i. record s { label = newly text_value (value_at (codes "label") xs) a.value v (none-at xs a _ none n) r i }) ∙ said-as c k xs a (codes "label") n))
    (arm (is a.name (codes "documentation")) _ _ _ _ _ (λ h.
    let n = named a.name (codes "documentation") h in
    fill (text_value a.value) (λ v. record s { documentation = Some v }) _ (λ v r. (λ i. record s { documentation = newly text_value (value_at (codes "documentation") xs) a.value v (none-at xs a _ none n) r i }) ∙ said-as c k xs a (codes "documentation") n))
    (arm (is a.name (codes "unit")) _ _ _ _ _ (λ h.
    let n = named a.name (codes "unit") h in
    fill (text_value a.value) (λ v. record s { unit = Some v }) _ (λ v r. (λ i. record s { unit = newly text_value (value_at (codes "unit") xs) a.value v (none-at xs a _ none n) r i }) ∙ said-as c k xs a (codes "unit") n))
    (arm (is a.name (codes "reference")) _ _ _ _ _ (λ h.
    let n = named a.name (codes "reference") h in
    fill (references_value a.value) (λ v. record s { reference = Some v }) _ (λ v r. (λ i. record s { reference = newly references_value (value_at (codes "reference") xs) a.value v (none-at xs a _ none n) r i }) ∙ said-as c k xs a (codes "reference") n))
    (passed-as c k xs a))))

-- an attribute that comes for the first time: it is right, and says what the lines with it say
pub attribute-as : (c : Declared) (k : TypeLines) (xs : List Item) (a : Assigned) → value_at a.name xs ≡ None → SaysType c k a
    → with_attribute c k (said c k xs) a.name a.value ≡ and_then (attribute_fits c k a.name a.value) (λ _. Ok (said c k (xs ++ attribute a ∷ [])))
unfolding with_attribute attribute_fits
attribute-as c k xs a none types =
    let s = said c k xs in
    arm (is a.name (codes "value_type")) _ _ _ _ _ (λ h.
    ap (λ r. and_then r (λ _. Ok s)) (types.value_type h) ∙ fill (type_value a.value) (λ _. s) _ (λ v r. said-as c k xs a (codes "value_type") (named a.name _ h)))
    (arm (is a.name (codes "entity")) _ _ _ _ _ (λ h.
    let n = named a.name (codes "entity") h in
    fill (entity_value c a.value) (λ v. record s { entity = Some v }) _ (λ v r. (λ i. record s { entity = newly (entity_value c) (value_at (codes "entity") xs) a.value v (none-at xs a _ none n) r i }) ∙ said-as c k xs a (codes "entity") n))
    (arm (is a.name (codes "definition_period")) _ _ _ _ _ (λ h.
    ap (λ r. and_then r (λ _. Ok s)) (types.definition_period h) ∙ fill (period_value a.value) (λ _. s) _ (λ v r. said-as c k xs a (codes "definition_period") (named a.name _ h)))
    (arm (is a.name (codes "default_value")) _ _ _ _ _ (λ h.
    let n = named a.name (codes "default_value") h in
    fill (default_said c k a.value) (λ v. record s { default_value = v }) _ (λ v r. (λ i. record s { default_value = ap joined (newly (default_said c k) (value_at (codes "default_value") xs) a.value v (none-at xs a _ none n) r) i }) ∙ said-as c k xs a (codes "default_value") n))
    (arm (is a.name (codes "possible_values")) _ _ _ _ _ (λ h.
    ap (λ r. and_then (enum_fits k r) (λ _. Ok s)) (types.possible_values h) ∙ fill-fine (enum_fits k (enum_value c a.value)) s _ (said-as c k xs a (codes "possible_values") (named a.name _ h)))
    (arm (is a.name (codes "end")) _ _ _ _ _ (λ h.
    let n = named a.name (codes "end") h in
    fill (instant_value a.value) (λ v. record s { end = Some v }) _ (λ v r. (λ i. record s { end = newly instant_value (value_at (codes "end") xs) a.value v (none-at xs a _ none n) r i }) ∙ said-as c k xs a (codes "end") n))
    (arm (is a.name (codes "set_input")) _ _ _ _ _ (λ h.
    let n = named a.name (codes "set_input") h in
    fill (set_input_said k a.value) (λ v. record s { set_input = Some v }) _ (λ v r. (λ i. record s { set_input = newly (set_input_said k) (value_at (codes "set_input") xs) a.value v (none-at xs a _ none n) r i }) ∙ said-as c k xs a (codes "set_input") n))
    (told-as c k xs a none)))))))
