-- Statements, noted one after another.
use Rattle.std.proofs.Common.{◌≡◌, ℕ, List, [], ◌∷◌, ◌++◌, Bool, true, false, true≢false, ◌&&◌, ◌||◌, Option, Some, None, refl, sym, ap, ◌∙◌, if◌then◌else◌}
use Rattle.std.proofs.lemmas.List.Folds.{list_any-append}
use Rattle.std.specs.List.{list_any}
use Rattle.std.specs.Str.{bytes_eq}
use Rattle.fisca_attributes.specs.Steps.EntityForms.{entity_of}
use Rattle.fisca_ast.specs.Modules.{Assigned, Item, Statement, entity, entities, choices, variable}
use Rattle.fisca_ast.specs.declared.module.Member.{Member}
use Rattle.fisca_symbols.specs.declared.role.Role.{Role}
use Rattle.fisca_rules.specs.Clashes.{among, bears, is_of, listed, names_of, repeat, roles_in, titles}
use Rattle.fisca_rules.specs.Steps.Clashes.{line_of, meet, names_clash, own_clash, repeated_member, repeated_within, titles_clash}
use Rattle.fisca_rules.specs.Seen.{Holds, Notes, NotesNames, NotesTitles, TellsOne, all_titles_within, has_name, has_title, has_variable, is_title_in, is_variable_in, same_within, titles_within}
use Rattle.fisca_rules.specs.Steps.Seen.{entity_named}
use Rattle.fisca_rules.specs.Titles.{Adds}
use Rattle.fisca_rules.specs.declared.seen.Seen.{Seen}
use Rattle.fisca_rules.specs.declared.within.Within.{Within}
use Rattle.fisca_rules.proofs.Some.{or_none, and_none, and_shared, some_alike, some_and, some_none, some_pair, some_seen, same_turned, one_more}

-- Names of the rule set

names_told : (s : Seen) (earlier : List Statement) (t : Statement) → Holds s earlier → (repeat (names_of t) || list_any (has_name s) (names_of t)) ≡ names_clash earlier t
names_told s earlier t h =
    ap (λ b. repeat (names_of t) || b)
    (some_alike (has_name s) (λ u. list_any (λ e. among (names_of e) u) earlier) (names_of t) h.names
    ∙ sym (some_pair (λ e u. among (names_of e) u) earlier (names_of t)))

names_more : (old new : Seen) (earlier : List Statement) (t : Statement) → Holds old earlier → Adds bytes_eq (has_name old) (has_name new) (names_of t)
    → (u : List ℕ) → has_name new u ≡ list_any (λ e. among (names_of e) u) (earlier ++ t ∷ [])
names_more old new earlier t h adds u = one_more (λ (e : Statement). among (names_of e) u) earlier t _ _ _ (adds u) (h.names u) refl

-- Roles and variables

-- the names of all roles, each tested for its constant and for its name
named_within : (constant : List ℕ) (rs : List Role) (test : List ℕ → Bool) (name : List ℕ)
    → list_any (λ w. test w.constant && bytes_eq w.name name) (all_titles_within constant rs) ≡ (test constant && list_any (bears name) rs)
named_within constant [] test name = sym (and_none (test constant))
named_within constant (r ∷ rs) test name =
    list_any-append (λ (w : Within). test w.constant && bytes_eq w.name name) (titles_within constant r) (all_titles_within constant rs)
    ∙ (λ i. first i || named_within constant rs test name i)
    ∙ and_shared (test constant) (bears name r) (list_any (bears name) rs)
  where
    first : list_any (λ (w : Within). test w.constant && bytes_eq w.name name) (titles_within constant r) ≡ (test constant && bears name r)
    first =
        some_seen (λ (t : List ℕ). let w : Within = record { constant = constant; name = t } in w) (λ (w : Within). test w.constant && bytes_eq w.name name) (r.key ∷ listed r.plural)
        ∙ some_and (test constant) (λ t. bytes_eq t name) (r.key ∷ listed r.plural)

-- an entity behind a statement
met_by_entity : (a : Assigned) (e : Statement) → list_any (λ w. is_variable_in w e) (all_titles_within a.name (roles_in (entity_of a))) ≡ meet e (entity a)
met_by_entity a (entity c) = some_none (all_titles_within a.name (roles_in (entity_of a)))
met_by_entity a (entities c) = some_none (all_titles_within a.name (roles_in (entity_of a)))
met_by_entity a (choices line name ms) = some_none (all_titles_within a.name (roles_in (entity_of a)))
met_by_entity a (variable line name xs) = named_within a.name (roles_in (entity_of a)) (λ t. is_of t xs) name

entity_met : (s : Seen) (earlier : List Statement) (a : Assigned) → Holds s earlier
    → list_any (has_variable s) (all_titles_within a.name (roles_in (entity_of a))) ≡ list_any (λ e. meet e (entity a)) earlier
entity_met s earlier a h =
    let ws = all_titles_within a.name (roles_in (entity_of a)) in
    some_alike (has_variable s) (λ w. list_any (is_variable_in w) earlier) ws h.variables
    ∙ sym (some_pair (λ e w. is_variable_in w e) earlier ws)
    ∙ some_alike (λ e. list_any (λ w. is_variable_in w e) ws) (λ e. meet e (entity a)) earlier (met_by_entity a)

-- a variable within the entity that it names
abbrev pub named_by : List ℕ → Option (List ℕ) → List Within
named_by name None = []
named_by name (Some t) = record { constant = t; name = name } ∷ []

met_by_variable : (line : ℕ) (name : List ℕ) (xs : List Item) (o : Option (List ℕ)) → o ≡ entity_named xs → (e : Statement)
    → list_any (λ w. is_title_in w e) (named_by name o) ≡ meet e (variable line name xs)
met_by_variable line name xs o same (entity a) = by o ∙ ap (λ p. list_any (λ t. bytes_eq a.name t) (listed p) && list_any (bears name) (roles_in (entity_of a))) same
  where
    by : (p : Option (List ℕ)) → list_any (λ w. is_title_in w (entity a)) (named_by name p) ≡ (list_any (λ t. bytes_eq a.name t) (listed p) && list_any (bears name) (roles_in (entity_of a)))
    by None = refl
    by (Some t) = or_none (bytes_eq a.name t && list_any (bears name) (roles_in (entity_of a))) ∙ ap (λ b. b && list_any (bears name) (roles_in (entity_of a))) (sym (or_none (bytes_eq a.name t)))
met_by_variable line name xs o same (entities c) = some_none (named_by name o)
met_by_variable line name xs o same (choices m t ms) = some_none (named_by name o)
met_by_variable line name xs o same (variable m t ys) = some_none (named_by name o)

variable_met : (s : Seen) (earlier : List Statement) (line : ℕ) (name : List ℕ) (xs : List Item) (o : Option (List ℕ)) → Holds s earlier → o ≡ entity_named xs
    → list_any (has_title s) (named_by name o) ≡ list_any (λ e. meet e (variable line name xs)) earlier
variable_met s earlier line name xs o h same =
    let ws = named_by name o in
    some_alike (has_title s) (λ w. list_any (is_title_in w) earlier) ws h.titles
    ∙ sym (some_pair (λ e w. is_title_in w e) earlier ws)
    ∙ some_alike (λ e. list_any (λ w. is_title_in w e) ws) (λ e. meet e (variable line name xs)) earlier (met_by_variable line name xs o same)

-- Statements

or_right : (a b : Bool) → true ≡ b → true ≡ (a || b)
or_right true b e = refl
or_right false b e = e

or_left : (a b : Bool) → true ≡ a → true ≡ (a || b)
or_left a b e = ap (λ c. c || b) e

-- a name clashes
pub clash_of_names : (old new : Seen) (t : Statement) → true ≡ (repeat (names_of t) || list_any (has_name old) (names_of t)) → Notes old new t true
clash_of_names old new t told = record {
  told = λ earlier h. or_left (names_clash earlier t) (own_clash t || list_any (λ e. meet e t) earlier) (told ∙ names_told old earlier t h);
  noted = λ e. absurd (true≢false e);
}

pub entity_named_again : (old new : Seen) (a : Assigned) (has : List ℕ → Bool) (ts : List (List ℕ)) (b : Bool)
    → NotesNames (has_name old) has ts b → ts ≡ names_of (entity a) → b ≡ true → Notes old new (entity a) true
entity_named_again old new a has ts b n same again =
    clash_of_names old new (entity a) (sym again ∙ n.told ∙ ap (λ us. repeat us || list_any (has_name old) us) same)

pub clash_of_titles : (old new : Seen) (a : Assigned) → true ≡ titles_clash (titles (roles_in (entity_of a))) → Notes old new (entity a) true
clash_of_titles old new a told = record {
  told = λ earlier h. or_right (names_clash earlier (entity a)) (own_clash (entity a) || list_any (λ e. meet e (entity a)) earlier) (or_left (own_clash (entity a)) (list_any (λ e. meet e (entity a)) earlier) told);
  noted = λ e. absurd (true≢false e);
}

both_false : (a b c d e : Bool) → false ≡ a → false ≡ b → e ≡ c → d ≡ c → e ≡ (a || (b || d))
both_false a b c d e f g h k = h ∙ sym k ∙ (λ i. f i || (g i || d))

-- nothing clashes but roles with variables
pub entity_notes : (old new : Seen) (a : Assigned) (b : Bool) → NotesNames (has_name old) (has_name new) (names_of (entity a)) false
    → false ≡ titles_clash (titles (roles_in (entity_of a)))
    → NotesTitles (has_variable old) (has_title old) (has_title new) (all_titles_within a.name (roles_in (entity_of a))) b
    → ((w : Within) → has_variable new w ≡ has_variable old w) → Notes old new (entity a) b
entity_notes old new a b names own met still = record {
  told = λ earlier h. both_false (names_clash earlier (entity a)) (own_clash (entity a)) _ (list_any (λ e. meet e (entity a)) earlier) b
      (names.told ∙ names_told old earlier (entity a) h) own met.told (sym (entity_met old earlier a h));
  noted = λ e earlier h. record {
    names = names_more old new earlier (entity a) h (names.noted refl);
    titles = λ w. one_more (is_title_in w) earlier (entity a) _ _ _ (met.noted e w) (h.titles w)
        (named_within a.name (roles_in (entity_of a)) (λ t. bytes_eq t w.constant) w.name);
    variables = λ w. one_more (is_variable_in w) earlier (entity a) _ _ false (still w) (h.variables w) refl;
  };
}

variable_added : (w : Within) (line : ℕ) (name : List ℕ) (xs : List Item) (o : Option (List ℕ)) → o ≡ entity_named xs
    → list_any (λ u. same_within u w) (named_by name o) ≡ is_variable_in w (variable line name xs)
variable_added w line name xs o same = by o ∙ ap (λ p. list_any (λ t. bytes_eq w.constant t) (listed p) && bytes_eq w.name name) same
  where
    by : (p : Option (List ℕ)) → list_any (λ u. same_within u w) (named_by name p) ≡ (list_any (λ t. bytes_eq w.constant t) (listed p) && bytes_eq w.name name)
    by None = refl
    by (Some t) = or_none (bytes_eq t w.constant && bytes_eq name w.name) ∙ (λ i. same_turned t w.constant i && same_turned name w.name i) ∙ ap (λ b. b && bytes_eq w.name name) (sym (or_none (bytes_eq w.constant t)))

-- its name does not come again; a role of its entity may have it
pub variable_notes : (old new : Seen) (line : ℕ) (name : List ℕ) (xs : List Item) (o : Option (List ℕ)) (b : Bool) → o ≡ entity_named xs
    → false ≡ has_name old name → Adds bytes_eq (has_name old) (has_name new) (name ∷ [])
    → b ≡ list_any (has_title old) (named_by name o) → (b ≡ false → Adds same_within (has_variable old) (has_variable new) (named_by name o))
    → ((w : Within) → has_title new w ≡ has_title old w) → Notes old new (variable line name xs) b
variable_notes old new line name xs o b same again names told noted still = record {
  told = λ earlier h. both_false (names_clash earlier (variable line name xs)) false _ (list_any (λ e. meet e (variable line name xs)) earlier) b
      (again ∙ sym (or_none (has_name old name)) ∙ names_told old earlier (variable line name xs) h) refl told (sym (variable_met old earlier line name xs o h same));
  noted = λ e earlier h. record {
    names = names_more old new earlier (variable line name xs) h names;
    titles = λ w. one_more (is_title_in w) earlier (variable line name xs) _ _ false (still w) (h.titles w) refl;
    variables = λ w. one_more (is_variable_in w) earlier (variable line name xs) _ _ _ (noted e w) (h.variables w) (variable_added w line name xs o same);
  };
}

-- a role of its entity has its name
pub variable_met_here : (old mid new : Seen) (line : ℕ) (name t : List ℕ) (xs : List Item) → Some t ≡ entity_named xs
    → false ≡ has_name old name → Adds bytes_eq (has_name old) (has_name mid) (name ∷ [])
    → true ≡ has_title old (record { constant = t; name = name }) → Notes old new (variable line name xs) true
variable_met_here old mid new line name t xs same again names told = record {
  told = λ earlier h. both_false (names_clash earlier (variable line name xs)) false _ (list_any (λ e. meet e (variable line name xs)) earlier) true
      (again ∙ sym (or_none (has_name old name)) ∙ names_told old earlier (variable line name xs) h) refl
      (told ∙ sym (or_none (has_title old (record { constant = t; name = name })))) (sym (variable_met old earlier line name xs (Some t) h same));
  noted = λ e. absurd (true≢false e);
}

-- what has no roles and is no variable meets nothing
choices_meet : (line : ℕ) (name : List ℕ) (ms : List Member) (e : Statement) → meet e (choices line name ms) ≡ false
choices_meet line name ms (entity a) = refl
choices_meet line name ms (entities a) = refl
choices_meet line name ms (choices l n xs) = refl
choices_meet line name ms (variable l n xs) = refl

entities_meet : (a : Assigned) (e : Statement) → meet e (entities a) ≡ false
entities_meet a (entity c) = refl
entities_meet a (entities c) = refl
entities_meet a (choices l n xs) = refl
entities_meet a (variable l n xs) = refl

choices_notes : (old new : Seen) (line : ℕ) (name : List ℕ) (ms : List Member)
    → false ≡ has_name old name → Adds bytes_eq (has_name old) (has_name new) (name ∷ [])
    → ((w : Within) → has_title new w ≡ has_title old w) → ((w : Within) → has_variable new w ≡ has_variable old w) → Notes old new (choices line name ms) false
choices_notes old new line name ms again names titled varied = record {
  told = λ earlier h. both_false (names_clash earlier (choices line name ms)) false false (list_any (λ e. meet e (choices line name ms)) earlier) false
      (again ∙ sym (or_none (has_name old name)) ∙ names_told old earlier (choices line name ms) h) refl refl
      (some_alike (λ e. meet e (choices line name ms)) (λ e. false) earlier (choices_meet line name ms) ∙ some_none earlier);
  noted = λ e earlier h. record {
    names = names_more old new earlier (choices line name ms) h names;
    titles = λ w. one_more (is_title_in w) earlier (choices line name ms) _ _ false (titled w) (h.titles w) refl;
    variables = λ w. one_more (is_variable_in w) earlier (choices line name ms) _ _ false (varied w) (h.variables w) refl;
  };
}

entities_notes : (s : Seen) (a : Assigned) → Notes s s (entities a) false
entities_notes s a = record {
  told = λ earlier h. both_false (names_clash earlier (entities a)) false false (list_any (λ e. meet e (entities a)) earlier) false
      (names_told s earlier (entities a) h) refl refl
      (some_alike (λ e. meet e (entities a)) (λ e. false) earlier (entities_meet a) ∙ some_none earlier);
  noted = λ e earlier h. record {
    names = names_more s s earlier (entities a) h (λ t. refl);
    titles = λ w. one_more (is_title_in w) earlier (entities a) _ _ false refl (h.titles w) refl;
    variables = λ w. one_more (is_variable_in w) earlier (entities a) _ _ false refl (h.variables w) refl;
  };
}

-- where nothing else can repeat
pub tells_of : (old new : Seen) (s : Statement) (b : Bool) (o : Option ℕ) → repeated_within s ≡ None → o ≡ (if b then Some (line_of s) else None) → Notes old new s b → TellsOne old new s o
tells_of old new s b o none same n = record {
  told = λ earlier h. same ∙ (λ i. if n.told earlier h i then Some (line_of s) else sym none i);
  noted = λ e. n.noted (by b (sym same ∙ e));
}
  where
    by : (c : Bool) → (if c then Some (line_of s) else None) ≡ None → c ≡ false
    by true e = cc
    by false e = refl

pub entities_tell : (s : Seen) (a : Assigned) → TellsOne s s (entities a) None
entities_tell s a = tells_of s s (entities a) false None refl refl (entities_notes s a)

-- the name of an Enum comes again
pub choices_clash : (old new : Seen) (line : ℕ) (name : List ℕ) (ms : List Member) → true ≡ has_name old name → TellsOne old new (choices line name ms) (Some line)
choices_clash old new line name ms again = record {
  told = λ earlier h. ap (λ b. if b then Some line else repeated_member [] ms)
      ((clash_of_names old new (choices line name ms) (again ∙ sym (or_none (has_name old name)))).told earlier h);
  noted = λ e. cc;
}

-- or that of a member may
pub choices_tell : (old new : Seen) (line : ℕ) (name : List ℕ) (ms : List Member) (o : Option ℕ)
    → false ≡ has_name old name → Adds bytes_eq (has_name old) (has_name new) (name ∷ []) → o ≡ repeated_member [] ms
    → ((w : Within) → has_title new w ≡ has_title old w) → ((w : Within) → has_variable new w ≡ has_variable old w) → TellsOne old new (choices line name ms) o
choices_tell old new line name ms o again names same titled varied =
    let n = choices_notes old new line name ms again names titled varied in record {
      told = λ earlier h. same ∙ ap (λ b. if b then Some line else repeated_member [] ms) (n.told earlier h);
      noted = λ e. n.noted refl;
    }
