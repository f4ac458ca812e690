-- What is given is of its variable's type.
use Rattle.std.proofs.Common.{◌≡◌, ap, sym, subst, ◌∙◌, ℕ, zero, suc, ◌+◌, ◌<◌, List, [], ◌∷◌, ◌++◌, map, length, Bool, true, false, Option, Some, None, slice_get, refl, if◌then◌else◌, arith}
use Rattle.std.specs.Prelude.{Result, Ok, Err, nat_lt, is_some, option_map, option_and_then}
use Rattle.std.specs.List.{list_any, position_from}
use Rattle.std.specs.Str.{bytes_eq}
use Rattle.std.proofs.lemmas.Bool.{lt-ltb}
use Rattle.fisca_inputs.proofs.Typed.{then_ok, inputs_typed, input_typed}
use Rattle.fisca_inputs.specs.Entries.{same_key, value_at}
use Rattle.fisca_inputs.specs.Faults.{at_line}
use Rattle.fisca_inputs.specs.Inputs.{and_given, key_given, inputs_of}
use Rattle.fisca_inputs.specs.Rules.{is_accepted, rule_of}
use Rattle.fisca_model.specs.Seen.{value_seen}
use Rattle.fisca_inputs.specs.Typed.{is_typed, IsValueOf, GivensTyped, DefaultsTyped}
use Rattle.fisca_inputs.specs.declared.fault.SituationFault.{SituationFault}
use Rattle.fisca_inputs.specs.declared.fault.SituationKind.TheVariants as kind
use Rattle.fisca_inputs.specs.declared.given.Given.{Given}
use Rattle.fisca_model.specs.declared.value.Value.{Value}
use Rattle.fisca_model.specs.declared.value.Value.TheVariants as v
use Rattle.fisca_model.specs.declared.key.Key.{Key}
use Rattle.fisca_model.specs.Periods.{is_eternity, key_period}
use Rattle.fisca_model.specs.Tables.{type_in, variable_type}
use Rattle.fisca_members.specs.Faults.{entries_in}
use Rattle.fisca_members.specs.Steps.Groups.{role_named}
use Rattle.fisca_groups.specs.Lookup.{counts_of}
use Rattle.fisca_members.specs.Steps.Members.{members_in}
use Rattle.fisca_members.specs.Persons.{most_members}
use Rattle.fisca_members.specs.Sections.{Input, one_person, sections, Section}
use Rattle.fisca_members.specs.Steps.Sections.{input_of, titles_of}
use Rattle.fisca_num.specs.Number.{Number}
use Rattle.fisca_num.specs.Results.{and_then}
use Rattle.fisca_symbols.specs.Known.{tables as known}
use Rattle.fisca_symbols.specs.KnownVariables.{value_type, variable}
use Rattle.fisca_symbols.specs.declared.tables.Tables.{Tables}
use Rattle.fisca_symbols.specs.declared.variable.DeclaredType.{DeclaredType}
use Rattle.fisca_symbols.specs.declared.variable.DeclaredType.TheVariants as type
use Rattle.fisca_symbols.specs.declared.variable.Variable.{Variable}
use Rattle.fisca_time.specs.Period.{Span, eternity}
use Rattle.fisca_time.specs.PeriodText.{period_of_text}
use Rattle.fisca_time.specs.declared.fault.TimeFault.{TimeFault}
use Rattle.fisca_model.specs.Tables.{Entity, Role, Tables as Known, member_named, members_at}
use Rattle.fisca_model.specs.declared.value_type.ValueType.TheVariants as vt
use Rattle.fisca_yaml.specs.Steps.Find.{as_number, as_text}
use Rattle.fisca_yaml.specs.Node.{Node, null, scalar, list, map as mapping, Entries, no_entries, entry}
use Rattle.fisca_situations.specs.Reading.{Place}
use Rattle.fisca_situations.specs.Steps.Reading.{fault_at, given_of, value_given, read_given, dated_given, all_dated, at_default, variable_given, has_variable, variable_at, variable_of, named_given, entry_given, member_given, member_below, members_given, section_by, section_of, section_given, sections_given, inputs_given}
use Rattle.fisca_situations.specs.Situations.{Situation}
use Rattle.fisca_situations.specs.Steps.Situations.{told, reading_in, reading_of, situation_by, situation_of}
use Rattle.fisca_situations.specs.Values.{said, day_in}
use Rattle.fisca_situations.specs.Steps.Values.{input_or, unused_if, int_in, bool_in, member_in}
use Rattle.fisca_situations.specs.declared.reading.Reading.{Reading}
use Rattle.fisca_situations.specs.declared.said.Said.{Said}
use Rattle.fisca_situations.specs.declared.said.Said.TheVariants.{Input as input, Unused as unused, Unreadable as unreadable}

-- Places in lists

position_inside : {X : Type 0} (test : X → Bool) (i : ℕ) (xs : List X) (e : ℕ) → position_from test i xs ≡ Some e → e < i + length xs
position_inside test i [] e h = cc
position_inside test i (x ∷ xs) e h = by (test x) h (λ k. position_inside test (i + 1) xs e k)
  where
    by : (b : Bool) → (if b then Some i else position_from test (i + 1) xs) ≡ Some e → (position_from test (i + 1) xs ≡ Some e → e < (i + 1) + length xs) → e < i + suc (length xs)
    by true q more = let same : i ≡ e = cc in omega (arith, same)
    by false q more = let later = more q in omega (arith, later)

pub known_type : (vs : List Variable) (i : ℕ) (x : Variable) → slice_get vs i ≡ Some x → type_in (slice_get (map variable vs) i) ≡ value_type x.value_type
known_type [] i x h = cc
known_type (w ∷ vs) zero x h = let same : w ≡ x = cc in ap (λ y. value_type y.value_type) same
known_type (w ∷ vs) (suc i) x h = known_type vs i x h

-- Values

module _ (c : Known) where
  of_number : (o : Option Number) (w : Value) → input_or (option_map v.Number o) ≡ input w → is_typed c (Some vt.Number) (value_seen w) ≡ true
  of_number None w h = cc
  of_number (Some n) w h = let same : v.Number n ≡ w = cc in subst (λ x. is_typed c (Some vt.Number) (value_seen x) ≡ true) same refl

  of_bool : (o : Option Bool) (w : Value) → input_or (option_map v.Bool o) ≡ input w → is_typed c (Some vt.Bool) (value_seen w) ≡ true
  of_bool None w h = cc
  of_bool (Some b) w h = let same : v.Bool b ≡ w = cc in subst (λ x. is_typed c (Some vt.Bool) (value_seen x) ≡ true) same refl

  member_inside : (e : ℕ) (o : Option (List ℕ)) (i : ℕ) → option_and_then (member_named c e) o ≡ Some i → nat_lt i (length (members_at c e)) ≡ true
  member_inside e None i h = cc
  member_inside e (Some t) i h = let inside = position_inside (λ m. bytes_eq m t) 0 (members_at c e) i h in lt-ltb i (length (members_at c e)) (omega (arith, inside))

  of_member : (e : ℕ) (o : Option ℕ) → ((i : ℕ) → o ≡ Some i → nat_lt i (length (members_at c e)) ≡ true) → (w : Value) → input_or (option_map v.Member o) ≡ input w
      → is_typed c (Some (vt.Enum e)) (value_seen w) ≡ true
  of_member e None inside w h = cc
  of_member e (Some i) inside w h = let same : v.Member i ≡ w = cc in subst (λ x. is_typed c (Some (vt.Enum e)) (value_seen x) ≡ true) same (inside i refl)

  no_input : (b : Bool) (w : Value) → unused_if b ≡ input w → is_typed c None (value_seen w) ≡ true
  no_input true w h = cc
  no_input false w h = cc

  said_typed : (d : DeclaredType) (n : Node) (w : Value) → said c d n ≡ input w → is_typed c (value_type d) (value_seen w) ≡ true
  said_typed type.Float n w h = of_number (as_number n) w h
  said_typed type.Int n w h = of_number (int_in n) w h
  said_typed type.Bool n w h = of_bool (bool_in n) w h
  said_typed type.Date n w h = no_input (day_in n) w h
  said_typed type.Text n w h = no_input (is_some (as_text n)) w h
  said_typed (type.Enum e) n w h = of_member e (member_in c e n) (member_inside e (as_text n)) w h

  behind : (gs : List Given) (g : Given) → GivensTyped c gs → IsValueOf c g.variable (value_seen g.value) → GivensTyped c (gs ++ g ∷ [])
  behind [] g ts t = (t, tt)
  behind (h ∷ gs) g ts t = (ts.0, behind gs g ts.1 t)

  and_typed : (gs : List Given) (g : Given) (hs : List Given) → GivensTyped c gs → IsValueOf c g.variable (value_seen g.value) → and_given gs g ≡ Ok hs → GivensTyped c hs
  and_typed gs g hs ts t h = by (list_any (λ k. same_key (key_given g) (key_given k)) gs) h
    where
      by : (b : Bool) → (if b then Err (at_line g.line kind.InconsistentInput) else Ok (gs ++ g ∷ [])) ≡ Ok hs → GivensTyped c hs
      by true e = cc
      by false e = let same : gs ++ g ∷ [] ≡ hs = cc in subst (GivensTyped c) same (behind gs g ts t)

  kept : (gs hs : List Given) → GivensTyped c gs → ◌≡◌ {A = Result (List Given) SituationFault} (Ok gs) (Ok hs) → GivensTyped c hs
  kept gs hs ts h = let same : gs ≡ hs = cc in subst (GivensTyped c) same ts

-- Reading

module _ (c : Tables) (default : Option Span) where
  abbrev AllTyped : List Given → Type 0
  AllTyped gs = GivensTyped (known c) gs

  -- each outcome is typed
  abbrev Typed : Result (List Given) SituationFault → Type 0
  Typed r = (hs : List Given) → r ≡ Ok hs → AllTyped hs

  module _ (x : Place) (is_known : variable_type (known c) x.variable ≡ value_type x.declared.value_type) where
    given_typed : (p : Span) (line : ℕ) (s : Said) (gs : List Given) (n : Node) → ((w : Value) → s ≡ input w → is_typed (known c) (value_type x.declared.value_type) (value_seen w) ≡ true)
        → AllTyped gs → Typed (given_of x p line s gs n)
    given_typed p line (input w) gs n t ts hs h =
        and_typed (known c) gs (record { variable = x.variable; member = x.member; period = key_period x.declared.definition_period p; value = w; line = line }) hs ts
        (subst (λ o. is_typed (known c) o (value_seen w) ≡ true) (sym is_known) (t w refl)) h
    given_typed p line unused gs n t ts hs h = kept (known c) gs hs ts h
    given_typed p line unreadable gs n t ts hs h = cc

    value_typed : (gs : List Given) (line : ℕ) (p : Span) (n : Node) → AllTyped gs → Typed (value_given c x gs line p n)
    unfolding value_given
    value_typed gs line p n ts hs h = by (is_accepted (rule_of x.declared) p) h
      where
        by : (b : Bool) → (if b then given_of x p line (said (known c) x.declared.value_type n) gs n else fault_at line kind.PeriodMismatch) ≡ Ok hs → AllTyped hs
        by true e = given_typed p line (said (known c) x.declared.value_type n) gs n (said_typed (known c) x.declared.value_type n) ts hs e
        by false e = cc

    read_typed : (gs : List Given) (line : ℕ) (n : Node) (r : Result Span TimeFault) → AllTyped gs → Typed (read_given c x gs line n r)
    read_typed gs line n (Ok p) ts hs h = value_typed gs line p n ts hs h
    read_typed gs line n (Err e) ts hs h = cc

    dated_typed : (gs : List Given) (key : List ℕ) (line : ℕ) (n : Node) → AllTyped gs → Typed (dated_given c x gs key line n)
    unfolding dated_given
    dated_typed gs key line null ts hs h = kept (known c) gs hs ts h
    dated_typed gs key line (scalar t q l) ts hs h = read_typed gs line (scalar t q l) (period_of_text key) ts hs h
    dated_typed gs key line (list is) ts hs h = read_typed gs line (list is) (period_of_text key) ts hs h
    dated_typed gs key line (mapping es) ts hs h = read_typed gs line (mapping es) (period_of_text key) ts hs h

    all_dated_typed : (gs : List Given) (es : Entries) → AllTyped gs → Typed (all_dated c x gs es)
    all_dated_typed gs no_entries ts hs h = kept (known c) gs hs ts h
    all_dated_typed gs (entry key line n es) ts hs h =
        let one = then_ok (dated_given c x gs key line n) (λ js. all_dated c x js es) hs h in
        all_dated_typed one.0 es (dated_typed gs key line n ts one.0 one.1) hs one.2

    default_typed : (gs : List Given) (line : ℕ) (n : Node) (o : Option Span) → AllTyped gs → Typed (at_default c x gs line n o)
    default_typed gs line n None ts hs h = by (is_eternity x.declared.definition_period) h
      where
        by : (b : Bool) → (if b then value_given c x gs line eternity n else fault_at line kind.PeriodMismatch) ≡ Ok hs → AllTyped hs
        by true e = value_typed gs line eternity n ts hs e
        by false e = cc
    default_typed gs line n (Some p) ts hs h = value_typed gs line p n ts hs h

    variable_typed : (gs : List Given) (line : ℕ) (n : Node) → AllTyped gs → Typed (variable_given c default x gs line n)
    unfolding variable_given
    variable_typed gs line null ts hs h = kept (known c) gs hs ts h
    variable_typed gs line (scalar t q l) ts hs h = default_typed gs line (scalar t q l) default ts hs h
    variable_typed gs line (list is) ts hs h = default_typed gs line (list is) default ts hs h
    variable_typed gs line (mapping es) ts hs h = all_dated_typed gs es ts hs h

  at_typed : (entity : Option ℕ) (member : ℕ) (gs : List Given) (line : ℕ) (n : Node) (place : ℕ) (o : Option Variable) → slice_get c.variables place ≡ o → AllTyped gs
      → Typed (variable_at c default entity member gs line n place o)
  at_typed entity member gs line n place None is ts hs h = cc
  at_typed entity member gs line n place (Some x) is ts hs h = by (has_variable entity x) h
    where
      by : (b : Bool)
          → (if b then variable_given c default (record { variable = place; declared = x; member = member }) gs line n else fault_at line kind.UnknownVariable) ≡ Ok hs
          → AllTyped hs
      by true e = variable_typed (record { variable = place; declared = x; member = member }) (known_type c.variables place x is) gs line n ts hs e
      by false e = cc

  named_typed : (entity : Option ℕ) (member : ℕ) (gs : List Given) (line : ℕ) (n : Node) (o : Option ℕ) → AllTyped gs → Typed (named_given c default entity member gs line n o)
  unfolding named_given
  named_typed entity member gs line n None ts hs h = cc
  named_typed entity member gs line n (Some place) ts hs h = at_typed entity member gs line n place (slice_get c.variables place) refl ts hs h

  entry_typed : (entity : Option ℕ) (member : ℕ) (rs : List Role) (gs : List Given) (key : List ℕ) (line : ℕ) (n : Node) → AllTyped gs
      → Typed (entry_given c default entity member rs gs key line n)
  unfolding entry_given
  entry_typed entity member rs gs key line n ts hs h = by (is_some (role_named rs key)) h
    where
      by : (b : Bool) → (if b then Ok gs else named_given c default entity member gs line n (variable_of c key)) ≡ Ok hs → AllTyped hs
      by true e = kept (known c) gs hs ts e
      by false e = named_typed entity member gs line n (variable_of c key) ts hs e

  member_typed : (entity : Option ℕ) (member : ℕ) (rs : List Role) (gs : List Given) (es : Entries) → AllTyped gs → Typed (member_given c default entity member rs gs es)
  member_typed entity member rs gs no_entries ts hs h = kept (known c) gs hs ts h
  member_typed entity member rs gs (entry key line n es) ts hs h =
      let one = then_ok (entry_given c default entity member rs gs key line n) (λ js. member_given c default entity member rs js es) hs h in
      member_typed entity member rs one.0 es (entry_typed entity member rs gs key line n ts one.0 one.1) hs one.2

  below_typed : (entity : ℕ) (rs : List Role) (member : ℕ) (gs : List Given) (line : ℕ) (es : Entries) → AllTyped gs → Typed (member_below c default entity rs member gs line es)
  unfolding member_below
  below_typed entity rs member gs line es ts hs h = by (nat_lt member most_members) h
    where
      by : (b : Bool) → (if b then member_given c default (Some entity) member rs gs es else fault_at line kind.TooMany) ≡ Ok hs → AllTyped hs
      by true e = member_typed (Some entity) member rs gs es ts hs e
      by false e = cc

  members_typed : (entity : ℕ) (rs : List Role) (member : ℕ) (gs : List Given) (es : Entries) → AllTyped gs → Typed (members_given c default entity rs member gs es)
  members_typed entity rs member gs no_entries ts hs h = kept (known c) gs hs ts h
  members_typed entity rs member gs (entry name line n es) ts hs h =
      let one = then_ok (member_below c default entity rs member gs line (entries_in n)) (λ js. members_given c default entity rs (suc member) js es) hs h in
      members_typed entity rs (suc member) one.0 es (below_typed entity rs member gs line (entries_in n) ts one.0 one.1) hs one.2

  by_typed : (gs : List Given) (s : Section) (rs : List Role) → AllTyped gs → Typed (section_by c default gs s rs)
  unfolding section_by
  by_typed gs s rs ts hs h = by s.named.is_plural h
    where
      by : (b : Bool)
          → (if b then members_given c default s.named.entity rs 0 gs (entries_in s.value) else member_below c default s.named.entity rs 0 gs s.line (entries_in s.value)) ≡ Ok hs
          → AllTyped hs
      by true e = members_typed s.named.entity rs 0 gs (entries_in s.value) ts hs e
      by false e = below_typed s.named.entity rs 0 gs s.line (entries_in s.value) ts hs e

  of_typed : (gs : List Given) (s : Section) (o : Option Entity) → AllTyped gs → Typed (section_of c default gs s o)
  of_typed gs s None ts hs h = kept (known c) gs hs ts h
  of_typed gs s (Some e) ts hs h = by_typed gs s e.roles ts hs h

  section_typed : (gs : List Given) (s : Section) → AllTyped gs → Typed (section_given c default gs s)
  unfolding section_given
  section_typed gs s ts = of_typed gs s (slice_get (known c).entities s.named.entity) ts

  sections_typed : (gs : List Given) (ss : List Section) → AllTyped gs → Typed (sections_given c default gs ss)
  sections_typed gs [] ts hs h = kept (known c) gs hs ts h
  sections_typed gs (s ∷ ss) ts hs h =
      let one = then_ok (section_given c default gs s) (λ js. sections_given c default js ss) hs h in
      sections_typed one.0 ss (section_typed gs s ts one.0 one.1) hs one.2

  given_inputs_typed : (i : Input) → Typed (inputs_given c default i)
  unfolding inputs_given
  given_inputs_typed (one_person es) = member_typed None 0 [] [] es tt
  given_inputs_typed (sections ss) = sections_typed [] ss tt

  reading_typed : (line : ℕ) (i : Input) (r : Reading) → reading_in c default line i ≡ Ok r → AllTyped r.given
  unfolding reading_in
  reading_typed line i r h =
      let one = then_ok (told (members_in (known c).entities line i)) (λ ms. and_then (inputs_given c default i) (λ gs. Ok (record { members = ms; given = gs }))) r h in
      let more = then_ok (inputs_given c default i) (λ gs. Ok (record { members = one.0; given = gs })) r one.2 in
      let same : record { members = one.0; given = more.0 } ≡ r = cc in
      subst (λ (x : Reading). AllTyped x.given) same (given_inputs_typed i more.0 more.1)

  -- whatever is read is of its variable's type
  pub read_all_typed : (line : ℕ) (n : Node) (r : Reading) → reading_of c default line n ≡ Ok r → AllTyped r.given
  unfolding reading_of
  read_all_typed line n r h =
      let one = then_ok (told (input_of (titles_of (known c).entities) line n)) (reading_in c default line) r h in
      reading_typed line one.0 r one.2

pub situation_typed : (c : Tables) (default : Option Span) (line : ℕ) (n : Node) (s : Situation) → DefaultsTyped (known c) (map rule_of c.variables)
    → situation_of c default line n ≡ Ok s → (k : Key) (w : Value) → value_at s.inputs k ≡ Some w → IsValueOf (known c) k.variable (value_seen w)
situation_typed c default line n s defaults h k w found =
    let read = then_ok (reading_of c default line n) (situation_by c) s h in
    let shared = then_ok (inputs_of (map rule_of c.variables) (counts_of read.0.members) read.0.given) (λ es. Ok (record { members = read.0.members; inputs = es })) s read.2 in
    let same : record { members = read.0.members; inputs = shared.0 } ≡ s = cc in
    let typed = inputs_typed (known c) (map rule_of c.variables) (counts_of read.0.members) read.0.given defaults shared.0 (read_all_typed c default line n read.0 read.1) shared.1 in
    input_typed (known c) shared.0 typed k w (ap (λ (x : Situation). value_at x.inputs k) same ∙ found)
