-- What holds of inputs while they are read, one after another.
use Rattle.std.proofs.Common.{◌≡◌, subst, ℕ, suc, List, [], ◌∷◌, Bool, true, false, Option, Some, None, slice_get, refl, if◌then◌else◌}
use Rattle.std.specs.Prelude.{Result, Ok, Err, nat_lt, is_some}
use Rattle.fisca_inputs.proofs.Typed.{then_ok}
use Rattle.fisca_inputs.specs.Rules.{is_accepted, rule_of}
use Rattle.fisca_inputs.specs.declared.fault.SituationFault.{SituationFault}
use Rattle.fisca_inputs.specs.declared.fault.SituationKind.TheVariants as kind
use Rattle.fisca_inputs.specs.declared.given.Given.{Given}
use Rattle.fisca_model.specs.declared.value.Value.{Value}
use Rattle.fisca_model.specs.Periods.{is_eternity}
use Rattle.fisca_members.specs.Faults.{entries_in}
use Rattle.fisca_members.specs.Steps.Groups.{role_named}
use Rattle.fisca_members.specs.Steps.Members.{members_in}
use Rattle.fisca_members.specs.Persons.{most_members}
use Rattle.fisca_members.specs.Sections.{Input, one_person, sections, Section}
use Rattle.fisca_members.specs.Steps.Sections.{input_of, titles_of}
use Rattle.fisca_num.specs.Results.{and_then}
use Rattle.fisca_run.proofs.Said.{HasPeriod, text_period}
use Rattle.fisca_situations.specs.Reading.{Place}
use Rattle.fisca_situations.specs.Steps.Reading.{with_value, fault_at, given_of, value_given, read_given, dated_given, all_dated, at_default, variable_given, has_variable, variable_at, variable_of, named_given, entry_given, member_given, member_below, members_given, section_by, section_of, section_given, sections_given, inputs_given}
use Rattle.fisca_situations.specs.Steps.Situations.{told, reading_in, reading_of}
use Rattle.fisca_situations.specs.Values.{said}
use Rattle.fisca_situations.specs.declared.reading.Reading.{Reading}
use Rattle.fisca_situations.specs.declared.said.Said.TheVariants.{Input as input, Unused as unused, Unreadable as unreadable}
use Rattle.fisca_situations.specs.declared.said.Said.{Said}
use Rattle.fisca_symbols.specs.Known.{tables as known}
use Rattle.fisca_symbols.specs.declared.tables.Tables.{Tables}
use Rattle.fisca_symbols.specs.declared.variable.Variable.{Variable}
use Rattle.fisca_time.specs.Period.{Span, eternity, is_period}
use Rattle.fisca_time.specs.PeriodText.{period_of_text}
use Rattle.fisca_time.specs.declared.fault.TimeFault.{TimeFault}
use Rattle.fisca_model.specs.Tables.{Entity, Role}
use Rattle.fisca_yaml.specs.Node.{Node, null, scalar, list, map as mapping, Entries, no_entries, entry}

-- what one more value keeps, which is said of a variable that there is and for a period
abbrev pub IsKept : Tables → (List Given → Type 0) → Type 0
IsKept c P =
    (x : Place) (p : Span) (line : ℕ) (n : Node) (w : Value) (gs hs : List Given) → slice_get c.variables x.variable ≡ Some x.declared → is_period p ≡ true
    → said (known c) x.declared.value_type n ≡ input w → P gs → with_value x gs line p w ≡ Ok hs → P hs

module _ (c : Tables) (default : Option Span) (read : HasPeriod default) (P : List Given → Type 0) (kept : IsKept c P) where
  -- it holds after each outcome
  abbrev Holds : Result (List Given) SituationFault → Type 0
  Holds r = (hs : List Given) → r ≡ Ok hs → P hs

  same : (gs hs : List Given) → P gs → ◌≡◌ {A = Result (List Given) SituationFault} (Ok gs) (Ok hs) → P hs
  same gs hs ps h = let is : gs ≡ hs = cc in subst P is ps

  module _ (x : Place) (there : slice_get c.variables x.variable ≡ Some x.declared) where
    given_kept : (p : Span) (line : ℕ) (s : Said) (gs : List Given) (n : Node) → is_period p ≡ true → said (known c) x.declared.value_type n ≡ s → P gs
        → Holds (given_of x p line s gs n)
    given_kept p line (input w) gs n period is ps hs h = kept x p line n w gs hs there period is ps h
    given_kept p line unused gs n period is ps hs h = same gs hs ps h
    given_kept p line unreadable gs n period is ps hs h = cc

    value_kept : (gs : List Given) (line : ℕ) (p : Span) (n : Node) → is_period p ≡ true → P gs → Holds (value_given c x gs line p n)
    unfolding value_given
    value_kept gs line p n period ps hs h = by (is_accepted (rule_of x.declared) p) h
      where
        by : (b : Bool) → (if b then given_of x p line (said (known c) x.declared.value_type n) gs n else fault_at line kind.PeriodMismatch) ≡ Ok hs → P hs
        by true e = given_kept p line (said (known c) x.declared.value_type n) gs n period refl ps hs e
        by false e = cc

    read_kept : (gs : List Given) (line : ℕ) (n : Node) (r : Result Span TimeFault) → ((p : Span) → r ≡ Ok p → is_period p ≡ true) → P gs
        → Holds (read_given c x gs line n r)
    read_kept gs line n (Ok p) periods ps hs h = value_kept gs line p n (periods p refl) ps hs h
    read_kept gs line n (Err e) periods ps hs h = cc

    dated_kept : (gs : List Given) (key : List ℕ) (line : ℕ) (n : Node) → P gs → Holds (dated_given c x gs key line n)
    unfolding dated_given
    dated_kept gs key line null ps hs h = same gs hs ps h
    dated_kept gs key line (scalar t q l) ps hs h = read_kept gs line (scalar t q l) (period_of_text key) (text_period key) ps hs h
    dated_kept gs key line (list is) ps hs h = read_kept gs line (list is) (period_of_text key) (text_period key) ps hs h
    dated_kept gs key line (mapping es) ps hs h = read_kept gs line (mapping es) (period_of_text key) (text_period key) ps hs h

    all_dated_kept : (gs : List Given) (es : Entries) → P gs → Holds (all_dated c x gs es)
    all_dated_kept gs no_entries ps hs h = same gs hs ps h
    all_dated_kept gs (entry key line n es) ps hs h =
        let one = then_ok (dated_given c x gs key line n) (λ js. all_dated c x js es) hs h in
        all_dated_kept one.0 es (dated_kept gs key line n ps one.0 one.1) hs one.2

    default_kept : (gs : List Given) (line : ℕ) (n : Node) (o : Option Span) → HasPeriod o → P gs → Holds (at_default c x gs line n o)
    default_kept gs line n None periods ps hs h = by (is_eternity x.declared.definition_period) h
      where
        by : (b : Bool) → (if b then value_given c x gs line eternity n else fault_at line kind.PeriodMismatch) ≡ Ok hs → P hs
        by true e = value_kept gs line eternity n refl ps hs e
        by false e = cc
    default_kept gs line n (Some p) periods ps hs h = value_kept gs line p n (periods p refl) ps hs h

    variable_kept : (gs : List Given) (line : ℕ) (n : Node) → P gs → Holds (variable_given c default x gs line n)
    unfolding variable_given
    variable_kept gs line null ps hs h = same gs hs ps h
    variable_kept gs line (scalar t q l) ps hs h = default_kept gs line (scalar t q l) default read ps hs h
    variable_kept gs line (list is) ps hs h = default_kept gs line (list is) default read ps hs h
    variable_kept gs line (mapping es) ps hs h = all_dated_kept gs es ps hs h

  at_kept : (entity : Option ℕ) (member : ℕ) (gs : List Given) (line : ℕ) (n : Node) (place : ℕ) (o : Option Variable) → slice_get c.variables place ≡ o → P gs
      → Holds (variable_at c default entity member gs line n place o)
  at_kept entity member gs line n place None is ps hs h = cc
  at_kept entity member gs line n place (Some x) is ps hs h = by (has_variable entity x) h
    where
      by : (b : Bool)
          → (if b then variable_given c default (record { variable = place; declared = x; member = member }) gs line n
          else fault_at line kind.UnknownVariable) ≡ Ok hs → P hs
      by true e = variable_kept (record { variable = place; declared = x; member = member }) is gs line n ps hs e
      by false e = cc

  named_kept : (entity : Option ℕ) (member : ℕ) (gs : List Given) (line : ℕ) (n : Node) (o : Option ℕ) → P gs
      → Holds (named_given c default entity member gs line n o)
  unfolding named_given
  named_kept entity member gs line n None ps hs h = cc
  named_kept entity member gs line n (Some place) ps hs h = at_kept entity member gs line n place (slice_get c.variables place) refl ps hs h

  entry_kept : (entity : Option ℕ) (member : ℕ) (rs : List Role) (gs : List Given) (key : List ℕ) (line : ℕ) (n : Node) → P gs
      → Holds (entry_given c default entity member rs gs key line n)
  unfolding entry_given
  entry_kept entity member rs gs key line n ps hs h = by (is_some (role_named rs key)) h
    where
      by : (b : Bool) → (if b then Ok gs else named_given c default entity member gs line n (variable_of c key)) ≡ Ok hs → P hs
      by true e = same gs hs ps e
      by false e = named_kept entity member gs line n (variable_of c key) ps hs e

  member_kept : (entity : Option ℕ) (member : ℕ) (rs : List Role) (gs : List Given) (es : Entries) → P gs
      → Holds (member_given c default entity member rs gs es)
  member_kept entity member rs gs no_entries ps hs h = same gs hs ps h
  member_kept entity member rs gs (entry key line n es) ps hs h =
      let one = then_ok (entry_given c default entity member rs gs key line n) (λ js. member_given c default entity member rs js es) hs h in
      member_kept entity member rs one.0 es (entry_kept entity member rs gs key line n ps one.0 one.1) hs one.2

  below_kept : (entity : ℕ) (rs : List Role) (member : ℕ) (gs : List Given) (line : ℕ) (es : Entries) → P gs
      → Holds (member_below c default entity rs member gs line es)
  unfolding member_below
  below_kept entity rs member gs line es ps hs h = by (nat_lt member most_members) h
    where
      by : (b : Bool) → (if b then member_given c default (Some entity) member rs gs es else fault_at line kind.TooMany) ≡ Ok hs → P hs
      by true e = member_kept (Some entity) member rs gs es ps hs e
      by false e = cc

  members_kept : (entity : ℕ) (rs : List Role) (member : ℕ) (gs : List Given) (es : Entries) → P gs → Holds (members_given c default entity rs member gs es)
  members_kept entity rs member gs no_entries ps hs h = same gs hs ps h
  members_kept entity rs member gs (entry name line n es) ps hs h =
      let one = then_ok (member_below c default entity rs member gs line (entries_in n)) (λ js. members_given c default entity rs (suc member) js es) hs h in
      members_kept entity rs (suc member) one.0 es (below_kept entity rs member gs line (entries_in n) ps one.0 one.1) hs one.2

  by_kept : (gs : List Given) (s : Section) (rs : List Role) → P gs → Holds (section_by c default gs s rs)
  unfolding section_by
  by_kept gs s rs ps hs h = by s.named.is_plural h
    where
      by : (b : Bool)
          → (if b then members_given c default s.named.entity rs 0 gs (entries_in s.value) else member_below c default s.named.entity rs 0 gs s.line
          (entries_in s.value)) ≡ Ok hs
          → P hs
      by true e = members_kept s.named.entity rs 0 gs (entries_in s.value) ps hs e
      by false e = below_kept s.named.entity rs 0 gs s.line (entries_in s.value) ps hs e

  of_kept : (gs : List Given) (s : Section) (o : Option Entity) → P gs → Holds (section_of c default gs s o)
  of_kept gs s None ps hs h = same gs hs ps h
  of_kept gs s (Some e) ps hs h = by_kept gs s e.roles ps hs h

  section_kept : (gs : List Given) (s : Section) → P gs → Holds (section_given c default gs s)
  unfolding section_given
  section_kept gs s ps = of_kept gs s (slice_get (known c).entities s.named.entity) ps

  sections_kept : (gs : List Given) (ss : List Section) → P gs → Holds (sections_given c default gs ss)
  sections_kept gs [] ps hs h = same gs hs ps h
  sections_kept gs (s ∷ ss) ps hs h =
      let one = then_ok (section_given c default gs s) (λ js. sections_given c default js ss) hs h in
      sections_kept one.0 ss (section_kept gs s ps one.0 one.1) hs one.2

  given_inputs_kept : (i : Input) → P [] → Holds (inputs_given c default i)
  unfolding inputs_given
  given_inputs_kept (one_person es) ps = member_kept None 0 [] [] es ps
  given_inputs_kept (sections ss) ps = sections_kept [] ss ps

  reading_kept : (line : ℕ) (i : Input) (r : Reading) → P [] → reading_in c default line i ≡ Ok r → P r.given
  unfolding reading_in
  reading_kept line i r none h =
      let one =
      then_ok (told (members_in (known c).entities line i)) (λ ms. and_then (inputs_given c default i) (λ gs. Ok (record { members = ms; given = gs }))) r h in
      let more = then_ok (inputs_given c default i) (λ gs. Ok (record { members = one.0; given = gs })) r one.2 in
      let is : record { members = one.0; given = more.0 } ≡ r = cc in
      subst (λ (x : Reading). P x.given) is (given_inputs_kept i none more.0 more.1)

  pub all_kept : (line : ℕ) (n : Node) (r : Reading) → P [] → reading_of c default line n ≡ Ok r → P r.given
  unfolding reading_of
  all_kept line n r none h =
      let one = then_ok (told (input_of (titles_of (known c).entities) line n)) (reading_in c default line) r h in
      reading_kept line one.0 r none one.2
