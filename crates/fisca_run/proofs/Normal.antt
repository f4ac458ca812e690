-- Inputs of eternal variables have the eternal period.
use Rattle.std.proofs.Common.{◌≡◌, ℕ, zero, suc, List, [], ◌∷◌, ◌++◌, map, Bool, true, false, Option, Some, None, slice_get, refl, sym, ap, subst, ◌∙◌, if◌then◌else◌}
use Rattle.std.specs.Prelude.{⊤, Ok, Err, nat_lt, option_map, option_and_then}
use Rattle.std.specs.List.{list_any}
use Rattle.fisca_columns.specs.Faults.{fault_at}
use Rattle.fisca_columns.specs.declared.fault.RunFileKind.TheVariants as kind
use Rattle.fisca_grid.specs.declared.axes.AxesFault.TheVariants.{BadIndex}
use Rattle.fisca_inputs.proofs.Typed.{then_ok}
use Rattle.fisca_inputs.specs.Entries.{same_key}
use Rattle.fisca_inputs.specs.Faults.{at_line}
use Rattle.fisca_inputs.specs.Inputs.{and_given, key_given}
use Rattle.fisca_inputs.specs.Rules.{Rule, is_accepted, rule_of}
use Rattle.fisca_inputs.specs.declared.fault.SituationKind.TheVariants as situation
use Rattle.fisca_inputs.specs.declared.given.Given.{Given}
use Rattle.fisca_model.specs.Periods.{is_eternity, key_period}
use Rattle.fisca_groups.specs.Lookup.{count_at}
use Rattle.fisca_groups.specs.declared.entity_members.EntityMembers.{EntityMembers}
use Rattle.fisca_run_file.specs.Moved.{with_moved}
use Rattle.fisca_run_file.specs.Steps.Moved.{if_numbers, moved_at, moved_by, moved_of, moved_or_fault, period_moved, variable_moved}
use Rattle.fisca_situations.specs.Steps.Slots.{has_numbers}
use Rattle.fisca_run_file.specs.SaidAxes.{SaidAxis}
use Rattle.fisca_situations.specs.Steps.Reading.{variable_of}
use Rattle.fisca_run.proofs.Reading.{IsKept}
use Rattle.fisca_slots.proofs.Turned.{IsNormal}
use Rattle.fisca_symbols.specs.declared.tables.Tables.{Tables}
use Rattle.fisca_symbols.specs.declared.variable.Variable.{Variable}
use Rattle.fisca_time.specs.Period.{Span, eternity}
use Rattle.fisca_time.specs.declared.unit.Unit.{Unit}
use Rattle.fisca_time.specs.declared.unit.Unit.TheVariants as unit
use Rattle.fisca_model.specs.Tables.{otherwise}

key_eternal : (u : Unit) (p : Span) → is_eternity u ≡ true → key_period u p ≡ eternity
key_eternal unit.Day p h = cc
key_eternal unit.Month p h = cc
key_eternal unit.Year p h = cc
key_eternal unit.Eternity p h = refl

-- the rule of a place is that of its variable
pub rule_at : (vs : List Variable) (x : ℕ) → slice_get (map rule_of vs) x ≡ option_map rule_of (slice_get vs x)
rule_at [] x = refl
rule_at (v ∷ vs) zero = refl
rule_at (v ∷ vs) (suc x) = rule_at vs x

module _ (c : Tables) where
  abbrev IsEternal : Given → Type 0
  IsEternal g = (x : Variable) → slice_get c.variables g.variable ≡ Some x → is_eternity x.definition_period ≡ true → g.period ≡ eternity

  normal : (g : Given) → IsEternal g → IsNormal (map rule_of c.variables) g
  normal g eternal r is h = by (slice_get c.variables g.variable) refl (sym (rule_at c.variables g.variable) ∙ is)
    where
      by : (o : Option Variable) → slice_get c.variables g.variable ≡ o → option_map rule_of o ≡ Some r → g.period ≡ eternity
      by None at e = cc
      by (Some x) at e = let same : rule_of x ≡ r = cc in eternal x at (ap (λ (s : Rule). is_eternity s.unit) same ∙ h)

  abbrev pub AreNormal : List Given → Type 0
  AreNormal [] = ⊤
  AreNormal (g ∷ gs) = IsNormal (map rule_of c.variables) g × AreNormal gs

  normal_behind : (gs : List Given) (g : Given) → AreNormal gs → IsNormal (map rule_of c.variables) g → AreNormal (gs ++ g ∷ [])
  normal_behind [] g all one = (one, tt)
  normal_behind (h ∷ gs) g all one = (all.0, normal_behind gs g all.1 one)

  -- what is given

  one_given : (gs : List Given) (g : Given) (hs : List Given) → AreNormal gs → IsNormal (map rule_of c.variables) g → and_given gs g ≡ Ok hs → AreNormal hs
  one_given gs g hs all one h = by (list_any (λ h. same_key (key_given g) (key_given h)) gs) h
    where
      by : (b : Bool) → (if b then Err (at_line g.line situation.InconsistentInput) else Ok (gs ++ g ∷ [])) ≡ Ok hs → AreNormal hs
      by true e = cc
      by false e = let same : gs ++ g ∷ [] ≡ hs = cc in subst AreNormal same (normal_behind gs g all one)

  pub kept_normal : IsKept c AreNormal
  kept_normal x p line n w gs hs there period is all h =
      let g : Given = record { variable = x.variable; member = x.member; period = key_period x.declared.definition_period p; value = w; line = line } in
      one_given gs g hs all
      (normal g (λ y at eternal.
      let found : Some x.declared ≡ Some y = sym there ∙ at in
      let same : x.declared ≡ y = cc in
      key_eternal x.declared.definition_period p (ap (λ (v : Variable). is_eternity v.definition_period) same ∙ eternal))) h

  -- what axes move

  moved_eternal : (x : Variable) (o : Option Span) (p : Span) → is_eternity x.definition_period ≡ true → period_moved x o ≡ Some p → p ≡ eternity
  moved_eternal x None p eternal h = by (is_eternity x.definition_period) h
    where
      by : (b : Bool) → (if b then Some eternity else None) ≡ Some p → p ≡ eternity
      by true e = let same : eternity ≡ p = cc in sym same
      by false e = cc
  moved_eternal x (Some q) p eternal h = by (is_accepted (rule_of x) q) h
    where
      by : (b : Bool) → (if b then Some (key_period x.definition_period q) else None) ≡ Some p → p ≡ eternity
      by true e = let same : key_period x.definition_period q ≡ p = cc in sym same ∙ key_eternal x.definition_period q eternal
      by false e = cc

  at_period : (a : SaidAxis) (x : ℕ × Variable) (o : Option Span) (g : Given) → slice_get c.variables x.0 ≡ Some x.1 → moved_or_fault a x.0 (period_moved x.1 o) ≡ Ok g
      → IsNormal (map rule_of c.variables) g
  at_period a x o g there h = by (period_moved x.1 o) refl h
    where
      by : (q : Option Span) → period_moved x.1 o ≡ q → moved_or_fault a x.0 q ≡ Ok g → IsNormal (map rule_of c.variables) g
      by None is e = cc
      by (Some p) is e =
          let same : moved_at a x.0 p ≡ g = cc in
          subst (IsNormal (map rule_of c.variables)) same
          (normal (moved_at a x.0 p) (λ y at eternal.
          let found : Some x.1 ≡ Some y = sym there ∙ at in
          let one : x.1 ≡ y = cc in
          moved_eternal x.1 o p (ap (λ (v : Variable). is_eternity v.definition_period) one ∙ eternal) is))

  placed : (place : ℕ) (y : Variable) (x : ℕ × Variable) → slice_get c.variables place ≡ Some y → if_numbers place y ≡ Some x → slice_get c.variables x.0 ≡ Some x.1
  placed place y x is h = by (has_numbers y.value_type) h
    where
      some_same : (a b : ℕ × Variable) → ◌≡◌ {A = Option (ℕ × Variable)} (Some a) (Some b) → a ≡ b
      some_same a b e = cc

      by : (b : Bool) → (if b then Some (place, y) else None) ≡ Some x → slice_get c.variables x.0 ≡ Some x.1
      by true e = subst (λ (p : ℕ × Variable). slice_get c.variables p.0 ≡ Some p.1) (some_same (place, y) x e) is
      by false e = cc

  found : (place : ℕ) (o : Option Variable) (x : ℕ × Variable) → slice_get c.variables place ≡ o → option_and_then (if_numbers place) o ≡ Some x
      → slice_get c.variables x.0 ≡ Some x.1
  found place None x is h = cc
  found place (Some y) x is h = placed place y x is h

  pub named : (o : Option ℕ) (x : ℕ × Variable) → option_and_then (λ place. option_and_then (if_numbers place) (slice_get c.variables place)) o ≡ Some x
      → slice_get c.variables x.0 ≡ Some x.1
  named None x h = cc
  named (Some place) x h = found place (slice_get c.variables place) x refl h

  one_moved : (ms : List EntityMembers) (default : Option Span) (a : SaidAxis) (o : Option (ℕ × Variable)) (g : Given) → variable_moved c a.name ≡ o
      → moved_of ms default a o ≡ Ok g → IsNormal (map rule_of c.variables) g
  one_moved ms default a None g is h = cc
  one_moved ms default a (Some x) g is h = by (nat_lt a.index (count_at ms x.1.entity)) h
    where
      by : (b : Bool) → (if b then moved_or_fault a x.0 (period_moved x.1 (otherwise a.period default)) else fault_at a.line (kind.Axes BadIndex)) ≡ Ok g
          → IsNormal (map rule_of c.variables) g
      by true e = at_period a x (otherwise a.period default) g (named (variable_of c a.name) x is) e
      by false e = cc

  pub moved_normal : (ms : List EntityMembers) (default : Option Span) (gs : List Given) (axes : List SaidAxis) (moved : List Given) → AreNormal gs
      → with_moved c ms default gs axes ≡ Ok moved → AreNormal moved
  moved_normal ms default gs [] moved all h = let same : gs ≡ moved = cc in subst AreNormal same all
  moved_normal ms default gs (a ∷ axes) moved all h =
      let one = then_ok (moved_by c ms default a) (λ g. with_moved c ms default (gs ++ g ∷ []) axes) moved h in
      moved_normal ms default (gs ++ one.0 ∷ []) axes moved (normal_behind gs one.0 all (one_moved ms default a (variable_moved c a.name) one.0 refl one.1)) one.2
