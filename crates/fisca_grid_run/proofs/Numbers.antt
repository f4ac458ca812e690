-- What axes move has numbers.
use Rattle.std.proofs.Common.{◌≡◌, ℕ, List, [], ◌∷◌, ◌++◌, Bool, true, false, Option, Some, None, slice_get, refl, sym, ap, subst, ◌∙◌, if◌then◌else◌}
use Rattle.std.specs.Prelude.{⊤, Ok, nat_lt, option_and_then}
use Rattle.fisca_columns.specs.Faults.{fault_at}
use Rattle.fisca_columns.specs.declared.fault.RunFileKind.TheVariants as kind
use Rattle.fisca_grid.specs.declared.axes.AxesFault.TheVariants.{BadIndex}
use Rattle.fisca_inputs.proofs.Typed.{then_ok}
use Rattle.fisca_inputs.specs.Entries.{same_key}
use Rattle.fisca_inputs.specs.Inputs.{key_given}
use Rattle.fisca_model.specs.Seen.{value_seen}
use Rattle.fisca_inputs.specs.Typed.{GivensTyped, IsValueOf, is_typed}
use Rattle.fisca_inputs.specs.declared.given.Given.{Given}
use Rattle.fisca_model.specs.Values as meaning
use Rattle.fisca_model.specs.Tables.{variable_type}
use Rattle.fisca_groups.specs.Lookup.{count_at}
use Rattle.fisca_groups.specs.declared.entity_members.EntityMembers.{EntityMembers}
use Rattle.fisca_num.specs.Number.{Number}
use Rattle.fisca_situations.proofs.Typed.{known_type}
use Rattle.fisca_run_file.specs.Moved.{with_moved}
use Rattle.fisca_run_file.specs.Steps.Moved.{if_numbers, moved_at, moved_by, moved_of, moved_or_fault, period_moved, variable_moved}
use Rattle.fisca_situations.specs.AllAxes.{put_all_in}
use Rattle.fisca_situations.specs.Steps.Slots.{has_numbers}
use Rattle.fisca_situations.specs.Steps.Axes.{put_in}
use Rattle.fisca_run_file.specs.Steps.Positions.{cut_by, with_values}
use Rattle.fisca_run_file.specs.SaidAxes.{SaidAxis}
use Rattle.fisca_situations.specs.Steps.Reading.{variable_of}
use Rattle.fisca_symbols.specs.Known.{tables as known}
use Rattle.fisca_symbols.specs.KnownVariables.{value_type}
use Rattle.fisca_symbols.specs.declared.tables.Tables.{Tables}
use Rattle.fisca_symbols.specs.declared.variable.DeclaredType.{DeclaredType}
use Rattle.fisca_symbols.specs.declared.variable.DeclaredType.TheVariants as type
use Rattle.fisca_symbols.specs.declared.variable.Variable.{Variable}
use Rattle.fisca_time.specs.Period.{Span}
use Rattle.fisca_model.specs.Tables.{otherwise}
use Rattle.fisca_model.specs.declared.value_type.ValueType.TheVariants as vt

module _ (c : Tables) where
  abbrev HasNumbers : ℕ → Type 0
  HasNumbers x = variable_type (known c) x ≡ Some vt.Number

  abbrev pub AllNumbers : List Given → Type 0
  AllNumbers [] = ⊤
  AllNumbers (g ∷ gs) = HasNumbers g.variable × AllNumbers gs

  of_numbers : (d : DeclaredType) → has_numbers d ≡ true → value_type d ≡ Some vt.Number
  of_numbers type.Float h = refl
  of_numbers type.Int h = refl
  of_numbers type.Bool h = cc
  of_numbers type.Date h = cc
  of_numbers type.Text h = cc
  of_numbers (type.Enum e) h = cc

  placed : (place : ℕ) (y : Variable) (x : ℕ × Variable) → slice_get c.variables place ≡ Some y → if_numbers place y ≡ Some x → HasNumbers x.0
  placed place y x is h = by (has_numbers y.value_type) refl h
    where
      by : (b : Bool) → has_numbers y.value_type ≡ b → (if b then Some (place, y) else None) ≡ Some x → HasNumbers x.0
      by true numbers e =
          let same : place ≡ x.0 = ap (λ (p : ℕ × Variable). p.0) (some_same (place, y) x e) in
          subst HasNumbers same (known_type c.variables place y is ∙ of_numbers y.value_type numbers)
        where
          some_same : (a b : ℕ × Variable) → ◌≡◌ {A = Option (ℕ × Variable)} (Some a) (Some b) → a ≡ b
          some_same a b e = cc
      by false numbers e = cc

  found : (place : ℕ) (o : Option Variable) (x : ℕ × Variable) → slice_get c.variables place ≡ o → option_and_then (if_numbers place) o ≡ Some x → HasNumbers x.0
  found place None x is h = cc
  found place (Some y) x is h = placed place y x is h

  named : (o : Option ℕ) (x : ℕ × Variable) → option_and_then (λ place. option_and_then (if_numbers place) (slice_get c.variables place)) o ≡ Some x → HasNumbers x.0
  named None x h = cc
  named (Some place) x h = found place (slice_get c.variables place) x refl h

  at_period : (a : SaidAxis) (x : ℕ) (o : Option Span) (g : Given) → HasNumbers x → moved_or_fault a x o ≡ Ok g → HasNumbers g.variable
  at_period a x None g n h = cc
  at_period a x (Some p) g n h = let same : moved_at a x p ≡ g = cc in subst HasNumbers (ap (λ (y : Given). y.variable) same) n

  one_moved : (ms : List EntityMembers) (default : Option Span) (a : SaidAxis) (o : Option (ℕ × Variable)) (g : Given) → variable_moved c a.name ≡ o
      → moved_of ms default a o ≡ Ok g → HasNumbers g.variable
  one_moved ms default a None g is h = cc
  one_moved ms default a (Some x) g is h = by (nat_lt a.index (count_at ms x.1.entity)) h
    where
      by : (b : Bool) → (if b then moved_or_fault a x.0 (period_moved x.1 (otherwise a.period default)) else fault_at a.line (kind.Axes BadIndex)) ≡ Ok g → HasNumbers g.variable
      by true e = at_period a x.0 (period_moved x.1 (otherwise a.period default)) g (named (variable_of c a.name) x is) e
      by false e = cc

  behind : (gs : List Given) (g : Given) → AllNumbers gs → HasNumbers g.variable → AllNumbers (gs ++ g ∷ [])
  behind [] g all n = (n, tt)
  behind (h ∷ hs) g all n = (all.0, behind hs g all.1 n)

  pub moved_numbers : (ms : List EntityMembers) (default : Option Span) (gs : List Given) (axes : List SaidAxis) (moved : List Given) → AllNumbers gs
      → with_moved c ms default gs axes ≡ Ok moved → AllNumbers moved
  moved_numbers ms default gs [] moved all h = let same : gs ≡ moved = cc in subst AllNumbers same all
  moved_numbers ms default gs (a ∷ axes) moved all h =
      let one = then_ok (moved_by c ms default a) (λ g. with_moved c ms default (gs ++ g ∷ []) axes) moved h in
      moved_numbers ms default (gs ++ one.0 ∷ []) axes moved (behind gs one.0 all (one_moved ms default a (variable_moved c a.name) one.0 refl one.1)) one.2

  -- Values

  of_number : (x : ℕ) (n : Number) → HasNumbers x → IsValueOf (known c) x (meaning.number n)
  of_number x n h = subst (λ t. is_typed (known c) t (meaning.number n) ≡ true) (sym h) refl

  pub valued_typed : (gs : List Given) (ns : List Number) → AllNumbers gs → GivensTyped (known c) (with_values c gs ns)
  valued_typed [] ns all = tt
  valued_typed (g ∷ gs) [] all = tt
  valued_typed (g ∷ gs) (n ∷ ns) all = (of_number g.variable (cut_by (slice_get c.variables g.variable) n) all.0, valued_typed gs ns all.1)

  -- Putting

  put_typed : (gs : List Given) (g : Given) → GivensTyped (known c) gs → IsValueOf (known c) g.variable (value_seen g.value) → GivensTyped (known c) (put_in gs g)
  put_typed [] g ts t = (t, tt)
  put_typed (h ∷ hs) g ts t = by (same_key (key_given h) (key_given g)) (put_typed hs g ts.1 t)
    where
      by : (b : Bool) → GivensTyped (known c) (put_in hs g) → GivensTyped (known c) (if b then g ∷ hs else h ∷ put_in hs g)
      by true more = (t, ts.1)
      by false more = (ts.0, more)

  pub all_put_typed : (gs hs : List Given) → GivensTyped (known c) gs → GivensTyped (known c) hs → GivensTyped (known c) (put_all_in gs hs)
  all_put_typed gs [] ts us = ts
  all_put_typed gs (h ∷ hs) ts us = all_put_typed (put_in gs h) hs (put_typed gs h ts us.0) us.1
