-- The periods of a run file are periods, and its groups have all its axes.
use Rattle.std.proofs.Common.{◌≡◌, ℕ, ◌+◌, List, [], ◌∷◌, ◌++◌, length, Bool, true, false, Option, Some, None, codes, refl, sym, ap, subst, arith, length-append, if◌then◌else◌, ◌||◌, ◌&&◌}
use Rattle.std.specs.Prelude.{⊤, Result, Ok, Err, sum, option_and_then}
use Rattle.std.specs.Option.{unwrap_or}
use Rattle.std.specs.Result.{result_ok}
use Rattle.std.proofs.lemmas.Bool.{and_from, and_parts}
use Rattle.fisca_columns.specs.Steps.Calc.{default_in, period_in}
use Rattle.fisca_grid.proofs.Groups.{sum_first}
use Rattle.fisca_inputs.proofs.Typed.{then_ok}
use Rattle.fisca_num.specs.Results.{and_then}
use Rattle.fisca_run_file.specs.SaidAxes.{SaidAxes, SaidAxis, no_axes}
use Rattle.fisca_run_file.specs.Steps.SaidAxes.{axes_said, axis_in, axis_keys_checked, axis_of, axis_said, count_items, name_in, needed, period_at, spec_said, whole_at, with_axes, with_axis, with_group, with_groups, with_list}
use Rattle.fisca_time.specs.Calendar.{day_number, month_number}
use Rattle.fisca_time.specs.Instant.{CivilDate, is_between, is_on_calendar}
use Rattle.fisca_time.specs.Period.{Span, eternity, months, days, if_in_calendar, is_in_calendar, is_period}
use Rattle.fisca_time.specs.Pieces.{pieces, colon}
use Rattle.fisca_time.specs.PeriodText.{date_in, form_of_pieces, is_word, period_from, period_if_written, period_of_text}
use Rattle.fisca_time.specs.declared.fault.TimeFault.{TimeFault}
use Rattle.fisca_time.specs.declared.fault.TimeFault.TheVariants.{OutOfRange}
use Rattle.fisca_time.specs.declared.unit.Unit.{Unit}
use Rattle.fisca_time.specs.declared.unit.Unit.TheVariants.{Day, Month, Year, Eternity}
use Rattle.fisca_yaml.specs.Steps.Find.{as_text, get}
use Rattle.fisca_yaml.specs.Node.{Node, null, scalar, list, map, Items, no_items, item, Entries}

-- Texts

in_calendar : (p q : Span) → if_in_calendar p ≡ Ok q → (p ≡ q) × (is_in_calendar p ≡ true)
in_calendar p q h = by (is_in_calendar p) refl h
  where
    by : (b : Bool) → is_in_calendar p ≡ b → ◌≡◌ {A = Result Span TimeFault} (if b then Ok p else Err OutOfRange) (Ok q) → (p ≡ q) × (is_in_calendar p ≡ true)
    by true inside e = let same : p ≡ q = cc in (same, inside)
    by false outside e = cc

made_period : (unit : Unit) (size : ℕ) (start : CivilDate) (p : Span) → is_between 1 1200 size ≡ true → period_from unit size start ≡ Ok p → is_period p ≡ true
made_period Day size start p sized h =
    let made = in_calendar (days (day_number start) size) p h in
    subst (λ q. is_period q ≡ true) made.0 (and_from (is_between 1 1200 size) (is_in_calendar (days (day_number start) size)) sized made.1)
made_period Month size start p sized h =
    let made = in_calendar (months Month (month_number start) size) p h in
    subst (λ q. is_period q ≡ true) made.0 (and_from (is_between 1 1200 size) (is_in_calendar (months Month (month_number start) size)) sized made.1)
made_period Year size start p sized h =
    let made = in_calendar (months Year (month_number start) size) p h in
    subst (λ q. is_period q ≡ true) made.0 (and_from (is_between 1 1200 size) (is_in_calendar (months Year (month_number start) size)) sized made.1)
made_period Eternity size start p sized h = cc

-- what a text says is a period
pub text_period : (text : List ℕ) (p : Span) → period_of_text text ≡ Ok p → is_period p ≡ true
text_period text p h = by (is_word (codes "ETERNITY") text || is_word (codes "eternity") text) h
  where
    formed : (f : _) (b : Bool) → (is_on_calendar (date_in f) && is_between 1 1200 f.size) ≡ b
        → (if b then period_from f.unit f.size (date_in f) else Err OutOfRange) ≡ Ok p → is_period p ≡ true
    formed f true right e = made_period f.unit f.size (date_in f) p (and_parts (is_on_calendar (date_in f)) (is_between 1 1200 f.size) right).1 e
    formed f false wrong e = cc

    written : (o : _) → period_if_written o ≡ Ok p → is_period p ≡ true
    written None e = cc
    written (Some f) e = formed f (is_on_calendar (date_in f) && is_between 1 1200 f.size) refl e

    by : (b : Bool) → (if b then Ok eternity else period_if_written (form_of_pieces (pieces colon text))) ≡ Ok p → is_period p ≡ true
    by true e = let same : eternity ≡ p = cc in ap is_period (sym same)
    by false e = written (form_of_pieces (pieces colon text)) e

-- Trees

-- where there is a period, it is one
abbrev pub HasPeriod : Option Span → Type 0
HasPeriod o = (p : Span) → o ≡ Some p → is_period p ≡ true

ok_of : {X E : Type 0} (r : Result X E) (x : X) → result_ok r ≡ Some x → r ≡ Ok x
ok_of (Ok y) x h = let same : y ≡ x = cc in ap Ok same
ok_of (Err e) x h = cc

tree_read : (n : Node) → HasPeriod (period_in n)
tree_read n p h = by (as_text n) h
  where
    by : (o : Option (List ℕ)) → option_and_then (λ t. result_ok (period_of_text t)) o ≡ Some p → is_period p ≡ true
    by None e = cc
    by (Some t) e = text_period t p (ok_of (period_of_text t) p e)

at_read : (o : Option Node) → HasPeriod (option_and_then period_in o)
at_read None p h = cc
at_read (Some n) p h = tree_read n p h

pub default_read : (n : Node) → HasPeriod (default_in n)
default_read n = at_read (get (codes "period") n)

-- Axes

abbrev pub AreSaid : List SaidAxis → Type 0
AreSaid [] = ⊤
AreSaid (a ∷ axes) = HasPeriod a.period × AreSaid axes

axis_read : (line : ℕ) (n : Node) (a : SaidAxis) → axis_of line n ≡ Ok a → HasPeriod a.period
unfolding axis_of
axis_read line n a h =
    let name = then_ok (needed (name_in n)) (λ name. and_then (spec_said n) (λ spec.
    Ok (record { line = line; name = name; spec = spec; period = period_at n; index = unwrap_or (whole_at (codes "index") n) 0 }))) a h in
    let spec = then_ok (spec_said n) (λ spec.
    Ok (record { line = line; name = name.0; spec = spec; period = period_at n; index = unwrap_or (whole_at (codes "index") n) 0 })) a name.2 in
    let same : record { line = line; name = name.0; spec = spec.0; period = period_at n; index = unwrap_or (whole_at (codes "index") n) 0 } ≡ a = cc in
    subst (λ (x : SaidAxis). HasPeriod x.period) same (at_read (get (codes "period") n))

said_read : (line : ℕ) (es : Entries) (a : SaidAxis) → axis_said line es ≡ Ok a → HasPeriod a.period
unfolding axis_said
said_read line es a h = let checked = then_ok (axis_keys_checked es) (λ _. axis_of line (map es)) a h in axis_read line (map es) a checked.2

in_read : (key line : ℕ) (n : Node) (a : SaidAxis) → axis_in key line n ≡ Ok a → HasPeriod a.period
in_read key line null a h = cc
in_read key line (scalar t q l) a h = cc
in_read key line (list is) a h = cc
in_read key line (map es) a h = said_read line es a h

behind : (axes : List SaidAxis) (a : SaidAxis) → AreSaid axes → HasPeriod a.period → AreSaid (axes ++ a ∷ [])
behind [] a all one = (one, tt)
behind (b ∷ axes) a all one = (all.0, behind axes a all.1 one)

axes_read : (key : ℕ) (xs : List SaidAxis) (is : Items) (ys : List SaidAxis) → AreSaid xs → with_axes key xs is ≡ Ok ys
    → AreSaid ys × (length ys ≡ length xs + count_items is)
axes_read key xs no_items ys all h = let same : xs ≡ ys = cc in (subst AreSaid same all, omega (arith, ap length same))
axes_read key xs (item line n is) ys all h =
    let one = then_ok (with_axis key xs line n) (λ zs. with_axes key zs is) ys h in
    let a = then_ok (axis_in key line n) (λ x. Ok (xs ++ x ∷ [])) one.0 one.1 in
    let same : xs ++ a.0 ∷ [] ≡ one.0 = cc in
    let more = axes_read key one.0 is ys (subst AreSaid same (behind xs a.0 all (in_read key line n a.0 a.1))) one.2 in
    (more.0, omega (arith, more.1, ap length (sym same), length-append xs (a.0 ∷ [])))

-- the groups have all axes
pub record IsWhole (a : SaidAxes) : Type 0 where
  pub axes : AreSaid a.axes
  pub lengths : sum a.lengths ≡ length a.axes

sum_behind : (ns : List ℕ) (n : ℕ) → sum (ns ++ n ∷ []) ≡ sum ns + n
sum_behind [] n = omega (arith, sum_first n [])
sum_behind (m ∷ ns) n = omega (arith, sum_first m (ns ++ n ∷ []), sum_first m ns, sum_behind ns n)

list_whole : (key : ℕ) (a : SaidAxes) (is : Items) (b : SaidAxes) → IsWhole a → with_list key a is ≡ Ok b → IsWhole b
unfolding with_list
list_whole key a is b whole h =
    let more = then_ok (with_axes key a.axes is) (λ xs. Ok (record { axes = xs; lengths = a.lengths ++ count_items is ∷ [] })) b h in
    let same : record { axes = more.0; lengths = a.lengths ++ count_items is ∷ [] } ≡ b = cc in
    let read = axes_read key a.axes is more.0 whole.axes more.1 in
    subst IsWhole same (record { axes = read.0; lengths = omega (arith, read.1, whole.lengths, sum_behind a.lengths (count_items is)) })

group_whole : (key : ℕ) (a : SaidAxes) (n : Node) (b : SaidAxes) → IsWhole a → with_group key a n ≡ Ok b → IsWhole b
group_whole key a null b whole h = cc
group_whole key a (scalar t q l) b whole h = cc
group_whole key a (list is) b whole h = list_whole key a is b whole h
group_whole key a (map es) b whole h = cc

groups_whole : (key : ℕ) (a : SaidAxes) (is : Items) (b : SaidAxes) → IsWhole a → with_groups key a is ≡ Ok b → IsWhole b
groups_whole key a no_items b whole h = let same : a ≡ b = cc in subst IsWhole same whole
groups_whole key a (item line n is) b whole h =
    let one = then_ok (with_group key a n) (λ c. with_groups key c is) b h in
    groups_whole key one.0 is b (group_whole key a n one.0 whole one.1) one.2

pub said_whole : (key : ℕ) (n : Node) (a : SaidAxes) → axes_said key n ≡ Ok a → IsWhole a
said_whole key null a h = cc
said_whole key (scalar t q l) a h = cc
said_whole key (list is) a h = groups_whole key no_axes is a (record { axes = tt; lengths = refl }) h
said_whole key (map es) a h = cc
