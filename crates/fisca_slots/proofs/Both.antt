-- Inputs that differ in the values of axes alone are shared alike.
use Rattle.std.proofs.Common.{◌≡◌, ℕ, suc, pos, List, [], ◌∷◌, ◌++◌, map, length, Bool, true, false, cond, Option, Some, None, is_some, refl, sym, ap, ap₂, subst, ◌∙◌, arith, if◌then◌else◌, ◌||◌}
use Rattle.std.specs.Prelude.{⊤, Result, Ok, Err, nat_lt, ◌==◌}
use Rattle.std.specs.List.{list_any}
use Rattle.std.specs.Ordering.{int_eq}
use Rattle.std.proofs.lemmas.Bool.{eqb-true, ltb-true, or_right}
use Rattle.fisca_inputs.proofs.Looked.{looked-put, looked-put_all}
use Rattle.fisca_inputs.specs.Entries.{Entries, key, same_key, value_at, limit}
use Rattle.fisca_inputs.specs.Steps.Entries.{has, put, put_free, put_all}
use Rattle.fisca_inputs.specs.Faults.{at_line}
use Rattle.fisca_inputs.specs.Rules.{Rule}
use Rattle.fisca_inputs.specs.Steps.Rules.{is_longer}
use Rattle.fisca_inputs.specs.Sharing.{rest_of, count_free, divided, divided_value, alone, over_parts, own_key, shared}
use Rattle.fisca_inputs.specs.Steps.Sharing.{computed, without, part_ratio, share_of, spread, parts_of}
use Rattle.fisca_model.specs.contracts.key.KeyEq.TheImpl.Laws.{laws-law}
use Rattle.fisca_inputs.specs.declared.fault.SituationFault.{SituationFault}
use Rattle.fisca_inputs.specs.declared.fault.SituationKind.TheVariants.{InconsistentInput, PeriodMismatch, TooMany}
use Rattle.fisca_inputs.specs.declared.given.Given.{Given}
use Rattle.fisca_model.specs.declared.value.Value.{Value}
use Rattle.fisca_model.specs.declared.value.Value.TheVariants.{Number as number, Bool as bool, Member as member_at}
use Rattle.fisca_model.specs.declared.key.Key.{Key}
use Rattle.fisca_model.specs.Periods.{fits}
use Rattle.fisca_num.specs.Number.{Number}
use Rattle.fisca_num.specs.Operations.{number_of}
use Rattle.fisca_num.specs.declared.faults.NumFault.{NumFault}
use Rattle.fisca_num.specs.Results.{and_then}
use Rattle.fisca_symbols.specs.declared.variable.SetInput.{SetInput}
use Rattle.fisca_symbols.specs.declared.variable.SetInput.TheVariants.{DivideByPeriod, DispatchByPeriod}
use Rattle.fisca_time.specs.Period.{Span, subs}
use Rattle.fisca_model.specs.Tables.{otherwise}

-- Keys

abbrev pub keys : Entries → List Key
keys es = map (λ e. e.0) es

has_keys : (es : Entries) (k : Key) → has es k ≡ list_any (same_key k) (keys es)
has_keys [] k = refl
has_keys (e ∷ es) k = by (same_key k e.0) (has_keys es k)
  where
    by : (b : Bool) → has es k ≡ list_any (same_key k) (keys es) → is_some (cond b (Some e.1) (value_at es k)) ≡ (b || list_any (same_key k) (keys es))
    by true h = refl
    by false h = h

length_keys : (es : Entries) → length es ≡ length (keys es)
length_keys [] = refl
length_keys (e ∷ es) = ap suc (length_keys es)

keys_behind : (es : Entries) (k : Key) (x : Value) → keys (es ++ (k, x) ∷ []) ≡ keys es ++ k ∷ []
keys_behind [] k x = refl
keys_behind (e ∷ es) k x = ap (λ ks. e.0 ∷ ks) (keys_behind es k x)

pub same_has : (es fs : Entries) → keys es ≡ keys fs → (k : Key) → has es k ≡ has fs k
same_has es fs same k = has_keys es k ∙ (ap (list_any (same_key k)) same ∙ sym (has_keys fs k))

-- entries that have the keys of these
pub record Alike (es : Entries) (r : Result Entries SituationFault) : Type 0 where
  pub after : Entries
  pub is : r ≡ Ok after
  pub same : keys es ≡ keys after

-- where nothing is put
pub kept_alike : (es fs new : Entries) → keys es ≡ keys fs → ◌≡◌ {A = Result Entries SituationFault} (Ok es) (Ok new) → Alike new (Ok fs)
kept_alike es fs new same h = let is : es ≡ new = cc in record { after = fs; is = refl; same = ap keys (sym is) ∙ same }

-- Putting

put_alike : (line other : ℕ) (k : Key) (x y : Value) (es fs new : Entries) → keys es ≡ keys fs → put line k x es ≡ Ok new → Alike new (put other k y fs)
put_alike line other k x y es fs new same h =
    by (nat_lt (length es) limit) (nat_lt (length fs) limit) (ap (λ n. nat_lt n limit) (length_keys es ∙ (ap length same ∙ sym (length_keys fs)))) h
  where
    by : (b c : Bool) → b ≡ c → (if b then Ok (es ++ (k, x) ∷ []) else Err (at_line line TooMany)) ≡ Ok new
        → Alike new (if c then Ok (fs ++ (k, y) ∷ []) else Err (at_line other TooMany))
    by true true e made =
        let is : es ++ (k, x) ∷ [] ≡ new = cc in
        record {
          after = fs ++ (k, y) ∷ [];
          is = refl;
          same = ap keys (sym is) ∙
              (keys_behind es k x ∙ (ap (λ ks. ks ++ k ∷ []) same ∙ sym (keys_behind fs k y)));
        }
    by true false e made = cc
    by false c e made = cc

free_alike : (line other : ℕ) (k : Key) (x y : Value) (es fs new : Entries) → keys es ≡ keys fs → put_free line x k es ≡ Ok new
    → Alike new (put_free other y k fs)
free_alike line other k x y es fs new same h = by (has es k) (has fs k) (same_has es fs same k) h
  where
    by : (b c : Bool) → b ≡ c → (if b then Ok es else put line k x es) ≡ Ok new → Alike new (if c then Ok fs else put other k y fs)
    by true true e made = kept_alike es fs new same made
    by true false e made = cc
    by false true e made = cc
    by false false e made = put_alike line other k x y es fs new same made

pub all_alike : (line other : ℕ) (x y : Value) (ks : List Key) (es fs new : Entries) → keys es ≡ keys fs → put_all line x ks es ≡ Ok new
    → Alike new (put_all other y ks fs)
all_alike line other x y [] es fs new same h = kept_alike es fs new same h
all_alike line other x y (k ∷ ks) es fs new same h =
    by (λ mid after alike rest. all_alike line other x y ks mid after new alike rest) (put_free line x k es) refl h
  where
    by : ((mid after : Entries) → keys mid ≡ keys after → put_all line x ks mid ≡ Ok new → Alike new (put_all other y ks after))
        → (r : Result Entries SituationFault) → put_free line x k es ≡ r → and_then r (put_all line x ks) ≡ Ok new
        → Alike new (and_then (put_free other y k fs) (put_all other y ks))
    by later (Ok mid) first rest =
        let one = free_alike line other k x y es fs mid same first in
        let more = later mid one.after one.same rest in
        record { after = more.after; is = ap (λ r. and_then r (put_all other y ks)) one.is ∙ more.is; same = more.same }
    by later (Err f) first rest = cc

-- One input

-- an input as it is read, and the value that its axis has at a position, where one moves it
pub record Moving : Type 0 where
  pub given : Given
  pub value : Option Number

abbrev pub value_here : Option Number → Value → Value
value_here None w = w
value_here (Some v) w = number v

unmoved : (value : Option Number) (w : Value) → value ≡ None → w ≡ value_here value w
unmoved None w none = refl
unmoved (Some v) w none = cc

-- the input at the position
abbrev pub here : Moving → Given
here t = record { variable = t.given.variable; member = t.given.member; period = t.given.period; value = value_here t.value t.given.value; line = t.given.line }

-- the keys that an input gives values to
abbrev pub keys_of : Rule → Given → List Key
keys_of r g = if fits r.unit g.period then own_key r g ∷ [] else parts_of r g

-- Entries of an input as it is read, and at a position: they have the same keys. Nothing has changed but at these keys, and what was the same
-- there stays the same where no axis moves the input.
pub record Both (value : Option Number) (ks : List Key) (es new fs : Entries) (r : Result Entries SituationFault) : Type 0 where
  pub after : Entries
  pub is : r ≡ Ok after
  pub same : keys new ≡ keys after
  pub outside : (q : Key) → list_any (same_key q) ks ≡ false → value_at new q ≡ value_at es q
  pub outside_here : (q : Key) → list_any (same_key q) ks ≡ false → value_at after q ≡ value_at fs q
  pub agree : value ≡ None → (q : Key) → value_at es q ≡ value_at fs q → value_at new q ≡ value_at after q

otherwise_none : {X : Type 0} (a : Option X) → otherwise a None ≡ a
otherwise_none (Some x) = refl
otherwise_none None = refl

-- these keys have this value where they had none
abbrev Puts : List Key → Value → Entries → Entries → Type 0
Puts ks x es new = (q : Key) → value_at new q ≡ otherwise (value_at es q) (if list_any (same_key q) ks then Some x else None)

outside_put : (ks : List Key) (x : Value) (es new : Entries) → Puts ks x es new → (q : Key) → list_any (same_key q) ks ≡ false → value_at new q ≡ value_at es q
outside_put ks x es new puts q out = puts q ∙ (ap (λ b. otherwise (value_at es q) (if b then Some x else None)) out ∙ otherwise_none (value_at es q))

both_put : (value : Option Number) (ks : List Key) (x y : Value) (es new fs : Entries) (r : Result Entries SituationFault) (alike : Alike new r)
    → Puts ks x es new
    → Puts ks y fs alike.after → (value ≡ None → x ≡ y) → Both value ks es new fs r
both_put value ks x y es new fs r alike low high same = record {
  after = alike.after;
  is = alike.is;
  same = alike.same;
  outside = outside_put ks x es new low;
  outside_here = outside_put ks y fs alike.after high;
  agree = λ none q e. low q ∙ (ap₂ (λ o w. otherwise o (if list_any (same_key q) ks then Some w else None)) e (same none) ∙ sym (high q));
}

-- dispatched
dispatched_both : (value : Option Number) (line other : ℕ) (x y : Value) (ks : List Key) (es fs new : Entries) → keys es ≡ keys fs → (value ≡ None → x ≡ y)
    → put_all line x ks es ≡ Ok new → Both value ks es new fs (put_all other y ks fs)
dispatched_both value line other x y ks es fs new same equal h =
    let alike = all_alike line other x y ks es fs new same h in
    both_put value ks x y es new fs (put_all other y ks fs) alike (λ q. looked-put_all line x ks es new q h)
    (λ q. looked-put_all other y ks fs alike.after q alike.is) equal

one_key : (b : Bool) → b ≡ (b || false)
one_key true = refl
one_key false = refl

-- of its own definition period
alone_both : (value : Option Number) (line other : ℕ) (x y : Value) (k : Key) (es fs new : Entries) → keys es ≡ keys fs → (value ≡ None → x ≡ y)
    → alone line k x es ≡ Ok new
    → Both value (k ∷ []) es new fs (alone other k y fs)
alone_both value line other x y k es fs new same equal h = by (has es k) (has fs k) (same_has es fs same k) h
  where
    at : (n : ℕ) (w : Value) (gs after : Entries) → put n k w gs ≡ Ok after → Puts (k ∷ []) w gs after
    at n w gs after made q = looked-put n k w gs after q made ∙ ap (λ b. otherwise (value_at gs q) (if b then Some w else None)) (one_key (same_key q k))

    by : (b c : Bool) → b ≡ c → (if b then Err (at_line line InconsistentInput) else put line k x es) ≡ Ok new
        → Both value (k ∷ []) es new fs (if c then Err (at_line other InconsistentInput) else put other k y fs)
    by true c e made = cc
    by false true e made = cc
    by false false e made =
        let alike = put_alike line other k x y es fs new same made in
        both_put value (k ∷ []) x y es new fs (put other k y fs) alike (at line x es new made) (at other y fs alike.after alike.is) equal

-- Dividing

pub count_alike : (es fs : Entries) → keys es ≡ keys fs → (ks : List Key) → count_free es ks ≡ count_free fs ks
count_alike es fs same [] = refl
count_alike es fs same (k ∷ ks) = ap₂ (λ b n. if b then n else suc n) (same_has es fs same k) (count_alike es fs same ks)

-- at each of these keys
abbrev pub At : (Key → Type 0) → List Key → Type 0
At P ks = (q : Key) → list_any (same_key q) ks ≡ true → P q

pub behind : (P : Key → Type 0) (k : Key) (ks : List Key) → At P (k ∷ ks) → At P ks
behind P k ks all q inside = all q (or_right (same_key q k) (list_any (same_key q) ks) inside)

pub first : (P : Key → Type 0) (k : Key) (ks : List Key) → At P (k ∷ ks) → P k
first P k ks all = all k (ap (λ b. b || list_any (same_key k) ks) (laws-law.refl k))

pub rest_alike : (line : ℕ) (es fs : Entries) (ks : List Key) (n : Number) → At (λ q. value_at es q ≡ value_at fs q) ks
    → rest_of line es ks n ≡ rest_of line fs ks n
rest_alike line es fs [] n agree = refl
rest_alike line es fs (k ∷ ks) n agree =
    by (λ m. rest_alike line es fs ks m (behind (λ q. value_at es q ≡ value_at fs q) k ks agree)) (without line (value_at es k) n)
    ∙ ap (λ o. and_then (without line o n) (rest_of line fs ks)) (first (λ q. value_at es q ≡ value_at fs q) k ks agree)
  where
    by : ((m : Number) → rest_of line es ks m ≡ rest_of line fs ks m) → (r : Result Number SituationFault)
        → and_then r (rest_of line es ks) ≡ and_then r (rest_of line fs ks)
    by later (Ok m) = later m
    by later (Err f) = refl

-- where no key has a value, nothing is taken, and all have a part
rest_free : (line : ℕ) (es : Entries) (ks : List Key) (n : Number) → At (λ q. value_at es q ≡ None) ks → rest_of line es ks n ≡ Ok n
rest_free line es [] n free = refl
rest_free line es (k ∷ ks) n free =
    ap (λ o. and_then (without line o n) (rest_of line es ks)) (first (λ q. value_at es q ≡ None) k ks free)
    ∙ rest_free line es ks n (behind (λ q. value_at es q ≡ None) k ks free)

count_all : (es : Entries) (ks : List Key) → At (λ q. value_at es q ≡ None) ks → count_free es ks ≡ length ks
count_all es [] free = refl
count_all es (k ∷ ks) free =
    ap (λ o. if is_some o then count_free es ks else suc (count_free es ks)) (first (λ q. value_at es q ≡ None) k ks free)
    ∙ ap suc (count_all es ks (behind (λ q. value_at es q ≡ None) k ks free))

-- where nothing is put
kept_both : (value : Option Number) (ks : List Key) (es fs new : Entries) → keys es ≡ keys fs → es ≡ new → Both value ks es new fs (Ok fs)
kept_both value ks es fs new same is = record {
  after = fs;
  is = refl;
  same = ap keys (sym is) ∙ same;
  outside = λ q out. ap (λ gs. value_at gs q) (sym is);
  outside_here = λ q out. refl;
  agree = λ none q e. ap (λ gs. value_at gs q) (sym is) ∙ e;
}

-- a number that no axis moves
spread_both : (value : Option Number) (line count : ℕ) (ks : List Key) (es fs new : Entries) (n : Number) → keys es ≡ keys fs
    → spread line count ks es n ≡ Ok new
    → Both value ks es new fs (spread line count ks fs n)
spread_both value line count ks es fs new n same h = by (count == 0) h
  where
    none_left : (b : Bool) → (if b then Ok es else Err (at_line line InconsistentInput)) ≡ Ok new
        → Both value ks es new fs (if b then Ok fs else Err (at_line line InconsistentInput))
    none_left true e = kept_both value ks es fs new same (cc)
    none_left false e = cc

    some_left : (r : Result Number NumFault) → and_then (computed line r) (λ share. put_all line (number share) ks es) ≡ Ok new
        → Both value ks es new fs (and_then (computed line r) (λ share. put_all line (number share) ks fs))
    some_left (Ok share) e = dispatched_both value line line (number share) (number share) ks es fs new same (λ none. refl) e
    some_left (Err f) e = cc

    by : (b : Bool)
        → (if b then (if int_eq n.numerator (pos 0) then Ok es else Err (at_line line InconsistentInput))
        else and_then (share_of line n count) (λ share. put_all line (number share) ks es)) ≡ Ok new
        → Both value ks es new fs (if b then (if int_eq n.numerator (pos 0) then Ok fs else Err (at_line line InconsistentInput))
        else and_then (share_of line n count) (λ share. put_all line (number share) ks fs))
    by true e = none_left (int_eq n.numerator (pos 0)) e
    by false e = some_left (number_of (part_ratio n count)) e

-- each of so many parts of a number that an axis gives is one
abbrev pub HasParts : Option Number → ℕ → Type 0
HasParts None count = ⊤
HasParts (Some v) count = (count == 0) ≡ false → (share : Number) × (number_of (part_ratio v count) ≡ Ok share)

-- what has to be so at a key that an input is divided over: where an axis moves it, there is no value yet
abbrev pub Settled : Option Number → Entries → Entries → Key → Type 0
Settled None es fs q = value_at es q ≡ value_at fs q
Settled (Some v) es fs q = value_at es q ≡ None

none_here : (es fs : Entries) → keys es ≡ keys fs → (q : Key) → value_at es q ≡ None → value_at fs q ≡ None
none_here es fs same q none = by (value_at fs q) (sym (same_has es fs same q) ∙ ap is_some none)
  where
    by : (o : Option Value) → is_some o ≡ false → o ≡ None
    by None h = refl
    by (Some x) h = cc

-- a number shared over all keys
pub spread_all : (line count : ℕ) (ks : List Key) (es : Entries) (n : Number) → At (λ q. value_at es q ≡ None) ks → length ks ≡ count
    → divided line n ks es ≡ spread line count ks es n
spread_all line count ks es n free many =
    ap (λ r. and_then r (spread line (count_free es ks) ks es)) (rest_free line es ks n free) ∙ ap (λ c. spread line c ks es n) (count_all es ks free ∙ many)

pub some_count : (n : ℕ) → nat_lt 1 n ≡ true → (n == 0) ≡ false
some_count n h = by (n == 0) refl
  where
    by : (b : Bool) → (n == 0) ≡ b → b ≡ false
    by true e = let zero_is : n ≡ 0 = eqb-true n 0 e in absurd (omega (arith, ltb-true 1 n h, zero_is))
    by false e = refl

moved_both : (line count : ℕ) (ks : List Key) (es fs new : Entries) (n v : Number) → keys es ≡ keys fs → At (λ q. value_at es q ≡ None) ks → length ks ≡ count
    → (count == 0) ≡ false
    → HasParts (Some v) count → divided line n ks es ≡ Ok new → Both (Some v) ks es new fs (divided line v ks fs)
moved_both line count ks es fs new n v same free many some parts h =
    subst (Both (Some v) ks es new fs) (sym (spread_all line count ks fs v (λ q inside. none_here es fs same q (free q inside)) many))
    (by (count == 0) some (sym (spread_all line count ks es n free many) ∙ h))
  where
    put : (r : Result Number NumFault) → HasParts (Some v) count → and_then (computed line r) (λ share. put_all line (number share) ks es) ≡ Ok new
        → Both (Some v) ks es new fs (and_then (share_of line v count) (λ share. put_all line (number share) ks fs))
    put (Ok low) parts e =
        let part = parts some in
        subst (λ q. Both (Some v) ks es new fs (and_then (computed line q) (λ share. put_all line (number share) ks fs))) (sym part.1)
        (dispatched_both (Some v) line line (number low) (number part.0) ks es fs new same (λ none. cc) e)
    put (Err f) parts e = cc

    by : (b : Bool) → b ≡ false
        → (if b then (if int_eq n.numerator (pos 0) then Ok es else Err (at_line line InconsistentInput))
        else and_then (share_of line n count) (λ share. put_all line (number share) ks es)) ≡ Ok new
        → Both (Some v) ks es new fs (if b then (if int_eq v.numerator (pos 0) then Ok fs else Err (at_line line InconsistentInput))
        else and_then (share_of line v count) (λ share. put_all line (number share) ks fs))
    by true none e = cc
    by false none e = put (number_of (part_ratio n count)) parts e

plain_both : (line : ℕ) (ks : List Key) (es fs new : Entries) (n : Number) → keys es ≡ keys fs → At (λ q. value_at es q ≡ value_at fs q) ks
    → divided line n ks es ≡ Ok new → Both None ks es new fs (divided line n ks fs)
plain_both line ks es fs new n same agree h =
    subst (λ r. Both None ks es new fs (and_then r (spread line (count_free fs ks) ks fs))) (rest_alike line es fs ks n agree)
    (subst (λ c. Both None ks es new fs (and_then (rest_of line es ks n) (spread line c ks fs))) (count_alike es fs same ks) (by (rest_of line es ks n) h))
  where
    by : (r : Result Number SituationFault) → and_then r (spread line (count_free es ks) ks es) ≡ Ok new
        → Both None ks es new fs (and_then r (spread line (count_free es ks) ks fs))
    by (Ok m) e = spread_both None line (count_free es ks) ks es fs new m same e
    by (Err f) e = cc

divided_both : (line count : ℕ) (w : Value) (value : Option Number) (ks : List Key) (es fs new : Entries) → keys es ≡ keys fs → At (Settled value es fs) ks
    → length ks ≡ count
    → (count == 0) ≡ false → HasParts value count → divided_value line w ks es ≡ Ok new
    → Both value ks es new fs (divided_value line (value_here value w) ks fs)
divided_both line count (number n) None ks es fs new same settled many some parts h = plain_both line ks es fs new n same settled h
divided_both line count (number n) (Some v) ks es fs new same settled many some parts h = moved_both line count ks es fs new n v same settled many some parts h
divided_both line count (bool b) value ks es fs new same settled many some parts h = cc
divided_both line count (member_at i) value ks es fs new same settled many some parts h = cc

over_both : (o : Option SetInput) (t : Moving) (count : ℕ) (ks : List Key) (es fs new : Entries) → keys es ≡ keys fs → At (Settled t.value es fs) ks
    → length ks ≡ count
    → (count == 0) ≡ false → HasParts t.value count → over_parts o t.given ks es ≡ Ok new → Both t.value ks es new fs (over_parts o (here t) ks fs)
over_both None t count ks es fs new same settled many some parts h = cc
over_both (Some DivideByPeriod) t count ks es fs new same settled many some parts h =
    divided_both t.given.line count t.given.value t.value ks es fs new same settled many some parts h
over_both (Some DispatchByPeriod) t count ks es fs new same settled many some parts h =
    dispatched_both t.value t.given.line t.given.line t.given.value (here t).value ks es fs new same (unmoved t.value t.given.value) h

-- The sharing of one input

abbrev pub IsSettled : Rule → Entries → Entries → Moving → Type 0
IsSettled r es fs t = fits r.unit t.given.period ≡ false → (q : Key) → list_any (same_key q) (parts_of r t.given) ≡ true → Settled t.value es fs q

pub length_parts : (x m : ℕ) (ps : List Span) → length (map (λ p. key x m p) ps) ≡ length ps
length_parts x m [] = refl
length_parts x m (p ∷ ps) = ap suc (length_parts x m ps)

pub shared_both : (r : Rule) (t : Moving) (es fs new : Entries) → keys es ≡ keys fs → IsSettled r es fs t
    → HasParts t.value (length (subs t.given.period r.unit)) → shared r t.given es ≡ Ok new
    → Both t.value (keys_of r t.given) es new fs (shared r (here t) fs)
shared_both r t es fs new same settled parts h = by (fits r.unit t.given.period) refl h
  where
    over : (b : Bool) → is_longer r.unit t.given.period ≡ b → fits r.unit t.given.period ≡ false
        → (if b then over_parts r.set_input t.given (parts_of r t.given) es else Err (at_line t.given.line PeriodMismatch)) ≡ Ok new
        → Both t.value (parts_of r t.given) es new fs (if b then over_parts r.set_input (here t) (parts_of r t.given) fs else Err
        (at_line t.given.line PeriodMismatch))
    over true longer own e =
        over_both r.set_input t (length (subs t.given.period r.unit)) (parts_of r t.given) es fs new same (settled own)
        (length_parts t.given.variable t.given.member (subs t.given.period r.unit)) (some_count (length (subs t.given.period r.unit)) longer) parts e
    over false longer own e = cc

    by : (b : Bool) → fits r.unit t.given.period ≡ b
        → (if b then alone t.given.line (own_key r t.given) t.given.value es
        else (if is_longer r.unit t.given.period then over_parts r.set_input t.given (parts_of r t.given) es else Err (at_line t.given.line PeriodMismatch)))
        ≡ Ok new
        → Both t.value (if b then own_key r t.given ∷ [] else parts_of r t.given) es new fs
        (if b then alone t.given.line (own_key r t.given) (here t).value fs
        else (if is_longer r.unit t.given.period then over_parts r.set_input (here t) (parts_of r t.given) fs else Err (at_line t.given.line PeriodMismatch)))
    by true own e =
        alone_both t.value t.given.line t.given.line t.given.value (here t).value (own_key r t.given) es fs new same (unmoved t.value t.given.value) e
    by false own e = over (is_longer r.unit t.given.period) refl own e
