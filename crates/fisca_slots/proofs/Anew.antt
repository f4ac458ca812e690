-- Inputs that differ in the values of axes alone are shared alike: what comes of them differs in what is set anew, and in nothing else.
use Rattle.std.proofs.Common.{◌≡◌, ℕ, suc, pos, List, [], ◌∷◌, ◌++◌, map, length, Bool, true, false, cond, Option, Some, None, is_some, refl, sym, ap, subst, ◌∙◌, if◌then◌else◌, ◌||◌}
use Rattle.std.specs.Prelude.{Result, Ok, Err, nat_lt, ◌==◌, option_map}
use Rattle.std.specs.List.{list_any}
use Rattle.std.specs.Ordering.{int_eq}
use Rattle.fisca_inputs.proofs.Looked.{looked-put, looked-put_all}
use Rattle.fisca_inputs.specs.Entries.{Entries, same_key, value_at, limit}
use Rattle.fisca_inputs.specs.Steps.Entries.{has, put, put_free, put_all}
use Rattle.fisca_inputs.specs.Faults.{at_line}
use Rattle.fisca_inputs.specs.Rules.{Rule}
use Rattle.fisca_inputs.specs.Steps.Rules.{is_longer}
use Rattle.fisca_inputs.specs.Sharing.{alone, count_free, divided, divided_value, over_parts, own_key, rest_of, shared}
use Rattle.fisca_inputs.specs.Steps.Sharing.{computed, part_ratio, parts_of, share_of, spread}
use Rattle.fisca_model.specs.contracts.key.KeyEq.TheImpl.Laws.{laws-law}
use Rattle.fisca_inputs.specs.declared.fault.SituationFault.{SituationFault}
use Rattle.fisca_inputs.specs.declared.fault.SituationKind.TheVariants.{InconsistentInput, PeriodMismatch, TooMany}
use Rattle.fisca_inputs.specs.declared.given.Given.{Given}
use Rattle.fisca_model.specs.declared.value.Value.{Value}
use Rattle.fisca_model.specs.declared.value.Value.TheVariants.{Number as number, Bool as bool, Member as member_at}
use Rattle.fisca_model.specs.declared.key.Key.{Key}
use Rattle.fisca_model.specs.Periods.{fits}
use Rattle.fisca_num.specs.Number.{Number}
use Rattle.fisca_num.specs.Operations.{number_of}
use Rattle.fisca_num.specs.declared.faults.NumFault.{NumFault}
use Rattle.fisca_num.specs.declared.faults.NumFault.TheVariants.{ZeroDivisor}
use Rattle.fisca_num.specs.Results.{and_then}
use Rattle.fisca_slots.proofs.Both.{At, HasParts, Moving, behind, count_alike, keys, keys_of, length_parts, rest_alike, same_has, shared_both, some_count, spread_all, value_here}
use Rattle.fisca_situations.specs.Steps.Slots.{divides, is_divided, share_by}
use Rattle.fisca_symbols.specs.declared.variable.SetInput.{SetInput}
use Rattle.fisca_symbols.specs.declared.variable.SetInput.TheVariants.{DivideByPeriod, DispatchByPeriod}
use Rattle.fisca_time.specs.Period.{subs}
use Rattle.fisca_model.specs.Tables.{otherwise}

-- what stands at a key then
abbrev pub Anew : Type 0
Anew = Key → Value → Value

abbrev pub set : Anew → Entries → Entries
set to es = map (λ e. (e.0, to e.0 e.1)) es

-- equal keys are not told apart
abbrev pub IsEven : Anew → Type 0
IsEven to = (j k : Key) → same_key j k ≡ true → (x : Value) → to j x ≡ to k x

-- what an axis gives each key of an input
abbrev pub share_for : Rule → Given → Number → Result Number NumFault
share_for r g v = share_by (is_divided r g) (length (keys_of r g)) v

-- a key keeps what an input gives it, or has its share of the axis's value
abbrev pub Stands : Rule → Given → Option Number → Value → Value → Type 0
Stands r g None x y = y ≡ x
Stands r g (Some v) x y = (n : Number) → share_for r g v ≡ Ok n → y ≡ number n

abbrev pub AgreesOn : Anew → Rule → Given → Option Number → Type 0
AgreesOn to r g value = (q : Key) → list_any (same_key q) (keys_of r g) ≡ true → (x : Value) → Stands r g value x (to q x)

abbrev pub Agrees : Anew → Rule → Moving → Type 0
Agrees to r t = AgreesOn to r t.given t.value

-- Entries

none_free : (o w : Option Value) → is_some (otherwise o w) ≡ false → is_some o ≡ false
none_free None w h = refl
none_free (Some x) w h = cc

some_stays : (o w : Option Value) → is_some o ≡ true → is_some (otherwise o w) ≡ true
some_stays None w h = cc
some_stays (Some x) w h = refl

-- what has no value after more are put had none before
pub fewer : (line : ℕ) (x : Value) (ks : List Key) (es new : Entries) → put_all line x ks es ≡ Ok new → (q : Key) → has new q ≡ false → has es q ≡ false
fewer line x ks es new h q free =
    none_free (value_at es q) (if list_any (same_key q) ks then Some x else None) (ap is_some (sym (looked-put_all line x ks es new q h)) ∙ free)

one_put : (line : ℕ) (x : Value) (k : Key) (es new : Entries) → put_free line x k es ≡ Ok new → put_all line x (k ∷ []) es ≡ Ok new
one_put line x k es new h = ap (λ r. and_then r (put_all line x [])) h

own_inside : (k : Key) (ks : List Key) → list_any (same_key k) (k ∷ ks) ≡ true
own_inside k ks = ap (λ b. b || list_any (same_key k) ks) (laws-law.refl k)

module _ (to : Anew) where
  pub keys_set : (es : Entries) → keys (set to es) ≡ keys es
  keys_set [] = refl
  keys_set (e ∷ es) = ap (λ ks. e.0 ∷ ks) (keys_set es)

  length_set : (es : Entries) → length (set to es) ≡ length es
  length_set [] = refl
  length_set (e ∷ es) = ap suc (length_set es)

  set_behind : (es : Entries) (k : Key) (x : Value) → set to (es ++ (k, x) ∷ []) ≡ set to es ++ (k, to k x) ∷ []
  set_behind [] k x = refl
  set_behind (e ∷ es) k x = ap (λ fs. (e.0, to e.0 e.1) ∷ fs) (set_behind es k x)

  has_set : (es : Entries) (k : Key) → has (set to es) k ≡ has es k
  has_set es k = same_has (set to es) es (keys_set es) k

  -- where nothing is put
  pub kept_set : (es new : Entries) → ◌≡◌ {A = Result Entries SituationFault} (Ok es) (Ok new) → ◌≡◌ {A = Result Entries SituationFault} (Ok (set to es)) (Ok (set to new))
  kept_set es new h = let is : es ≡ new = cc in ap (λ fs. Ok (set to fs)) is

  put_set : (line other : ℕ) (k : Key) (x y : Value) (es new : Entries) → put line k x es ≡ Ok new → to k x ≡ y → put other k y (set to es) ≡ Ok (set to new)
  put_set line other k x y es new h is =
      ap (λ n. if nat_lt n limit then Ok (set to es ++ (k, y) ∷ []) else Err (at_line other TooMany)) (length_set es) ∙ by (nat_lt (length es) limit) h
    where
      by : (b : Bool) → (if b then Ok (es ++ (k, x) ∷ []) else Err (at_line line TooMany)) ≡ Ok new
          → (if b then Ok (set to es ++ (k, y) ∷ []) else Err (at_line other TooMany)) ≡ Ok (set to new)
      by true e =
          let made : es ++ (k, x) ∷ [] ≡ new = cc in
          ap (λ z. Ok (set to es ++ (k, z) ∷ [])) (sym is) ∙ ap Ok (sym (set_behind es k x) ∙ ap (set to) made)
      by false e = cc

  free_set : (line other : ℕ) (x y : Value) (k : Key) (es new : Entries) → put_free line x k es ≡ Ok new → (has es k ≡ false → to k x ≡ y)
      → put_free other y k (set to es) ≡ Ok (set to new)
  free_set line other x y k es new h is = ap (λ b. if b then Ok (set to es) else put other k y (set to es)) (has_set es k) ∙ by (has es k) refl h
    where
      by : (b : Bool) → has es k ≡ b → (if b then Ok es else put line k x es) ≡ Ok new → (if b then Ok (set to es) else put other k y (set to es)) ≡ Ok (set to new)
      by true there e = kept_set es new e
      by false free e = put_set line other k x y es new e (is free)

  pub all_set : (line other : ℕ) (x y : Value) (ks : List Key) (es new : Entries) → put_all line x ks es ≡ Ok new
      → ((q : Key) → list_any (same_key q) ks ≡ true → has es q ≡ false → to q x ≡ y) → put_all other y ks (set to es) ≡ Ok (set to new)
  all_set line other x y [] es new h is = kept_set es new h
  all_set line other x y (k ∷ ks) es new h is = by (λ mid rest more. all_set line other x y ks mid new rest more) (put_free line x k es) refl h
    where
      by : ((mid : Entries) → put_all line x ks mid ≡ Ok new → ((q : Key) → list_any (same_key q) ks ≡ true → has mid q ≡ false → to q x ≡ y)
          → put_all other y ks (set to mid) ≡ Ok (set to new))
          → (r : Result Entries SituationFault) → put_free line x k es ≡ r → and_then r (put_all line x ks) ≡ Ok new
          → and_then (put_free other y k (set to es)) (put_all other y ks) ≡ Ok (set to new)
      by later (Ok mid) one rest =
          ap (λ r. and_then r (put_all other y ks)) (free_set line other x y k es mid one (is k (own_inside k ks)))
          ∙ later mid rest (λ q inside free. behind (λ q. has es q ≡ false → to q x ≡ y) k ks is q inside
          (fewer line x (k ∷ []) es mid (one_put line x k es mid one) q free))
      by later (Err f) one rest = cc

  alone_set : (line other : ℕ) (k : Key) (x y : Value) (es new : Entries) → alone line k x es ≡ Ok new → to k x ≡ y
      → alone other k y (set to es) ≡ Ok (set to new)
  alone_set line other k x y es new h is =
      ap (λ b. if b then Err (at_line other InconsistentInput) else put other k y (set to es)) (has_set es k) ∙ by (has es k) h
    where
      by : (b : Bool) → (if b then Err (at_line line InconsistentInput) else put line k x es) ≡ Ok new
          → (if b then Err (at_line other InconsistentInput) else put other k y (set to es)) ≡ Ok (set to new)
      by true e = cc
      by false e = put_set line other k x y es new e is

  -- Looking

  module _ (even : IsEven to) where
    pub looked_set : (es : Entries) (q : Key) → value_at (set to es) q ≡ option_map (to q) (value_at es q)
    looked_set [] q = refl
    looked_set (e ∷ es) q = by (same_key q e.0) refl (looked_set es q)
      where
        by : (b : Bool) → same_key q e.0 ≡ b → value_at (set to es) q ≡ option_map (to q) (value_at es q)
            → cond b (Some (to e.0 e.1)) (value_at (set to es) q) ≡ option_map (to q) (cond b (Some e.1) (value_at es q))
        by true is h = ap Some (sym (even q e.0 is e.1))
        by false other h = h

    pub same_there : (es : Entries) (q : Key) → ((x : Value) → to q x ≡ x) → value_at (set to es) q ≡ value_at es q
    same_there es q same = looked_set es q ∙ by (value_at es q)
      where
        by : (o : Option Value) → option_map (to q) o ≡ o
        by None = refl
        by (Some x) = ap Some (same x)

    -- Dividing

    -- what no axis moves
    spread_set : (line count : ℕ) (ks : List Key) (es new : Entries) (n : Number) → At (λ q. (x : Value) → to q x ≡ x) ks → spread line count ks es n ≡ Ok new
        → spread line count ks (set to es) n ≡ Ok (set to new)
    spread_set line count ks es new n same h = by (count == 0) h
      where
        none_left : (b : Bool) → (if b then Ok es else Err (at_line line InconsistentInput)) ≡ Ok new
            → (if b then Ok (set to es) else Err (at_line line InconsistentInput)) ≡ Ok (set to new)
        none_left true e = kept_set es new e
        none_left false e = cc

        some_left : (r : Result Number NumFault) → and_then (computed line r) (λ share. put_all line (number share) ks es) ≡ Ok new
            → and_then (computed line r) (λ share. put_all line (number share) ks (set to es)) ≡ Ok (set to new)
        some_left (Ok share) e = all_set line line (number share) (number share) ks es new e (λ q inside free. same q inside (number share))
        some_left (Err f) e = cc

        by : (b : Bool)
            → (if b then (if int_eq n.numerator (pos 0) then Ok es else Err (at_line line InconsistentInput))
            else and_then (share_of line n count) (λ share. put_all line (number share) ks es)) ≡ Ok new
            → (if b then (if int_eq n.numerator (pos 0) then Ok (set to es) else Err (at_line line InconsistentInput))
            else and_then (share_of line n count) (λ share. put_all line (number share) ks (set to es))) ≡ Ok (set to new)
        by true e = none_left (int_eq n.numerator (pos 0)) e
        by false e = some_left (number_of (part_ratio n count)) e

    plain_set : (line : ℕ) (ks : List Key) (es new : Entries) (n : Number) → At (λ q. (x : Value) → to q x ≡ x) ks → divided line n ks es ≡ Ok new
        → divided line n ks (set to es) ≡ Ok (set to new)
    plain_set line ks es new n same h =
        ap (λ r. and_then r (spread line (count_free (set to es) ks) ks (set to es)))
        (rest_alike line (set to es) es ks n (λ q inside. same_there es q (same q inside)))
        ∙ (ap (λ c. and_then (rest_of line es ks n) (spread line c ks (set to es))) (count_alike (set to es) es (keys_set es) ks) ∙ by (rest_of line es ks n) h)
      where
        by : (r : Result Number SituationFault) → and_then r (spread line (count_free es ks) ks es) ≡ Ok new
            → and_then r (spread line (count_free es ks) ks (set to es)) ≡ Ok (set to new)
        by (Ok m) e = spread_set line (count_free es ks) ks es new m same e
        by (Err f) e = cc

    -- what an axis moves, over keys that have no value yet
    moved_set : (line : ℕ) (ks : List Key) (es new : Entries) (n v part : Number) → At (λ q. value_at es q ≡ None) ks → (length ks == 0) ≡ false
        → number_of (part_ratio v (length ks)) ≡ Ok part → At (λ q. (x : Value) → to q x ≡ number part) ks → divided line n ks es ≡ Ok new
        → divided line v ks (set to es) ≡ Ok (set to new)
    moved_set line ks es new n v part free some is agrees h =
        spread_all line (length ks) ks (set to es) v (λ q inside. looked_set es q ∙ ap (option_map (to q)) (free q inside)) refl
        ∙ by (length ks == 0) some (sym (spread_all line (length ks) ks es n free refl) ∙ h)
      where
        put_part : (r : Result Number NumFault) → and_then (computed line r) (λ share. put_all line (number share) ks es) ≡ Ok new
            → and_then (share_of line v (length ks)) (λ share. put_all line (number share) ks (set to es)) ≡ Ok (set to new)
        put_part (Ok low) e =
            ap (λ r. and_then (computed line r) (λ share. put_all line (number share) ks (set to es))) is
            ∙ all_set line line (number low) (number part) ks es new e (λ q inside free. agrees q inside (number low))
        put_part (Err f) e = cc

        by : (b : Bool) → b ≡ false
            → (if b then (if int_eq n.numerator (pos 0) then Ok es else Err (at_line line InconsistentInput))
            else and_then (share_of line n (length ks)) (λ share. put_all line (number share) ks es)) ≡ Ok new
            → (if b then (if int_eq v.numerator (pos 0) then Ok (set to es) else Err (at_line line InconsistentInput))
            else and_then (share_of line v (length ks)) (λ share. put_all line (number share) ks (set to es))) ≡ Ok (set to new)
        by true none e = cc
        by false none e = put_part (number_of (part_ratio n (length ks))) e

    -- One input

    -- what an axis moves over parts of which none has a value
    abbrev pub IsFree : Rule → Entries → Given → Option Number → Type 0
    IsFree r es g value = fits r.unit g.period ≡ false → is_some value ≡ true → (q : Key) → list_any (same_key q) (parts_of r g) ≡ true → value_at es q ≡ None

    abbrev given_here : Given → Option Number → Given
    given_here g value = record { variable = g.variable; member = g.member; period = g.period; value = value_here value g.value; line = g.line }

    module _ (r : Rule) (g : Given) where
      own_stands : (value : Option Number) → AgreesOn to r g value → fits r.unit g.period ≡ true → to (own_key r g) g.value ≡ value_here value g.value
      own_stands value agrees own = by value (agrees (own_key r g) inside g.value)
        where
          inside : list_any (same_key (own_key r g)) (keys_of r g) ≡ true
          inside = ap (λ b. list_any (same_key (own_key r g)) (if b then own_key r g ∷ [] else parts_of r g)) own ∙ own_inside (own_key r g) []

          by : (o : Option Number) → Stands r g o g.value (to (own_key r g) g.value) → to (own_key r g) g.value ≡ value_here o g.value
          by None stands = stands
          by (Some v) stands = stands v (ap (λ b. share_by (if b then false else divides r.set_input) (length (keys_of r g)) v) own)

      module _ (own : fits r.unit g.period ≡ false) (some : (length (parts_of r g) == 0) ≡ false) where
        parts_are : keys_of r g ≡ parts_of r g
        parts_are = ap (λ b. if b then own_key r g ∷ [] else parts_of r g) own

        inside_keys : (q : Key) → list_any (same_key q) (parts_of r g) ≡ true → list_any (same_key q) (keys_of r g) ≡ true
        inside_keys q inside = ap (list_any (same_key q)) parts_are ∙ inside

        share_is : (o : Option SetInput) → r.set_input ≡ o → (v : Number) → share_for r g v ≡ share_by (divides o) (length (parts_of r g)) v
        share_is o is v =
            ap (λ ks. share_by (is_divided r g) (length ks) v) parts_are
            ∙ (ap (λ b. share_by (if b then false else divides r.set_input) (length (parts_of r g)) v) own ∙ ap (λ p. share_by (divides p) (length (parts_of r g)) v) is)

        dispatched_stands : (value : Option Number) → AgreesOn to r g value → r.set_input ≡ Some DispatchByPeriod → (q : Key)
            → list_any (same_key q) (parts_of r g) ≡ true → to q g.value ≡ value_here value g.value
        dispatched_stands None agrees is q inside = agrees q (inside_keys q inside) g.value
        dispatched_stands (Some v) agrees is q inside = agrees q (inside_keys q inside) g.value v (share_is (Some DispatchByPeriod) is v)

        part_is : (v part : Number) → number_of (part_ratio v (length (parts_of r g))) ≡ Ok part → share_by true (length (parts_of r g)) v ≡ Ok part
        part_is v part is = ap (λ b. if b then Err ZeroDivisor else number_of (part_ratio v (length (parts_of r g)))) some ∙ is

        divided_set : (value : Option Number) (w : Value) (es new : Entries) → AgreesOn to r g value → IsFree r es g value
            → HasParts value (length (parts_of r g)) → r.set_input ≡ Some DivideByPeriod → divided_value g.line w (parts_of r g) es ≡ Ok new
            → divided_value g.line (value_here value w) (parts_of r g) (set to es) ≡ Ok (set to new)
        divided_set None (number n) es new agrees free parts is h = plain_set g.line (parts_of r g) es new n (λ q inside x. agrees q (inside_keys q inside) x) h
        divided_set (Some v) (number n) es new agrees free parts is h =
            let part = parts some in
            moved_set g.line (parts_of r g) es new n v part.0 (free own refl) some part.1
            (λ q inside x. agrees q (inside_keys q inside) x part.0 (share_is (Some DivideByPeriod) is v ∙ part_is v part.0 part.1)) h
        divided_set value (bool b) es new agrees free parts is h = cc
        divided_set value (member_at i) es new agrees free parts is h = cc

        over_set : (o : Option SetInput) → r.set_input ≡ o → (value : Option Number) (es new : Entries) → AgreesOn to r g value → IsFree r es g value
            → HasParts value (length (parts_of r g)) → over_parts o g (parts_of r g) es ≡ Ok new
            → over_parts o (given_here g value) (parts_of r g) (set to es) ≡ Ok (set to new)
        over_set None is value es new agrees free parts h = cc
        over_set (Some DivideByPeriod) is value es new agrees free parts h = divided_set value g.value es new agrees free parts is h
        over_set (Some DispatchByPeriod) is value es new agrees free parts h =
            all_set g.line g.line g.value (value_here value g.value) (parts_of r g) es new h (λ q inside none. dispatched_stands value agrees is q inside)

      pub shared_set : (value : Option Number) (es new : Entries) → AgreesOn to r g value → IsFree r es g value
          → HasParts value (length (subs g.period r.unit)) → shared r g es ≡ Ok new → shared r (given_here g value) (set to es) ≡ Ok (set to new)
      shared_set value es new agrees free parts h = by (fits r.unit g.period) refl h
        where
          many : length (parts_of r g) ≡ length (subs g.period r.unit)
          many = length_parts g.variable g.member (subs g.period r.unit)

          over : (b : Bool) → is_longer r.unit g.period ≡ b → fits r.unit g.period ≡ false
              → (if b then over_parts r.set_input g (parts_of r g) es else Err (at_line g.line PeriodMismatch)) ≡ Ok new
              → (if b then over_parts r.set_input (given_here g value) (parts_of r g) (set to es) else Err (at_line g.line PeriodMismatch)) ≡ Ok (set to new)
          over true longer own e =
              over_set own (ap (λ n. n == 0) many ∙ some_count (length (subs g.period r.unit)) longer) r.set_input refl value es new agrees free
              (subst (HasParts value) (sym many) parts) e
          over false longer own e = cc

          by : (b : Bool) → fits r.unit g.period ≡ b
              → (if b then alone g.line (own_key r g) g.value es
              else (if is_longer r.unit g.period then over_parts r.set_input g (parts_of r g) es else Err (at_line g.line PeriodMismatch))) ≡ Ok new
              → (if b then alone g.line (own_key r g) (value_here value g.value) (set to es)
              else (if is_longer r.unit g.period then over_parts r.set_input (given_here g value) (parts_of r g) (set to es) else Err
              (at_line g.line PeriodMismatch))) ≡ Ok (set to new)
          by true own e = alone_set g.line g.line (own_key r g) g.value (value_here value g.value) es new e (own_stands value agrees own)
          by false own e = over (is_longer r.unit g.period) refl own e

-- What is there

-- nothing has changed but at the keys of an input
pub outside : (r : Rule) (g : Given) (es new : Entries) → shared r g es ≡ Ok new → (q : Key) → list_any (same_key q) (keys_of r g) ≡ false
    → value_at new q ≡ value_at es q
outside r g es new h q out = (shared_both r (record { given = g; value = None }) es es new refl (λ own k inside. refl) tt h).outside q out

-- what has a value keeps one
pub kept_by : (r : Rule) (g : Given) (es new : Entries) → shared r g es ≡ Ok new → (q : Key) → has es q ≡ true → has new q ≡ true
kept_by r g es new h q there = by (fits r.unit g.period) h
  where
    put_one : (line : ℕ) (k : Key) (x : Value) → put line k x es ≡ Ok new → has new q ≡ true
    put_one line k x e =
        ap is_some (looked-put line k x es new q e) ∙ some_stays (value_at es q) (if same_key q k then Some x else None) there

    put_many : (line : ℕ) (x : Value) (ks : List Key) → put_all line x ks es ≡ Ok new → has new q ≡ true
    put_many line x ks e =
        ap is_some (looked-put_all line x ks es new q e) ∙ some_stays (value_at es q) (if list_any (same_key q) ks then Some x else None) there

    same : ◌≡◌ {A = Result Entries SituationFault} (Ok es) (Ok new) → has new q ≡ true
    same e = let is : es ≡ new = cc in ap (λ fs. has fs q) (sym is) ∙ there

    one : (b : Bool) → (if b then Err (at_line g.line InconsistentInput) else put g.line (own_key r g) g.value es) ≡ Ok new → has new q ≡ true
    one true e = cc
    one false e = put_one g.line (own_key r g) g.value e

    none_left : (b : Bool) → (if b then Ok es else Err (at_line g.line InconsistentInput)) ≡ Ok new → has new q ≡ true
    none_left true e = same e
    none_left false e = cc

    some_left : (ks : List Key) (o : Result Number NumFault) → and_then (computed g.line o) (λ share. put_all g.line (number share) ks es) ≡ Ok new → has new q ≡ true
    some_left ks (Ok share) e = put_many g.line (number share) ks e
    some_left ks (Err f) e = cc

    over_some : (ks : List Key) (count : ℕ) (n : Number) → spread g.line count ks es n ≡ Ok new → has new q ≡ true
    over_some ks count n e = count_by (count == 0) e
      where
        count_by : (b : Bool)
            → (if b then (if int_eq n.numerator (pos 0) then Ok es else Err (at_line g.line InconsistentInput))
            else and_then (share_of g.line n count) (λ share. put_all g.line (number share) ks es)) ≡ Ok new → has new q ≡ true
        count_by true e = none_left (int_eq n.numerator (pos 0)) e
        count_by false e = some_left ks (number_of (part_ratio n count)) e

    rested : (ks : List Key) (count : ℕ) (o : Result Number SituationFault) → and_then o (spread g.line count ks es) ≡ Ok new → has new q ≡ true
    rested ks count (Ok m) e = over_some ks count m e
    rested ks count (Err f) e = cc

    divide : (ks : List Key) (w : Value) → divided_value g.line w ks es ≡ Ok new → has new q ≡ true
    divide ks (number n) e = rested ks (count_free es ks) (rest_of g.line es ks n) e
    divide ks (bool b) e = cc
    divide ks (member_at i) e = cc

    over : (o : Option SetInput) (ks : List Key) → over_parts o g ks es ≡ Ok new → has new q ≡ true
    over None ks e = cc
    over (Some DivideByPeriod) ks e = divide ks g.value e
    over (Some DispatchByPeriod) ks e = put_many g.line g.value ks e

    longer : (b : Bool) → (if b then over_parts r.set_input g (parts_of r g) es else Err (at_line g.line PeriodMismatch)) ≡ Ok new → has new q ≡ true
    longer true e = over r.set_input (parts_of r g) e
    longer false e = cc

    by : (b : Bool)
        → (if b then alone g.line (own_key r g) g.value es
        else (if is_longer r.unit g.period then over_parts r.set_input g (parts_of r g) es else Err (at_line g.line PeriodMismatch))) ≡ Ok new → has new q ≡ true
    by true e = one (has es (own_key r g)) e
    by false e = longer (is_longer r.unit g.period) e

-- the keys of an input have values then
pub there_after : (r : Rule) (g : Given) (es new : Entries) → (fits r.unit g.period ≡ false → At (λ q. value_at es q ≡ None) (parts_of r g))
    → shared r g es ≡ Ok new → (q : Key) → list_any (same_key q) (keys_of r g) ≡ true → has new q ≡ true
there_after r g es new free h q inside = by (fits r.unit g.period) refl h inside
  where
    some_now : (o w : Option Value) → is_some w ≡ true → is_some (otherwise o w) ≡ true
    some_now None w h = h
    some_now (Some x) w h = refl

    put_many : (line : ℕ) (x : Value) (ks : List Key) → put_all line x ks es ≡ Ok new → list_any (same_key q) ks ≡ true → has new q ≡ true
    put_many line x ks e inside =
        ap is_some (looked-put_all line x ks es new q e)
        ∙ some_now (value_at es q) (if list_any (same_key q) ks then Some x else None) (ap (λ b. is_some (if b then Some x else None)) inside)

    one : (b : Bool) → (if b then Err (at_line g.line InconsistentInput) else put g.line (own_key r g) g.value es) ≡ Ok new
        → list_any (same_key q) (own_key r g ∷ []) ≡ true → has new q ≡ true
    one true e inside = cc
    one false e inside =
        ap is_some (looked-put g.line (own_key r g) g.value es new q e)
        ∙ some_now (value_at es q) (if same_key q (own_key r g) then Some g.value else None) (only (same_key q (own_key r g)) inside)
      where
        only : (b : Bool) → (b || false) ≡ true → is_some (if b then Some g.value else None) ≡ true
        only true e = refl
        only false e = cc

    some_left : (o : Result Number NumFault) → and_then (computed g.line o) (λ share. put_all g.line (number share) (parts_of r g) es) ≡ Ok new
        → list_any (same_key q) (parts_of r g) ≡ true → has new q ≡ true
    some_left (Ok share) e inside = put_many g.line (number share) (parts_of r g) e inside
    some_left (Err f) e inside = cc

    by_count : (n : Number) (b : Bool) → b ≡ false
        → (if b then (if int_eq n.numerator (pos 0) then Ok es else Err (at_line g.line InconsistentInput))
        else and_then (share_of g.line n (length (parts_of r g))) (λ share. put_all g.line (number share) (parts_of r g) es)) ≡ Ok new
        → list_any (same_key q) (parts_of r g) ≡ true → has new q ≡ true
    by_count n true some e inside = cc
    by_count n false some e inside = some_left (number_of (part_ratio n (length (parts_of r g)))) e inside

    divide : (w : Value) → fits r.unit g.period ≡ false → (length (parts_of r g) == 0) ≡ false → divided_value g.line w (parts_of r g) es ≡ Ok new
        → list_any (same_key q) (parts_of r g) ≡ true → has new q ≡ true
    divide (number n) own some e inside =
        by_count n (length (parts_of r g) == 0) some (sym (spread_all g.line (length (parts_of r g)) (parts_of r g) es n (free own) refl) ∙ e) inside
    divide (bool b) own some e inside = cc
    divide (member_at i) own some e inside = cc

    over : (o : Option SetInput) → fits r.unit g.period ≡ false → (length (parts_of r g) == 0) ≡ false → over_parts o g (parts_of r g) es ≡ Ok new
        → list_any (same_key q) (parts_of r g) ≡ true → has new q ≡ true
    over None own some e inside = cc
    over (Some DivideByPeriod) own some e inside = divide g.value own some e inside
    over (Some DispatchByPeriod) own some e inside = put_many g.line g.value (parts_of r g) e inside

    longer : (b : Bool) → is_longer r.unit g.period ≡ b → fits r.unit g.period ≡ false
        → (if b then over_parts r.set_input g (parts_of r g) es else Err (at_line g.line PeriodMismatch)) ≡ Ok new
        → list_any (same_key q) (parts_of r g) ≡ true → has new q ≡ true
    longer true is own e inside =
        over r.set_input own
        (ap (λ n. n == 0) (length_parts g.variable g.member (subs g.period r.unit)) ∙ some_count (length (subs g.period r.unit)) is) e inside
    longer false is own e inside = cc

    by : (b : Bool) → fits r.unit g.period ≡ b
        → (if b then alone g.line (own_key r g) g.value es
        else (if is_longer r.unit g.period then over_parts r.set_input g (parts_of r g) es else Err (at_line g.line PeriodMismatch))) ≡ Ok new
        → list_any (same_key q) (if b then own_key r g ∷ [] else parts_of r g) ≡ true → has new q ≡ true
    by true own e inside = one (has es (own_key r g)) e inside
    by false own e inside = longer (is_longer r.unit g.period) refl own e inside
