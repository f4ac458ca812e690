-- What is found of keys after one more was put, and after some were taken out.
use Rattle.std.proofs.Common.{◌≡◌, ℕ, zero, suc, ◌+◌, ◌<◌, length, arith, Bool, true, false, cond, not, ◌==◌, ◌&&◌, List, [], ◌∷◌, ◌++◌, Option, None, Some, option_map, if◌then◌else◌, Result, Ok, Err, OnOk, refl, sym, ap, subst, ◌∙◌}
use Rattle.std.specs.Prelude.{filter, slice_set}
use Rattle.std.specs.List.{AllByRecursion}
use Rattle.std.specs.Map.{keys_of, lookup}
use Rattle.std.proofs.lemmas.Bool.{false≢true}
use Rattle.std.proofs.lemmas.Map.Entries.{lookup-filter-values, option_filter}
use Rattle.std.proofs.lemmas.Map.Keys.{IsDistinct-cons, IsDistinct-from_apart, IsDistinct-head, IsDistinct-tail}
use Rattle.fisca_key_semantics.specs.Keys as answers
use Rattle.fisca_key_semantics.proofs.KeyFacts.{equal_key, same_period}
use Rattle.fisca_memo_theory.specs.Entries.{with_entry}
use Rattle.fisca_memo_theory.specs.Reads.{reads_wheel, unless_moved}
use Rattle.fisca_inputs.specs.Entries.{same_key}
use Rattle.fisca_model.specs.Seen.{key_of, key_seen}
use Rattle.fisca_model.specs.contracts.key.KeyEq.TheImpl.Laws.{laws-law}
use Rattle.fisca_model.specs.declared.key.Key.{Key}
use Rattle.fisca_model.specs.Values as meaning
use Rattle.fisca_time.specs.Period.{is_period}
use Rattle.fisca_inputs.specs.Places.{AreOnce}
use Rattle.fisca_evaluator.specs.Found.{entry_seen, found_by, place_from, unless}
use Rattle.fisca_evaluator.specs.declared.known.Known.{Known}

abbrev Pairs : Type 0
Pairs = List (Key × Known)

-- the key is a key that lies in the calendar just where it is that key
same_keys : (key : Key) (k : meaning.Key) → is_period key.period ≡ true → is_period k.period ≡ true → same_key (key_of k) key ≡ answers.same_key (key_seen key) k
same_keys key k a b =
    laws-law.symm (key_of k) key
    ∙ ap (λ p. (key.variable == k.variable) && ((key.member == k.member) && p)) (same_period key.period k.period a b)

module _ (old new : Key → Option Known) where
  -- what is found after the key was put
  pub found_put : (key : Key) (known : Known) → is_period key.period ≡ true → ((k : Key) → new k ≡ (if same_key k key then Some known else old k))
      → (k : meaning.Key) → found_by new k ≡ with_entry (found_by old) (key_seen key) (entry_seen known) k
  found_put key known a put k = by (is_period k.period) refl
    where
      other : (b : Bool) → answers.same_key (key_seen key) k ≡ b → is_period k.period ≡ false → answers.same_key (key_seen key) k ≡ false
      other true same none = absurd (false≢true (sym none ∙ (ap (λ x. is_period x.period) (sym (equal_key (key_seen key) k same)) ∙ a)))
      other false same none = same

      seen_if : (b : Bool) → option_map entry_seen (if b then Some known else old (key_of k)) ≡ (if b then Some (entry_seen known) else option_map entry_seen (old (key_of k)))
      seen_if true = refl
      seen_if false = refl

      by : (b : Bool) → is_period k.period ≡ b → found_by new k ≡ with_entry (found_by old) (key_seen key) (entry_seen known) k
      by true p =
          rw p (ap (option_map entry_seen) (put (key_of k)) ∙ seen_if (same_key (key_of k) key)
          ∙ ap (λ b. if b then Some (entry_seen known) else option_map entry_seen (old (key_of k))) (same_keys key k a p))
      by false p = rw (p, other (answers.same_key (key_seen key) k) refl p) refl

  -- what is found after what reads the wheel was taken out
  pub found_moved : (wheel : ℕ) → ((k : Key) → new k ≡ unless (λ known. reads_wheel known.reads wheel) (old k)) → (k : meaning.Key) → found_by new k ≡ unless_moved wheel (found_by old k)
  found_moved wheel left k = by (is_period k.period)
    where
      by_bit : (known : Known) (b : Bool) → option_map entry_seen (if b then None else Some known) ≡ (if b then None else Some (entry_seen known))
      by_bit known true = refl
      by_bit known false = refl

      seen : (o : Option Known) → option_map entry_seen (unless (λ known. reads_wheel known.reads wheel) o) ≡ unless_moved wheel (option_map entry_seen o)
      seen None = refl
      seen (Some known) = by_bit known (reads_wheel known.reads wheel)

      by : (b : Bool) → (if b then option_map entry_seen (new (key_of k)) else None) ≡ unless_moved wheel (if b then option_map entry_seen (old (key_of k)) else None)
      by true = ap (option_map entry_seen) (left (key_of k)) ∙ seen (old (key_of k))
      by false = refl

-- What is left of pairs of which those that pass a test were taken out

unless_passed : {X : Type 0} (test : X → Bool) (o : Option X) → option_filter (λ x. not (test x)) o ≡ unless test o
unless_passed test None = refl
unless_passed test (Some x) = by (test x) refl
  where
    by : (b : Bool) → test x ≡ b → option_filter (λ x. not (test x)) (Some x) ≡ unless test (Some x)
    by true e = rw e refl
    by false e = rw e refl

pub left_of : {X : Type 0} (test : X → Bool) (es : List (Key × X)) → AreOnce es → (k : Key) → lookup (same_key k) (filter (λ e. not (test e.1)) es) ≡ unless test (lookup (same_key k) es)
left_of test es once k = lookup-filter-values laws-law (λ x. not (test x)) k es once ∙ unless_passed test (lookup (same_key k) es)

pub none_once : AreOnce {X = Known} []
none_once = IsDistinct-from_apart same_key [] (λ i j d before within. absurd (omega arith))

-- A pair in its place, or behind the others

module _ (key : Key) (known : Known) where
  -- what is found of a key k after the put
  abbrev IsPut : Pairs → Pairs → Type 0
  IsPut old new = (k : Key) → lookup (same_key k) new ≡ (if same_key k key then Some known else lookup (same_key k) old)

  -- a key that is in this pair is the other one just where the pair's is
  pair_like : (k q : Key) → same_key key q ≡ true → same_key k q ≡ same_key k key
  pair_like k q e = laws-law.symm k q ∙ sym (laws-law.congr key q k e) ∙ laws-law.symm key k

  -- a key that is in a pair which is not the other's is not that one
  pair_apart : (k q : Key) → same_key key q ≡ false → same_key k q ≡ true → same_key k key ≡ false
  pair_apart k q off on = by (same_key k key) refl
    where
      by : (b : Bool) → same_key k key ≡ b → same_key k key ≡ false
      by true e = absurd (false≢true (sym off ∙ (sym (laws-law.congr k key q e) ∙ on)))
      by false e = e

  skip : (p : Key × Known) (old new : Pairs) → same_key key p.0 ≡ false → IsPut old new → IsPut (p ∷ old) (p ∷ new)
  skip p old new off put k = by (same_key k p.0) refl
    where
      by : (b : Bool) → same_key k p.0 ≡ b → (cond b (Some p.1) (lookup (same_key k) new)) ≡ (if same_key k key then Some known else cond b (Some p.1) (lookup (same_key k) old))
      by true e = rw (pair_apart k p.0 off e) refl
      by false e = put k

  over : (p : Key × Known) (ps : Pairs) → same_key key p.0 ≡ true → IsPut (p ∷ ps) ((key, known) ∷ ps)
  over p ps on k = by (same_key k key) refl
    where
      by : (b : Bool) → same_key k key ≡ b → cond b (Some known) (lookup (same_key k) ps) ≡ (if b then Some known else cond (same_key k p.0) (Some p.1) (lookup (same_key k) ps))
      by true e = refl
      by false e = rw (pair_like k p.0 on ∙ e) refl

  -- a test that each key passes, the other one among them, is passed by each key afterwards
  all_set : (P : Key → Type 0) (ps : Pairs) (i : ℕ) → AllByRecursion P (keys_of ps) → P key → AllByRecursion P (keys_of (slice_set ps i (key, known)))
  all_set P [] i all here = tt
  all_set P (p ∷ ps) zero all here = (here, all.1)
  all_set P (p ∷ ps) (suc i) all here = (all.0, all_set P ps i all.1 here)

  all_last : (P : Key → Type 0) (ps : Pairs) → AllByRecursion P (keys_of ps) → P key → AllByRecursion P (keys_of (ps ++ (key, known) ∷ []))
  all_last P [] all here = (here, tt)
  all_last P (p ∷ ps) all here = (all.0, all_last P ps all.1 here)

  all_like : (q : Key) → same_key key q ≡ true → (ks : List Key) → AllByRecursion (λ y. same_key q y ≡ false) ks → AllByRecursion (λ y. same_key key y ≡ false) ks
  all_like q on [] all = tt
  all_like q on (k ∷ ks) all = (laws-law.congr key q k on ∙ all.0, all_like q on ks all.1)

  record IsPlace (at i : ℕ) (ps : Pairs) : Type 0 where
    off : ℕ
    is : i ≡ at + off
    within : off < length ps
    put : IsPut ps (slice_set ps off (key, known))
    once : AreOnce ps → AreOnce (slice_set ps off (key, known))

  place_put : (at i : ℕ) (ps : Pairs) → place_from at key ps ≡ Some i → IsPlace at i ps
  place_put at i [] h = cc
  place_put at i (p ∷ ps) h = by (λ e. place_put (suc at) i ps e) (same_key key p.0) refl h
    where
      by : (place_from (suc at) key ps ≡ Some i → IsPlace (suc at) i ps) → (b : Bool) → same_key key p.0 ≡ b → (if b then Some at else place_from (suc at) key ps) ≡ Some i → IsPlace at i (p ∷ ps)
      by more true e h' = let same : at ≡ i = cc in record { off = 0; is = omega (arith, same); within = omega arith; put = over p ps e; once = λ o. IsDistinct-cons same_key key (keys_of ps) (all_like p.0 e (keys_of ps) (IsDistinct-head same_key p.0 (keys_of ps) o)) (IsDistinct-tail same_key p.0 (keys_of ps) o) }
      by more false e h' =
          let rest = more h' in
          record {
            off = suc rest.off;
            is = omega (arith, rest.is);
            within = omega (arith, rest.within);
            put = skip p ps (slice_set ps rest.off (key, known)) e rest.put;
            once = λ o. IsDistinct-cons same_key p.0 (keys_of (slice_set ps rest.off (key, known)))
                (all_set (λ y. same_key p.0 y ≡ false) ps rest.off (IsDistinct-head same_key p.0 (keys_of ps) o) (laws-law.symm p.0 key ∙ e))
                (rest.once (IsDistinct-tail same_key p.0 (keys_of ps) o));
          }

  pub placed_within : (i : ℕ) (ps : Pairs) → place_from 0 key ps ≡ Some i → i < length ps
  placed_within i ps h = let at = place_put 0 i ps h in omega (arith, at.is, at.within)

  pub placed_put : (i : ℕ) (ps : Pairs) → place_from 0 key ps ≡ Some i → (k : Key) → lookup (same_key k) (slice_set ps i (key, known)) ≡ (if same_key k key then Some known else lookup (same_key k) ps)
  placed_put i ps h =
      let at = place_put 0 i ps h in
      let same : at.off ≡ i = omega (arith, at.is) in
      subst (λ n. IsPut ps (slice_set ps n (key, known))) same at.put

  pub placed_once : (i : ℕ) (ps : Pairs) → place_from 0 key ps ≡ Some i → AreOnce ps → AreOnce (slice_set ps i (key, known))
  placed_once i ps h once =
      let at = place_put 0 i ps h in
      let same : at.off ≡ i = omega (arith, at.is) in
      subst (λ n. AreOnce (slice_set ps n (key, known))) same (at.once once)

  pub last_once : (at : ℕ) (ps : Pairs) → place_from at key ps ≡ None → AreOnce ps → AreOnce (ps ++ (key, known) ∷ [])
  last_once at [] h once = IsDistinct-cons same_key key [] tt once
  last_once at (p ∷ ps) h once = by (λ e. last_once (suc at) ps e (IsDistinct-tail same_key p.0 (keys_of ps) once)) (same_key key p.0) refl h
    where
      by : (place_from (suc at) key ps ≡ None → AreOnce (ps ++ (key, known) ∷ [])) → (b : Bool) → same_key key p.0 ≡ b → (if b then Some at else place_from (suc at) key ps) ≡ None → AreOnce (p ∷ ps ++ (key, known) ∷ [])
      by more true e h' = cc
      by more false e h' =
          IsDistinct-cons same_key p.0 (keys_of (ps ++ (key, known) ∷ [])) (all_last (λ y. same_key p.0 y ≡ false) ps (IsDistinct-head same_key p.0 (keys_of ps) once) (laws-law.symm p.0 key ∙ e)) (more h')

  pub last_put : (at : ℕ) (ps : Pairs) → place_from at key ps ≡ None → (k : Key) → lookup (same_key k) (ps ++ (key, known) ∷ []) ≡ (if same_key k key then Some known else lookup (same_key k) ps)
  last_put at [] h = λ k. by (same_key k key)
    where
      by : (b : Bool) → cond b (Some known) None ≡ (if b then Some known else None)
      by true = refl
      by false = refl
  last_put at (p ∷ ps) h = by (λ e. last_put (suc at) ps e) (same_key key p.0) refl h
    where
      by : (place_from (suc at) key ps ≡ None → IsPut ps (ps ++ (key, known) ∷ [])) → (b : Bool) → same_key key p.0 ≡ b → (if b then Some at else place_from (suc at) key ps) ≡ None → IsPut (p ∷ ps) (p ∷ ps ++ (key, known) ∷ [])
      by more true e h' = cc
      by more false e h' = skip p ps (ps ++ (key, known) ∷ []) e (more h')

pub on_ok : (X E : Type 0) (r : Result X E) (P Q : Type 0) → (P → Q) → OnOk r P → OnOk r Q
on_ok X E (Ok x) P Q f p = f p
on_ok X E (Err e) P Q f p = p
