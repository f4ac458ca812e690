-- How the keys are counted of which something is remembered that reads no wheel.
use Rattle.std.proofs.Common.{◌≡◌, ◌⊎◌, inl, inr, ℕ, suc, Bool, true, false, cond, [], ◌∷◌, None, Some, refl, sym, ap, subst, ◌∙◌, ⊎_elim}
use Rattle.fisca_model.specs.Values.{Key}
use Rattle.fisca_key_semantics.specs.Keys.{In, same_key}
use Rattle.fisca_key_semantics.proofs.KeyFacts.{equal_key, key_same}
use Rattle.fisca_memo_theory.specs.Added.{IsFree, IsFreeKey}
use Rattle.fisca_memo_theory.specs.Entries.{Entry, Entries, with_entry, Remembered}
use Rattle.fisca_memo_theory.specs.Reads.{reads_wheel, unless_moved}
use Rattle.fisca_memo_theory.proofs.Reading.{reads_none}
use Rattle.fisca_memo_theory.proofs.Turned.{still_there, still_here}

pub free_none : (m : Entries) → ((k : Key) → m k ≡ None) → IsFree m 0
free_none m none = record {
  keys = [];
  different = tt;
  exact = λ k. (λ i. absurd i, λ f. let e : m k ≡ None = none k in let some = f.1 in cc);
  counted = refl;
}

-- Something is remembered of one more key.
module _ (m : Entries) (key : Key) (e : Entry) (none : Remembered m key → ⊥) where
  old_free : (k : Key) → IsFreeKey m k → IsFreeKey (with_entry m key e) k
  old_free k f = by (same_key key k) (equal_key key k)
    where
      by : (b : Bool) → (b ≡ true → key ≡ k) → (x : Entry) × (cond b (Some e) (m k) ≡ Some x) × (x.reads ≡ 0)
      by true same = absurd (none (subst (Remembered m) (sym (same refl)) (f.0, f.1)))
      by false same = f

  some_same : (x y : Entry) → Some x ≡ Some y → x ≡ y
  some_same x y h = cc

  -- it reads no wheel
  module _ (read : e.reads ≡ 0) where
    here_free : IsFreeKey (with_entry m key e) key
    here_free = (e, ap (λ b. cond b (Some e) (m key)) (key_same key key refl), read)

    new_free : (k : Key) → IsFreeKey (with_entry m key e) k → (key ≡ k) ⊎ IsFreeKey m k
    new_free k f = by (same_key key k) (equal_key key k) f
      where
        by : (b : Bool) → (b ≡ true → key ≡ k) → (x : Entry) × (cond b (Some e) (m k) ≡ Some x) × (x.reads ≡ 0) → (key ≡ k) ⊎ IsFreeKey m k
        by true same g = inl (same refl)
        by false same g = inr g

    pub free_more : (count : ℕ) → IsFree m count → IsFree (with_entry m key e) (suc count)
    free_more count f = record {
      keys = key ∷ f.keys;
      different = (λ i. let there = (f.exact key).0 i in none (there.0, there.1), f.different);
      exact = λ k. (
        λ i. ⊎_elim (λ (s : key ≡ k). subst (IsFreeKey (with_entry m key e)) s here_free) (λ (o : In k f.keys). old_free k ((f.exact k).0 o)) i,
        λ g. ⊎_elim (λ (s : key ≡ k). inl s) (λ (o : IsFreeKey m k). inr ((f.exact k).1 o)) (new_free k g),
      );
      counted = ap suc f.counted;
    }

  -- it reads some wheel
  module _ (read : e.reads ≡ 0 → ⊥) where
    no_more : (k : Key) → IsFreeKey (with_entry m key e) k → IsFreeKey m k
    no_more k f = by (same_key key k) f
      where
        by : (b : Bool) → (x : Entry) × (cond b (Some e) (m k) ≡ Some x) × (x.reads ≡ 0) → IsFreeKey m k
        by true g = absurd (read (ap (λ x. x.reads) (some_same e g.0 g.1) ∙ g.2))
        by false g = g

    pub free_same : (count : ℕ) → IsFree m count → IsFree (with_entry m key e) count
    free_same count f = record {
      keys = f.keys;
      different = f.different;
      exact = λ k. (λ i. old_free k ((f.exact k).0 i), λ g. (f.exact k).1 (no_more k g));
      counted = f.counted;
    }

-- A wheel turns: what reads none stays.
pub free_moved : (m m' : Entries) (wheel count : ℕ) → ((k : Key) → m' k ≡ unless_moved wheel (m k)) → IsFree m count → IsFree m' count
free_moved m m' wheel count dropped f = record {
  keys = f.keys;
  different = f.different;
  exact = λ k. (
    λ i. let g = (f.exact k).0 i in (g.0, dropped k ∙ still_here wheel (m k) g.0 g.1 (ap (λ n. reads_wheel n wheel) g.2 ∙ reads_none wheel), g.2),
    λ g. let was = still_there wheel (m k) g.0 (sym (dropped k) ∙ g.1) in (f.exact k).1 (g.0, was.0, g.2),
  );
  counted = f.counted;
}
