-- How added entries are counted.
use Rattle.std.proofs.Common.{◌≡◌, inl, inr, ℕ, ◌+◌, List, [], ◌∷◌, ◌++◌, length, length-append, refl, sym, ap, subst, ◌∙◌, ⊎_elim}
use Rattle.fisca_model.specs.Values.{Key}
use Rattle.fisca_key_semantics.specs.Keys.{In}
use Rattle.fisca_key_semantics.proofs.Paths.{In-append, In-left, In-right}
use Rattle.fisca_memo_theory.specs.Added.{AreDifferent, AreAdded}
use Rattle.fisca_memo_theory.specs.Entries.{Entry, Entries, with_entry, Remembered}
use Rattle.fisca_memo_theory.proofs.Growing.{kept_here, kept_old, kept_cases}

different_append : (xs ys : List Key) → AreDifferent xs → AreDifferent ys → ((k : Key) → In k xs → In k ys → ⊥) → AreDifferent (xs ++ ys)
different_append [] ys a b apart = b
different_append (x ∷ xs) ys a b apart =
    (λ i. ⊎_elim (λ (l : In x xs). a.0 l) (λ (r : In x ys). apart x (inl refl) r) (In-append xs ys x i), different_append xs ys a.1 b (λ k i. apart k (inr i)))

pub added_none : (m : Entries) → AreAdded m m 0
added_none m = record { keys = []; different = tt; fresh = λ k i. absurd i; there = λ k i. absurd i; only = λ k r. inl r; kept = λ k r. r; counted = refl }

-- what is added in turn
pub added_on : (a b c : Entries) (m n : ℕ) → AreAdded a b m → AreAdded b c n → AreAdded a c (m + n)
added_on a b c m n f s = record {
  keys = f.keys ++ s.keys;
  different = different_append f.keys s.keys f.different s.different (λ k i j. s.fresh k j (f.there k i));
  fresh = λ k i r. ⊎_elim (λ (l : In k f.keys). f.fresh k l r) (λ (q : In k s.keys). s.fresh k q (f.kept k r)) (In-append f.keys s.keys k i);
  there = λ k i. ⊎_elim (λ (l : In k f.keys). s.kept k (f.there k l)) (λ (q : In k s.keys). s.there k q) (In-append f.keys s.keys k i);
  only = λ k r. ⊎_elim
      (λ (x : Remembered b k). ⊎_elim (λ (o : Remembered a k). inl o) (λ (l : In k f.keys). inr (In-left f.keys s.keys k l)) (f.only k x))
      (λ (q : In k s.keys). inr (In-right f.keys s.keys k q))
      (s.only k r);
  kept = λ k r. s.kept k (f.kept k r);
  counted = length-append f.keys s.keys ∙ (ap (λ x. x + length s.keys) f.counted ∙ ap (λ x. m + x) s.counted);
}

-- one entry of a key of which nothing was remembered
pub added_entry : (m : Entries) (key : Key) (e : Entry) → (Remembered m key → ⊥) → AreAdded m (with_entry m key e) 1
added_entry m key e none = record {
  keys = key ∷ [];
  different = (λ i. i, tt);
  fresh = λ k i r. ⊎_elim (λ (s : key ≡ k). none (subst (Remembered m) (sym s) r)) (λ (z : ⊥). z) i;
  there = λ k i. ⊎_elim (λ (s : key ≡ k). subst (Remembered (with_entry m key e)) s (kept_here m key e)) (λ (z : ⊥). absurd z) i;
  only = λ k r. ⊎_elim (λ (s : k ≡ key). inr (inl (sym s))) (λ (o : Remembered m k). inl o) (kept_cases m key e k r);
  kept = λ k r. kept_old m key e k r;
  counted = refl;
}
