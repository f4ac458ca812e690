-- Which wheels a formula's work reads, question by question.
use Rattle.std.proofs.Common.{◌≡◌, ◌⊎◌, inl, inr, ℕ, zero, suc, ◌≤◌, max, Bool, true, false, ◌==◌, ◌||◌, ◌++◌, Ok, Some, if◌then◌else◌, refl, sym, ap, subst, ◌∙◌, arith, ⊎_elim}
use Rattle.std.specs.Int.{bit_at}
use Rattle.std.specs.Int.Bits.{bit_or}
use Rattle.std.proofs.lemmas.Nat.Bits.{bit_at_or, bit_at-lt, bit_at-zero}
use Rattle.std.proofs.lemmas.List.{append-nil}
use Rattle.std.proofs.lemmas.Bool.{false≢true, or_left, or_right}
use Rattle.fisca_model.specs.Values.{Value, Key}
use Rattle.fisca_key_semantics.specs.Answers.{Sources, known, formula, value_within}
use Rattle.fisca_key_semantics.specs.Chains.{IsDefinite, IsHeight, asked}
use Rattle.fisca_key_semantics.specs.Inquiry.{Inquiry, gives, asks}
use Rattle.fisca_key_semantics.specs.Keys.{In, same_key}
use Rattle.fisca_key_semantics.proofs.KeyFacts.{equal_key}
use Rattle.fisca_memo_theory.specs.Entries.{Entry, Entries, with_entry}
use Rattle.fisca_memo_theory.specs.Gathered.{IsGathered, keys_of}
use Rattle.fisca_memo_theory.specs.Reads.{reads_wheel, Moves, ReadsAt, IsReads, AreReads}
use Rattle.fisca_memo_theory.proofs.Turned.{reads_same}
use Rattle.fisca_memo_theory.proofs.Gathering.{leads_asked, gathered_asks, gathered_wider, gathered_more, gathered_all}

one_of : (a b : ℕ) → a ≤ 1 → b ≤ 1 → (max a b == 1) ≡ ((a == 1) || (b == 1))
one_of zero zero p q = refl
one_of zero (suc zero) p q = refl
one_of zero (suc (suc b)) p q = absurd (omega arith)
one_of (suc zero) zero p q = refl
one_of (suc zero) (suc zero) p q = refl
one_of (suc zero) (suc (suc b)) p q = absurd (omega arith)
one_of (suc (suc a)) b p q = absurd (omega arith)

pub reads_both : (left right wheel : ℕ) → reads_wheel (bit_or left right) wheel ≡ (reads_wheel left wheel || reads_wheel right wheel)
reads_both left right wheel = ap (λ n. n == 1) (bit_at_or left right wheel) ∙ one_of (bit_at left wheel) (bit_at right wheel) (let a = bit_at-lt left wheel in omega arith) (let b = bit_at-lt right wheel in omega arith)

pub reads_none : (wheel : ℕ) → reads_wheel 0 wheel ≡ false
reads_none wheel = ap (λ n. n == 1) (bit_at-zero wheel)

or_cases : (a b : Bool) → (a || b) ≡ true → (a ≡ true) ⊎ (b ≡ true)
or_cases true b h = inl refl
or_cases false b h = inr h

pub left_reads : (left right wheel : ℕ) → reads_wheel left wheel ≡ true → reads_wheel (bit_or left right) wheel ≡ true
left_reads left right wheel h = reads_both left right wheel ∙ or_left _ _ h

pub right_reads : (left right wheel : ℕ) → reads_wheel right wheel ≡ true → reads_wheel (bit_or left right) wheel ≡ true
right_reads left right wheel h = reads_both left right wheel ∙ or_right (reads_wheel left wheel) _ h

module _ (marks : Key → ℕ) (src : Sources) where
  -- all that the key reads is in the set
  abbrev pub ReadsWithin : ℕ → ℕ → Key → Type 0
  ReadsWithin n reads j = (wheel : ℕ) → ReadsAt (Moves marks wheel) src n j → reads_wheel reads wheel ≡ true

  -- each wheel of the set is read by something that d asks for
  abbrev pub AreRead : ℕ → Inquiry → ℕ → Type 0
  AreRead n d reads = (wheel : ℕ) → reads_wheel reads wheel ≡ true → (j : Key) × In j (asked (value_within src n) d) × ReadsAt (Moves marks wheel) src n j

  pub none_read : (n : ℕ) (d : Inquiry) → AreRead n d 0
  none_read n d wheel h = absurd (false≢true (sym (reads_none wheel) ∙ h))

  pub known_reads : (key : Key) (v : Value) → src key ≡ known v → IsReads marks src key (marks key)
  unfolding ReadsAt
  known_reads key v e zero def wheel = (λ h. h, λ r. r)
  known_reads key v e (suc n) def wheel = (λ h. inl h, λ r. ⊎_elim (λ (m : Moves marks wheel key). m) (λ (f : (d : Inquiry) × (src key ≡ formula d) × (j : Key) × In j (asked (value_within src n) d) × ReadsAt (Moves marks wheel) src n j). let b : known v ≡ formula f.0 = sym e ∙ f.1 in absurd (cc)) r)

  module _ (n : ℕ) (d now : Inquiry) (tallest reads : ℕ) (g : IsGathered src n d now tallest (ReadsWithin n reads)) where
    -- one more answer
    module _ (j : Key) (go : Value → Inquiry) (is : now ≡ asks j go) (v : Value) (h more : ℕ) (a : value_within src n j ≡ Ok v) (height : IsHeight src j h) (r : IsReads marks src j more) where
      def : IsDefinite (value_within src n j)
      def = rw a tt

      pub reading_more : IsGathered src n d (go v) (max tallest h) (ReadsWithin n (bit_or reads more))
      reading_more = gathered_more src n d now tallest (ReadsWithin n (bit_or reads more))
          (gathered_wider src n d now tallest (ReadsWithin n reads) (ReadsWithin n (bit_or reads more)) (λ k w wheel x. left_reads reads more wheel (w wheel x)) g)
          j go is v h a height (λ wheel x. right_reads reads more wheel ((r n def wheel).1 x))

      pub read_more : AreRead n d reads → AreRead n d (bit_or reads more)
      read_more old wheel bit = ⊎_elim
          (λ (l : reads_wheel reads wheel ≡ true). old wheel l)
          (λ (m : reads_wheel more wheel ≡ true). (j, gathered_asks src n d now tallest (ReadsWithin n reads) g j go is, (r n def wheel).0 m))
          (or_cases _ _ (sym (reads_both reads more wheel) ∙ bit))

    -- the formula's value: what it reads, and the key's own wheels
    pub reading_done : (key : Key) (v : Value) → src key ≡ formula d → now ≡ gives v → AreRead n d reads → IsReads marks src key (bit_or reads (marks key))
    unfolding ReadsAt
    reading_done key v e is old m def wheel =
        let all = gathered_all src n key d now tallest (ReadsWithin n reads) v e g is in
        let def_n : IsDefinite (value_within src (suc n) key) = rw all.0 tt in
        let list : asked (value_within src n) d ≡ keys_of g.done = leads_asked (value_within src n) g.done d now g.leads g.right ∙ ap (λ x. keys_of g.done ++ asked (value_within src n) x) is ∙ append-nil (keys_of g.done) in (
          λ bit. reads_same (Moves marks wheel) src m (suc n) key def (⊎_elim
              (λ (l : reads_wheel reads wheel ≡ true). let o = old wheel l in inr (d, e, o.0, o.1, o.2))
              (λ (own : reads_wheel (marks key) wheel ≡ true). inl own)
              (or_cases _ _ (sym (reads_both reads (marks key) wheel) ∙ bit))),
          λ r. ⊎_elim
              (λ (own : Moves marks wheel key). right_reads reads (marks key) wheel own)
              (λ (f : (d : Inquiry) × (src key ≡ formula d) × (j : Key) × In j (asked (value_within src n) d) × ReadsAt (Moves marks wheel) src n j).
              let same : f.0 ≡ d = formula_same f.0 d (sym f.1 ∙ e) in
              let i : In f.2 (keys_of g.done) = subst (In f.2) list (subst (λ x. In f.2 (asked (value_within src n) x)) same f.3) in
              left_reads reads (marks key) wheel (g.all f.2 i wheel f.4))
              (reads_same (Moves marks wheel) src (suc n) m key def_n r),
        )
      where
        formula_same : (a b : Inquiry) → formula a ≡ formula b → a ≡ b
        formula_same a b h = cc

  -- one more entry
  pub kept_reads : (m : Entries) (key : Key) (k : Entry) → AreReads marks src m → IsReads marks src key k.reads → AreReads marks src (with_entry m key k)
  kept_reads m key k old here q e h = by_test (same_key key q) (equal_key key q) h
    where
      by_test : (b : Bool) → (b ≡ true → key ≡ q) → (if b then Some k else m q) ≡ Some e → IsReads marks src q e.reads
      by_test true same h = subst (λ x. IsReads marks src x e.reads) (same refl) (subst (λ w. IsReads marks src key w) (reads_eq h) here)
        where
          reads_eq : Some k ≡ Some e → k.reads ≡ e.reads
          reads_eq h = ap (λ x. x.reads) (some_eq k e h)
            where
              some_eq : (a b : Entry) → Some a ≡ Some b → a ≡ b
              some_eq a b h = cc
      by_test false same h = old q e h
