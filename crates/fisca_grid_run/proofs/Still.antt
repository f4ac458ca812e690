-- Keys whose work reads no wheel.
use Rattle.std.proofs.Common.{◌≡◌, ◌<◌, ℕ, zero, suc, ◌/◌, ◌^◌, true, refl, sym, ap, subst, ◌∙◌, arith, ◌==◌}
use Rattle.std.proofs.Math.Nat.{pow-suc}
use Rattle.std.proofs.lemmas.Nat.Bits.{bit_at_lowest, bit_at-suc, bit_at-lt}
use Rattle.std.specs.Int.{bit_at}
use Rattle.fisca_key_semantics.specs.Answers.{Sources}
use Rattle.fisca_memo_theory.proofs.Reading.{reads_none}
use Rattle.fisca_memo_theory.specs.Added.{IsFreeKey}
use Rattle.fisca_memo_theory.specs.Entries.{Entries, Remembered}
use Rattle.fisca_memo_theory.specs.Memory.{IsTrueEntry, IsTrueMemory}
use Rattle.fisca_memo_theory.specs.Reads.{AreReads, IsReads, reads_wheel}
use Rattle.fisca_model.specs.Values.{Key}

-- a number none of whose bits is set is 0
below_power : (n : ℕ) → n < 2 ^ n
below_power zero = omega arith
below_power (suc n) = omega (arith, below_power n, pow-suc 2 n)

none_set : (k n : ℕ) → n < 2 ^ k → ((i : ℕ) → bit_at n i ≡ 0) → n ≡ 0
none_set zero n small none = omega (arith, small)
none_set (suc k) n small none =
    let half = none_set k (n / 2) (omega (arith, small, pow-suc 2 k)) (λ i. sym (bit_at-suc n i) ∙ none (suc i)) in
    omega (arith, half, sym (bit_at_lowest n) ∙ none 0)

no_bits : (n : ℕ) → ((wheel : ℕ) → reads_wheel n wheel ≡ true → ⊥) → n ≡ 0
no_bits n none = none_set n n (below_power n) (λ i. by i (bit_at n i) refl)
  where
    by : (i b : ℕ) → bit_at n i ≡ b → b ≡ 0
    by i zero h = refl
    by i (suc zero) h = absurd (none i (ap (λ b. b == 1) h))
    by i (suc (suc b)) h = absurd (omega (arith, h, bit_at-lt n i))

module _ (marks : Key → ℕ) (src : Sources) (m : Entries) (truth : IsTrueMemory src m) (reads : AreReads marks src m) (k : Key) where
  pub free_read : IsFreeKey m k → Remembered m k × IsReads marks src k 0
  free_read free = ((free.0, free.1), subst (IsReads marks src k) free.2 (reads k free.0 free.1))

  pub read_free : Remembered m k → IsReads marks src k 0 → IsFreeKey m k
  read_free there still =
      let e = there.0 in
      let known = subst (IsTrueEntry src k) there.1 (truth.each k) in (
        e,
        there.1,
        no_bits e.reads (λ wheel set.
            let read = (reads k e there.1 e.height known.height_is.enough wheel).0 set in
            let other = (still e.height known.height_is.enough wheel).1 read in
            let none = reads_none wheel in
            cc),
      )
