-- What was kept at times, as what is remembered.
use Rattle.std.proofs.Common.{◌≡◌, ℕ, ◌+◌, ◌<◌, ◌≤◌, Bool, true, false, List, length, All, slice_set, Option, None, Some, if◌then◌else◌, refl, sym, ap, ◌∙◌, arith}
use Rattle.fisca_memo_theory.specs.Reads.{reads_wheel}
use Rattle.fisca_inputs.specs.Entries.{same_key}
use Rattle.fisca_model.specs.declared.key.Key.{Key}
use Rattle.fisca_evaluator.specs.Found.{unless}
use Rattle.fisca_evaluator.specs.Stamps.{fresh, if_fresh}
use Rattle.fisca_evaluator.specs.declared.known.Known.{Known}
use Rattle.fisca_evaluator.specs.declared.known.Stamped.{Stamped}
use Rattle.fisca_evaluator.proofs.Wheel.{fresh_now, fresh_moved, fresh_still}

abbrev time_of : Option Stamped → ℕ
time_of None = 0
time_of (Some s) = s.kept_at

module _ (old new : Key → Option Stamped) (turned : List ℕ) (clock : ℕ) (times : (k : Key) (s : Stamped) → old k ≡ Some s → s.kept_at ≤ clock) where
  -- the key is kept now
  module _ (key : Key) (known : Known) (put : (k : Key) → new k ≡ (if same_key k key then Some (record { known = known; kept_at = clock }) else old k)) where
    pub put_kept : (k : Key) (s : Stamped) → new k ≡ Some s → s.kept_at ≤ clock
    put_kept k s is = by_case (same_key k key) (sym (put k) ∙ is)
      where
        by_case : (b : Bool) → (if b then Some (record { known = known; kept_at = clock }) else old k) ≡ Some s → s.kept_at ≤ clock
        by_case true e = let at : clock ≡ s.kept_at = ap time_of e in omega arith
        by_case false e = times k s e

    pub put_fresh : All (λ time. time ≤ clock) turned → (k : Key) → if_fresh turned (new k) ≡ (if same_key k key then Some known else if_fresh turned (old k))
    put_fresh all k = ap (if_fresh turned) (put k) ∙ by_case (same_key k key)
      where
        by_case : (b : Bool) → if_fresh turned (if b then Some (record { known = known; kept_at = clock }) else old k) ≡ (if b then Some known else if_fresh turned (old k))
        by_case true = ap (λ b. if b then Some known else None) (fresh_now turned known.reads clock all)
        by_case false = refl

  -- what reads the wheel is taken out
  module _ (wheel : ℕ) (left : (k : Key) → new k ≡ unless (λ s. reads_wheel s.known.reads wheel) (old k)) where
    pub left_fresh : (k : Key) → if_fresh turned (new k) ≡ unless (λ known. reads_wheel known.reads wheel) (if_fresh turned (old k))
    left_fresh k = ap (if_fresh turned) (left k) ∙ by_entry (old k)
      where
        by_entry : (o : Option Stamped) → if_fresh turned (unless (λ s. reads_wheel s.known.reads wheel) o) ≡ unless (λ known. reads_wheel known.reads wheel) (if_fresh turned o)
        by_entry None = refl
        by_entry (Some t) = by_bits (reads_wheel t.known.reads wheel) (fresh turned t.known.reads t.kept_at) refl refl
          where
            by_bits : (b f : Bool) → reads_wheel t.known.reads wheel ≡ b → fresh turned t.known.reads t.kept_at ≡ f
                → if_fresh turned (if b then None else Some t) ≡ unless (λ known. reads_wheel known.reads wheel) (if f then Some t.known else None)
            by_bits true true p q = rw p refl
            by_bits true false p q = refl
            by_bits false true p q = rw (p, q) refl
            by_bits false false p q = rw q refl

  -- the wheel turns
  pub turned_fresh : (wheel : ℕ) → wheel < length turned → (k : Key) → if_fresh (slice_set turned wheel (clock + 1)) (old k) ≡ unless (λ known. reads_wheel known.reads wheel) (if_fresh turned (old k))
  turned_fresh wheel within k = by_entry (old k) refl
    where
      by_entry : (o : Option Stamped) → old k ≡ o → if_fresh (slice_set turned wheel (clock + 1)) o ≡ unless (λ known. reads_wheel known.reads wheel) (if_fresh turned o)
      by_entry None e = refl
      by_entry (Some t) e = by_bits (reads_wheel t.known.reads wheel) (fresh turned t.known.reads t.kept_at) refl refl
        where
          later : t.kept_at < clock + 1
          later = let le = times k t e in omega arith

          by_bits : (b f : Bool) → reads_wheel t.known.reads wheel ≡ b → fresh turned t.known.reads t.kept_at ≡ f
              → (if fresh (slice_set turned wheel (clock + 1)) t.known.reads t.kept_at then Some t.known else None) ≡ unless (λ known. reads_wheel known.reads wheel) (if f then Some t.known else None)
          by_bits true true p q = rw (fresh_moved turned t.known.reads wheel t.kept_at (clock + 1) later within p, p) refl
          by_bits true false p q = rw (fresh_moved turned t.known.reads wheel t.kept_at (clock + 1) later within p) refl
          by_bits false true p q = rw (fresh_still turned t.known.reads wheel t.kept_at (clock + 1) p, q, p) refl
          by_bits false false p q = rw (fresh_still turned t.known.reads wheel t.kept_at (clock + 1) p, q) refl
