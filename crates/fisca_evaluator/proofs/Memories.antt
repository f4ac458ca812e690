-- What is remembered stays so.
use Rattle.std.proofs.Common.{◌≡◌, ◌⊎◌, ℕ, suc, ◌==◌, eqb-true, eq-eqb, Bool, true, false, if◌then◌else◌, None, refl, sym, ap, ◌∙◌}
use Rattle.std.proofs.lemmas.Bool.{false≢true}
use Rattle.fisca_model.specs.Values.{Key}
use Rattle.fisca_key_semantics.specs.Answers.{Sources}
use Rattle.fisca_memo_theory.specs.Entries.{Entry, Entries, Remembered, with_entry}
use Rattle.fisca_memo_theory.specs.Memory.{HasFormula, IsKnown}
use Rattle.fisca_memo_theory.specs.Reads.{IsReads, Moves, unless_moved}
use Rattle.fisca_memo_theory.specs.Work.{IsWork}
use Rattle.fisca_memo_theory.proofs.Frees.{free_none, free_more, free_same, free_moved}
use Rattle.fisca_memo_theory.proofs.Growing.{empty_true, kept_true}
use Rattle.fisca_memo_theory.proofs.Reading.{kept_reads}
use Rattle.fisca_memo_theory.proofs.Turned.{turned_true, turned_reads}
use Rattle.fisca_evaluator.specs.Counted.{one_more}
use Rattle.fisca_evaluator.specs.Counting.{CountsFree}
use Rattle.fisca_evaluator.specs.Recalled.{IsMemory}

-- One more entry

pub kept_frees : (m : Entries) (key : Key) (e : Entry) (free : ℕ) → (Remembered m key → ⊥) → CountsFree m free → CountsFree (with_entry m key e) (if e.reads == 0 then one_more free else free)
kept_frees m key e free none counts = by (e.reads == 0) refl
  where
    by : (b : Bool) → (e.reads == 0) ≡ b → CountsFree (with_entry m key e) (if b then one_more free else free)
    by true p = record { count = suc counts.count; keys = free_more m key e none (eqb-true e.reads 0 p) counts.count counts.keys; counted = ap one_more counts.counted }
    by false p = record { count = counts.count; keys = free_same m key e none (λ r. false≢true (sym p ∙ eq-eqb e.reads 0 r)) counts.count counts.keys; counted = counts.counted }

pub kept_memory : (marks : Key → ℕ) (src : Sources) (m : Entries) (free : ℕ) (key : Key) (e : Entry) → IsMemory marks src m free → IsKnown src e.height key e.value e.height → IsReads marks src key e.reads
    → ((n : ℕ) (k : Key) → IsWork src n key k → (k ≡ key) ⊎ Remembered m k) → HasFormula src key → (Remembered m key → ⊥) → IsMemory marks src (with_entry m key e) (if e.reads == 0 then one_more free else free)
kept_memory marks src m free key e memory known read work formula none = record {
  truth = kept_true src m key e memory.truth known work formula;
  reads = kept_reads marks src m key e memory.reads read;
  frees = kept_frees m key e free none memory.frees;
}

-- Nothing is remembered

pub none_there : (m : Entries) (key : Key) → m key ≡ None → Remembered m key → ⊥
none_there m key none r = let some = r.1 in cc

pub empty_memory : (marks : Key → ℕ) (src : Sources) (m : Entries) → ((k : Key) → m k ≡ None) → IsMemory marks src m 0
empty_memory marks src m none = record {
  truth = empty_true src m none;
  reads = λ key e h. absurd (none_there m key (none key) (e, h));
  frees = record { count = 0; keys = free_none m none; counted = refl };
}

-- A wheel turns

pub turned_memory : (marks : Key → ℕ) (wheel : ℕ) (old new : Sources) (before after : Entries) (free : ℕ) → ((k : Key) → (Moves marks wheel k → ⊥) → new k ≡ old k)
    → ((k : Key) → after k ≡ unless_moved wheel (before k)) → IsMemory marks old before free → IsMemory marks new after free
turned_memory marks wheel old new before after free still dropped memory = record {
  truth = turned_true marks wheel old new still before after dropped memory.truth memory.reads;
  reads = turned_reads marks wheel old new still before after dropped memory.truth memory.reads;
  frees = record { count = memory.frees.count; keys = free_moved before after wheel memory.frees.count dropped memory.frees.keys; counted = memory.frees.counted };
}
