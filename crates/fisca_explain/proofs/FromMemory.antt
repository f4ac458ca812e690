-- What memory answers of a key is what the rules define, where all of its work is remembered.
use Rattle.std.proofs.Common.{◌≡◌, ℕ, zero, suc, ◌≤◌, ◌<◌, Bool, true, false, nat_lt, Option, Some, None, Result, Ok, Err, if◌then◌else◌, refl, sym, ap, ◌∙◌, subst, arith}
use Rattle.std.proofs.lemmas.Bool.Decides.{nat_tests}
use Rattle.fisca_key_semantics.specs.Answers.{Halt, Source, Sources, at_once, formula, from_source, known, refused, value_within}
use Rattle.fisca_key_semantics.specs.Chains.{IsDefinite}
use Rattle.fisca_key_semantics.specs.Inquiry.{Inquiry}
use Rattle.fisca_key_semantics.proofs.Fuel.{stays}
use Rattle.fisca_memo_theory.specs.Entries.{Entries, Entry, Remembered}
use Rattle.fisca_memo_theory.specs.Memory.{HasFormula, IsKnown, IsTrueEntry, IsTrueMemory}
use Rattle.fisca_model.specs.Values.{Key, Value}
use Rattle.fisca_simulation.specs.Followed.{value_or_none}
use Rattle.fisca_explain.specs.Below.{answer_by, answers_by, if_left, if_low}

-- no value
none_of : (r : Result Value Halt) → ((v : Value) → r ≡ Ok v → ⊥) → value_or_none r ≡ None
none_of (Ok v) never = absurd (never v refl)
none_of (Err h) never = refl

tall_of : (a b : ℕ) → nat_lt a b ≡ true → a < b
tall_of a b test = grind (arith, nat_tests, test)

short_of : (a b : ℕ) → nat_lt a b ≡ false → b ≤ a
short_of a b test = grind (arith, nat_tests, test)

definite_of : (r : Result Value Halt) (v : Value) → r ≡ Ok v → IsDefinite r
definite_of r v e = rw e tt

module _ (src : Sources) (entries : Entries) (truth : IsTrueMemory src entries) (left : ℕ) (k : Key)
    (there : (v : Value) → value_within src left k ≡ Ok v → HasFormula src k → Remembered entries k) where
  low : (e : Entry) → IsKnown src e.height k e.value e.height → (b : Bool) → nat_lt left e.height ≡ b → (if b then None else Some e.value) ≡ value_or_none (value_within src left k)
  low e is true lt =
      sym (none_of (value_within src left k) (λ v h.
      let tall = tall_of left e.height lt in
      let least : e.height ≤ left = is.height_is.least left (definite_of (value_within src left k) v h) in
      absurd (omega (arith, tall, least))))
  low e is false lt =
      let short = short_of left e.height lt in
      sym (ap value_or_none (stays src e.height left short k (definite_of (value_within src e.height k) e.value is.answers) ∙ is.answers))

  by_entry : HasFormula src k → (o : Option Entry) → entries k ≡ o → IsTrueEntry src k o → if_low left o ≡ value_or_none (value_within src left k)
  by_entry formula_is None none is = sym (none_of (value_within src left k) (λ v h. let found = there v h formula_is in absurd (lost (sym none ∙ found.1))))
    where
      lost : {e : Entry} → None ≡ Some e → ⊥
      lost x = cc
  by_entry formula_is (Some e) some is = low e is (nat_lt left e.height) refl

  by_source : (s : Source) → src k ≡ s → (n : ℕ) → left ≡ n → answer_by left (entries k) s ≡ value_or_none (value_within src left k)
  unfolding value_within
  by_source refused e zero n = sym (ap (λ j. value_or_none (value_within src j k)) n ∙ ap (λ s. value_or_none (at_once s k)) e)
  by_source refused e (suc m) n = sym (ap (λ j. value_or_none (value_within src j k)) n ∙ ap (λ s. value_or_none (from_source s k (value_within src m))) e)
  by_source (known v) e zero n = ap (λ j. if_left j (Some v)) n ∙ sym (ap (λ j. value_or_none (value_within src j k)) n ∙ ap (λ s. value_or_none (at_once s k)) e)
  by_source (known v) e (suc m) n =
      ap (λ j. if_left j (Some v)) n ∙ sym (ap (λ j. value_or_none (value_within src j k)) n ∙ ap (λ s. value_or_none (from_source s k (value_within src m))) e)
  by_source (formula d) e m n = by_entry (d, e) (entries k) refl (truth.each k)

  pub from_memory : answers_by src entries left k ≡ value_or_none (value_within src left k)
  from_memory = by_source (src k) refl left refl
