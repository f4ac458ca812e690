-- What is answered for a key below others where something is remembered of it, where it stands among them, and where no fuel is left.
use Rattle.std.proofs.Common.{◌≡◌, ℕ, suc, ◌-◌, ◌<◌, ◌≤◌, List, [], ◌∷◌, ◌++◌, length, Result, Ok, Err, Some, None, true, false, cond, refl, ap, ◌∙◌, arith}
use Rattle.fisca_model.specs.Values.{Value, Key}
use Rattle.fisca_key_semantics.specs.Answers.{Halt, fault, out, Sources, known, value_within, first_again, verdict_by}
use Rattle.fisca_key_semantics.specs.Chains.{IsDefinite, IsHeight}
use Rattle.fisca_model.specs.Causes.{fault_at, cycle, too_deep}
use Rattle.fisca_key_semantics.specs.Keys.{has}
use Rattle.fisca_key_semantics.specs.Stacks.{first_of, settled_below, left_below, answer_below, IsAskable}
use Rattle.fisca_key_semantics.proofs.Below.{below_full}
use Rattle.fisca_key_semantics.proofs.Fuel.{at_known, stays}
use Rattle.fisca_key_semantics.proofs.Paths.{In-has, again-push, on_stack, on_stack_never, too_tall}
use Rattle.fisca_memo_theory.specs.Memory.{IsKnown}
use Rattle.fisca_memo_theory.specs.Stacks.{IsStack, IsFresh, IsWorking}
use Rattle.fisca_memo_theory.proofs.Heights.{known_height, same_answer}

out_of : (r : Result Value Halt) → (IsDefinite r → ⊥) → (c : List Key) × (r ≡ Err (out c))
out_of (Ok v) n = absurd (n tt)
out_of (Err (fault f)) n = absurd (n tt)
out_of (Err (out c)) n = (c, refl)

-- a value at its own height
pub at_height : (src : Sources) (n : ℕ) (key : Key) (v : Value) (h : ℕ) → IsKnown src n key v h → IsKnown src h key v h
at_height src n key v h k = record { answers = same_answer src h n key k.height_is.enough (rw k.answers tt) ∙ k.answers; height_is = k.height_is }

module _ (src : Sources) (above : List Key) (key : Key) where
  abbrev n : ℕ
  n = left_below above

  -- a value that is remembered and is not too high
  pub low_known : (v : Value) (h : ℕ) → IsKnown src h key v h → h ≤ left_below above → IsKnown src (left_below above) key v h
  low_known v h k le = record { answers = stays src h n le key (rw k.answers tt) ∙ k.answers; height_is = k.height_is }

  pub known_answer : (v : Value) (h : ℕ) → IsKnown src (left_below above) key v h → answer_below src above key ≡ Ok v
  known_answer v h k = ap (settled_below above key) k.answers

  -- an input or a default
  pub at_hand_known : (v : Value) → src key ≡ known v → length above < 100 → IsKnown src (left_below above) key v 1
  at_hand_known v e room =
      let more : left_below above ≡ suc (99 - length above) = omega arith in
      record { answers = ap (λ m. value_within src m key) more ∙ at_known src (99 - length above) key v e; height_is = known_height src key v e }

  module _ (stack : IsStack src above key) where
    -- the fuel runs out in a chain without a key that stands twice
    once : (c : List Key) → value_within src n key ≡ Err (out c) → first_again (above ++ c) ≡ None → answer_below src above key ≡ Err (fault_at too_deep (first_of above key))
    once c e none = ap (settled_below above key) e ∙ ap (λ o. Err (verdict_by o (first_of above key))) none

    -- a value that is higher than the fuel that is left
    pub tall_answer : (h : ℕ) → IsHeight src key h → left_below above < h → answer_below src above key ≡ Err (fault_at too_deep (first_of above key))
    tall_answer h height less =
        let o = out_of (value_within src n key) (λ d. let le : h ≤ n = height.least n d in omega (arith, le, less)) in
        once o.0 o.1 (too_tall src above key n h o.0 stack.path stack.distinct height.enough o.1)

    -- the key stands among those above it
    pub cycle_answer : has above key ≡ true → answer_below src above key ≡ Err (fault_at cycle key)
    cycle_answer i =
        let o = out_of (value_within src n key) (on_stack_never src above key stack.path (In-has above key i) n) in
        ap (settled_below above key) o.1 ∙ ap (λ a. Err (verdict_by a (first_of above key))) (on_stack src above key n o.0 stack.path stack.distinct (In-has above key i) o.1)

    -- a hundred other keys stand above it
    pub full_answer : has above key ≡ false → IsAskable (src key) → length above ≡ 100 → answer_below src above key ≡ Err (fault_at too_deep (first_of above key))
    full_answer away is long =
        below_full src above key is long
        ∙ ap (λ a. Err (verdict_by a (first_of above key))) (again-push above key stack.distinct ∙ ap (λ b. cond b (Some key) None) away)

    -- the key goes onto the stack
    pub working : IsFresh above key → IsWorking src (above ++ key ∷ []) key
    working f = record {
      below = above;
      ends_so = refl;
      path = stack.path;
      distinct = again-push above key stack.distinct ∙ ap (λ b. cond b (Some key) None) f.absent;
    }
