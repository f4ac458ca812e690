-- What is answered for a key below others, in each of its cases.
use Rattle.std.proofs.Common.{◌≡◌, zero, suc, ◌-◌, ◌<◌, List, [], ◌∷◌, ◌++◌, length, length-append, append_assoc, Result, Ok, Err, refl, sym, ap, ◌∙◌, arith}
use Rattle.fisca_num.specs.Results.{and_then}
use Rattle.fisca_model.specs.Values.{Value, Key}
use Rattle.fisca_key_semantics.specs.Dialogues.{Dialogue}
use Rattle.fisca_key_semantics.specs.Dialogues as d
use Rattle.fisca_key_semantics.specs.Answers.{Halt, fault, out, Source, Sources, refused, known, formula, Oracle, outcome, through, at_once, value_within, answer, settled, verdict}
use Rattle.fisca_key_semantics.specs.Chains.{asked}
use Rattle.fisca_model.specs.Causes.{Fault, fault_at, period_mismatch}
use Rattle.fisca_key_semantics.specs.Inquiry.{Inquiry, of_key, named}
use Rattle.fisca_key_semantics.specs.Stacks.{first_of, settled_below, left_below, answer_below, ends_below, IsAskable}
use Rattle.fisca_key_semantics.proofs.Fuel.{within_zero, at_formula, at_known, at_refused}

first_same : (above : List Key) (key : Key) → first_of (above ++ key ∷ []) key ≡ first_of above key
first_same [] key = refl
first_same (k ∷ ks) key = refl

below_through : (above : List Key) (key : Key) (r : Result Value Halt) → settled_below above key (through key r) ≡ settled_below (above ++ key ∷ []) key r
below_through above key (Ok v) = refl
below_through above key (Err (fault f)) = refl
below_through above key (Err (out c)) =
    ap (λ l. Err (verdict (first_of above key) l)) (sym (append_assoc above (key ∷ []) c)) ∙ ap (λ k. Err (verdict k ((above ++ key ∷ []) ++ c))) (sym (first_same above key))

pub below_ok : (above : List Key) (key : Key) (r : Result Value Halt) (v : Value) → settled_below above key r ≡ Ok v → r ≡ Ok v
below_ok above key (Ok w) v e = cc
below_ok above key (Err (fault f)) v e = cc
below_ok above key (Err (out c)) v e = cc

module _ (src : Sources) where
  -- below no key
  pub answer_alone : (key : Key) → answer src key ≡ answer_below src [] key
  unfolding answer
  answer_alone key = by_end (value_within src 100 key)
    where
      by_end : (r : Result Value Halt) → settled key r ≡ settled_below [] key r
      by_end (Ok v) = refl
      by_end (Err (fault f)) = refl
      by_end (Err (out c)) = refl

  module _ (above : List Key) (key : Key) where
    pub below_refused : src key ≡ refused → answer_below src above key ≡ Err (fault_at period_mismatch key)
    below_refused e = ap (settled_below above key) (at_refused src (left_below above) key e)

    no_fuel : IsAskable (src key) → value_within src zero key ≡ Err (out (key ∷ []))
    no_fuel is = within_zero src key ∙ by_source (src key) is
      where
        by_source : (s : Source) → IsAskable s → at_once s key ≡ Err (out (key ∷ []))
        by_source refused h = absurd h
        by_source (known v) h = refl
        by_source (formula q) h = refl

    -- a hundred keys stand above
    pub below_full : IsAskable (src key) → length above ≡ 100 → answer_below src above key ≡ Err (verdict (first_of above key) (above ++ key ∷ []))
    below_full is long =
        let none : left_below above ≡ 0 = omega arith in
        ap (λ n. settled_below above key (value_within src n key)) none ∙ ap (settled_below above key) (no_fuel is)

    pub below_known : (v : Value) → src key ≡ known v → length above < 100 → answer_below src above key ≡ Ok v
    below_known v e room =
        let more : left_below above ≡ suc (99 - length above) = omega arith in
        ap (λ n. settled_below above key (value_within src n key)) more ∙ ap (settled_below above key) (at_known src (99 - length above) key v e)

    -- the key goes onto the stack
    pub below_formula : (q : Inquiry) → src key ≡ formula q → length above < 100 → answer_below src above key ≡ ends_below src (above ++ key ∷ []) key q
    below_formula q e room =
        let n = left_below (above ++ key ∷ []) in
        let more : left_below above ≡ suc n = omega (arith, length-append above (key ∷ [])) in
        ap (λ m. settled_below above key (value_within src m key)) more ∙ ap (settled_below above key) (at_formula src n key q e) ∙ below_through above key (outcome (value_within src n) q)

  -- The formula of the last key of a stack: of its inquiry q a dialogue r is left.
  module _ (stack : List Key) (key : Key) (q : Inquiry) (r : Dialogue) (ends_so : outcome (value_within src (left_below stack)) q ≡ outcome (value_within src (left_below stack)) (of_key key r)) where
    abbrev W : Oracle
    W = value_within src (left_below stack)

    pub left_fault : (f : d.OperationFault) → r ≡ d.fails f → ends_below src stack key q ≡ Err (named key f)
    left_fault f e = ap (settled_below stack key) (ends_so ∙ ap (λ x. outcome W (of_key key x)) e)

    -- it asks for j
    module _ (j : Key) (go : Value → Dialogue) (e : r ≡ d.asks j go) where
      asks_so : outcome W q ≡ and_then (W j) (λ v. outcome W (of_key key (go v)))
      asks_so = ends_so ∙ ap (λ x. outcome W (of_key key x)) e

      pub asked_more : (v : Value) → answer_below src stack j ≡ Ok v → outcome W q ≡ outcome W (of_key key (go v))
      asked_more v a = asks_so ∙ ap (λ z. and_then z (λ w. outcome W (of_key key (go w)))) (below_ok stack j (W j) v a)

      -- fewer questions are left
      pub asked_less : (v : Value) → answer_below src stack j ≡ Ok v → length (asked W (of_key key (go v))) < length (asked W (of_key key r))
      asked_less v a = rw (e, below_ok stack j (W j) v a) (omega arith)
