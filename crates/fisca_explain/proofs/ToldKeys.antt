-- The keys that are told are those of the explanation.
use Rattle.std.proofs.Common.{◌≡◌, ℕ, zero, suc, ◌+◌, ◌-◌, Bool, true, false, List, [], ◌∷◌, ◌++◌, length, length-append, if◌then◌else◌, Option, Some, None, refl, sym, ap, ap₂, ◌∙◌, subst, arith}
use Rattle.fisca_explanation.specs.Explanations.{Line, Reason, alone as one_line, behind as lines_behind, beyond, above, explanation, explanation_within, in_turn, line_at, over as line_over, told_at_once, told_from as lines_from, worked}
use Rattle.fisca_explanation.specs.Explanations as theory
use Rattle.fisca_explanation.proofs.Lines.{within_suc, within_zero}
use Rattle.fisca_key_semantics.specs.Answers.{Source, Sources, at_once, refused, known, formula, most_keys, value_within}
use Rattle.fisca_key_semantics.specs.Chains.{asked}
use Rattle.fisca_key_semantics.specs.Inquiry.{Inquiry}
use Rattle.fisca_key_semantics.specs.Keys.{has}
use Rattle.fisca_model.specs.Seen.{key_seen}
use Rattle.fisca_model.specs.Values.{Key, Value}
use Rattle.fisca_simulation.specs.Followed.{keys_noted, value_or_none}
use Rattle.fisca_simulation.specs.declared.note.Note.{Note}
use Rattle.fisca_simulation.specs.declared.note.Note.TheVariants as note
use Rattle.fisca_explain.specs.Explained.{Entry, Told, alone, behind, entry, explained, notes_in_turn, of_key, of_reading, over, reason_at, told_at_end, told_from}
use Rattle.fisca_explain.specs.KeyLines.{AreNeeds, KeyLine, of_entries, of_lines}

abbrev key_line : ℕ → Key → Reason → KeyLine
key_line depth key reason = record { depth = depth; key = key; reason = reason }

entries_append : (xs ys : List Entry) → of_entries (xs ++ ys) ≡ of_entries xs ++ of_entries ys
entries_append [] ys = refl
entries_append (of_key depth key v reason ∷ xs) ys = ap (λ (ls : List KeyLine). key_line depth key reason ∷ ls) (entries_append xs ys)
entries_append (of_reading depth r ∷ xs) ys = entries_append xs ys

lines_append : (xs ys : List Line) → of_lines (xs ++ ys) ≡ of_lines xs ++ of_lines ys
lines_append [] ys = refl
lines_append (x ∷ xs) ys = ap (λ (ls : List KeyLine). key_line (length x.path) x.key x.reason ∷ ls) (lines_append xs ys)

-- the same keys in the same order, and the same formulas were followed
pub record AreSame (t : Told) (u : theory.Told) : Type 0 where
  pub lines : of_entries t.entries ≡ of_lines u.lines
  pub followed : t.followed ≡ u.followed

module _ (tell : List Key → Key → Told) (say : List Key → Key → theory.Told) (h : (before : List Key) (k : Key) → AreSame (tell before k) (say before k)) where
  turn_same : (depth : ℕ) (before : List Key) (ns : List Note) → AreSame (notes_in_turn tell depth before ns) (in_turn say before (keys_noted ns))
  turn_same depth before [] = record { lines = refl; followed = refl }
  turn_same depth before (note.Read r ∷ ns) = let rest = turn_same depth before ns in record { lines = rest.lines; followed = rest.followed }
  turn_same depth before (note.Asked k ∷ ns) =
      let first = h before (key_seen k) in
      let rest = subst (λ b. AreSame (notes_in_turn tell depth (tell before (key_seen k)).followed ns) (in_turn say b (keys_noted ns))) first.followed (turn_same depth (tell before (key_seen k)).followed ns) in
      record {
        lines = entries_append (tell before (key_seen k)).entries _ ∙ ap₂ (λ (xs ys : List KeyLine). xs ++ ys) first.lines rest.lines ∙ sym (lines_append (say before (key_seen k)).lines _);
        followed = rest.followed;
      }

module _ (src : Sources) (N : ℕ → Key → List Note) (needs : AreNeeds src N) where
  abbrev W : ℕ → Key → Option Value
  W depth key = value_or_none (value_within src (most_keys - depth) key)

  pub told_same : (n : ℕ) (path before : List Key) (key : Key) → n + length path ≡ most_keys → AreSame (explained src W N n (length path) before key) (explanation_within src n path before key)
  unfolding explained explanation_within value_within
  told_same zero path before key room = by (src key) refl
    where
      none_left : most_keys - length path ≡ zero
      none_left = omega (arith, room)

      by : (s : Source) → src key ≡ s → AreSame (told_at_end src W N (length path) before key s) (told_at_once src path before key s)
      by refused e = record { lines = refl; followed = refl }
      by (known v) e = record { lines = ap (λ (r : Reason). key_line (length path) key r ∷ []) (ap reason_at (ap (λ m. value_or_none (value_within src m key)) none_left ∙ ap (λ s. value_or_none (at_once s key)) e)); followed = refl }
      by (formula d) e = by_before (has before key)
        where
          by_before : (b : Bool) → AreSame (alone (entry src W N (length path) key (if b then above else beyond)) before) (one_line (line_at src path key (if b then above else beyond)) before)
          by_before true = record { lines = refl; followed = refl }
          by_before false = record { lines = refl; followed = refl }
  told_same (suc n) path before key room = by (λ b k. told_same n (path ++ key ∷ []) b k deeper) (src key) refl
    where
      long : length (path ++ key ∷ []) ≡ suc (length path)
      long = omega (arith, length-append path (key ∷ []))

      deeper : n + length (path ++ key ∷ []) ≡ most_keys
      deeper = omega (arith, long, room)

      left : most_keys - 1 - length path ≡ n
      left = omega (arith, room)

      by : ((b : List Key) (k : Key) → AreSame (explained src W N n (length (path ++ key ∷ [])) b k) (explanation_within src n (path ++ key ∷ []) b k)) → (s : Source) → src key ≡ s
          → AreSame (told_from src W N (explained src W N n (suc (length path))) (length path) before key s) (lines_from src (value_within src n) (explanation_within src n (path ++ key ∷ [])) path before key s)
      by ih refused e = record { lines = refl; followed = refl }
      by ih (known v) e = record { lines = refl; followed = refl }
      by ih (formula d) e = by_before (has before key)
        where
          rest : AreSame (notes_in_turn (explained src W N n (suc (length path))) (suc (length path)) (before ++ key ∷ []) (N (length path) key)) (in_turn (explanation_within src n (path ++ key ∷ [])) (before ++ key ∷ []) (asked (value_within src n) d))
          rest = subst (λ ks. AreSame (notes_in_turn (explained src W N n (suc (length path))) (suc (length path)) (before ++ key ∷ []) (N (length path) key)) (in_turn (explanation_within src n (path ++ key ∷ [])) (before ++ key ∷ []) ks))
              (needs (length path) key d e ∙ ap (λ m. asked (value_within src m) d) left)
              (turn_same (explained src W N n (suc (length path))) (explanation_within src n (path ++ key ∷ []))
              (λ b k. subst (λ m. AreSame (explained src W N n m b k) (explanation_within src n (path ++ key ∷ []) b k)) long (ih b k))
              (suc (length path)) (before ++ key ∷ []) (N (length path) key))

          by_before : (b : Bool) → AreSame (if b then alone (entry src W N (length path) key above) before
              else over (entry src W N (length path) key worked) (notes_in_turn (explained src W N n (suc (length path))) (suc (length path)) (before ++ key ∷ []) (N (length path) key)))
              (if b then one_line (line_at src path key above) before else line_over (line_at src path key worked) (in_turn (explanation_within src n (path ++ key ∷ [])) (before ++ key ∷ []) (asked (value_within src n) d)))
          by_before true = record { lines = refl; followed = refl }
          by_before false = record { lines = ap (λ (ls : List KeyLine). key_line (length path) key worked ∷ ls) rest.lines; followed = rest.followed }
