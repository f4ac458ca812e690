-- A run on its way: what is written, and what is left.
use Rattle.std.specs.Option.{option_eq}
use Rattle.std.proofs.Common.{length-append, Bool, nat_eq, ◌≡◌, ℕ, zero, suc, ◌+◌, ◌-◌, ◌<◌, ◌≤◌, true, false, List, [], ◌∷◌, ◌++◌, Option, Some, None, Ok, Err, take, refl, sym, ap, ◌∙◌, arith, nat_lt, cond, option_map, subst, append_assoc, Contains, max, ⊎_elim}
use Rattle.std.specs.List.{filter_map, range_with_len, cons_option}
use Rattle.std.specs.Io.KnownBytes.{Appends, Keeps}
use Rattle.std.proofs.lemmas.Bool.{cases_lt}
use Rattle.std.proofs.lemmas.Bool.Decides.{nat_tests}
use Rattle.std.proofs.lemmas.List.{append-nil}
use Rattle.std.proofs.lemmas.List.Elements.{filter-append, Contains-append_right}
use Rattle.fisca_writer.specs.Row.{Row, Nothing, Line, Fault, text_of}
use Rattle.fisca_writer.specs.Lines.{line_at, lines, End, AtEnd, MoreFrom, FaultAt, continued_from, run_end}
use Rattle.fisca_writer.specs.Run.{texts, IsProperPrefix, IsBrokenOff, IsRun, IsRowWritten}
use Rattle.fisca_writer.specs.Continued.{lines_before, rows_after, IsResumable}
use Rattle.fisca_writer.specs.Ranges.{end_within, range_end, range_lines, stop_of}
use Rattle.fisca_writer.specs.declared.limit.Limit.{Limit}
use Rattle.fisca_writer.specs.declared.rows.Selection.{Selection}
use Rattle.fisca_writer.specs.declared.rows.Selection.TheVariants.{Kept, Dropped}
use Rattle.fisca_writer.specs.declared.fault.RunFault.{RunFault}
use Rattle.fisca_writer.specs.declared.fault.RunFault.TheVariants as fault
use Rattle.fisca_writer.proofs.Grown.{trans, grown_then_kept}
use Rattle.fisca_writer.proofs.Walk.{one_less, lines-dropped, lines-kept, lines-fault, lines-over, run_end-dropped, run_end-kept, run_end-fault, run_end-past, run_end-stopped}

-- all lines stand before the position, or none does
abbrev pub IsBelow : ℕ → List (ℕ × List ℕ) → Type 0
IsBelow position [] = Unit {0}
IsBelow position (line ∷ rest) = (line.0 < position) × IsBelow position rest

abbrev pub IsFrom : ℕ → List (ℕ × List ℕ) → Type 0
IsFrom position [] = Unit {0}
IsFrom position (line ∷ rest) = (position ≤ line.0) × IsFrom position rest

below_more : (position : ℕ) (xs : List (ℕ × List ℕ)) → IsBelow position xs → IsBelow (position + 1) xs
below_more position [] below = tt
below_more position (line ∷ rest) below = let first = below.0 in (omega arith, below_more position rest below.1)

below_append : (position : ℕ) (text : List ℕ) (xs : List (ℕ × List ℕ)) → IsBelow position xs → IsBelow (position + 1) (xs ++ (position, text) ∷ [])
below_append position text [] below = (omega arith, tt)
below_append position text (line ∷ rest) below = let first = below.0 in (omega arith, below_append position text rest below.1)

before_below : (position : ℕ) (xs : List (ℕ × List ℕ)) → IsBelow position xs → lines_before position xs ≡ xs
before_below position [] below = refl
before_below position (line ∷ rest) below =
    let first = below.0 in
    let passes : nat_lt line.0 position ≡ true = grind (arith, nat_tests) in
    ap (λ b. cond b (line ∷ lines_before position rest) (lines_before position rest)) passes ∙ ap (λ xs. line ∷ xs) (before_below position rest below.1)

before_from : (position : ℕ) (xs : List (ℕ × List ℕ)) → IsFrom position xs → lines_before position xs ≡ []
before_from position [] above = refl
before_from position (line ∷ rest) above =
    let first = above.0 in
    let fails : nat_lt line.0 position ≡ false = grind (arith, nat_tests) in
    ap (λ b. cond b (line ∷ lines_before position rest) (lines_before position rest)) fails ∙ before_from position rest above.1

from_less : (low position : ℕ) (xs : List (ℕ × List ℕ)) → low ≤ position → IsFrom position xs → IsFrom low xs
from_less low position [] less above = tt
from_less low position (line ∷ rest) less above = let first = above.0 in (omega arith, from_less low position rest less above.1)

from_first : {F : Type 0} (row : Row F) (position : ℕ) (rest : List (ℕ × List ℕ)) → IsFrom position rest → IsFrom position (cons_option (option_map (λ text. (position, text)) (text_of row)) rest)
from_first Nothing position rest above = above
from_first (Line text) position rest above = (omega arith, above)
from_first (Fault x) position rest above = above

from_all : {F : Type 0} (row : ℕ → Row F) (position count : ℕ) → IsFrom position (filter_map (line_at row) (range_with_len position count))
from_all row position zero = tt
from_all row position (suc count) = from_first (row position) position _ (from_less position (position + 1) _ (omega arith) (from_all row (position + 1) count))

-- so do the first of them
pub from_take : (position count : ℕ) (xs : List (ℕ × List ℕ)) → IsFrom position xs → IsFrom position (take count xs)
from_take position zero xs above = tt
from_take position (suc count) [] above = tt
from_take position (suc count) (line ∷ rest) above = (above.0, from_take position count rest above.1)

-- the lines from a position on stand there or after it
pub lines-from : {F : Type 0} (row : ℕ → Row F) (size position : ℕ) (limit : Option ℕ) → IsFrom position (lines row size position limit)
lines-from row size position None = from_all row position _
lines-from row size position (Some limit) = from_take position limit _ (from_all row position _)

texts_append : (xs ys : List (ℕ × List ℕ)) → texts (xs ++ ys) ≡ texts xs ++ texts ys
texts_append [] ys = refl
texts_append (line ∷ rest) ys = ap (λ t. line.1 ++ t) (texts_append rest ys) ∙ sym (append_assoc line.1 (texts rest) (texts ys))

-- the lines before the position are written, and those from it on are left
pub record IsWritten {F : Type 0} (row : ℕ → Row F) (size from : ℕ) (limit : Option ℕ) (old new : Option (List ℕ)) (position : ℕ) (left : Option ℕ) : Type 0 where
  pub done : List (ℕ × List ℕ)
  pub below : IsBelow position done
  pub split : lines row size from limit ≡ done ++ lines row size position left
  pub ends : run_end row size from limit ≡ run_end row size position left
  pub rest : left ≡ rows_after done limit
  pub written : Appends old new (texts done)

-- what a limit leaves after a row
abbrev pub left_after : Selection → Option ℕ → Option ℕ
left_after Kept left = one_less left
left_after Dropped left = left

unmoved : (old : Option (List ℕ)) → Appends old old []
unmoved None = tt
unmoved (Some xs) = sym (append-nil xs)

-- a limit that is not 0 has one less
pub one_less-is : (left : Option ℕ) → ¬ (left ≡ Some 0) → one_less left ≡ option_map (λ lines. lines - 1) left
one_less-is None some = refl
one_less-is (Some zero) some = absurd (some refl)
one_less-is (Some (suc before)) some = ap Some (omega arith)

none_done : (limit : Option ℕ) → limit ≡ rows_after [] limit
none_done None = refl
none_done (Some limit) = ap Some (omega arith)

one_done : (limit left : Option ℕ) (before : List (ℕ × List ℕ)) (line : ℕ × List ℕ) → ¬ (left ≡ Some 0) → left ≡ rows_after before limit → one_less left ≡ rows_after (before ++ line ∷ []) limit
one_done None left before line some is = ap one_less is
one_done (Some limit) left before line some is =
    one_less-is left some ∙ (ap (option_map (λ lines. lines - 1)) is ∙ ap Some (omega (arith, length-append before (line ∷ []))))

pub started : {F : Type 0} (row : ℕ → Row F) (size from : ℕ) (limit : Option ℕ) (old : Option (List ℕ)) → IsWritten row size from limit old old from limit
started row size from limit old = record { done = []; below = tt; split = refl; ends = refl; rest = none_done limit; written = unmoved old }

module _ {F : Type 0} (row : ℕ → Row F) (size from : ℕ) (limit : Option ℕ) (old new : Option (List ℕ)) (position : ℕ) (left : Option ℕ) where
  -- nothing stands at the position
  past_dropped : (after : Option (List ℕ)) → IsWritten row size from limit old new position left → position < size → ¬ (left ≡ Some 0) → row position ≡ Nothing → Keeps new after → IsWritten row size from limit old after (position + 1) left
  past_dropped after w within some is keeps = record {
    done = w.done;
    below = below_more position w.done w.below;
    split = w.split ∙ ap (λ xs. w.done ++ xs) (lines-dropped row size position left within is);
    ends = w.ends ∙ run_end-dropped row size position left within some is;
    rest = w.rest;
    written = grown_then_kept old new after (texts w.done) w.written keeps;
  }

  -- its line is handed over
  past_kept : (after : Option (List ℕ)) (text : List ℕ) → IsWritten row size from limit old new position left → position < size → ¬ (left ≡ Some 0) → row position ≡ Line text → Appends new after text → IsWritten row size from limit old after (position + 1) (one_less left)
  past_kept after text w within some is more = record {
    done = w.done ++ (position, text) ∷ [];
    below = below_append position text w.done w.below;
    split = w.split ∙ (ap (λ xs. w.done ++ xs) (lines-kept row size position left text within some is) ∙ sym (append_assoc w.done ((position, text) ∷ []) (lines row size (position + 1) (one_less left))));
    ends = w.ends ∙ run_end-kept row size position left text within some is;
    rest = one_done limit left w.done (position, text) some w.rest;
    written = subst (λ (bytes : List ℕ). Appends old after bytes) (sym (texts_append w.done ((position, text) ∷ []) ∙ ap (λ t. texts w.done ++ t) (append-nil text))) (trans old new after (texts w.done) text w.written more);
  }

  -- what is written, where no line is left
  all_written : IsWritten row size from limit old new position left → lines row size position left ≡ [] → Appends old new (texts (lines row size from limit))
  all_written w none =
      let is : texts w.done ≡ texts (lines row size from limit) = sym (ap texts (w.split ∙ (ap (λ xs. w.done ++ xs) none ∙ append-nil w.done))) in
      subst (λ (bytes : List ℕ). Appends old new bytes) is w.written

  -- the lines before the position are those written
  before_here : (w : IsWritten row size from limit old new position left) → lines_before position (lines row size from limit) ≡ w.done
  before_here w =
      ap (lines_before position) w.split
      ∙ (filter-append (λ line. nat_lt line.0 position) w.done (lines row size position left)
      ∙ (ap (λ xs. xs ++ lines_before position (lines row size position left)) (before_below position w.done w.below)
      ∙ (ap (λ xs. w.done ++ xs) (before_from position (lines row size position left) (lines-from row size position left)) ∙ append-nil w.done)))

  stopped_at_fault : (x : F) → IsWritten row size from limit old new position left → position < size → ¬ (left ≡ Some 0) → row position ≡ Fault x → (run_end row size from limit ≡ FaultAt position x) × Appends old new (texts (lines row size from limit))
  stopped_at_fault x w within some is =
      (w.ends ∙ run_end-fault row size position left x within some is, all_written w (lines-fault row size position left x within is))

  stopped_in_line : (after : Option (List ℕ)) (text part : List ℕ) → IsWritten row size from limit old new position left → position < size → ¬ (left ≡ Some 0) → row position ≡ Line text → IsProperPrefix part text → Appends new after part → IsBrokenOff position (lines row size from limit) old after
  stopped_in_line after text part w within some is prefix more =
      let there : Contains (w.done ++ lines row size position left) (position, text) = Contains-append_right w.done (lines row size position left) (position, text) (subst (λ (xs : List (ℕ × List ℕ)). Contains xs (position, text)) (sym (lines-kept row size position left text within some is)) (0, omega arith, refl)) in
      record {
        text = text;
        part = part;
        there = subst (λ (xs : List (ℕ × List ℕ)). Contains xs (position, text)) (sym w.split) there;
        prefix = prefix;
        written = subst (λ (xs : List (ℕ × List ℕ)). Appends old after (texts xs ++ part)) (sym (before_here w)) (trans old new after (texts w.done) part w.written more);
      }

  -- the row at the position is written, or there is none
  pub past_row : (after : Option (List ℕ)) (selection : Selection) → IsWritten row size from limit old new position left → position < size → ¬ (left ≡ Some 0) → IsRowWritten (row position) position new after (Ok selection) → IsWritten row size from limit old after (position + 1) (left_after selection left)
  past_row after Kept w within some is = past_kept after is.0 w within some is.1 is.2
  past_row after Dropped w within some is = past_dropped after w within some is.0 is.1

-- A run that a limit may end
module _ {F : Type 0} (row : ℕ → Row F) (size from : ℕ) (limit : Limit) (old new : Option (List ℕ)) (position : ℕ) (left : Option ℕ)
    (w : IsWritten row (stop_of size limit) from limit.rows old new position left) (above : from ≤ position) where
  stopped_by_memory : position < stop_of size limit → ¬ (left ≡ Some 0)
      → IsResumable row size from limit (lines_before position (range_lines row size from limit)) position × Appends old new (texts (lines_before position (range_lines row size from limit)))
  stopped_by_memory within some =
      let rest : max from (stop_of size limit) ≡ max position (stop_of size limit) = omega arith in
      let come : IsResumable row size from limit w.done position = record {
        lines_follow = w.split ∙ ap (λ left. w.done ++ lines row (stop_of size limit) position left) w.rest;
        same_end = ap (λ p. end_within size p (run_end row (stop_of size limit) from limit.rows)) rest
            ∙ ap (end_within size (max position (stop_of size limit))) (w.ends ∙ ap (run_end row (stop_of size limit) position) w.rest);
        behind = above;
        within = within;
        unlimited = λ e. some (w.rest ∙ e);
      } in
      subst (λ (before : List (ℕ × List ℕ)). IsResumable row size from limit before position × Appends old new (texts before))
      (sym (before_here row (stop_of size limit) from limit.rows old new position left w)) (come, w.written)

  -- the row at the position stops the run
  pub stopped_at_row : (after : Option (List ℕ)) (stop : RunFault F) → stop_of size limit ≤ size → position < stop_of size limit → ¬ (left ≡ Some 0) → IsRowWritten (row position) position new after (Err stop) → IsRun row size from limit old after (Err stop)
  stopped_at_row after fault.BadPosition room within some is = absurd is
  stopped_at_row after (fault.Eval there x) room within some is =
      let end = stopped_at_fault row (stop_of size limit) from limit.rows old new position left x w within some is.1 in
      ((omega (arith, above), room), ap (end_within size (max from (stop_of size limit))) (end.0 ∙ ap (λ p. FaultAt p x) (sym is.0)), grown_then_kept old new after _ end.1 is.2)
  stopped_at_row after (fault.Write there) room within some is =
      subst (λ (p : ℕ). IsBrokenOff p (range_lines row size from limit) old after) (sym is.0)
      (stopped_in_line row (stop_of size limit) from limit.rows old new position left after is.1.0 is.1.1 w within some is.1.2 is.1.3 is.1.4)
  stopped_at_row after (fault.Memory there) room within some is =
      let stop = stopped_by_memory within some in
      subst (λ (p : ℕ). IsResumable row size from limit (lines_before p (range_lines row size from limit)) p × Appends old after (texts (lines_before p (range_lines row size from limit)))) (sym is.0) (stop.0, grown_then_kept old new after _ stop.1 is.1)

  -- what an end tells of a run, and what is written then
  abbrev HasEnd : End F → Type 0
  HasEnd end = (range_end row size from limit ≡ end) × Appends old new (texts (range_lines row size from limit))

  -- no position of the range is left
  past_stop : stop_of size limit ≤ position → position ≤ max from (stop_of size limit) → HasEnd (continued_from size position)
  past_stop over low =
      let here : max from (stop_of size limit) ≡ position = omega (arith, above) in
      let end = w.ends ∙ run_end-past row (stop_of size limit) position left over in (
        ap (end_within size (max from (stop_of size limit))) end ∙ ap (continued_from size) here,
        all_written row (stop_of size limit) from limit.rows old new position left w (lines-over row (stop_of size limit) position left over),
      )

  -- the limit of lines is reached, and a position of the range is left
  no_more : position < stop_of size limit → left ≡ Some 0 → HasEnd (MoreFrom position)
  no_more within none =
      let end : run_end row (stop_of size limit) position left ≡ MoreFrom position = ap (run_end row (stop_of size limit) position) none ∙ run_end-stopped row (stop_of size limit) position within in (
        ap (end_within size (max from (stop_of size limit))) (w.ends ∙ end),
        all_written row (stop_of size limit) from limit.rows old new position left w (ap (lines row (stop_of size limit) position) none),
      )

  -- a position is left that the limit leaves out
  pub left_out : position < size → stop_of size limit ≤ position → position ≤ max from (stop_of size limit) → HasEnd (MoreFrom position)
  left_out within over low =
      let go : nat_lt position size ≡ true = grind (arith, nat_tests) in
      let end = past_stop over low in
      (end.0 ∙ ap (λ b. cond b (MoreFrom position) AtEnd) go, end.1)

  pub limit_reached : position < size → position ≤ max from (stop_of size limit) → left ≡ Some 0 → HasEnd (MoreFrom position)
  limit_reached within low none = ⊎_elim (λ (inside : position < stop_of size limit). no_more inside none) (λ (over : stop_of size limit ≤ position). left_out within over low) (cases_lt position (stop_of size limit))

  -- no position is left
  pub at_end : size ≤ position → stop_of size limit ≤ size → position ≤ max from (stop_of size limit) → HasEnd AtEnd
  at_end over room low =
      let none : nat_lt position size ≡ false = grind (arith, nat_tests) in
      let end = past_stop (omega arith) low in
      (end.0 ∙ ap (λ b. cond b (MoreFrom position) AtEnd) none, end.1)

-- the answer of a test for `Some 0` was no
pub some_left : (left : Option ℕ) (test : Bool) → test ≡ option_eq nat_eq left (Some 0) → test ≡ false → ¬ (left ≡ Some 0)
some_left None test is fails = λ e. absurd (cc)
some_left (Some zero) test is fails = absurd (cc)
some_left (Some (suc before)) test is fails = λ e. absurd (cc)
