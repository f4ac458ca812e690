-- Lines and end of a run, position by position.
use Rattle.std.proofs.Common.{◌≡◌, ℕ, zero, suc, ◌+◌, ◌-◌, ◌<◌, ◌≤◌, List, [], ◌∷◌, length, Option, Some, None, refl, sym, ap, ◌∙◌, arith, option_map, slice_get}
use Rattle.std.specs.List.{filter_map, cons_option}
use Rattle.std.specs.Option.{option_map_or}
use Rattle.std.proofs.lemmas.Bool.Decides.{nat_tests}
use Rattle.std.proofs.lemmas.List.FromFn.{length-range_with_len}
use Rattle.fisca_writer.specs.Row.{Row, Nothing, Line, Fault, fault_of, text_of}
use Rattle.fisca_writer.specs.Lines.{positions_from, line_at, first_fault, fault_position, all_lines, up_to, lines, End, AtEnd, MoreFrom, FaultAt, continued_from, unlimited_end, run_end}

-- the first position is below the size
pub positions_from-step : (size from : ℕ) → from < size → positions_from size from ≡ from ∷ positions_from size (from + 1)
positions_from-step size from within = let e : size - from ≡ suc (size - (from + 1)) = omega arith in rw e refl

-- no position is left
pub positions_from-over : (size from : ℕ) → size ≤ from → positions_from size from ≡ []
positions_from-over size from over = let e : size - from ≡ 0 = omega arith in rw e refl

pub length-positions_from : (size from : ℕ) → length (positions_from size from) ≡ size - from
length-positions_from size from = length-range_with_len from (size - from)

-- the first faults, where this row stands before the others
abbrev pub fault_before : {F : Type 0} → Row F → ℕ → Option (ℕ × F) → Option (ℕ × F)
fault_before Nothing position rest = rest
fault_before (Line text) position rest = rest
fault_before (Fault x) position rest = Some (position, x)

-- the lines, where this row stands before the others
abbrev pub lines_after : {F : Type 0} → Row F → ℕ → List (ℕ × List ℕ) → List (ℕ × List ℕ)
lines_after Nothing position rest = rest
lines_after (Line text) position rest = (position, text) ∷ rest
lines_after (Fault x) position rest = []

head_fault : {F : Type 0} (row : Row F) (position : ℕ) (rest : List (ℕ × F)) → slice_get (cons_option (option_map (λ fault. (position, fault)) (fault_of row)) rest) 0 ≡ fault_before row position (slice_get rest 0)
head_fault Nothing position rest = refl
head_fault (Line text) position rest = refl
head_fault (Fault x) position rest = refl

pub first_fault-step : {F : Type 0} (row : ℕ → Row F) (size from : ℕ) → from < size → first_fault row size from ≡ fault_before (row from) from (first_fault row size (from + 1))
first_fault-step row size from within = rw (positions_from-step size from within) (head_fault (row from) from _)

pub first_fault-over : {F : Type 0} (row : ℕ → Row F) (size from : ℕ) → size ≤ from → first_fault row size from ≡ None
first_fault-over row size from over = rw (positions_from-over size from over) refl

low_head : {F : Type 0} (row : Row F) (position size : ℕ) (rest : Option (ℕ × F)) → position ≤ option_map_or (λ fault. fault.0) rest size → position ≤ option_map_or (λ fault. fault.0) (fault_before row position rest) size
low_head Nothing position size rest low = low
low_head (Line text) position size rest low = low
low_head (Fault x) position size rest low = omega arith

fault_position_low : {F : Type 0} (row : ℕ → Row F) (size from left : ℕ) → left ≡ size - from → from ≤ size → from ≤ fault_position row size from
fault_position_low row size from zero is within = rw (first_fault-over row size from (omega arith)) within
fault_position_low row size from (suc left) is within =
    let below : from < size = omega arith in
    let later : from + 1 ≤ fault_position row size (from + 1) = fault_position_low row size (from + 1) left (omega arith) (omega arith) in
    rw (first_fault-step row size from below) (low_head (row from) from size _ (omega arith))

-- the lines end at the start or after it
pub fault_position-low : {F : Type 0} (row : ℕ → Row F) (size from : ℕ) → from ≤ size → from ≤ fault_position row size from
fault_position-low row size from within = fault_position_low row size from (size - from) refl within

line_first : {F : Type 0} (row : Row F) (position : ℕ) (rest : List (ℕ × List ℕ)) → fault_of row ≡ None → cons_option (option_map (λ text. (position, text)) (text_of row)) rest ≡ lines_after row position rest
line_first Nothing position rest none = refl
line_first (Line text) position rest none = refl
line_first (Fault x) position rest none = absurd (cc)

same_fault : {F : Type 0} (row : Row F) (position : ℕ) (rest : Option (ℕ × F)) → fault_of row ≡ None → fault_before row position rest ≡ rest
same_fault Nothing position rest none = refl
same_fault (Line text) position rest none = refl
same_fault (Fault x) position rest none = absurd (cc)

-- the row at the start is no fault
all_lines-on : {F : Type 0} (row : ℕ → Row F) (size from : ℕ) → from < size → fault_of (row from) ≡ None → all_lines row size from ≡ lines_after (row from) from (all_lines row size (from + 1))
all_lines-on row size from within none =
    let same : first_fault row size from ≡ first_fault row size (from + 1) = first_fault-step row size from within ∙ same_fault (row from) from _ none in
    let stop : fault_position row size from ≡ fault_position row size (from + 1) = ap (λ fault. option_map_or (λ fault. fault.0) fault size) same in
    let low : from + 1 ≤ fault_position row size (from + 1) = fault_position-low row size (from + 1) (omega arith) in
    ap (λ stop. filter_map (line_at row) (positions_from stop from)) stop
    ∙ (ap (filter_map (line_at row)) (positions_from-step (fault_position row size (from + 1)) from (omega arith)) ∙ line_first (row from) from _ none)

-- the row at the start is a fault
all_lines-fault : {F : Type 0} (row : ℕ → Row F) (size from : ℕ) (x : F) → from < size → row from ≡ Fault x → all_lines row size from ≡ []
all_lines-fault row size from x within is =
    let first : first_fault row size from ≡ Some (from, x) = first_fault-step row size from within ∙ ap (λ r. fault_before r from (first_fault row size (from + 1))) is in
    ap (λ fault. filter_map (line_at row) (positions_from (option_map_or (λ fault. fault.0) fault size) from)) first
    ∙ ap (filter_map (line_at row)) (positions_from-over from from (omega arith))

all_lines_at : {F : Type 0} (row : ℕ → Row F) (size from : ℕ) (r : Row F) → from < size → row from ≡ r → all_lines row size from ≡ lines_after r from (all_lines row size (from + 1))
all_lines_at row size from Nothing within is = all_lines-on row size from within (ap fault_of is) ∙ ap (λ r. lines_after r from (all_lines row size (from + 1))) is
all_lines_at row size from (Line text) within is = all_lines-on row size from within (ap fault_of is) ∙ ap (λ r. lines_after r from (all_lines row size (from + 1))) is
all_lines_at row size from (Fault x) within is = all_lines-fault row size from x within is

-- the lines from a position on, by its row and the lines from the next position on
pub all_lines-step : {F : Type 0} (row : ℕ → Row F) (size from : ℕ) → from < size → all_lines row size from ≡ lines_after (row from) from (all_lines row size (from + 1))
all_lines-step row size from within = all_lines_at row size from (row from) within refl

pub all_lines-over : {F : Type 0} (row : ℕ → Row F) (size from : ℕ) → size ≤ from → all_lines row size from ≡ []
all_lines-over row size from over =
    ap (λ fault. filter_map (line_at row) (positions_from (option_map_or (λ fault. fault.0) fault size) from)) (first_fault-over row size from over)
    ∙ ap (filter_map (line_at row)) (positions_from-over size from over)

-- what a limit leaves after one line
abbrev pub one_less : Option ℕ → Option ℕ
one_less None = None
one_less (Some zero) = Some zero
one_less (Some (suc before)) = Some before

-- nothing stands at the position: the run is that from the next position on
pub lines-dropped : {F : Type 0} (row : ℕ → Row F) (size from : ℕ) (limit : Option ℕ) → from < size → row from ≡ Nothing → lines row size from limit ≡ lines row size (from + 1) limit
lines-dropped row size from limit within is = ap (up_to limit) (all_lines-step row size from within ∙ ap (λ r. lines_after r from (all_lines row size (from + 1))) is)

-- a line stands there: it is the first, and the others are those of the next position with one less asked for
lines_kept : (line : ℕ × List ℕ) (rest : List (ℕ × List ℕ)) (limit : Option ℕ) → ¬ (limit ≡ Some 0) → up_to limit (line ∷ rest) ≡ line ∷ up_to (one_less limit) rest
lines_kept line rest None some = refl
lines_kept line rest (Some zero) some = absurd (some refl)
lines_kept line rest (Some (suc before)) some = refl

pub lines-kept : {F : Type 0} (row : ℕ → Row F) (size from : ℕ) (limit : Option ℕ) (text : List ℕ) → from < size → ¬ (limit ≡ Some 0) → row from ≡ Line text → lines row size from limit ≡ (from, text) ∷ lines row size (from + 1) (one_less limit)
lines-kept row size from limit text within some is =
    ap (up_to limit) (all_lines-step row size from within ∙ ap (λ r. lines_after r from (all_lines row size (from + 1))) is)
    ∙ lines_kept (from, text) (all_lines row size (from + 1)) limit some

lines_none : (limit : Option ℕ) → up_to {X = ℕ × List ℕ} limit [] ≡ []
lines_none None = refl
lines_none (Some zero) = refl
lines_none (Some (suc before)) = refl

pub lines-fault : {F : Type 0} (row : ℕ → Row F) (size from : ℕ) (limit : Option ℕ) (x : F) → from < size → row from ≡ Fault x → lines row size from limit ≡ []
lines-fault row size from limit x within is =
    ap (up_to limit) (all_lines-step row size from within ∙ ap (λ r. lines_after r from (all_lines row size (from + 1))) is) ∙ lines_none limit

pub lines-over : {F : Type 0} (row : ℕ → Row F) (size from : ℕ) (limit : Option ℕ) → size ≤ from → lines row size from limit ≡ []
lines-over row size from limit over = ap (up_to limit) (all_lines-over row size from over) ∙ lines_none limit

-- the end of a run that a limit may stop, from its lines and its end without a limit
abbrev pub limited_end : {F : Type 0} → ℕ → ℕ → List (ℕ × List ℕ) → End F → Option ℕ → End F
limited_end size from all unlimited None = unlimited
limited_end size from all unlimited (Some zero) = continued_from size from
limited_end size from all unlimited (Some (suc before)) = option_map_or (λ line. continued_from size (line.0 + 1)) (slice_get all before) unlimited

pub run_end-limited : {F : Type 0} (row : ℕ → Row F) (size from : ℕ) (limit : Option ℕ) → run_end row size from limit ≡ limited_end size from (all_lines row size from) (unlimited_end row size from) limit
run_end-limited row size from None = refl
run_end-limited row size from (Some zero) = refl
run_end-limited row size from (Some (suc before)) = refl

-- the end without a limit, by the row and the end from the next position on
abbrev pub end_after : {F : Type 0} → Row F → ℕ → End F → End F
end_after Nothing position rest = rest
end_after (Line text) position rest = rest
end_after (Fault x) position rest = FaultAt position x

end_head : {F : Type 0} (row : Row F) (position : ℕ) (rest : Option (ℕ × F)) → option_map_or (λ fault. FaultAt fault.0 fault.1) (fault_before row position rest) AtEnd ≡ end_after row position (option_map_or (λ fault. FaultAt fault.0 fault.1) rest AtEnd)
end_head Nothing position rest = refl
end_head (Line text) position rest = refl
end_head (Fault x) position rest = refl

pub unlimited_end-step : {F : Type 0} (row : ℕ → Row F) (size from : ℕ) → from < size → unlimited_end row size from ≡ end_after (row from) from (unlimited_end row size (from + 1))
unlimited_end-step row size from within = ap (λ fault. option_map_or (λ fault. FaultAt fault.0 fault.1) fault AtEnd) (first_fault-step row size from within) ∙ end_head (row from) from _

-- the end of a run from a position on, by its row
limited_step : {F : Type 0} (row : ℕ → Row F) (size from : ℕ) (limit : Option ℕ) (r : Row F) → from < size → row from ≡ r → run_end row size from limit ≡ limited_end size from (lines_after r from (all_lines row size (from + 1))) (end_after r from (unlimited_end row size (from + 1))) limit
limited_step row size from limit r within is =
    run_end-limited row size from limit
    ∙ (ap (λ all. limited_end size from all (unlimited_end row size from) limit) (all_lines-step row size from within ∙ ap (λ r. lines_after r from (all_lines row size (from + 1))) is)
    ∙ ap (λ end. limited_end size from (lines_after r from (all_lines row size (from + 1))) end limit) (unlimited_end-step row size from within ∙ ap (λ r. end_after r from (unlimited_end row size (from + 1))) is))

end_dropped : {F : Type 0} (size from : ℕ) (all : List (ℕ × List ℕ)) (unlimited : End F) (limit : Option ℕ) → ¬ (limit ≡ Some 0) → limited_end size from all unlimited limit ≡ limited_end size (from + 1) all unlimited limit
end_dropped size from all unlimited None some = refl
end_dropped size from all unlimited (Some zero) some = absurd (some refl)
end_dropped size from all unlimited (Some (suc before)) some = refl

pub run_end-dropped : {F : Type 0} (row : ℕ → Row F) (size from : ℕ) (limit : Option ℕ) → from < size → ¬ (limit ≡ Some 0) → row from ≡ Nothing → run_end row size from limit ≡ run_end row size (from + 1) limit
run_end-dropped row size from limit within some is =
    limited_step row size from limit Nothing within is
    ∙ (end_dropped size from (all_lines row size (from + 1)) (unlimited_end row size (from + 1)) limit some ∙ sym (run_end-limited row size (from + 1) limit))

end_kept : {F : Type 0} (size from : ℕ) (text : List ℕ) (all : List (ℕ × List ℕ)) (unlimited : End F) (limit : Option ℕ) → ¬ (limit ≡ Some 0) → limited_end size from ((from, text) ∷ all) unlimited limit ≡ limited_end size (from + 1) all unlimited (one_less limit)
end_kept size from text all unlimited None some = refl
end_kept size from text all unlimited (Some zero) some = absurd (some refl)
end_kept size from text all unlimited (Some (suc zero)) some = refl
end_kept size from text all unlimited (Some (suc (suc before))) some = refl

pub run_end-kept : {F : Type 0} (row : ℕ → Row F) (size from : ℕ) (limit : Option ℕ) (text : List ℕ) → from < size → ¬ (limit ≡ Some 0) → row from ≡ Line text → run_end row size from limit ≡ run_end row size (from + 1) (one_less limit)
run_end-kept row size from limit text within some is =
    limited_step row size from limit (Line text) within is
    ∙ (end_kept size from text (all_lines row size (from + 1)) (unlimited_end row size (from + 1)) limit some ∙ sym (run_end-limited row size (from + 1) (one_less limit)))

end_fault : {F : Type 0} (size from : ℕ) (end : End F) (limit : Option ℕ) → ¬ (limit ≡ Some 0) → limited_end size from [] end limit ≡ end
end_fault size from end None some = refl
end_fault size from end (Some zero) some = absurd (some refl)
end_fault size from end (Some (suc before)) some = refl

pub run_end-fault : {F : Type 0} (row : ℕ → Row F) (size from : ℕ) (limit : Option ℕ) (x : F) → from < size → ¬ (limit ≡ Some 0) → row from ≡ Fault x → run_end row size from limit ≡ FaultAt from x
run_end-fault row size from limit x within some is = limited_step row size from limit (Fault x) within is ∙ end_fault size from (FaultAt from x) limit some

-- from the size on the run is over, whatever the limit
end_over : {F : Type 0} (size from : ℕ) (limit : Option ℕ) → size ≤ from → limited_end {F = F} size from [] AtEnd limit ≡ AtEnd
end_over size from None over = refl
end_over size from (Some zero) over = grind (arith, nat_tests)
end_over size from (Some (suc before)) over = refl

pub run_end-past : {F : Type 0} (row : ℕ → Row F) (size from : ℕ) (limit : Option ℕ) → size ≤ from → run_end row size from limit ≡ AtEnd
run_end-past row size from limit over =
    run_end-limited row size from limit
    ∙ (ap (λ all. limited_end size from all (unlimited_end row size from) limit) (all_lines-over row size from over)
    ∙ (ap (λ fault. limited_end size from [] (option_map_or (λ fault. FaultAt fault.0 fault.1) fault AtEnd) limit) (first_fault-over row size from over) ∙ end_over size from limit over))

-- nothing more is asked for, and a position is there
pub run_end-stopped : {F : Type 0} (row : ℕ → Row F) (size from : ℕ) → from < size → run_end row size from (Some 0) ≡ MoreFrom from
run_end-stopped row size from within = grind (arith, nat_tests)
