-- What is written and answered of a line.
use Rattle.std.proofs.Common.{◌≡◌, ◌≢◌, ◌⊎◌, ◌∙◌, ◌<◌, ◌≤◌, ◌^◌, ◌++◌, ℕ, min, true, false, ap, inl, inr, List, [], ◌∷◌, length, take, Option, Some, None, IfSome, Result, Ok, Err, refl, sym, subst, arith}
use Rattle.std.proofs.lemmas.Bool.{true≢false}
use Rattle.std.proofs.KnownBytes.{Appends-nil}
use Rattle.std.proofs.lemmas.List.{length-take, take_all}
use Rattle.std.proofs.lemmas.Option.{none-some, same_Some}
use Rattle.std.specs.Io.KnownBytes.{Appends}
use Rattle.fisca_forms.specs.LineForms.{Form}
use Rattle.fisca_rule_files.specs.Refusal.{is_failed_write, is_write, key_of, reason_of, status_of}
use Rattle.fisca_rule_files.specs.declared.refusal.Refusal.{Refusal}
use Rattle.fisca_rule_files.specs.declared.refusal.Refusal.TheVariants.{Write, Memory}
use Rattle.fisca_rules.specs.declared.rule_set.RuleSet.{RuleSet}
use Rattle.fisca_writer.specs.Continued.{lines_before}
use Rattle.fisca_writer.specs.Ranges.{no_limit, range_lines}
use Rattle.fisca_writer.specs.Run.{texts}
use Rattle.fisca_writer.specs.Sink.{CountsFailure}
use Rattle.fisca_commands.specs.Calc.{Calculation, IsAsked, IsCalculated, RefusesText, row_of}
use Rattle.fisca_commands.specs.CalcLines.{IsCalcOf, IsFile, IsLine, IsNextLine, IsStopped, LineOutcome, Sink, Streams, line_told, only_told, outcome_of}
use Rattle.fisca_commands.specs.Steps.CalcLines.{IsBroken, IsLineDone, IsNextDone, IsTelling, IsTextWritten, stop_of}
use Rattle.fisca_commands.specs.declared.many_files.LineFault.TheVariants as fault
use Rattle.fisca_commands.specs.declared.many_files.LineStop.{LineStop}
use Rattle.fisca_commands.specs.declared.many_files.LineStop.TheVariants as stop
use Rattle.fisca_commands.proofs.Telling.{text_unwritten}

-- What is written of a file, apart from what the sink had before

apart : (c : Calculation) (form : Option Form) (lead : Option ℕ) (old new : Option (List ℕ)) (answer : Result Unit Refusal) → IsCalculated c form lead old new answer
    → (written : List ℕ) × IsCalculated c form lead (Some []) (Some written) answer × Appends old new written
apart c form lead old new (Ok done) is = (texts (range_lines (row_of c form lead) (length c.asked.columns) 0 no_limit), (is.0, is.1, refl), is.2)
apart c form lead old new (Err refusal) (inl (same, (position, b))) =
    let written = texts (lines_before position (range_lines (row_of c form lead) (length c.asked.columns) 0 no_limit)) ++ b.part in
    (written, inl (same, (position, record { text = b.text; part = b.part; there = b.there; prefix = b.prefix; written = refl })), b.written)
apart c form lead old new (Err refusal) (inr (inl (fault, u, same, told, (position, is)))) =
    (texts (range_lines (row_of c form lead) (length c.asked.columns) 0 no_limit), inr (inl (fault, u, same, told, (position, (is.0, is.1, refl)))), is.2)
apart c form lead old new (Err refusal) (inr (inr (same, w))) = (texts w.0, inr (inr (same, (w.0, w.1, refl))), w.2)

-- what a text asks for is written
pub text_calculated : (c : Calculation) (form : Option Form) (number : ℕ) (text : List ℕ) (old new : Option (List ℕ)) (answer : Result Unit Refusal)
    → IsAsked c.rules text c.asked → IsCalculated c form (Some number) old new answer → IsTextWritten c.rules form number text old new answer
text_calculated c form number text old new answer asked is =
    let w = apart c form (Some number) old new answer is in (w.0, inr (c, refl, asked, w.1), w.2)

-- or it is refused, and nothing is written
pub text_refused : (rules : RuleSet) (form : Option Form) (number : ℕ) (text : List ℕ) (old : Option (List ℕ)) (answer : Result Unit Refusal) (refusal : Refusal)
    → answer ≡ Err refusal → RefusesText rules text refusal → IsTextWritten rules form number text old old answer
text_refused rules form number text old answer refusal same is = ([], inl (refusal, same, is, refl), Appends-nil old)

-- a refusal that is not `Write` is no failed write
pub unwritten : (rules : RuleSet) (form : Option Form) (number : ℕ) (text written : List ℕ) (refusal : Refusal) → IsCalcOf rules form number text written (Err refusal) → refusal ≢ Write
    → is_failed_write refusal ≡ false
unwritten rules form number text written refusal (inl (told, same, is, none)) other = ap is_write same ∙ text_unwritten rules text told is
unwritten rules form number text written refusal (inr (c, same, asked, (inl (is, run)))) other = absurd (other is)
unwritten rules form number text written refusal (inr (c, same, asked, (inr (inl (fault, u, is, told, run))))) other = ap is_failed_write is
unwritten rules form number text written refusal (inr (c, same, asked, (inr (inr (is, first))))) other = ap is_failed_write is

-- What comes of a line

-- only this is told of it
pub done_told : (rules : RuleSet) (form : Option Form) (path : List ℕ) (number : ℕ) (text line : List ℕ) (status : ℕ) (sink old new : Sink) (answer : Result ℕ LineStop)
    → IsLine rules form path number text (only_told line status) → IsTelling line status old new answer → IsLineDone rules form path number text sink sink old new answer
done_told rules form path number text line status sink old new (Ok answered) is told = (only_told line status, is, told.0, (Appends-nil sink.taken, refl), told.1)
done_told rules form path number text line status sink old new (Err stop.Over) is told = absurd told
done_told rules form path number text line status sink old new (Err stop.Unread) is told = absurd told
done_told rules form path number text line status sink old new (Err stop.Write) is told = absurd told
done_told rules form path number text line status sink old new (Err stop.Memory) is told = ([], inl refl, Appends-nil sink.taken, refl, told)

-- all that it asks for is written
pub done_whole : (rules : RuleSet) (form : Option Form) (path : List ℕ) (number : ℕ) (text : List ℕ) (old new told : Sink) (done : Unit {0}) → IsFile text
    → IsTextWritten rules form number text old.taken new.taken (Ok done) → CountsFailure false old.failures new.failures → IsLineDone rules form path number text old new told told (Ok 0)
done_whole rules form path number text old new told done file is unfailed =
    (outcome_of path number is.0 (Ok done), inr (inr (file, (is.0, Ok done, tt, is.1, refl))), refl, (is.2, unfailed), inl (Appends-nil told.taken, refl))

-- the sink failed in it, or memory was refused
is_stop : (refusal : Refusal) (end : LineStop) → stop_of refusal ≡ Some end → ((end ≡ stop.Write) × (refusal ≡ Write)) ⊎ ((end ≡ stop.Memory) × (refusal ≡ Memory))
is_stop Write end same = inl (sym (same_Some stop.Write end same), refl)
is_stop Memory end same = inr (sym (same_Some stop.Memory end same), refl)
is_stop refusal end same = absurd (none-some end same)

pub done_stopped : (rules : RuleSet) (form : Option Form) (path : List ℕ) (number : ℕ) (text : List ℕ) (old new told : Sink) (refusal : Refusal) (end : LineStop) → IsFile text
    → IsTextWritten rules form number text old.taken new.taken (Err refusal) → CountsFailure (is_failed_write refusal) old.failures new.failures → stop_of refusal ≡ Some end
    → IsLineDone rules form path number text old new told told (Err end)
done_stopped rules form path number text old new told refusal end file is counts stops = elim (is_stop refusal end stops) [
  | inl write ↦
      let written = subst (λ (r : Refusal). IsTextWritten rules form number text old.taken new.taken (Err r)) write.1 is in
      subst (λ (e : LineStop). IsLineDone rules form path number text old new told told (Err e)) (sym write.0)
      (written.0, (file, written.1), written.2, subst (λ (r : Refusal). CountsFailure (is_failed_write r) old.failures new.failures) write.1 counts, refl)
  | inr memory ↦
      let written = subst (λ (r : Refusal). IsTextWritten rules form number text old.taken new.taken (Err r)) memory.1 is in
      subst (λ (e : LineStop). IsLineDone rules form path number text old new told told (Err e)) (sym memory.0)
      (written.0, inr (file, (Memory, refl, written.1)), written.2, subst (λ (r : Refusal). CountsFailure (is_failed_write r) old.failures new.failures) memory.1 counts, refl)
]

no_write : (refusal : Refusal) → stop_of refusal ≡ None → refusal ≢ Write
no_write refusal none same = none-some stop.Write (sym none ∙ ap stop_of same)

no_memory : (refusal : Refusal) → stop_of refusal ≡ None → refusal ≢ Memory
no_memory refusal none same = none-some stop.Memory (sym none ∙ ap stop_of same)

-- it is refused, and that is told
pub done_refused : (rules : RuleSet) (form : Option Form) (path : List ℕ) (number : ℕ) (text : List ℕ) (old new told_old told_new : Sink) (refusal : Refusal) (answer : Result ℕ LineStop)
    → IsFile text → IsTextWritten rules form number text old.taken new.taken (Err refusal) → CountsFailure (is_failed_write refusal) old.failures new.failures → stop_of refusal ≡ None
    → IsTelling (line_told path number (reason_of refusal ++ key_of refusal)) (status_of refusal) told_old told_new answer → IsLineDone rules form path number text old new told_old told_new answer
done_refused rules form path number text old new told_old told_new refusal (Ok status) file is counts none told =
    let other = no_write refusal none in
    let some = no_memory refusal none in
    let unfailed = subst (λ failed. CountsFailure failed old.failures new.failures) (unwritten rules form number text is.0 refusal is.1 other) counts in
    (outcome_of path number is.0 (Err refusal), inr (inr (file, (is.0, Err refusal, (other, some), is.1, refl))), told.0, (is.2, unfailed), told.1)
done_refused rules form path number text old new told_old told_new refusal (Err stop.Over) file is counts none told = absurd told
done_refused rules form path number text old new told_old told_new refusal (Err stop.Unread) file is counts none told = absurd told
done_refused rules form path number text old new told_old told_new refusal (Err stop.Write) file is counts none told = absurd told
done_refused rules form path number text old new told_old told_new refusal (Err stop.Memory) file is counts none told =
    let no = unwritten rules form number text is.0 refusal is.1 (no_write refusal none) in
    (is.0, inr (file, (refusal, no, is.1)), is.2, subst (λ failed. CountsFailure failed old.failures new.failures) no counts, told)

-- Lines that are read up to a number of bytes

-- the bytes are those of the line, or its first
abbrev pub AreBytes : ℕ → List ℕ → List ℕ → Type 0
AreBytes most bytes text = (bytes ≡ text) ⊎ (bytes ≡ take most text)

whole : (most : ℕ) (bytes text : List ℕ) → 2 ^ 20 < most → AreBytes most bytes text → length bytes ≤ 2 ^ 20 → bytes ≡ text
whole most bytes text more (inl same) short = same
whole most bytes text more (inr cut) short =
    let long : length bytes ≡ min most (length text) = ap (λ (part : List ℕ). length part) cut ∙ length-take most text in cut ∙ take_all most text (omega (arith, long, short, more))

longer : (most : ℕ) (bytes text : List ℕ) → AreBytes most bytes text → 2 ^ 20 < length bytes → 2 ^ 20 < length text
longer most bytes text (inl same) long = subst (λ (part : List ℕ). 2 ^ 20 < length part) same long
longer most bytes text (inr cut) long =
    let cut_off : length bytes ≡ min most (length text) = ap (λ (part : List ℕ). length part) cut ∙ length-take most text in omega (arith, cut_off, long)

-- a line is worked out as its first bytes are
line_cut : (rules : RuleSet) (form : Option Form) (path : List ℕ) (number most : ℕ) (bytes text : List ℕ) (outcome : LineOutcome) → 2 ^ 20 < most → AreBytes most bytes text
    → IsLine rules form path number bytes outcome → IsLine rules form path number text outcome
line_cut rules form path number most bytes text outcome more are (inl (long, same)) = inl (longer most bytes text are long, same)
line_cut rules form path number most bytes text outcome more are (inr (inl (short, no_text, same))) =
    subst (λ (part : List ℕ). IsLine rules form path number part outcome) (whole most bytes text more are short) (inr (inl (short, no_text, same)))
line_cut rules form path number most bytes text outcome more are (inr (inr (file, is))) =
    subst (λ (part : List ℕ). IsLine rules form path number part outcome) (whole most bytes text more are file.0) (inr (inr (file, is)))

-- The next line of a source

read : (most : ℕ) (old new : Option (List (List ℕ))) (bytes : List ℕ) → IsNextLine most old new bytes (Ok true)
    → (text : List ℕ) × (others : List (List ℕ)) × AreBytes most bytes text × IfSome old (λ all. (all ≡ text ∷ others) × (new ≡ Some others))
read most None new bytes is = (bytes, [], inl refl, tt)
read most (Some []) new bytes is = absurd (true≢false is.0)
read most (Some (text ∷ others)) new bytes is = (text, others, inr is.1, (refl, is.2))

one_less : (old new : Option (List (List ℕ))) (text : List ℕ) (others : List (List ℕ)) → IfSome old (λ all. (all ≡ text ∷ others) × (new ≡ Some others))
    → IfSome old (λ all. (rest : List (List ℕ)) × (all ≡ text ∷ rest) × (new ≡ Some rest))
one_less None new text others is = tt
one_less (Some all) new text others is = (others, is.0, is.1)

these : (old new : Option (List (List ℕ))) (text : List ℕ) (others : List (List ℕ)) → IfSome old (λ all. (all ≡ text ∷ others) × (new ≡ Some others)) → IfSome old (λ all. all ≡ text ∷ others)
these None new text others is = tt
these (Some all) new text others is = is.0

abbrev rest_of : Option (List (List ℕ)) → List (List ℕ)
rest_of None = []
rest_of (Some texts) = texts

rest_is : (old : Option (List (List ℕ))) → IfSome old (λ all. all ≡ rest_of old)
rest_is None = tt
rest_is (Some all) = refl

over : (most : ℕ) (old new : Option (List (List ℕ))) (bytes : List ℕ) → IsNextLine most old new bytes (Ok false) → IfSome old (λ all. all ≡ [])
over most None new bytes is = tt
over most (Some []) new bytes is = refl
over most (Some (text ∷ others)) new bytes is = absurd (true≢false (sym is.0))

unread : (most : ℕ) (old new : Option (List (List ℕ))) (bytes : List ℕ) → IsNextLine most old new bytes (Err fault.Read) → IfSome old (λ all. new ≡ None)
unread most None new bytes is = tt
unread most (Some []) new bytes is = is
unread most (Some (text ∷ others)) new bytes is = is

lacking : (rules : RuleSet) (form : Option Form) (number most : ℕ) (bytes text : List ℕ) (others : List (List ℕ)) (part : List ℕ) (old new : Option (List (List ℕ))) → 2 ^ 20 < most
    → AreBytes most bytes text → IsBroken rules form number bytes part stop.Memory → IsStopped rules form number old new (text ∷ others) part stop.Memory
lacking rules form number most bytes text others part old new more are (inl none) = inl none
lacking rules form number most bytes text others part old new more are (inr (file, (refusal, other, is))) =
    let same = whole most bytes text more are file.0 in
    inr (text, others, refl, subst IsFile same file, (refusal, other, subst (λ (bytes : List ℕ). IsCalcOf rules form number bytes part (Err refusal)) same is))

-- the lines stop where there is none
pub next_over : (rules : RuleSet) (form : Option Form) (path : List ℕ) (number most : ℕ) (left : Option (List (List ℕ))) (old : Streams) (bytes : List ℕ)
    → IsNextLine most old.left left bytes (Ok false) → IsNextDone rules form path number old (record { left = left; sink = old.sink; told = old.told }) (Err stop.Over)
next_over rules form path number most left old bytes is = ([], [], over most old.left left bytes is, (refl, refl), Appends-nil old.sink.taken, refl, refl)

-- or it cannot be read
pub next_unread : (rules : RuleSet) (form : Option Form) (path : List ℕ) (number most : ℕ) (left : Option (List (List ℕ))) (old : Streams) (bytes : List ℕ)
    → IsNextLine most old.left left bytes (Err fault.Read) → IsNextDone rules form path number old (record { left = left; sink = old.sink; told = old.told }) (Err stop.Unread)
next_unread rules form path number most left old bytes is =
    (rest_of old.left, [], rest_is old.left, (unread most old.left left bytes is, refl), Appends-nil old.sink.taken, refl, refl)

-- or memory was refused
pub next_lacking : (rules : RuleSet) (form : Option Form) (path : List ℕ) (number : ℕ) (left : Option (List (List ℕ))) (old : Streams)
    → IsNextDone rules form path number old (record { left = left; sink = old.sink; told = old.told }) (Err stop.Memory)
next_lacking rules form path number left old = (rest_of old.left, [], rest_is old.left, inl refl, Appends-nil old.sink.taken, refl, refl)

-- or it is worked out
pub next_line : (rules : RuleSet) (form : Option Form) (path : List ℕ) (number most : ℕ) (old new : Streams) (bytes : List ℕ) (answer : Result ℕ LineStop) → 2 ^ 20 < most
    → IsNextLine most old.left new.left bytes (Ok true) → IsLineDone rules form path number bytes old.sink new.sink old.told new.told answer
    → IsNextDone rules form path number old new answer
next_line rules form path number most old new bytes (Ok status) more is done =
    let line = read most old.left new.left bytes is in
    (line.0, done.0, one_less old.left new.left line.0 line.1 line.3, line_cut rules form path number most bytes line.0 done.0 more line.2 done.1, done.2, done.3, done.4)
next_line rules form path number most old new bytes (Err stop.Over) more is done = absurd done.1
next_line rules form path number most old new bytes (Err stop.Unread) more is done = absurd done.1
next_line rules form path number most old new bytes (Err stop.Write) more is done =
    let line = read most old.left new.left bytes is in
    let text = subst (λ (part : List ℕ). IsFile part × IsCalcOf rules form number part done.0 (Err Write)) (whole most bytes line.0 more line.2 done.1.0.0) done.1 in
    (line.0 ∷ line.1, done.0, these old.left new.left line.0 line.1 line.3, (line.0, line.1, refl, text.0, text.1), done.2, done.3, done.4)
next_line rules form path number most old new bytes (Err stop.Memory) more is done =
    let line = read most old.left new.left bytes is in
    (line.0 ∷ line.1, done.0, these old.left new.left line.0 line.1 line.3, lacking rules form number most bytes line.0 line.1 done.0 old.left new.left more line.2 done.1, done.2, done.3, done.4)
