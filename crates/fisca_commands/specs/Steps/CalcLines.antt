-- The steps of code behind `CalcLines`.
use Rattle.std.specs.Prelude.{◌≡◌, ◌⊎◌, ℕ, ◌<◌, ◌^◌, List, [], ◌∷◌, length, false, Option, Some, None, IfSome, Result, Ok, Err}
use Rattle.std.specs.Io.KnownBytes.{Appends}
use Rattle.fisca_columns.specs.Calc.{Calc}
use Rattle.fisca_forms.specs.LineForms.{Form}
use Rattle.fisca_rule_files.specs.Refusal.{is_failed_write}
use Rattle.fisca_rule_files.specs.declared.refusal.Refusal.{Refusal}
use Rattle.fisca_rule_files.specs.declared.refusal.Refusal.TheVariants.{Write, Memory}
use Rattle.fisca_rules.specs.declared.rule_set.RuleSet.{RuleSet}
use Rattle.fisca_simulation.specs.Told.{IsReady}
use Rattle.fisca_writer.specs.Sink.{CountsFailure}
use Rattle.fisca_commands.specs.Calc.{IsAsked, simulation_of}
use Rattle.fisca_commands.specs.CalcLines.{IsCalcOf, IsFile, IsHanded, IsLine, IsStopped, LineOutcome, Sink, Streams, Takes, is_write}
use Rattle.fisca_commands.specs.declared.many_files.LineStop.{LineStop}
use Rattle.fisca_commands.specs.declared.many_files.LineStop.TheVariants as stop

-- what an evaluator needs is known of each file that a text may be
abbrev pub AreReady : RuleSet → Type 0
AreReady rules = (text : List ℕ) (asked : Calc) → IsAsked rules text asked → IsReady (simulation_of (record { rules = rules; asked = asked }))

-- a source tells fewer lines than can be counted
abbrev pub AreFew : Option (List (List ℕ)) → Type 0
AreFew left = IfSome left (λ texts. length texts < 2 ^ 63)

-- why lines stop at one that is refused so, if they do
abbrev pub stop_of : Refusal → Option LineStop
stop_of Write = Some stop.Write
stop_of Memory = Some stop.Memory
stop_of refusal = None

-- what `calc` writes of a text is written
abbrev pub IsTextWritten : RuleSet → Option Form → ℕ → List ℕ → Option (List ℕ) → Option (List ℕ) → Result Unit Refusal → Type 0
IsTextWritten rules form number text old new answer = (written : List ℕ) × IsCalcOf rules form number text written answer × Appends old new written

-- a line is told, and its status answered; or memory was refused before
abbrev pub IsTelling : List ℕ → ℕ → Sink → Sink → Result ℕ LineStop → Type 0
IsTelling line status old new (Ok answer) = (answer ≡ status) × IsHanded old line new
IsTelling line status old new (Err stop.Over) = ⊥
IsTelling line status old new (Err stop.Unread) = ⊥
IsTelling line status old new (Err stop.Write) = ⊥
IsTelling line status old new (Err stop.Memory) = new ≡ old

-- the lines stop at this one, of which this part is written: the sink failed, or memory was refused
abbrev pub IsBroken : RuleSet → Option Form → ℕ → List ℕ → List ℕ → LineStop → Type 0
IsBroken rules form number text part stop.Over = ⊥
IsBroken rules form number text part stop.Unread = ⊥
IsBroken rules form number text part stop.Write = IsFile text × IsCalcOf rules form number text part (Err Write)
IsBroken rules form number text part stop.Memory =
    (part ≡ []) ⊎ (IsFile text × ((refusal : Refusal) × (is_failed_write refusal ≡ false) × IsCalcOf rules form number text part (Err refusal)))

-- one line is worked out and its status answered, or the lines stop at it
abbrev pub IsLineDone : RuleSet → Option Form → List ℕ → ℕ → List ℕ → Sink → Sink → Sink → Sink → Result ℕ LineStop → Type 0
IsLineDone rules form path number text old new told_old told_new (Ok status) =
    (outcome : LineOutcome) × IsLine rules form path number text outcome × (status ≡ outcome.status) × Takes old outcome.written new × IsHanded told_old outcome.told told_new
IsLineDone rules form path number text old new told_old told_new (Err end) =
    (part : List ℕ) × IsBroken rules form number text part end × Appends old.taken new.taken part × CountsFailure (is_write end) old.failures new.failures × (told_new ≡ told_old)

-- the next line of a source is worked out, or the lines stop at it
abbrev pub IsNextDone : RuleSet → Option Form → List ℕ → ℕ → Streams → Streams → Result ℕ LineStop → Type 0
IsNextDone rules form path number old new (Ok status) =
    (text : List ℕ) × (outcome : LineOutcome) × IfSome old.left (λ texts. (rest : List (List ℕ)) × (texts ≡ text ∷ rest) × (new.left ≡ Some rest))
    × IsLine rules form path number text outcome × (status ≡ outcome.status) × Takes old.sink outcome.written new.sink × IsHanded old.told outcome.told new.told
IsNextDone rules form path number old new (Err end) =
    (rest : List (List ℕ)) × (part : List ℕ) × IfSome old.left (λ texts. texts ≡ rest) × IsStopped rules form number old.left new.left rest part end
    × Appends old.sink.taken new.sink.taken part × CountsFailure (is_write end) old.sink.failures new.sink.failures × (new.told ≡ old.told)
