-- What is asked for of a yearly variable for a part of its year.
use Rattle.std.specs.Prelude.{ℕ, Result, Ok, Err}
use Rattle.fisca_model.specs.Seen.{key_seen}
use Rattle.fisca_model.specs.Values.{Value}
use Rattle.fisca_key_semantics.specs.Dialogues.{Dialogue, fails, asks, with_number}
use Rattle.fisca_typing.specs.Questions.{ask_year}
use Rattle.fisca_time.specs.Period.{Span}
use Rattle.fisca_ops.specs.Ended.{fault_seen}
use Rattle.fisca_ops.specs.declared.fault.OperationFault.{OperationFault}
use Rattle.fisca_ops.specs.declared.questions.YearPart.{YearPart}
use Rattle.fisca_ops.specs.declared.questions.Share.{Share}
use Rattle.fisca_ops.specs.Steps.Parts.{share_of}

abbrev pub shared : Share → Value → Dialogue
shared s v = with_number v (share_of s)

-- the dialogue that asks for the year's value and gives its share
abbrev pub year_asked : Result YearPart OperationFault → Dialogue
year_asked (Ok y) = asks (key_seen y.key) (shared y.share)
year_asked (Err e) = fails (fault_seen e)

-- the calendar year in which the period starts
abbrev pub year_by : ℕ → ℕ → Span → Share → Dialogue
year_by v m p s = ask_year v m p (share_of s)
