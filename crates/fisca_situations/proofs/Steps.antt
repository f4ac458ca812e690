-- One member more.
use Rattle.std.proofs.Common.{◌≡◌, ◌∙◌, ap, add-one, ℕ, suc, ◌+◌, List, Option, Result, Ok}
use Rattle.fisca_inputs.specs.declared.fault.SituationFault.{SituationFault}
use Rattle.fisca_inputs.specs.declared.given.Given.{Given}
use Rattle.fisca_members.specs.Faults.{entries_in}
use Rattle.fisca_num.specs.Results.{and_then}
use Rattle.fisca_symbols.specs.declared.tables.Tables.{Tables}
use Rattle.fisca_time.specs.Period.{Span}
use Rattle.fisca_model.specs.Tables.{Role}
use Rattle.fisca_yaml.specs.Node.{Node, Entries, entry}
use Rattle.fisca_situations.specs.Steps.Reading.{member_below, members_given}

pub member_step : (c : Tables) (default : Option Span) (entity : ℕ) (rs : List Role) (member : ℕ) (all : Result (List Given) SituationFault) (gs hs : List Given)
    (es rest : Entries) (name : List ℕ) (line : ℕ) (n : Node)
    → all ≡ members_given c default entity rs member gs es → es ≡ entry name line n rest
    → member_below c default entity rs member gs line (entries_in n) ≡ Ok hs → all ≡ members_given c default entity rs (member + 1) hs rest
member_step c default entity rs member all gs hs es rest name line n h e k =
    rw add-one (h ∙ ap (members_given c default entity rs member gs) e ∙ ap (λ r. and_then r (λ js. members_given c default entity rs (suc member) js rest)) k)
