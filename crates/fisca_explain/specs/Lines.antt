-- What lines are made of, as they stand in memory.
use Rattle.std.specs.Prelude.{◌≡◌, Option, Some, None, Result, Ok, Err}
use Rattle.fisca_model.specs.declared.eval_fault.EvalFault.{EvalFault}
use Rattle.fisca_model.specs.declared.eval_fault.EvalFault.TheVariants.{Memory}
use Rattle.fisca_model.specs.declared.value.Value.{Value}
use Rattle.fisca_situations.specs.Steps.Views.{situation}
use Rattle.fisca_situations.specs.declared.situation.Situation.{Situation}
use Rattle.fisca_symbols.specs.Known.{tables as known}
use Rattle.fisca_explain.specs.Says.{Names}
use Rattle.fisca_explain.specs.declared.line.Line.{Line}
use Rattle.fisca_explain.specs.declared.view.View.{View}

abbrev pub value_in : Result Value EvalFault → Option Value
value_in (Ok v) = Some v
value_in (Err fault) = None

-- a value has no fault: then it is no one's
abbrev pub fault_in : Result Value EvalFault → EvalFault
fault_in (Ok v) = Memory
fault_in (Err fault) = fault

abbrev pub names_at : View → Situation → EvalFault → Names
names_at v s fault = record { tables = known v.rules.now.tables; members = (situation s).members; fault = fault }

-- what the line says of a key, beside where its value comes from, stays
abbrev pub KeepsKey : Line → Line → Type 0
KeepsKey old new =
    (new.kind ≡ old.kind) × (new.depth ≡ old.depth) × (new.name ≡ old.name) × (new.member ≡ old.member) × (new.period ≡ old.period) × (new.value ≡ old.value) × (new.fault ≡ old.fault)

-- how many keys stand above what was read, and on which day it was, stays
abbrev pub KeepsReading : Line → Line → Type 0
KeepsReading old new = (new.depth ≡ old.depth) × (new.period ≡ old.period)
