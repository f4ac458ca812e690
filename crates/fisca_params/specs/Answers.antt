-- What a reader answers.
use Rattle.std.specs.Prelude.{◌≡◌, ◌≢◌, ℕ, Option, Some, None, Result, Ok, Err, ⊤}
use Rattle.fisca_yaml.specs.declared.fault.YamlKind.TheVariants as kind
use Rattle.fisca_params.specs.declared.fault.NodeFault.{NodeFault}
use Rattle.fisca_params.specs.declared.fault.NodeFault.TheVariants as fault
use Rattle.fisca_scales.specs.declared.fault.ParamFault.{ParamFault}
use Rattle.fisca_scales.specs.declared.fault.ParamFault.TheVariants as params
use Rattle.fisca_params.specs.Causes.{Cause, no_yaml_tree, bad_parameter, duplicate_name, Refused}

-- the cause that a fault tells; want of memory is none
abbrev pub cause_of : NodeFault → Option Cause
cause_of (fault.BadParameter line) = Some (bad_parameter line)
cause_of (fault.DuplicateName line) = Some (duplicate_name line)
cause_of fault.Memory = None

-- what was read, seen by view, is this value; a cause that is told is the one
abbrev pub Gives : {X Y : Type 0} → (X → Y) → Result X NodeFault → Result Y Cause → Type 0
Gives view (Ok x) o = o ≡ Ok (view x)
Gives view (Err e) o = (cause : Cause) → cause_of e ≡ Some cause → o ≡ Err cause

-- the same of what may be absent: the cause is a bad parameter at this line then
abbrev pub Finds : {X Y : Type 0} → (X → Y) → Result X NodeFault → Option Y → ℕ → Type 0
Finds view (Ok x) o line = o ≡ Some (view x)
Finds view (Err e) o line = (cause : Cause) → cause_of e ≡ Some cause → (o ≡ None) × (cause ≡ bad_parameter line)

-- as Gives, of what a call leaves behind
abbrev pub Leaves : {X Y : Type 0} → Y → Result X NodeFault → Result Y Cause → Type 0
Leaves new = Gives (λ x. new)

-- the fault of the file at a place
abbrev pub fault_in : ℕ → NodeFault → ParamFault
fault_in file (fault.BadParameter line) = params.BadParameter file line
fault_in file (fault.DuplicateName line) = params.DuplicateName file line
fault_in file fault.Memory = params.Memory

-- a fault of files tells which of them is refused first, and why
abbrev pub Refuses : {X : Type 0} → ParamFault → Result X Refused → Type 0
Refuses (params.Yaml file fault) o = (fault.kind ≢ kind.Memory) × (o ≡ Err (record { file = file; cause = no_yaml_tree }))
Refuses (params.BadParameter file line) o = o ≡ Err (record { file = file; cause = bad_parameter line })
Refuses (params.DuplicateName file line) o = o ≡ Err (record { file = file; cause = duplicate_name line })
Refuses params.BadScale o = ⊥
Refuses params.Undefined o = ⊥
Refuses (params.Number fault) o = ⊥
Refuses params.Memory o = ⊤

-- the place of the file that a fault names
abbrev pub file_of : ParamFault → Option ℕ
file_of (params.Yaml file fault) = Some file
file_of (params.BadParameter file line) = Some file
file_of (params.DuplicateName file line) = Some file
file_of _ = None
