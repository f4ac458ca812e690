-- A formula's meaning is a dialogue: it asks for the values of keys, one after another, and ends with a value or a fault.
use Rattle.std.specs.Prelude.{ℕ, Bool, true, false, Result, Ok, Err}
use Rattle.fisca_num.specs.Number.{Number, zero_number, one_number}
use Rattle.fisca_num.specs.declared.faults.NumFault.{NumFault}
use Rattle.fisca_num.specs.declared.faults.NumFault.TheVariants as num
use Rattle.fisca_model.specs.Values.{Value, Key, number, bool, member}

-- All but the mismatch of a period belong to the key whose formula it is.
pub data OperationFault : Type 0 where
  zero_divisor : OperationFault
  too_wide : OperationFault
  parameter_undefined : OperationFault
  bad_scale : OperationFault
  no_member : OperationFault
  period_mismatch : Key → OperationFault
  period_out_of_range : OperationFault

pub data Dialogue : Type 0 where
  gives : Value → Dialogue
  fails : OperationFault → Dialogue
  -- an operand of a wrong type or level, a name that stands for nothing, or a member that is not there
  stuck : Dialogue
  asks : Key → (Value → Dialogue) → Dialogue
  deriving IsSet as Dialogue-set

infixl 20 ◌>>=◌
abbrev pub ◌>>=◌ : Dialogue → (Value → Dialogue) → Dialogue
gives v >>= f = f v
fails e >>= f = fails e
stuck >>= f = stuck
asks k g >>= f = asks k (λ v. g v >>= f)

-- a bool counts as a number: 0 or 1
abbrev pub with_number : Value → (Number → Dialogue) → Dialogue
with_number (number n) f = f n
with_number (bool true) f = f one_number
with_number (bool false) f = f zero_number
with_number (member i) f = stuck

abbrev pub with_bool : Value → (Bool → Dialogue) → Dialogue
with_bool (number n) f = stuck
with_bool (bool b) f = f b
with_bool (member i) f = stuck

abbrev pub with_member : Value → (ℕ → Dialogue) → Dialogue
with_member (number n) f = stuck
with_member (bool b) f = stuck
with_member (member i) f = f i

-- operations on numbers tell the first two alone
abbrev pub fault_of : NumFault → OperationFault
fault_of num.ZeroDivisor = zero_divisor
fault_of num.TooWide = too_wide
fault_of num.NotANumber = too_wide
fault_of num.Memory = too_wide

abbrev pub computed : Result Number NumFault → Dialogue
computed (Ok n) = gives (number n)
computed (Err e) = fails (fault_of e)
