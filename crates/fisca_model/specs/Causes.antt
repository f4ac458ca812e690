-- Why a key has no value.
use Rattle.fisca_model.specs.Values.{Key}

-- why a key has no value
pub data Cause : Type 0 where
  zero_divisor : Cause
  too_wide : Cause
  parameter_undefined : Cause
  bad_scale : Cause
  no_member : Cause
  period_mismatch : Cause
  period_out_of_range : Cause
  -- it needs itself
  cycle : Cause
  -- the keys that are asked for below one another are too many
  too_deep : Cause
  -- an operand of a wrong type, which no typed formula meets
  stuck : Cause

-- a cause, and the key that it is told of
pub record Fault : Type 0 where
  pub cause : Cause
  pub key : Key

abbrev pub fault_at : Cause → Key → Fault
fault_at c k = record { cause = c; key = k }
