-- What the formula of a key asks for, with its faults named.
use Rattle.fisca_model.specs.Values.{Value, Key}
use Rattle.fisca_key_semantics.specs.Dialogues.{Dialogue}
use Rattle.fisca_key_semantics.specs.Dialogues as d
use Rattle.fisca_model.specs.Causes.{Fault, fault_at, zero_divisor, too_wide, parameter_undefined, bad_scale, no_member, period_mismatch, period_out_of_range, stuck}

-- all but the mismatch of a period are told of the key whose formula it is
abbrev pub named : Key → d.OperationFault → Fault
named key d.zero_divisor = fault_at zero_divisor key
named key d.too_wide = fault_at too_wide key
named key d.parameter_undefined = fault_at parameter_undefined key
named key d.bad_scale = fault_at bad_scale key
named key d.no_member = fault_at no_member key
named key (d.period_mismatch k) = fault_at period_mismatch k
named key d.period_out_of_range = fault_at period_out_of_range key

pub data Inquiry : Type 0 where
  gives : Value → Inquiry
  fails : Fault → Inquiry
  asks : Key → (Value → Inquiry) → Inquiry

-- the dialogue of the formula of a key
abbrev pub of_key : Key → Dialogue → Inquiry
of_key key (d.gives v) = gives v
of_key key (d.fails f) = fails (named key f)
of_key key d.stuck = fails (fault_at stuck key)
of_key key (d.asks k go) = asks k (λ v. of_key key (go v))
