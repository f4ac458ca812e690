-- The steps of code behind `Told`:
-- What an evaluator answers, as the code has it.
use Rattle.fisca_writer.specs.declared.fault.RowFault.{RowFault}
use Rattle.fisca_writer.specs.declared.fault.RowFault.TheVariants as row
use Rattle.fisca_model.specs.declared.eval_fault.EvalFault.{EvalFault}
use Rattle.fisca_model.specs.declared.eval_fault.EvalFault.TheVariants as fault

-- want of memory is that of the row, and every other fault its own
abbrev pub row_fault : EvalFault → RowFault EvalFault
row_fault (fault.ZeroDivisor k) = row.Eval (fault.ZeroDivisor k)
row_fault (fault.TooWide k) = row.Eval (fault.TooWide k)
row_fault (fault.ParameterUndefined k) = row.Eval (fault.ParameterUndefined k)
row_fault (fault.BadScale k) = row.Eval (fault.BadScale k)
row_fault (fault.NoMember k) = row.Eval (fault.NoMember k)
row_fault (fault.PeriodMismatch k) = row.Eval (fault.PeriodMismatch k)
row_fault (fault.PeriodOutOfRange k) = row.Eval (fault.PeriodOutOfRange k)
row_fault (fault.Cycle k) = row.Eval (fault.Cycle k)
row_fault (fault.TooDeep k) = row.Eval (fault.TooDeep k)
row_fault fault.Memory = row.Memory
