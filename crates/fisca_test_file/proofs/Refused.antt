-- Where memory is refused, the sink has not failed.
use Rattle.std.proofs.Common.{◌≡◌, ◌∙◌, ℕ, ap, cond, sym}
use Rattle.std.specs.Prelude.{Result, Err}
use Rattle.fisca_writer.specs.Sink.{CountsFailure}
use Rattle.fisca_writer.specs.Steps.Sink.{one_more}
use Rattle.fisca_test_file.specs.Handing.{is_write, memory_refused}
use Rattle.fisca_test_file.specs.declared.report_fault.ReportFault.{ReportFault}

pub unwritten : {X : Type 0} (r : Result X ReportFault) (f : ReportFault) (count : ℕ) → r ≡ Err f → f ≡ memory_refused → CountsFailure (is_write r) count count
unwritten {X} r f count told is = ap (λ (x : Result X ReportFault). cond (is_write x) (one_more count) count) (sym (told ∙ ap Err is))
