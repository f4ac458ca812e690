use Rattle.fisca_memo_theory.proofs.Turned.{turned_true, turned_reads}
use Rattle.fisca_memo_theory.proofs.law.turned_memory_is_true.Goals as goal

pub returns-clause-truth : goal.returns-clause-truth
returns-clause-truth c marks wheel old new before after same dropped t r = turned_true marks wheel old new same before after dropped t r

pub returns-clause-reads : goal.returns-clause-reads
returns-clause-reads c marks wheel old new before after same dropped t r = turned_reads marks wheel old new same before after dropped t r
