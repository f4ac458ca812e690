use Rattle.fisca_time.proofs.ReadBack.{text_reads_back}
use Rattle.fisca_time.proofs.Shortest.{text_of-shortest}
use Rattle.fisca_time.proofs.period.Period.text.Goals as goal

pub returns-clause-reads_back : goal.returns-clause-reads_back
returns-clause-reads_back c = rw c.in_ok-formatted.ensures.value (text_reads_back c.args.self c.formatted.ensures.period)

pub returns-clause-shortest : goal.returns-clause-shortest
returns-clause-shortest c = rw c.in_ok-formatted.ensures.value (text_of-shortest c.args.self c.formatted.ensures.period)
