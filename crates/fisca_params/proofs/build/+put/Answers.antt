use Rattle.std.proofs.Common.{rules}
use Rattle.fisca_params.proofs.build.+put.Goals as goal

pub put_node-returns-in_err-scale-clause-put : goal.put_node-returns-in_err-scale-clause-put
put_node-returns-in_err-scale-clause-put t c = let line = c.in-Some-entry.ensures.line c.args.line in search (rules, line)
