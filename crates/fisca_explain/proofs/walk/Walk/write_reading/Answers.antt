use Rattle.std.proofs.lemmas.Result.{on_ok_weaker}
use Rattle.fisca_explain.specs.Explained.{of_reading}
use Rattle.fisca_explain.specs.Says.{written}
use Rattle.fisca_explain.specs.Walks.{form_in, names_in}
use Rattle.fisca_explain.proofs.Written.{line_alone}
use Rattle.fisca_explain.proofs.walk.Walk.write_reading.Goals as goal

pub returns-clause-line : goal.returns-clause-line
returns-clause-line g c =
    let n = names_in c.args.self.now in
    let form = form_in c.args.self.now in
    let line = c.in_ok-line.line in
    on_ok_weaker c.write.result
    (λ appended. (written form line, line_alone n form (of_reading c.args.depth c.args.reading.now) line (c.in_ok-line.ensures n), appended)) c.write.ensures.ok
