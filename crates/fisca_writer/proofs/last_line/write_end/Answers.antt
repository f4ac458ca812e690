use Rattle.std.proofs.Common.{ℕ, ◌++◌, List, codes, decimal, rules}
use Rattle.std.specs.Io.KnownBytes.{Appends}
use Rattle.fisca_writer.specs.Run.{IsProperPrefix}
use Rattle.fisca_writer.specs.LastLine.{last_line}
use Rattle.fisca_writer.proofs.Grown.{trans}
use Rattle.fisca_writer.proofs.Parts.{of_first, of_second, on_err}
use Rattle.fisca_writer.proofs.last_line.write_end.Goals as goal

pub returns-in_err-hand_over-in-More-clause-part : goal.returns-in_err-hand_over-in-More-clause-part
returns-in_err-hand_over-in-More-clause-part g c =
    let told = c.in_err-hand_over-in-More.ensures.part in
    let rest = decimal c.in-More.position ++ codes "\n" in
    let part : (x : List ℕ) × IsProperPrefix x (last_line c.args.end) × Appends (g.S.RowSink.taken c.args.sink.now) (g.S.RowSink.taken c.hand_over-in-More.new.sink) x =
    rw c.in-More.is (told.0, of_first told.0 (codes "more ") rest told.1, told.2) in
    search (rules, part)

pub returns-in_ok-hand_over-in-More-clause-part : goal.returns-in_ok-hand_over-in-More-clause-part
returns-in_ok-hand_over-in-More-clause-part g c =
    let old = g.S.RowSink.taken c.args.sink.now in
    let middle = g.S.RowSink.taken c.hand_over-in-More.new.sink in
    let new = g.S.RowSink.taken c.write_rest.new.sink in
    let rest = decimal c.in-More.position ++ codes "\n" in
    rw c.in-More.is (on_err c.write_rest.result (λ told. (codes "more " ++ told.0, of_second told.0 (codes "more ") rest told.1, trans old middle new (codes "more ") told.0 c.in_ok-hand_over-in-More.ensures.all told.2)) c.write_rest.ensures.part)
