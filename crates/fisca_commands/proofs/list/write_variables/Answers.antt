use Rattle.std.proofs.Common.{length, map, subst, sym}
use Rattle.std.specs.Prelude.{Err}
use Rattle.fisca_rule_files.specs.Listing.{listed_row, listing}
use Rattle.fisca_rules.specs.Views.{rule_set}
use Rattle.fisca_writer.specs.Ranges.{no_limit}
use Rattle.fisca_writer.specs.Run.{IsRun}
use Rattle.fisca_commands.specs.Listed.{AreListed}
use Rattle.fisca_commands.proofs.Listed.{all_listed, some_listed}
use Rattle.fisca_commands.proofs.list.write_variables.Goals as goal

pub returns-in-Ok-clause-answer : goal.returns-in-Ok-clause-answer
returns-in-Ok-clause-answer g c =
    let form = c.args.form.now in
    let modules = map (λ f. f.now) c.args.modules.now in
    let r = rule_set c.args.rules.now in
    let old = g.S.RowSink.taken c.args.sink.now in
    let new = g.S.RowSink.taken c.write_listing.new.sink in
    all_listed form modules r (c.each_variable_has_its_line.ensures.lines form modules r) old new c.in-Ok.field-0
    (subst (IsRun (listed_row form modules r) (length r.variables) 0 no_limit old new) c.in-Ok.is c.write_listing.ensures.run)

pub returns-in-Err-clause-answer : goal.returns-in-Err-clause-answer
returns-in-Err-clause-answer g c =
    let form = c.args.form.now in
    let modules = map (λ f. f.now) c.args.modules.now in
    let r = rule_set c.args.rules.now in
    let old = g.S.RowSink.taken c.args.sink.now in
    let new = g.S.RowSink.taken c.write_listing.new.sink in
    subst (λ refusal. AreListed (listing form modules r) old new (Err refusal)) (sym c.from.ensures)
    (some_listed form modules r (c.each_variable_has_its_line.ensures.lines form modules r) old new c.in-Err.fault
    (subst (IsRun (listed_row form modules r) (length r.variables) 0 no_limit old new) c.in-Err.is c.write_listing.ensures.run))
