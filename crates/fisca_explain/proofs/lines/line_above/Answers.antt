use Rattle.std.proofs.Common.{[], option_map}
use Rattle.fisca_model.specs.Seen.{key_seen, value_seen}
use Rattle.fisca_symbols.specs.Known.{tables as known}
use Rattle.fisca_explain.specs.Lines.{fault_in, names_at, value_in}
use Rattle.fisca_explain.proofs.Keeping.{answer_among, says_made}
use Rattle.fisca_explain.proofs.lines.line_above.Goals as goal

pub returns-clause-says : goal.returns-clause-says
returns-clause-says c =
    let n = names_at c.args.view.now c.args.situation.now (fault_in c.args.answer) in
    let k = key_seen c.args.key.now in
    let v = option_map value_seen (value_in c.args.answer) in
    says_made n c.args.depth k v c.new-line.result c.put_key.new.line c.put_answer.new.line c.in_ok-put_key.ensures.others c.in_ok-put_answer.ensures.others
    c.new-line.ensures.of.1 c.new-line.ensures.of.0 c.in_ok-put_key.ensures.key
    (answer_among (known c.args.view.now.rules.now.tables) [] n.members (fault_in c.args.answer) k.variable v c.put_answer.new.line c.in_ok-put_answer.ensures.answer)
