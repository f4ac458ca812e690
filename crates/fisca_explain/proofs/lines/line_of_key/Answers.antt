use Rattle.std.proofs.Common.{◌∙◌, option_map}
use Rattle.fisca_model.specs.Seen.{key_seen, value_seen}
use Rattle.fisca_explain.specs.Lines.{fault_in, names_at, value_in}
use Rattle.fisca_explain.proofs.Keeping.{any_reason, says_as_it_is, says_still}
use Rattle.fisca_explain.proofs.lines.line_of_key.Goals as goal

pub returns-in-None : goal.returns-in-None
returns-in-None c reason none =
    let n = names_at c.args.view.now c.args.situation.now (fault_in c.args.answer) in
    let line = c.in_ok-line.line in
    says_as_it_is n c.args.depth (key_seen c.args.key.now) (option_map value_seen (value_in c.args.answer)) line c.in_ok-line.ensures.says reason
    (any_reason c.args.origin line reason none (λ _. c.in_ok-line.ensures.source))

pub returns-in_ok-put_source-in-Some : goal.returns-in_ok-put_source-in-Some
returns-in_ok-put_source-in-Some c reason none =
    let n = names_at c.args.view.now c.args.situation.now (fault_in c.args.answer) in
    let old = c.in_ok-line.line in
    let new = c.put_source.new.line in
    says_still n c.args.depth (key_seen c.args.key.now) (option_map value_seen (value_in c.args.answer)) old new c.in_ok-put_source-in-Some.ensures.key c.in_ok-line.ensures.says reason
    (any_reason c.args.origin new reason none (λ is. c.in_ok-put_source-in-Some.ensures.above is ∙ c.in_ok-line.ensures.source))
