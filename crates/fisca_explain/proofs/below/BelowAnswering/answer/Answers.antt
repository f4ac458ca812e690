use Rattle.std.proofs.Common.{◌∙◌, ap, option_and_then, option_map, sym}
use Rattle.fisca_inputs.specs.Steps.Rules.{default_of}
use Rattle.fisca_model.specs.Seen.{key_seen, value_seen}
use Rattle.fisca_explain.specs.Below.{answer_by, if_left}
use Rattle.fisca_explain.proofs.below.BelowAnswering.answer.Goals as goal

pub returns-in-Unfit : goal.returns-in-Unfit
returns-in-Unfit g c =
    let b = c.args.self.now in
    sym (ap (answer_by b.left (g.R.Recall.find b.recall.now (key_seen c.args.key.now))) c.in-Unfit.ensures)

pub returns-in-Input : goal.returns-in-Input
returns-in-Input g c =
    let b = c.args.self.now in
    let o = c.in-Input.ensures in
    c.input.ensures ∙ ap (λ v. if_left b.left (option_map value_seen v)) o.1 ∙ sym (ap (answer_by b.left (g.R.Recall.find b.recall.now (key_seen c.args.key.now))) o.2)

pub returns-in-Default : goal.returns-in-Default
returns-in-Default g c =
    let b = c.args.self.now in
    let o = c.in-Default.ensures.1 in
    c.default.ensures ∙ ap (λ w. if_left b.left (option_and_then (λ v. option_map value_seen (default_of v.default_value)) w)) o.2
    ∙ ap (λ d. if_left b.left (option_map value_seen d)) o.3 ∙ sym (ap (answer_by b.left (g.R.Recall.find b.recall.now (key_seen c.args.key.now))) o.4)

pub returns-in-Neutral : goal.returns-in-Neutral
returns-in-Neutral g c =
    let b = c.args.self.now in
    let o = c.in-Neutral.ensures.1 in
    c.default-in-Neutral.ensures ∙ ap (λ w. if_left b.left (option_and_then (λ v. option_map value_seen (default_of v.default_value)) w)) o.2
    ∙ ap (λ d. if_left b.left (option_map value_seen d)) o.3 ∙ sym (ap (answer_by b.left (g.R.Recall.find b.recall.now (key_seen c.args.key.now))) o.4)

pub returns-in-Formula : goal.returns-in-Formula
returns-in-Formula g c =
    let b = c.args.self.now in
    let o = c.in-Formula.ensures in
    c.remembered.ensures ∙ sym (ap (answer_by b.left (g.R.Recall.find b.recall.now (key_seen c.args.key.now))) o.2)
