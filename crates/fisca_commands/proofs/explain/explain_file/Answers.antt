use Rattle.std.proofs.Common.{◌∙◌, ap, map, subst}
use Rattle.fisca_columns.specs.Views.{calc}
use Rattle.fisca_explain.specs.Columns.{IsExplained}
use Rattle.fisca_explain.specs.Walks.{explaining_by}
use Rattle.fisca_model.specs.Seen.{key_seen}
use Rattle.fisca_simulation.specs.Simulations.{Simulation}
use Rattle.fisca_situations.specs.Situations.{Situation}
use Rattle.fisca_commands.specs.Calc.{Calculation, simulation_of}
use Rattle.fisca_commands.specs.Explain.{IsEndIn, picked}
use Rattle.fisca_commands.proofs.explain.explain_file.Goals as goal

pub returns-clause-answer : goal.returns-clause-answer
returns-clause-answer g c =
    let asked : Calculation = record { rules = c.args.from.rules.now; asked = calc c.args.file } in
    let end = c.explain_columns-evaluator.result.1 in
    let x = explaining_by c.args.from.rules.now c.args.explained (simulation_of asked) in
    let members = ap (λ (s : Situation). s.members) c.situation.ensures ∙ ap (λ (m : Simulation). m.situation.members) c.explain_columns-evaluator.ensures.same in (
      end,
      subst (λ ks. IsExplained x (map key_seen ks) (g.S.RowSink.taken c.args.sink.now) (g.S.RowSink.taken c.explain_columns-evaluator.new.sink) end) (c.chosen-keys.ensures ∙ ap (λ ks. picked ks c.args.named.now) c.as_slice.ensures) c.explain_columns-evaluator.ensures.lines,
      subst (λ ms. IsEndIn c.args.from.rules.now ms end c.ended.result) members c.ended.ensures.end,
    )
