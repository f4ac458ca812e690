use Rattle.std.proofs.Common.{◌≡◌, drop}
use Rattle.fisca_situations.proofs.Asking.{AreLeft}
use Rattle.fisca_rows.specs.Asked.{keys_met}
use Rattle.fisca_rows.specs.Met.{all_met}
use Rattle.fisca_rows.proofs.met.all_met.Given as goal

-- those that are left decide, and the keys before them were asked for
abbrev pub invariant-loop-condition : goal.invariant-loop-condition
invariant-loop-condition g l =
    let answer = g.A.Answers.answer l.initial.answers in
    record {
      ready : g.A.Answers.ready l.answers;
      same : g.A.Answers.answer l.answers ≡ answer;
      members : g.A.Answers.members l.answers ≡ g.A.Answers.members l.initial.answers;
      met : all_met answer l.conditions ≡ all_met answer (drop l.condition-index l.conditions);
      asked : AreLeft g.A.Answers.worked (keys_met answer l.conditions) (keys_met answer (drop l.condition-index l.conditions)) l.initial.answers l.answers;
    }
