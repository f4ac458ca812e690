use Rattle.std.proofs.Common.{rules, arith, ap, ◌∙◌, ◌+◌, drop}
use Rattle.fisca_inputs.specs.declared.sharing.Rest.{Rest}
use Rattle.fisca_inputs.specs.Sharing.{rest_of, count_free}
use Rattle.fisca_inputs.specs.Steps.Sharing.{parts_by}
use Rattle.fisca_inputs.proofs.Rests.{rest_less, rest_same, rest_stops, count_same, count_more}
use Rattle.fisca_inputs.proofs.inputs.Inputs.rest.Goals as goal
use Rattle.fisca_inputs.proofs.inputs.Inputs.rest.Goals.{in-Some+in_ok-rest-in-Some, in-None}

pub returns-in_err-rest-in-Some-clause-number : goal.returns-in_err-rest-in-Some-clause-number
returns-in_err-rest-in-Some-clause-number c =
    let line = c.args.given.now.line in
    let keys = parts_by c.args.unit c.args.given.now in
    let told = rest_stops line c.args.self.now keys c.loop-i.i c.part_at.result c.part_at.ensures c.loop-i.rest.number (rest_of line c.args.self.now keys c.args.number) c.loop-i.invariant.number
    c.in-Some.value c.in_err-rest-in-Some.field-0.0 c.in-Some.ensures c.in_err-rest-in-Some.ensures in
    search (rules, told.0, told.1, c.from_residual.ensures)

pub loop-i-preserved : goal.loop-i-preserved
loop-i-preserved c =
    let line = c.args.given.now.line in
    let es = c.args.self.now in
    let keys = parts_by c.args.unit c.args.given.now in
    let i = c.loop-i.i in
    let k = c.part_at.result in
    let before = c.loop-i.rest in
    let whole = rest_of line es keys c.args.number in
    elim c.match-input.branch [
      | in-Some+in_ok-rest-in-Some w ↦
          let number = ap (λ (r : Rest). r.number) w.rest-is in
          let free = ap (λ (r : Rest). r.free) w.rest-is in
          let less = rest_less line es keys i k c.part_at.ensures before.number whole c.loop-i.invariant.number w.in-Some.value w.in_ok-rest-in-Some.field-0 w.in-Some.ensures w.in_ok-rest-in-Some.ensures in
          let count = count_same es keys i k c.part_at.ensures before.free (count_free es keys) c.loop-i.invariant.free w.in-Some.value w.in-Some.ensures in
          record {
            number = ap (rest_of line es (drop (i + 1) keys)) number ∙ less;
            free = ap (λ n. n + count_free es (drop (i + 1) keys)) free ∙ count;
            bound = omega (arith, free, c.loop-i.invariant.bound);
          }
      | in-None w ↦
          let number = ap (λ (r : Rest). r.number) w.rest-is in
          let free = ap (λ (r : Rest). r.free) w.rest-is in
          let same = rest_same line es keys i k c.part_at.ensures before.number whole c.loop-i.invariant.number w.in-None.ensures in
          let count = count_more es keys i k c.part_at.ensures before.free (count_free es keys) c.loop-i.invariant.free w.in-None.ensures in
          record {
            number = ap (rest_of line es (drop (i + 1) keys)) number ∙ same;
            free = ap (λ n. n + count_free es (drop (i + 1) keys)) free ∙ count;
            bound = omega (arith, free, c.loop-i.invariant.bound);
          }
    ]
