use Rattle.std.proofs.Common.{◌≡◌, ◌<◌, ◌≤◌, ◌++◌, ◌∙◌, ℕ, nat_le, Bool, true, length, string_bytes, arith, sym, ap}
use Rattle.std.proofs.lemmas.Bool.Decides.{nat_tests}
use Rattle.std.specs.Option.{ForSome}
use Rattle.fisca_grid.specs.AxesRow.{line_of}
use Rattle.fisca_grid.specs.Grid.{axes_at}
use Rattle.fisca_writer.specs.Row.{Line}
use Rattle.fisca_grid.proofs.Groups.{length-axes_at}
use Rattle.fisca_grid.proofs.Values.{kept_row, dropped_row}
use Rattle.fisca_grid.proofs.Rest.{rest_stays}
use Rattle.fisca_grid.proofs.axis_rows.AxisRowsRows.work_out.Goals as goal
use Rattle.fisca_grid.proofs.axis_rows.AxisRowsRows.work_out.Goals.{then-self, else-self}

pub returns-then-not-is_kept-clause-worked_out : goal.returns-then-not-is_kept-clause-worked_out
returns-then-not-is_kept-clause-worked_out c =
    let rows = c.args.self.now in
    let axes = axes_at rows.axes c.args.position in
    let inside : ForSome rows.keep (λ filter. filter.axis < length axes) = λ filter e. rw (length-axes_at rows.axes c.args.position) (rows.inside filter e) in
    let found = rw c.if-not-is_kept.true at c.is_kept.ensures in
    dropped_row rows.keep axes c.args.position inside found

pub returns-in-Ok-clause-worked_out : goal.returns-in-Ok-clause-worked_out
returns-in-Ok-clause-worked_out c =
    let rows = c.args.self.now in
    let axes = axes_at rows.axes c.args.position in
    let inside : ForSome rows.keep (λ filter. filter.axis < length axes) = λ filter e. rw (length-axes_at rows.axes c.args.position) (rows.inside filter e) in
    let found = rw c.if-not-is_kept.false at c.is_kept.ensures in
    let written = c.in-Ok.ensures.line in
    kept_row rows.keep axes written.0 c.args.position written.1 inside found
    ∙ ap Line (sym (written.2 ∙ ap (λ before. before ++ line_of c.args.position written.0) c.requires.line))

pub invariant_of-self : goal.invariant_of-self
invariant_of-self c =
    let rows = c.args.self.now in
    record {
      inside = rows.inside;
      remembered = λ known. elim c.if-self.branch [
        | then-self w ↦ rest_stays rows.axes rows.here c.args.turned c.args.position (string_bytes rows.rest) (few c.args.turned c.if-self.self known w.self-is) c.requires.turned (rows.remembered w.if-self.true)
        | else-self w ↦ absurd (cc)
      ];
    }
  where
    few : (turned : ℕ) (test : Bool) → test ≡ true → test ≡ nat_le turned 1 → turned ≤ 1
    few turned test known is = let within : nat_le turned 1 ≡ true = sym is ∙ known in grind (arith, nat_tests, within)
