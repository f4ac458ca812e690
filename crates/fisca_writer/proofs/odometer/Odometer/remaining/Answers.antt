use Rattle.std.proofs.Common.{length, sym, ap, ◌∙◌, ◌-◌}
use Rattle.fisca_writer.specs.Odometer.{left_of}
use Rattle.fisca_writer.proofs.Walk.{length-positions_from}
use Rattle.fisca_writer.proofs.odometer.Odometer.remaining.Goals as goal

pub returns : goal.returns
returns c =
    let o = c.self.inside in
    c.saturating_sub.ensures ∙ ap (λ size. size - o.next) c.size.ensures ∙ sym (length-positions_from _ o.next) ∙ ap (λ going. length (left_of going)) c.self.view_is
