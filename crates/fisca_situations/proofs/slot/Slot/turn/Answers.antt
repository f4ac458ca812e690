use Rattle.std.proofs.Common.{sym, ◌∙◌}
use Rattle.fisca_situations.proofs.Sets.{set_told}
use Rattle.fisca_situations.specs.Views.{slot as slot_view}
use Rattle.fisca_situations.proofs.slot.Slot.turn.Goals as goal

pub returns-in-Ok : goal.returns-in-Ok
returns-in-Ok c = set_told (slot_view c.args.self.now) c.args.value c.in-Ok.share _ c.args.inputs.now (sym c.in-Ok.is ∙ c.share.ensures) c.set_all.ensures
