use Rattle.std.proofs.Common.{◌∙◌, ap, sum}
use Rattle.fisca_commands.proofs.Named.{own_sum}
use Rattle.fisca_commands.proofs.axes.build.Goals as goal

pub build-requires : goal.build-requires
build-requires c = record { grouped = ap sum (c.as_slice.ensures.value ∙ c.in_ok-lengths.ensures) ∙ own_sum c.args.specs.now }
