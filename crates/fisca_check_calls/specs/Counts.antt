-- The sizes of the theory that those in memory stand for.
use Rattle.fisca_typing.specs.Sizes as typing
use Rattle.fisca_check_calls.specs.declared.size.Size.{Size}

abbrev pub size : Size → typing.Size
size s = record { height = s.height; nodes = s.nodes }
