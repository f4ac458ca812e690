-- What the nodes of a parameter tree tell.
use Rattle.std.specs.Prelude.{Option, Some, None, option_map, Result, Err}
use Rattle.fisca_num.specs.Number.{Number}
use Rattle.fisca_time.specs.Instant.{CivilDate}
use Rattle.fisca_params.specs.declared.content.Content.{Content}
use Rattle.fisca_params.specs.declared.content.Content.TheVariants as content
use Rattle.fisca_params.specs.declared.content.NodeKind.{NodeKind}
use Rattle.fisca_params.specs.declared.content.NodeKind.TheVariants as kind
use Rattle.fisca_params.specs.declared.content.ParamValue.{ParamValue}
use Rattle.fisca_params.specs.declared.content.ParamValue.TheVariants as value
use Rattle.fisca_scales.specs.declared.fault.ParamFault.{ParamFault}
use Rattle.fisca_scales.specs.declared.fault.ParamFault.TheVariants as fault
use Rattle.fisca_scales.specs.Dates.{value_at}
use Rattle.fisca_scales.specs.Scale.{ScaleText, scale_sum}

abbrev pub kind_of_content : Content → NodeKind
kind_of_content content.Folder = kind.Node
kind_of_content content.Branch = kind.Node
kind_of_content (content.Numbers ds) = kind.Number
kind_of_content (content.Bools ds) = kind.Bool
kind_of_content content.Unusable = kind.Unusable
kind_of_content (content.Scale s) = kind.Scale

-- the kind of the node at a place (a place past the end counts as a node)
abbrev pub kind_of : Option Content → NodeKind
kind_of None = kind.Node
kind_of (Some c) = kind_of_content c

-- the value of a parameter at an instant
abbrev pub value_in : Option Content → CivilDate → Option ParamValue
value_in (Some (content.Numbers ds)) instant = option_map value.Number (value_at ds instant)
value_in (Some (content.Bools ds)) instant = option_map value.Bool (value_at ds instant)
value_in _ _ = None

abbrev pub scale_in : Option Content → Option ScaleText
scale_in (Some (content.Scale s)) = Some s
scale_in _ = None

-- what a scale makes of a base at an instant (anything but a scale has no sum)
abbrev pub sum_of_scale : Option ScaleText → CivilDate → Number → Result Number ParamFault
sum_of_scale None instant base = Err fault.Undefined
sum_of_scale (Some s) instant base = scale_sum s instant base

abbrev pub sum_in : Option Content → CivilDate → Number → Result Number ParamFault
sum_in c instant base = sum_of_scale (scale_in c) instant base
