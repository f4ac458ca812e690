-- The numbers and the plain names of the faults.
use Rattle.std.specs.Prelude.{ℕ, List, codes}
use Rattle.fisca_num.specs.Faults.{name_of as num_name_of}
use Rattle.fisca_yaml.specs.Faults.{name_of as kind_name_of}
use Rattle.fisca_scales.specs.declared.fault.ParamFault.{ParamFault}
use Rattle.fisca_scales.specs.declared.fault.ParamFault.TheVariants.{Yaml, BadParameter, DuplicateName, BadScale, Undefined, Number, Memory}

-- the innermost fault's name
abbrev pub name_of : ParamFault → List ℕ
name_of (Yaml file fault) = kind_name_of fault.kind
name_of (BadParameter file line) = codes "BadParameter"
name_of (DuplicateName file line) = codes "DuplicateName"
name_of BadScale = codes "BadScale"
name_of Undefined = codes "Undefined"
name_of (Number fault) = num_name_of fault
name_of Memory = codes "Memory"

abbrev pub number_of : ParamFault → ℕ
number_of (Yaml file fault) = 1
number_of (BadParameter file line) = 2
number_of (DuplicateName file line) = 3
number_of BadScale = 4
number_of Undefined = 5
number_of (Number fault) = 6
number_of Memory = 7
