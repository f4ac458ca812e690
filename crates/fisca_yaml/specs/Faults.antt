-- The numbers and the plain names of the kinds of faults.
use Rattle.std.specs.Prelude.{ℕ, List, codes}
use Rattle.fisca_yaml.specs.declared.fault.YamlKind.{YamlKind}
use Rattle.fisca_yaml.specs.declared.fault.YamlKind.TheVariants.{Tab, BadIndent, DuplicateKey, BadFlow, BadQuote, Unsupported, TooDeep, TooLong, Memory}

abbrev pub name_of : YamlKind → List ℕ
name_of Tab = codes "Tab"
name_of BadIndent = codes "BadIndent"
name_of DuplicateKey = codes "DuplicateKey"
name_of BadFlow = codes "BadFlow"
name_of BadQuote = codes "BadQuote"
name_of Unsupported = codes "Unsupported"
name_of TooDeep = codes "TooDeep"
name_of TooLong = codes "TooLong"
name_of Memory = codes "Memory"

abbrev pub number_of : YamlKind → ℕ
number_of Tab = 1
number_of BadIndent = 2
number_of DuplicateKey = 3
number_of BadFlow = 4
number_of BadQuote = 5
number_of Unsupported = 6
number_of TooDeep = 7
number_of TooLong = 8
number_of Memory = 9
