-- What modules declare, module by module.
use Rattle.std.specs.Prelude.{ℕ, List, [], ◌∷◌, ◌++◌}
use Rattle.fisca_ast.specs.Modules.{Statement}
use Rattle.fisca_symbols.specs.declared.choices.Choices.{Choices}
use Rattle.fisca_rules.specs.Build.{constant_of}
use Rattle.fisca_rules.specs.Steps.Build.{enum_of}

abbrev pub constants_of : List Statement → List (List ℕ)
constants_of [] = []
constants_of (s ∷ ss) = constant_of s ++ constants_of ss

abbrev pub all_constants : List (List Statement) → List (List ℕ)
all_constants [] = []
all_constants (m ∷ ms) = constants_of m ++ all_constants ms

abbrev pub enums_of : List Statement → List Choices
enums_of [] = []
enums_of (s ∷ ss) = enum_of s ++ enums_of ss

abbrev pub all_enums : List (List Statement) → List Choices
all_enums [] = []
all_enums (m ∷ ms) = enums_of m ++ all_enums ms
