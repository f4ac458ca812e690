-- What is found, as the definition has it.
use Rattle.std.specs.Prelude.{List, Vec, map}
use Rattle.std.specs.declared.alloc.Global.{Global}
use Rattle.fisca_symbols.specs.declared.choices.Choices.{Choices}
use Rattle.fisca_symbols.specs.declared.entity.Entity.{Entity}
use Rattle.fisca_symbols.specs.declared.variable.Variable.{Variable}
use Rattle.fisca_declarations.specs.VariableForms.{written}
use Rattle.fisca_declarations.specs.declared.declaration.Declaration.{Declaration}
use Rattle.fisca_rules.specs.declared.found.Found.{Found as Held}
use Rattle.fisca_rules.specs.Build.{Found, Whole}

abbrev pub found : Held → Found
found f = record { entities = f.entities.items; variables = f.variables.items; declarations = map written f.declarations.items }

-- entities, Enums, variables and their declarations, as they are seen
abbrev pub whole : List Entity × List Choices × List Variable × Vec Declaration Global → Whole
whole t = record { entities = t.0; enums = t.1; variables = t.2; declarations = map written t.3.items }
