-- What formulas may name of what a rule set declares.
use Rattle.std.specs.Prelude.{map}
use Rattle.fisca_symbols.specs.declared.tables.Tables.{Tables}
use Rattle.fisca_symbols.specs.KnownEntities.{entity}
use Rattle.fisca_symbols.specs.KnownEnums.{choices}
use Rattle.fisca_symbols.specs.KnownVariables.{variable}
use Rattle.fisca_model.specs.Tables as typing

abbrev pub tables : Tables → typing.Tables
tables c = record { entities = map entity c.entities; enums = map choices c.enums; variables = map variable c.variables; nodes = c.parameters }
