-- What formulas are worked out over: the tables of a rule set, and how a situation groups its persons.
use Rattle.fisca_groups.specs.Grouped.{grouped}
use Rattle.fisca_model.specs.Groups.{Groups}
use Rattle.fisca_symbols.specs.Known as known
use Rattle.fisca_model.specs.Tables.{Tables}
use Rattle.fisca_machine.specs.declared.context.Context.{Context}

abbrev pub tables : Context → Tables
tables w = known.tables w.tables.now

abbrev pub groups : Context → Groups
groups w = grouped w.members.now
