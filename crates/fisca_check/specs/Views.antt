-- What the names in a formula stand for, as the theory has it.
use Rattle.std.specs.Prelude.{ℕ, List, Option, option_map}
use Rattle.fisca_check.specs.declared.scope.FormulaScope.{FormulaScope}
use Rattle.fisca_check_calls.specs.Locals.{locals}
use Rattle.fisca_symbols.specs.Known.{tables}
use Rattle.fisca_typing.specs.Names as typing
use Rattle.fisca_model.specs.Tables.{otherwise}
use Rattle.fisca_typing.specs.Things.{Thing}

abbrev pub names : FormulaScope → typing.Names
names c = record {
  tables = tables c.tables.now;
  entity = c.entity;
  asker_name = c.asker_name.now;
  period_name = c.period_name.now;
  reader_name = option_map (λ t. t.now) c.reader_name;
  locals = locals c.locals;
}

-- what a name stands for that is no local's
abbrev pub other_name : typing.Names → List ℕ → Option Thing
other_name c t = otherwise (typing.argument_named c t) (otherwise (typing.known_word t) (otherwise (typing.declared c.tables t) (typing.added_word t)))
