-- What modules in memory stand for.
use Rattle.std.specs.Prelude.{List, map}
use Rattle.fisca_ast.specs.Views.{tree}
use Rattle.fisca_ast.specs.declared.module.Assignment.{Assignment}
use Rattle.fisca_ast.specs.declared.module.Returned.{Returned}
use Rattle.fisca_ast.specs.declared.module.Formula.{Formula as Given}
use Rattle.fisca_ast.specs.declared.module.ClassLine.{ClassLine as Part}
use Rattle.fisca_ast.specs.declared.module.ClassLine.TheVariants as part
use Rattle.fisca_ast.specs.declared.module.Statement.{Statement as Declaration}
use Rattle.fisca_ast.specs.declared.module.Statement.TheVariants as declaration
use Rattle.fisca_ast.specs.declared.module.Module.{Module}
use Rattle.fisca_ast.specs.Modules.{Assigned, Answer, Formula, Item, attribute, formula, Statement, entity, entities, choices, variable}

abbrev pub assigned : Assignment → Assigned
assigned a = record { line = a.line; name = a.name; value = tree a.value }

abbrev pub answer : Returned → Answer
answer r = record { line = r.line; value = tree r.value }

abbrev pub formula_view : Given → Formula
formula_view f = record { line = f.line; start = f.start; signature = f.signature; locals = map assigned f.locals.items; returned = answer f.returned }

abbrev pub item : Part → Item
item (part.Attribute a) = attribute (assigned a)
item (part.Formula f) = formula (formula_view f.value)

abbrev pub statement : Declaration → Statement
statement (declaration.Entity a) = entity (assigned a)
statement (declaration.Entities a) = entities (assigned a)
statement (declaration.Enum c) = choices c.line c.name c.members.items
statement (declaration.Variable c) = variable c.line c.name (map item c.items.items)

abbrev pub statements : Module → List Statement
statements m = map statement m.statements.items
