-- The operations of the theory that those in memory stand for.
use Rattle.std.specs.Prelude.{Result}
use Rattle.fisca_ast.specs.declared.fault.FormulaKind.{FormulaKind}
use Rattle.fisca_model.specs.declared.value_type.ValueType.{ValueType}
use Rattle.fisca_model.specs.declared.value_type.ValueType.TheVariants as vt
use Rattle.fisca_typing.specs.declared.operations.Unary.TheVariants as unary
use Rattle.fisca_typing.specs.Nodes as node
use Rattle.fisca_typing.specs.Operations as spec
use Rattle.fisca_ir.specs.declared.operations.Operation.{Operation}
use Rattle.fisca_ir.specs.declared.operations.Operation.TheVariants as operation
use Rattle.fisca_ir.specs.declared.operations.Dyadic.{Dyadic}
use Rattle.fisca_ir.specs.declared.operations.Dyadic.TheVariants as dyadic

-- what is worked out by an operation
abbrev pub operation_view : Operation → spec.Operation
operation_view (operation.Arithmetic o) = record { gives = vt.Number; node = node.arithmetic o }
operation_view (operation.Logic o) = record { gives = vt.Bool; node = node.logic o }
operation_view (operation.Comparison o) = record { gives = vt.Bool; node = node.comparison o }
operation_view operation.Same = record { gives = vt.Bool; node = node.same }
operation_view operation.Differs = record { gives = vt.Bool; node = λ a b. node.unary unary.Not (node.same a b) }

-- the operation on two types of operands
abbrev pub by : Dyadic → ValueType → ValueType → Result spec.Operation FormulaKind
by (dyadic.Operator o) = spec.operation o
by (dyadic.Comparison o) = spec.comparison_of o
by (dyadic.Extreme o) = spec.extreme o
