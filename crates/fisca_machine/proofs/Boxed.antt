-- What a node is whose operands stand behind a pointer.
use Rattle.std.proofs.Common.{◌≡◌, rules, ap, ◌∙◌, Box, Global}
use Rattle.fisca_ast.specs.declared.tree.Comparison.{Comparison}
use Rattle.fisca_ir.specs.Views.{node}
use Rattle.fisca_ir.specs.declared.node.Ask.{Ask}
use Rattle.fisca_ir.specs.declared.node.Node.{Node, the_lemmas}
use Rattle.fisca_ir.specs.declared.node.Node.TheVariants as held
use Rattle.fisca_ir.specs.declared.node.Pair.{Pair}
use Rattle.fisca_ir.specs.declared.node.Parameter.{Parameter}
use Rattle.fisca_ir.specs.declared.node.ScaleSum.{ScaleSum}
use Rattle.fisca_ir.specs.declared.node.Totalled.{Totalled}
use Rattle.fisca_typing.specs.Nodes as spec
use Rattle.fisca_typing.specs.declared.operations.Arithmetic.{Arithmetic}
use Rattle.fisca_typing.specs.declared.operations.Logic.{Logic}
use Rattle.fisca_typing.specs.declared.operations.Total.{Total}
use Rattle.fisca_machine.specs.Running.{parametric}

pub total_seen : (e : Node) (t : Total) (x : Box Totalled Global) → e ≡ held.Total t x → node e ≡ spec.total t x.value.role (node x.value.values)
total_seen e t x is = ap node is ∙ search (the_lemmas, rules)

pub arithmetic_seen : (e : Node) (o : Arithmetic) (x : Box Pair Global) → e ≡ held.Arithmetic o x → node e ≡ spec.arithmetic o (node x.value.left) (node x.value.right)
arithmetic_seen e o x is = ap node is ∙ search (the_lemmas, rules)

pub logic_seen : (e : Node) (o : Logic) (x : Box Pair Global) → e ≡ held.Logic o x → node e ≡ spec.logic o (node x.value.left) (node x.value.right)
logic_seen e o x is = ap node is ∙ search (the_lemmas, rules)

pub comparison_seen : (e : Node) (o : Comparison) (x : Box Pair Global) → e ≡ held.Comparison o x → node e ≡ spec.comparison o (node x.value.left) (node x.value.right)
comparison_seen e o x is = ap node is ∙ search (the_lemmas, rules)

pub same_seen : (e : Node) (x : Box Pair Global) → e ≡ held.Same x → node e ≡ spec.same (node x.value.left) (node x.value.right)
same_seen e x is = ap node is ∙ search (the_lemmas, rules)

pub choose_seen : (e : Node) (q : Box Node Global) (x : Box Pair Global) → e ≡ held.Choose q x → node e ≡ spec.choose (node q.value) (node x.value.left) (node x.value.right)
choose_seen e q x is = ap node is ∙ search (the_lemmas, rules)

pub parameter_seen : (e : Node) (x : Box Parameter Global) → e ≡ held.Parameter x → node e ≡ spec.parameter (parametric x.value).indices (parametric x.value).places (parametric x.value).moves
parameter_seen e x is = ap node is ∙ search (the_lemmas, rules)

pub scale_seen : (e : Node) (x : Box ScaleSum Global) → e ≡ held.ScaleSum x → node e ≡ spec.scale_sum x.value.place x.value.moves.items (node x.value.base)
scale_seen e x is = ap node is ∙ search (the_lemmas, rules)

pub ask_seen : (e : Node) (x : Box Ask Global) → e ≡ held.Ask x → node e ≡ spec.ask x.value.variable x.value.whom x.value.asking x.value.moves.items
ask_seen e x is = ap node is ∙ search (the_lemmas, rules)
