-- What is followed, of a formula at hand.
use Rattle.std.specs.Prelude.{ℕ, None, map, slice_get}
use Rattle.fisca_model.specs.Groups.{Point}
use Rattle.fisca_model.specs.Tables.{Variable}
use Rattle.fisca_model.specs.Values.{Value}
use Rattle.fisca_key_semantics.specs.Dialogues.{Dialogue}
use Rattle.fisca_typing.specs.Answers.{arithmetic_of, comparison_of, logic_of, same_of}
use Rattle.fisca_typing.specs.Questions as questions
use Rattle.fisca_ir.specs.declared.node.Ask.{Ask}
use Rattle.fisca_ir.specs.declared.node.Node.{Node}
use Rattle.fisca_machine.specs.Context.{groups, tables}
use Rattle.fisca_machine.specs.Running.{point}
use Rattle.fisca_machine.specs.declared.pending.At.{At}
use Rattle.fisca_time.specs.Period.{Span}
use Rattle.fisca_typing.specs.Meaning.{at_person}
use Rattle.fisca_ir.specs.Views.{node}
use Rattle.fisca_typing.specs.Formulas.{Formula}
use Rattle.fisca_typing.specs.Nodes.{Indices}
use Rattle.fisca_simulation.specs.NotedFormulas.{Locals, noted, noted_below, noted_formula, noted_index}
use Rattle.fisca_simulation.specs.Noted.{Noted}
use Rattle.fisca_simulation.specs.declared.follower.Follower.{Follower}
use Rattle.fisca_simulation.specs.declared.found.Operation.{Operation}
use Rattle.fisca_simulation.specs.declared.found.Operation.TheVariants as operation

-- what is made of two values
abbrev pub applied_to : Operation → Value → Value → Dialogue
applied_to (operation.Arithmetic o) = arithmetic_of o
applied_to (operation.Logic o) = logic_of o
applied_to (operation.Comparison o) = comparison_of o
applied_to operation.Same = same_of

-- where a node is worked out
abbrev pub point_of : {A : Type 0} → Follower A → At → Point
point_of s at = point s.frame at

-- the locals that are seen there
abbrev pub locals_at : {A : Type 0} → Follower A → At → Locals
locals_at s at = noted_below (tables s.context) (groups s.context) (map node s.locals.now) at.visible

-- a node
abbrev pub tells : {A : Type 0} → Follower A → Node → At → Noted
tells s e at = noted (tables s.context) (groups s.context) (locals_at s at) (node e) (point_of s at)

-- the formula that returns a node
abbrev pub formula_with : {A : Type 0} → Follower A → Node → Formula
formula_with s e = record { values = map node s.locals.now; result = node e }

-- the formula as a whole, where it is worked out
abbrev pub tells_all : {A : Type 0} → Follower A → Node → Noted
tells_all s e = noted_formula (tables s.context) (groups s.context) (formula_with s e) (point_of s (record { person = None; visible = 0 }))

-- what a node asks for at a period
abbrev pub asks_at : {A : Type 0} → Follower A → Ask → At → Span → Dialogue
asks_at s a at q =
    questions.ask_known (groups s.context) (point s.frame at) a.whom a.asking a.variable q (slice_get (tables s.context).variables a.variable)

-- a node for one of the group's persons
abbrev pub tells_for : {A : Type 0} → Follower A → Node → At → ℕ → Noted
tells_for s e at m = noted (tables s.context) (groups s.context) (locals_at s at) (node e) (at_person (point_of s at) m)

-- members that choose
abbrev pub chooses : {A : Type 0} → Follower A → Indices → ℕ → At → (ℕ → Noted) → Noted
chooses s is i at f = noted_index (tables s.context) (groups s.context) (locals_at s at) is i (point_of s at) f
