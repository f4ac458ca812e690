-- What is made of known values and of the values of keys, one after another.
use Rattle.std.specs.Prelude.{◌≡◌, ℕ, Bool, true, false, ◌&&◌, List, [], ◌∷◌, ◌++◌}
use Rattle.fisca_model.specs.Seen.{key_seen, value_seen}
use Rattle.fisca_key_semantics.specs.Dialogues.{Dialogue, gives, fails, stuck, asks, ◌>>=◌}
use Rattle.fisca_model.specs.Values.{bool}
use Rattle.fisca_model.specs.Groups.{Groups, Point}
use Rattle.fisca_typing.specs.Nodes as node
use Rattle.fisca_typing.specs.Nodes.{Node, Indices, no_index, index}
use Rattle.fisca_model.specs.Tables.{Tables}
use Rattle.fisca_typing.specs.declared.asking.Asking.{Asking}
use Rattle.fisca_typing.specs.declared.asking.Asking.TheVariants as asking
use Rattle.fisca_typing.specs.declared.asking.Whom.{Whom}
use Rattle.fisca_typing.specs.declared.asking.Whom.TheVariants as whom
use Rattle.fisca_ops.specs.Casts.{cast}
use Rattle.fisca_ops.specs.Ended.{fault_seen}
use Rattle.fisca_machine.specs.Running.{After, Locals, says}
use Rattle.fisca_machine.specs.declared.plan.Operand.{Operand}
use Rattle.fisca_machine.specs.declared.plan.Operand.TheVariants as operand
use Rattle.fisca_machine.specs.declared.plan.Plan.{Plan}
use Rattle.fisca_machine.specs.declared.plan.PlanStep.{PlanStep}
use Rattle.fisca_machine.specs.declared.progress.Progress.{Progress}
use Rattle.fisca_machine.specs.declared.progress.Stop.{Stop}
use Rattle.fisca_machine.specs.declared.progress.Stop.TheVariants as stop
use Rattle.fisca_machine.specs.Steps.Plans.{made}

-- a key's value is asked for
abbrev pub then_operand : Operand → After → Dialogue
then_operand (operand.Known v) k = k (value_seen v)
then_operand (operand.Asked key) k = asks (key_seen key) k

-- each step makes a value of that before it and of its operand
abbrev pub then_steps : List PlanStep → After → After
then_steps [] k = k
then_steps (s ∷ ss) k = λ x. then_operand s.right (λ y. made s.operation x y >>= then_steps ss k)

-- from a value that its first step has no need of
abbrev pub plays : Plan → Dialogue
plays p = then_steps p.steps.items (cast p.declared) (bool false)

-- what comes after the operand that is waited for
abbrev pub behind_operand : Progress → After
behind_operand p = λ y. made p.operation (value_seen p.left) y >>= then_steps p.steps.now (cast p.declared)

-- a stop says how the dialogue goes on; g is what comes after an operand then
abbrev pub Stops : Stop → Dialogue → After → Type 0
Stops (stop.Done v) d g = d ≡ gives (value_seen v)
Stops (stop.Failed e) d g = d ≡ fails (fault_seen e)
Stops (stop.Needs key) d g = d ≡ asks (key_seen key) g

-- Which formulas have plans

-- for the formula's own member, as it stands
abbrev pub is_plain : Whom → Asking → Bool
is_plain whom.Own asking.Plain = true
is_plain whom.Own asking.Add = false
is_plain whom.Own asking.Divide = false
is_plain (whom.Group e) how = false
is_plain whom.Person how = false
is_plain (whom.Holder r) how = false

abbrev pub is_alone : Indices → List ℕ → Bool
is_alone no_index [] = false
is_alone no_index (place ∷ []) = true
is_alone no_index (a ∷ b ∷ places) = false
is_alone (index n size is) places = false

-- what is known, a parameter that is not chosen, or a variable as it stands
abbrev pub is_simple : Node → Bool
is_simple (node.literal n) = true
is_simple (node.truth b) = true
is_simple (node.member e i) = true
is_simple (node.local i) = false
is_simple (node.date_part d ms) = false
is_simple (node.ask v w how ms) = is_plain w how
is_simple (node.has_role e r) = false
is_simple (node.count e r) = false
is_simple (node.total o r a) = false
is_simple (node.unary o a) = false
is_simple (node.arithmetic o a b) = false
is_simple (node.logic o a b) = false
is_simple (node.comparison o a b) = false
is_simple (node.same a b) = false
is_simple (node.choose q a b) = false
is_simple (node.parameter is places ms) = is_alone is places
is_simple (node.scale_sum place ms a) = false

-- at once a value, or a question
abbrev pub is_at_hand : Dialogue → Bool
is_at_hand (gives x) = true
is_at_hand (fails e) = false
is_at_hand stuck = false
is_at_hand (asks key f) = true

unfoldable pub is_operand : Tables → Groups → Locals → Node → Point → Bool
is_operand c g ls n p = is_simple n && is_at_hand (says c g ls n p gives)

-- the operands of arithmetic from left to right; all else is one alone
abbrev pub operands : Node → List Node
operands (node.arithmetic o a b) = operands a ++ b ∷ []
operands n = n ∷ []

-- an operand, or arithmetic on what has a plan and an operand (in other words: each of the operands is one, a law of `src/law.rt`)
abbrev pub has_plan : Tables → Groups → Locals → Node → Point → Bool
has_plan c g ls (node.arithmetic o a b) p = has_plan c g ls a p && is_operand c g ls b p
has_plan c g ls n p = is_operand c g ls n p
