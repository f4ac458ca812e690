-- Steps that follow one another.
use Rattle.std.proofs.Common.{◌≡◌, List, [], ◌∷◌, ◌++◌, Some, Bool, true, false, ◌&&◌, refl, sym, ap, ◌∙◌}
use Rattle.std.specs.List.{list_all}
use Rattle.fisca_typing.specs.Answers.{arithmetic_of}
use Rattle.fisca_model.specs.Values.{bool}
use Rattle.fisca_key_semantics.specs.Dialogues.{◌>>=◌}
use Rattle.fisca_model.specs.Groups.{Groups, Point}
use Rattle.fisca_typing.specs.Nodes as node
use Rattle.fisca_typing.specs.Nodes.{Node}
use Rattle.fisca_model.specs.Tables.{Tables}
use Rattle.fisca_typing.specs.declared.operations.Arithmetic.{Arithmetic}
use Rattle.fisca_machine.specs.declared.pending.Operation.TheVariants as operation
use Rattle.fisca_machine.specs.declared.plan.Operand.{Operand}
use Rattle.fisca_machine.specs.declared.plan.PlanStep.{PlanStep}
use Rattle.fisca_machine.specs.Plans.{has_plan, is_operand, operands, then_operand, then_steps}
use Rattle.fisca_machine.specs.Steps.Plans.{made}
use Rattle.fisca_machine.specs.Running.{After, Locals, says}

steps_behind : (ss : List PlanStep) (s : PlanStep) (k : After) → then_steps (ss ++ s ∷ []) k ≡ then_steps ss (then_steps (s ∷ []) k)
steps_behind [] s k = refl
steps_behind (t ∷ ss) s k = λ i x. then_operand t.right (λ y. made t.operation x y >>= steps_behind ss s k i)

-- a left operand's steps, and a right one behind them
module _ (c : Tables) (g : Groups) (ls : Locals) (o : Arithmetic) (a b : Node) (p : Point) (right : Operand) (ss : List PlanStep)
    (left_is : (k : After) → says c g ls a p k ≡ then_steps ss k (bool false)) (right_is : (k : After) → says c g ls b p k ≡ then_operand right k) where
  pub step_more : (s : PlanStep) → s ≡ record { operation = Some (operation.Arithmetic o); right = right } → (k : After) → says c g ls (node.arithmetic o a b) p k ≡ then_steps (ss ++ s ∷ []) k (bool false)
  step_more s is k =
      left_is (λ x. says c g ls b p (λ y. arithmetic_of o x y >>= k))
      ∙ ((λ i. then_steps ss (λ x. right_is (λ y. arithmetic_of o x y >>= k) i) (bool false))
      ∙ (ap (λ t. then_steps ss (then_steps (t ∷ []) k) (bool false)) (sym is)
      ∙ (λ i. sym (steps_behind ss s k) i (bool false))))

-- an operand alone
pub operand_has_plan : (c : Tables) (g : Groups) (ls : Locals) (n : Node) (p : Point) → true ≡ is_operand c g ls n p → true ≡ has_plan c g ls n p
unfolding is_operand
operand_has_plan c g ls (node.arithmetic o a b) p h = cc
operand_has_plan c g ls n p h = h

-- All of some nodes, of which one stands behind the others

and_true : (b : Bool) → b ≡ (b && true)
and_true true = refl
and_true false = refl

and_more : (b c d : Bool) → (b && (c && d)) ≡ ((b && c) && d)
and_more true c d = refl
and_more false c d = refl

all_behind : (f : Node → Bool) (es : List Node) (e : Node) → (list_all f es && f e) ≡ list_all f (es ++ e ∷ [])
all_behind f [] e = and_true (f e)
all_behind f (d ∷ es) e = sym (and_more (f d) (list_all f es) (f e)) ∙ ap (λ b. f d && b) (all_behind f es e)

pub plan_of_operands : (c : Tables) (g : Groups) (ls : Locals) (n : Node) (p : Point) → has_plan c g ls n p ≡ list_all (λ e. is_operand c g ls e p) (operands n)
plan_of_operands c g ls (node.arithmetic o a b) p =
    ap (λ h. h && is_operand c g ls b p) (plan_of_operands c g ls a p) ∙ all_behind (λ e. is_operand c g ls e p) (operands a) b
plan_of_operands c g ls n p = and_true (is_operand c g ls n p)
