-- How many arguments there are.
use Rattle.std.proofs.Common.{◌≡◌, ◌≤◌, ℕ, List, [], ◌∷◌, Some, None, Ok, Err, arith, length, refl}
use Rattle.fisca_check_calls.specs.Steps.Arguments.{single}
use Rattle.fisca_check.specs.Steps.Questions.{asked_by}
use Rattle.fisca_ir.specs.Views.{listed}
use Rattle.fisca_ir.specs.declared.thing.Thing.{Thing as Held}
use Rattle.fisca_num.specs.Results.{and_then}
use Rattle.fisca_ast.specs.declared.fault.FormulaKind.TheVariants as kind
use Rattle.fisca_typing.specs.declared.kinds.Level.{Level}
use Rattle.fisca_typing.specs.declared.operations.Total.{Total}
use Rattle.fisca_typing.specs.Asks.{asked_with, one_option, role_by, total_by, total_of}
use Rattle.fisca_typing.specs.Calls.{CallArgument, Settled, by_position, and_keyword}
use Rattle.fisca_model.specs.Tables.{Tables}
use Rattle.fisca_typing.specs.Things.{Thing, Relation}

pub total_alone : (entity : ℕ) (t : Total) (ss : List Settled) → total_by entity t (by_position ss) ≡ and_then (single ss) (λ m. total_of t m.thing (Ok None))
total_alone entity t [] = refl
total_alone entity t (a ∷ []) = refl
total_alone entity t (a ∷ b ∷ ss) = refl

pub total_role : (entity : ℕ) (t : Total) (ss : List Settled) (k : List ℕ) (x : Thing) → total_by entity t (and_keyword ss k x) ≡ and_then (single ss) (λ m. total_of t m.thing (role_by entity k x))
total_role entity t [] k x = refl
total_role entity t (a ∷ []) k x = refl
total_role entity t (a ∷ b ∷ ss) k x = refl

pub asked_two : (c : Tables) (r : Relation) (l : Level) (a b : CallArgument) → asked_with c r l (a ∷ b ∷ []) ≡ asked_by c r l a b None
asked_two c r l a b = refl

pub asked_three : (c : Tables) (r : Relation) (l : Level) (a b d : CallArgument) → asked_with c r l (a ∷ b ∷ d ∷ []) ≡ asked_by c r l a b (Some d)
asked_three c r l a b d = refl

pub options_more : (xs : List Held) → 2 ≤ length xs → one_option (listed xs) ≡ Err kind.BadType
options_more [] h = absurd (omega arith)
options_more (x ∷ []) h = absurd (omega arith)
options_more (x ∷ y ∷ xs) h = refl
