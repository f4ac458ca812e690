-- The arguments of the theory that those in memory stand for.
use Rattle.std.specs.Borrow.{Bor}
use Rattle.std.specs.Prelude.{ℕ, List, [], ◌∷◌, map, Bool, false, ◌||◌, is_some, Option, Some, None, option_map, Result, Ok, Err}
use Rattle.fisca_ast.specs.Views.{tree}
use Rattle.fisca_ir.specs.Views.{thing}
use Rattle.fisca_ir.specs.declared.thing.Thing.{Thing}
use Rattle.fisca_num.specs.Results.{and_then}
use Rattle.fisca_params.specs.Tree.{TreeNode}
use Rattle.fisca_ast.specs.declared.fault.FormulaKind.{FormulaKind}
use Rattle.fisca_typing.specs.Calls as typing
use Rattle.fisca_typing.specs.Parameters.{root_at}
use Rattle.fisca_typing.specs.Things as things
use Rattle.fisca_check_calls.specs.declared.arguments.GivenArgument.{GivenArgument}
use Rattle.fisca_check_calls.specs.declared.arguments.Settled.{Settled}
use Rattle.fisca_check_calls.specs.declared.arguments.Positions.{Positions}
use Rattle.fisca_check_calls.specs.declared.arguments.Positions.TheVariants as position

abbrev pub key : Option (Bor (List ℕ)) → Option (List ℕ)
key = option_map (λ k. k.now)

abbrev pub outcome : Result Thing FormulaKind → Result things.Thing FormulaKind
outcome (Ok x) = Ok (thing x)
outcome (Err k) = Err k

abbrev pub given : GivenArgument → typing.CallArgument
given g = record { keyword = key g.keyword; tree = tree g.tree.now; thing = outcome g.thing }

abbrev pub all_given : List GivenArgument → List typing.CallArgument
all_given = map given

abbrev pub settled : Settled → typing.Settled
settled s = record { keyword = key s.keyword; tree = tree s.tree.now; thing = thing s.thing }

abbrev pub all_settled : List Settled → List typing.Settled
all_settled = map settled

abbrev pub positions : Positions → typing.Positions
positions (position.ByPosition ss) = typing.by_position (all_settled ss.items)
positions (position.AndKeyword ss k x) = typing.and_keyword (all_settled ss.items) k.now (thing x)
positions position.MoreKeywords = typing.more_keywords

abbrev pub any_keyword : List typing.Settled → Bool
any_keyword [] = false
any_keyword (s ∷ ss) = is_some s.keyword || any_keyword ss

-- the default of a selection, if there is one: its keyword and what it stands for
abbrev pub default_given : Option (Bor (List ℕ) × Thing) → Result (Option things.Typed) FormulaKind
default_given None = Ok None
default_given (Some d) = typing.default_in d.0.now (thing d.1)

-- `parameters(p)`, `parameters(p.start)`
abbrev pub reader_at : List TreeNode → typing.Positions → Result things.Thing FormulaKind
reader_at ns ps = and_then (typing.alone ps) (λ s. and_then (things.instant_of s.thing) (root_at ns))
