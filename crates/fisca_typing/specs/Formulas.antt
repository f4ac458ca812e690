-- Formulas: locals, each of which sees those before it, and what is returned.
use Rattle.std.specs.Prelude.{ℕ, suc, List, [], ◌∷◌, ◌++◌, length, Bool, false, ◌==◌, if◌then◌else◌, Result, Ok, Err}
use Rattle.fisca_ast.specs.Tree.{Tree}
use Rattle.fisca_num.specs.Results.{and_then}
use Rattle.fisca_ast.specs.declared.fault.FormulaKind.{FormulaKind}
use Rattle.fisca_ast.specs.declared.fault.FormulaKind.TheVariants as kind
use Rattle.fisca_typing.specs.declared.kinds.Level.{Level}
use Rattle.fisca_typing.specs.declared.kinds.Level.TheVariants as level
use Rattle.fisca_model.specs.declared.value_type.ValueType.{ValueType}
use Rattle.fisca_model.specs.declared.value_type.ValueType.TheVariants as vt
use Rattle.fisca_typing.specs.Names.{Names}
use Rattle.fisca_typing.specs.Nodes.{Node, local}
use Rattle.fisca_typing.specs.Sizes.{Size, Sized, size_of, is_small}
use Rattle.fisca_typing.specs.Things.{Thing, Typed, value, period, nodes, scale, choices, value_of}
use Rattle.fisca_typing.specs.Types.{bad_type, bad_level, is_numeric}
use Rattle.fisca_typing.specs.Typing.{thing_of}

-- what is known behind some locals: what names stand for, the sizes of the locals, the latest first, and what those with values work out, in order
pub record Scope : Type 0 where
  pub names : Names
  pub sizes : List Sized
  pub values : List Node

-- before the first local
abbrev pub start_of : Names → Scope
start_of c = record { names = c; sizes = []; values = [] }

-- what the name of a local stands for, and what the locals with values then work out
pub record Kept : Type 0 where
  pub thing : Thing
  pub values : List Node

abbrev pub kept_as : Thing → List Node → Result Kept FormulaKind
kept_as x ns = Ok (record { thing = x; values = ns })

abbrev pub kept_value : Typed → List Node → Result Kept FormulaKind
kept_value v ns = kept_as (value (record v { node = local (length ns) })) (ns ++ v.node ∷ [])

-- a local stands for a number, a bool, a member of an Enum, a period, parameters, a scale or, which this project adds, the members of an Enum
abbrev pub kept : Thing → List Node → Result Kept FormulaKind
kept (value v) ns = kept_value v ns
kept (period ms) ns = kept_as (period ms) ns
kept (nodes c) ns = kept_as (nodes c) ns
kept (scale n ms) ns = kept_as (scale n ms) ns
kept (choices e) ns = kept_as (choices e) ns
kept _ _ = bad_type

-- the limits are judged last
abbrev pub if_small : {X : Type 0} → Size → X → Result X FormulaKind
if_small size x = if is_small size then Ok x else Err kind.TooDeep

abbrev pub with_local : Scope → List ℕ → Size → Kept → Scope
with_local s name size k = record {
  names = record s.names { locals = record { name = name; thing = k.thing } ∷ s.names.locals };
  sizes = record { name = name; size = size } ∷ s.sizes;
  values = k.values;
}

-- the scope behind one more local
abbrev pub behind_local : Scope → List ℕ → Tree → Result Scope FormulaKind
behind_local s name e =
    and_then (thing_of s.names e) (λ x. and_then (kept x s.values) (λ k. if_small (size_of s.sizes e) (with_local s name (size_of s.sizes e) k)))

-- What a formula returns is of the variable's Enum, else a number or a bool; it is constant or own.
abbrev pub returns : ValueType → ValueType → Bool
returns vt.Number t = is_numeric t
returns vt.Bool t = is_numeric t
returns (vt.Enum e) vt.Number = false
returns (vt.Enum e) vt.Bool = false
returns (vt.Enum e) (vt.Enum f) = e == f

abbrev pub of_type : ValueType → Typed → Result Typed FormulaKind
of_type t v = if returns t v.value_type then Ok v else bad_type

abbrev pub of_entity : Level → Node → Result Node FormulaKind
of_entity level.Constant n = Ok n
of_entity level.Own n = Ok n
of_entity level.Members n = bad_level

abbrev pub returned : Scope → ValueType → Tree → Result Node FormulaKind
returned s t e =
    and_then (thing_of s.names e) (λ x. and_then (value_of x) (λ v. and_then (of_type t v) (λ u. and_then (of_entity u.level u.node) (λ n.
    if_small (size_of s.sizes e) n))))

-- a local as it is written
pub record Assigned : Type 0 where
  pub name : List ℕ
  pub value : Tree

-- a typed formula: what its locals with values work out, in order, and what it returns
pub record Formula : Type 0 where
  pub values : List Node
  pub result : Node

-- how many locals come before the fault
pub record RefusedFormula : Type 0 where
  pub place : ℕ
  pub kind : FormulaKind

abbrev pub at : {X : Type 0} → ℕ → Result X FormulaKind → Result X RefusedFormula
at place (Ok x) = Ok x
at place (Err k) = Err (record { place = place; kind = k })

abbrev pub formula_from : ℕ → Scope → ValueType → List Assigned → Tree → Result Formula RefusedFormula
formula_from i s t [] e = and_then (at i (returned s t e)) (λ n. Ok (record { values = s.values; result = n }))
formula_from i s t (l ∷ ls) e = and_then (at i (behind_local s l.name l.value)) (λ u. formula_from (suc i) u t ls e)

-- the formula of a variable of this type, or its first fault
abbrev pub formula_of : Names → ValueType → List Assigned → Tree → Result Formula RefusedFormula
formula_of c = formula_from 0 (start_of c)
