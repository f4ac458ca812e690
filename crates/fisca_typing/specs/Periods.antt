-- Periods and parts of their start.
use Rattle.std.specs.Prelude.{ℕ, ℤ, neg_ℤ, List, [], ◌∷◌, ◌++◌, ◌==◌, if◌then◌else◌, Option, Some, None, option_map, ok_or, Result, Ok, Err, codes}
use Rattle.fisca_num.specs.declared.faults.NumFault.{NumFault}
use Rattle.fisca_num.specs.Number.{Number}
use Rattle.fisca_num.specs.Literal.{number_of_literal}
use Rattle.fisca_num.specs.Results.{and_then}
use Rattle.fisca_time.specs.declared.unit.Unit.{Unit}
use Rattle.fisca_time.specs.declared.unit.Unit.TheVariants as unit
use Rattle.fisca_ast.specs.Words.{is}
use Rattle.fisca_ast.specs.Tree.{Tree, Series, Argument}
use Rattle.fisca_ast.specs.Tree as tree
use Rattle.fisca_ast.specs.declared.tree.Delimiter.{Delimiter}
use Rattle.fisca_ast.specs.declared.tree.Delimiter.TheVariants as bracket
use Rattle.fisca_ast.specs.declared.tree.Prefix.{Prefix}
use Rattle.fisca_ast.specs.declared.tree.Prefix.TheVariants as prefix
use Rattle.fisca_ast.specs.declared.fault.FormulaKind.{FormulaKind}
use Rattle.fisca_ast.specs.declared.fault.FormulaKind.TheVariants as kind
use Rattle.fisca_typing.specs.declared.kinds.Level.TheVariants as level
use Rattle.fisca_model.specs.declared.value_type.ValueType.TheVariants as vt
use Rattle.fisca_typing.specs.declared.moves.DatePart.{DatePart}
use Rattle.fisca_typing.specs.declared.moves.DatePart.TheVariants as part
use Rattle.fisca_typing.specs.declared.moves.Move.{Move}
use Rattle.fisca_typing.specs.declared.moves.Move.TheVariants as step
use Rattle.fisca_typing.specs.Nodes.{date_part}
use Rattle.fisca_typing.specs.Names.{unknown_name}
use Rattle.fisca_typing.specs.Things.{Thing, period, start, offset, typed}

abbrev pub moved : List Move → Move → Result Thing FormulaKind
moved ms m = Ok (period (ms ++ m ∷ []))

-- the moves that are written as names behind a period
unfoldable pub period_attribute : List ℕ → List Move → Result Thing FormulaKind
period_attribute t ms =
    if is t (codes "this_year") then moved ms step.ThisYear
    else (if is t (codes "first_month") then moved ms step.FirstMonth
    else (if is t (codes "first_day") then moved ms step.FirstDay
    else (if is t (codes "last_month") then moved ms step.LastMonth
    else (if is t (codes "last_3_months") then moved ms step.LastThreeMonths
    else (if is t (codes "last_year") then moved ms step.LastYear
    else (if is t (codes "n_2") then moved ms step.TwoYearsAgo
    else (if is t (codes "start") then Ok (start ms)
    else (if is t (codes "offset") then Ok (offset ms) else unknown_name))))))))

abbrev pub part_of : DatePart → List Move → Result Thing FormulaKind
part_of p ms = typed vt.Number level.Constant (date_part p ms)

unfoldable pub start_attribute : List ℕ → List Move → Result Thing FormulaKind
start_attribute t ms =
    if is t (codes "year") then part_of part.Year ms
    else (if is t (codes "month") then part_of part.Month ms
    else (if is t (codes "day") then part_of part.Day ms else unknown_name))

-- Whole numbers as they are written, perhaps in parentheses

abbrev pub whole_of : Result Number NumFault → Option ℤ
whole_of (Ok n) = if n.denominator == 1 then Some n.numerator else None
whole_of (Err e) = None

abbrev mutual
  pub unsigned_whole : Tree → Option ℤ
  unsigned_whole (tree.name t) = None
  unsigned_whole (tree.number t) = whole_of (number_of_literal t)
  unsigned_whole (tree.text t) = None
  unsigned_whole (tree.bracketed b xs) = unsigned_alone b xs
  unsigned_whole (tree.attribute e t) = None
  unsigned_whole (tree.applied s f xs) = None
  unsigned_whole (tree.prefixed p e) = None
  unsigned_whole (tree.binary o a b) = None
  unsigned_whole (tree.compare o a b) = None

  pub unsigned_alone : Delimiter → Series → Option ℤ
  unsigned_alone b tree.nothing = None
  unsigned_alone b (tree.last a) = unsigned_in b a
  unsigned_alone b (tree.next a xs) = None

  pub unsigned_in : Delimiter → Argument → Option ℤ
  unsigned_in bracket.Round (tree.positional e) = unsigned_whole e
  unsigned_in bracket.Square (tree.positional e) = None
  unsigned_in bracket.Curly (tree.positional e) = None
  unsigned_in b (tree.keyword k e) = None
  unsigned_in b (tree.entry k e) = None

-- the same with perhaps a `-` before it
abbrev pub signed_by : Prefix → Option ℤ → Option ℤ
signed_by prefix.Plus n = None
signed_by prefix.Minus n = option_map neg_ℤ n
signed_by prefix.Not n = None

abbrev mutual
  pub whole : Tree → Option ℤ
  whole (tree.name t) = None
  whole (tree.number t) = whole_of (number_of_literal t)
  whole (tree.text t) = None
  whole (tree.bracketed b xs) = whole_alone b xs
  whole (tree.attribute e t) = None
  whole (tree.applied s f xs) = None
  whole (tree.prefixed p e) = signed_by p (unsigned_whole e)
  whole (tree.binary o a b) = None
  whole (tree.compare o a b) = None

  pub whole_alone : Delimiter → Series → Option ℤ
  whole_alone b tree.nothing = None
  whole_alone b (tree.last a) = whole_in b a
  whole_alone b (tree.next a xs) = None

  pub whole_in : Delimiter → Argument → Option ℤ
  whole_in bracket.Round (tree.positional e) = whole e
  whole_in bracket.Square (tree.positional e) = None
  whole_in bracket.Curly (tree.positional e) = None
  whole_in b (tree.keyword k e) = None
  whole_in b (tree.entry k e) = None

unfoldable pub unit_named : List ℕ → Option Unit
unit_named t =
    if is t (codes "day") then Some unit.Day
    else (if is t (codes "month") then Some unit.Month
    else (if is t (codes "year") then Some unit.Year else None))

-- `p.offset(k)` and `p.offset(k, unit)`
abbrev pub offset_by : List Move → Tree → Result Thing FormulaKind
offset_by ms k = and_then (ok_or (whole k) kind.BadType) (λ n. moved ms (step.Offset n))

abbrev pub offset_by_unit : List Move → Tree → List ℕ → Result Thing FormulaKind
offset_by_unit ms k t =
    and_then (ok_or (whole k) kind.BadType) (λ n. and_then (ok_or (unit_named t) kind.BadType) (λ u. moved ms (step.OffsetBy n u)))
