-- The steps of code behind `Values`:
-- Values of arguments and attributes, as they are written.
use Rattle.std.specs.Prelude.{ℕ, ℤ, pos, negsuc, List, [], ◌∷◌, ◌++◌, Bool, true, false, ◌==◌, if◌then◌else◌, Option, Some, None, ok_or, Result, Ok, Err, codes}
use Rattle.std.specs.Result.{result_ok}
use Rattle.fisca_attributes.specs.declared.dotted.Dotted.{Dotted}
use Rattle.fisca_ast.specs.declared.tree.Delimiter.{Delimiter}
use Rattle.fisca_ast.specs.declared.tree.Delimiter.TheVariants as bracket
use Rattle.fisca_ast.specs.declared.tree.Prefix.{Prefix}
use Rattle.fisca_ast.specs.declared.tree.Prefix.TheVariants as prefix
use Rattle.fisca_ast.specs.declared.tree.Suffix.{Suffix}
use Rattle.fisca_ast.specs.declared.tree.Suffix.TheVariants as suffix
use Rattle.fisca_ast.specs.Tree.{Tree, Series, Argument, name, number, text, bracketed, attribute, applied, prefixed, positional, keyword, entry}
use Rattle.fisca_ast.specs.Steps.Groups.{bare}
use Rattle.fisca_ast.specs.Words.{is}
use Rattle.fisca_ast.specs.Steps.Words.{is_name}
use Rattle.fisca_num.specs.declared.faults.NumFault.{NumFault}
use Rattle.fisca_num.specs.Literal.{number_of_literal}
use Rattle.fisca_num.specs.Number.{Number, negation_of}
use Rattle.fisca_num.specs.Results.{and_then}
use Rattle.fisca_time.specs.Instant.{CivilDate, instant_of_text, instant_if_real}
use Rattle.fisca_ast.specs.declared.fault.FormulaKind.{FormulaKind}
use Rattle.fisca_ast.specs.declared.fault.FormulaKind.TheVariants as kind
use Rattle.fisca_ast.specs.Steps.Contents.{content}
use Rattle.fisca_attributes.specs.Values.{bad_attribute, items, each, list_value, Field, is_among}

abbrev pub or_bad : {X : Type 0} → Option X → Result X FormulaKind
or_bad o = ok_or o kind.BadAttribute

-- Single values

abbrev pub text_in : Tree → Result (List ℕ) FormulaKind
text_in (text t) = Ok (content t)
text_in e = bad_attribute

-- a text in quotes
abbrev pub text_value : Tree → Result (List ℕ) FormulaKind
text_value e = text_in (bare e)

unfoldable pub truth_of : List ℕ → Result Bool FormulaKind
truth_of t = if is t (codes "True") then Ok true else (if is t (codes "False") then Ok false else bad_attribute)

abbrev pub truth_in : Tree → Result Bool FormulaKind
truth_in (name t) = truth_of t
truth_in e = bad_attribute

-- `True` or `False`
abbrev pub truth_value : Tree → Result Bool FormulaKind
truth_value e = truth_in (bare e)

abbrev pub name_in : Tree → Result (List ℕ) FormulaKind
name_in (name t) = if is_name t then Ok t else bad_attribute
name_in e = bad_attribute

-- a name
abbrev pub name_value : Tree → Result (List ℕ) FormulaKind
name_value e = name_in (bare e)

abbrev pub number_said : Result Number NumFault → Result Number FormulaKind
number_said (Ok n) = Ok n
number_said (Err e) = bad_attribute

abbrev pub unsigned_in : Tree → Result Number FormulaKind
unsigned_in (number t) = number_said (number_of_literal t)
unsigned_in e = bad_attribute

-- a number without sign
abbrev pub unsigned_value : Tree → Result Number FormulaKind
unsigned_value e = unsigned_in (bare e)

abbrev pub with_prefix : Prefix → Result Number FormulaKind → Result Number FormulaKind
with_prefix prefix.Plus n = bad_attribute
with_prefix prefix.Minus n = and_then n (λ m. Ok (negation_of m))
with_prefix prefix.Not n = bad_attribute

abbrev pub number_in : Tree → Result Number FormulaKind
number_in (number t) = number_said (number_of_literal t)
number_in (prefixed p e) = with_prefix p (unsigned_value e)
number_in e = bad_attribute

-- a number, perhaps with `-`
abbrev pub number_value : Tree → Result Number FormulaKind
number_value e = number_in (bare e)

abbrev pub natural_of : ℤ → Result ℕ FormulaKind
natural_of (pos n) = Ok n
natural_of (negsuc n) = bad_attribute

-- the natural number that a number is
abbrev pub natural : Number → Result ℕ FormulaKind
natural n = if n.denominator == 1 then natural_of n.numerator else bad_attribute

-- a whole number without sign
abbrev pub whole_value : Tree → Result ℕ FormulaKind
whole_value e = and_then (unsigned_value e) natural

abbrev pub from_one : ℕ → Result ℕ FormulaKind
from_one n = if n == 0 then bad_attribute else Ok n

-- a whole number from 1
abbrev pub count_value : Tree → Result ℕ FormulaKind
count_value e = and_then (whole_value e) from_one

-- a text with an instant
abbrev pub instant_value : Tree → Result CivilDate FormulaKind
instant_value e = and_then (text_value e) (λ t. or_bad (result_ok (instant_of_text t)))

-- Lists

abbrev pub some_of : {X : Type 0} → List X → Result (List X) FormulaKind
some_of [] = bad_attribute
some_of (x ∷ xs) = Ok (x ∷ xs)

-- at least one text
abbrev pub texts_value : Tree → Result (List (List ℕ)) FormulaKind
texts_value e = and_then (list_value text_value e) some_of

abbrev pub references_within : Delimiter → Series → Result (List (List ℕ)) FormulaKind
references_within bracket.Square xs = each text_value (items xs)
references_within bracket.Round xs = each text_value (items xs)
references_within bracket.Curly xs = bad_attribute

abbrev pub references_in : Tree → Result (List (List ℕ)) FormulaKind
references_in (text t) = Ok (content t ∷ [])
references_in (bracketed b xs) = references_within b xs
references_in e = bad_attribute

-- a text, or a list or tuple of texts
abbrev pub references_value : Tree → Result (List (List ℕ)) FormulaKind
references_value e = references_in (bare e)

-- Names with a point, and dates

abbrev pub dotted_in : Tree → Result Dotted FormulaKind
dotted_in (attribute e t) = and_then (name_value e) (λ n. Ok (record { left = n; right = t }))
dotted_in e = bad_attribute

-- `NAME.NAME`
abbrev pub dotted_value : Tree → Result Dotted FormulaKind
dotted_value e = dotted_in (bare e)

abbrev pub date_of_numbers : List ℕ → Result CivilDate FormulaKind
date_of_numbers (y ∷ m ∷ d ∷ []) = or_bad (result_ok (instant_if_real (Some (record { year = y; month = m; day = d }))))
date_of_numbers ns = bad_attribute

abbrev pub is_date : Tree → Bool
is_date (name t) = is t (codes "date")
is_date e = false

abbrev pub date_called : Suffix → Tree → Series → Result CivilDate FormulaKind
date_called suffix.Call f xs = if is_date f then and_then (each whole_value (items xs)) date_of_numbers else bad_attribute
date_called suffix.Subscript f xs = bad_attribute

abbrev pub date_in : Tree → Result CivilDate FormulaKind
date_in (applied s f xs) = date_called s (bare f) xs
date_in e = bad_attribute

-- `date(n, n, n)`, a day of the calendar
abbrev pub date_value : Tree → Result CivilDate FormulaKind
date_value e = date_in (bare e)

-- Fields: arguments by keyword of a call, and entries of a map

abbrev pub field : Argument → Result Field FormulaKind
field (positional e) = bad_attribute
field (keyword k e) = Ok (record { label = k; value = e })
field (entry k e) = and_then (text_value k) (λ t. Ok (record { label = t; value = e }))

abbrev pub is_labelled : List ℕ → List Field → Bool
is_labelled t [] = false
is_labelled t (f ∷ fs) = if is f.label t then true else is_labelled t fs

-- a field that is known and did not come before
abbrev pub if_new : List (List ℕ) → List Field → Field → Result Field FormulaKind
if_new known earlier f = if is_among known f.label then (if is_labelled f.label earlier then bad_attribute else Ok f) else bad_attribute

-- the fields in order, where each has a known label and none comes twice
abbrev pub fields_from : List (List ℕ) → List Field → List Argument → Result (List Field) FormulaKind
fields_from known earlier [] = Ok earlier
fields_from known earlier (a ∷ more) = and_then (field a) (λ f. and_then (if_new known earlier f) (λ g. fields_from known (earlier ++ g ∷ []) more))

abbrev pub value_of : List ℕ → List Field → Option Tree
value_of t [] = None
value_of t (f ∷ fs) = if is f.label t then Some f.value else value_of t fs
