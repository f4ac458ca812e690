-- The steps of code behind `Spelling`:
-- The grammar: how a tree is spelled, and which trees stand in which place.
use Rattle.std.specs.Prelude.{Bool, true, false}
use Rattle.fisca_expr_parser.specs.declared.mode.Mode.{Mode}
use Rattle.fisca_expr_parser.specs.declared.mode.Mode.TheVariants as mode
use Rattle.fisca_ast.specs.declared.tree.Delimiter.{Delimiter}
use Rattle.fisca_ast.specs.declared.tree.Delimiter.TheVariants as bracket
use Rattle.fisca_ast.specs.declared.tree.Suffix.{Suffix}
use Rattle.fisca_ast.specs.declared.tree.Suffix.TheVariants as suffix
use Rattle.fisca_expr_parser.specs.declared.mode.Place.{Place}
use Rattle.fisca_expr_parser.specs.declared.mode.Place.TheVariants as place
use Rattle.fisca_ast.specs.Tree.{Argument, positional, keyword, entry}

-- which arguments may stand in a place
abbrev pub takes_positional : Place → Bool
takes_positional place.Alone = true
takes_positional place.InList = true
takes_positional place.InCall = true
takes_positional place.BehindKeyword = false
takes_positional place.InMap = false

abbrev pub takes_keyword : Place → Bool
takes_keyword place.Alone = false
takes_keyword place.InList = false
takes_keyword place.InCall = true
takes_keyword place.BehindKeyword = true
takes_keyword place.InMap = false

abbrev pub takes_entry : Place → Bool
takes_entry place.InMap = true
takes_entry _ = false

-- any number may stand there, none too, and a comma behind the last
abbrev pub takes_many : Place → Bool
takes_many place.Alone = false
takes_many _ = true

abbrev pub place_behind : Place → Argument → Place
place_behind p (positional e) = p
place_behind p (keyword k e) = place.BehindKeyword
place_behind p (entry k e) = p

-- In formulas there are no tuples and no maps.
abbrev pub place_in : Mode → Delimiter → Place
place_in mode.Value bracket.Round = place.InList
place_in mode.Formula bracket.Round = place.Alone
place_in m bracket.Square = place.InList
place_in m bracket.Curly = place.InMap

abbrev pub allows : Mode → Delimiter → Bool
allows mode.Value b = true
allows mode.Formula bracket.Round = true
allows mode.Formula bracket.Square = true
allows mode.Formula bracket.Curly = false

abbrev pub place_behind_suffix : Suffix → Place
place_behind_suffix suffix.Call = place.InCall
place_behind_suffix suffix.Subscript = place.Alone
