-- The command line of the program, in `clap`'s terms.
use Rattle.std.specs.Prelude.{true, codes, Some}
use Rattle.clap.specs.Lexer.{usize_max}
use Rattle.clap.specs.Walk.{Rule, Text}
use Rattle.clap.specs.Simple.{App, new_app, new_rule, on_top, with_rule, with_subcommand}
use Rattle.clap.specs.declared.builder.action.ArgAction.TheVariants.{Append, SetTrue}
use Rattle.clap.specs.declared.builder.value_parser.ValueParser.TheVariants.{Unsigned}

-- an argument that has to be given
abbrev pub required_rule : Text → Rule
required_rule id = record (new_rule id) { required = true }

-- an option with a value
abbrev pub option_rule : Text → Rule
option_rule id = record (new_rule id) { long = Some id; value_names = 1 }

-- an option with a whole number from 0 to 2^64-1
abbrev pub number_rule : Text → Rule
number_rule id = record (option_rule id) { parser = Some (Unsigned 0 18446744073709551615) }

-- an option without a value
abbrev pub flag_rule : Text → Rule
flag_rule id = record (new_rule id) { long = Some id; action = Some SetTrue }

-- an option with a whole number from 0 to 18
abbrev pub places_rule : Text → Rule
places_rule id = record (option_rule id) { parser = Some (Unsigned 0 18) }

-- one axis or more
abbrev pub axis_rule : Rule
axis_rule = record (required_rule (codes "AXIS")) { action = Some Append; range = Some (record { start_inclusive = 1; end_inclusive = usize_max }) }

-- the folder of a reform, once or several times: [--reform DIR]..
abbrev pub reform_rule : Rule
reform_rule = record (option_rule (codes "reform")) { action = Some Append }

-- columns, or none
abbrev pub column_rule : Rule
column_rule = record (new_rule (codes "COLUMN")) { action = Some Append; range = Some (record { start_inclusive = 0; end_inclusive = usize_max }) }

-- the options of a range and its lines: [--from P] [--to P] [--part I/N] [--rows N]
abbrev pub with_range : App → App
with_range app = with_rule (with_rule (with_rule (with_rule app (number_rule (codes "from"))) (number_rule (codes "to"))) (option_rule (codes "part"))) (number_rule (codes "rows"))

-- the options of a table without numbers: [--header] [--format FORM]
abbrev pub with_table : App → App
with_table app = with_rule (with_rule app (flag_rule (codes "header"))) (option_rule (codes "format"))

-- the options of a form of lines: [--header] [--decimals N] [--format FORM]
abbrev pub with_form : App → App
with_form app = with_rule (with_rule (with_rule app (flag_rule (codes "header"))) (places_rule (codes "decimals"))) (option_rule (codes "format"))

-- AXIS.. [--keep COND] and the options of a range and of a form
abbrev pub axes_app : App
axes_app = with_form (with_range (with_rule (with_rule (new_app (codes "axes")) axis_rule) (option_rule (codes "keep"))))

-- RULES [--reform DIR]..
abbrev pub check_app : App
check_app = with_rule (with_rule (new_app (codes "check")) (required_rule (codes "RULES"))) reform_rule

-- the files and folders of tests: TESTS..
abbrev pub tests_rule : Rule
tests_rule = record (required_rule (codes "TESTS")) { action = Some Append; range = Some (record { start_inclusive = 1; end_inclusive = usize_max }) }

-- a command over a rule set and a file: RULES FILE [--reform DIR]..
abbrev pub with_files : App → App
with_files app = with_rule (with_rule (with_rule app (required_rule (codes "RULES"))) (required_rule (codes "FILE"))) reform_rule

-- RULES FILE [--reform DIR].., the options of a form, and [--lines]
abbrev pub calc_app : App
calc_app = with_rule (with_form (with_files (new_app (codes "calc")))) (flag_rule (codes "lines"))

-- RULES TESTS.. [--name TEXT] [--reform DIR]..
abbrev pub test_app : App
test_app = with_rule (with_rule (with_rule (with_rule (new_app (codes "test")) (required_rule (codes "RULES"))) tests_rule) (option_rule (codes "name"))) reform_rule

-- RULES FILE [--reform DIR].., the options of a range and of a form, and [--keep-going]
abbrev pub run_app : App
run_app = with_rule (with_form (with_range (with_files (new_app (codes "run"))))) (flag_rule (codes "keep-going"))

-- RULES FILE [--reform DIR]..
abbrev pub size_app : App
size_app = with_files (new_app (codes "size"))

-- RULES [--reform DIR].. and the options of a table
abbrev pub list_app : App
list_app = with_table (with_rule (with_rule (new_app (codes "list")) (required_rule (codes "RULES"))) reform_rule)

-- RULES FILE COLUMN.. [--reform DIR].., [--depth N] and [--format FORM]
abbrev pub explain_app : App
explain_app =
    with_rule (with_rule (with_rule (with_files (new_app (codes "explain"))) column_rule) (number_rule (codes "depth"))) (option_rule (codes "format"))

-- the program without its commands
abbrev pub top_app : App
top_app = on_top (λ s. record s { has_version = true; subcommand_required = true; arg_required_else_help = true }) (new_app (codes "fisca"))

-- the program: `check`, `calc`, `test`, `run`, `size`, `list`, `explain` or `axes`
abbrev pub fisca_app : App
fisca_app =
    with_subcommand (with_subcommand (with_subcommand (with_subcommand (with_subcommand (with_subcommand (with_subcommand (with_subcommand top_app check_app.top) calc_app.top) test_app.top) run_app.top) size_app.top) list_app.top) explain_app.top) axes_app.top
