-- The first two passes in one walk over the statements: names are judged, and what is declared is found, up to its first fault.
use Rattle.std.specs.Prelude.{◌≡◌, ◌≢◌, List, Result, Ok, Err}
use Rattle.fisca_rules.specs.FirstPass.{Placed, names_from}
use Rattle.fisca_rules.specs.Outcomes.{Tells}
use Rattle.fisca_rules.specs.Seen.{Holds}
use Rattle.fisca_rules.specs.declared.build_fault.BuildFault.{BuildFault}
use Rattle.fisca_rules.specs.declared.seen.Seen.{Seen}
use Rattle.fisca_num.specs.Results.{and_then}
use Rattle.fisca_ast.specs.Modules.{Statement}
use Rattle.fisca_ast.specs.declared.fault.FormulaKind.TheVariants.{Memory}
use Rattle.fisca_declarations.specs.declared.declared.Declared.{Declared}
use Rattle.fisca_rules.specs.declared.found.Found.{Found as Held}
use Rattle.fisca_rules.specs.Build.{Found}
use Rattle.fisca_rules.specs.Steps.Build.{found_from}
use Rattle.fisca_rules.specs.FoundViews.{found}

-- What was reached: these statements came before. What is left decides of the names, and, behind what was found so far, of the whole.
pub record Reached (c : Declared) (seen : Seen) (so_far : Result Held BuildFault) (names : Result (Unit {0}) BuildFault) (whole : Result Found BuildFault) (left : List Placed) : Type 0 where
  pub earlier : List Statement
  pub held : Holds seen earlier
  pub named : names ≡ names_from earlier left
  pub outcome : Result Found BuildFault
  pub told : Tells found outcome so_far
  pub found_behind : whole ≡ and_then outcome (λ f. found_from c f left)

-- some statements later; or a name came a second time
abbrev pub Goes : Declared → Seen → Result (Unit {0}) BuildFault → Result Found BuildFault → List Placed → Result (Result Held BuildFault) BuildFault → Type 0
Goes c seen names whole left (Ok so_far) = Reached c seen so_far names whole left
Goes c seen names whole left (Err f) = f.kind ≢ Memory → names ≡ Err f

-- behind all statements
abbrev pub Ends : Result (Unit {0}) BuildFault → Result Found BuildFault → Result (Result Held BuildFault) BuildFault → Type 0
Ends names whole (Ok so_far) = (names ≡ Ok tt) × Tells found whole so_far
Ends names whole (Err f) = f.kind ≢ Memory → names ≡ Err f
