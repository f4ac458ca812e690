-- The steps of code behind `Modules`:
-- The rule set that files make: what their modules declare beside parameters, or the first fault.
use Rattle.std.specs.Prelude.{List, [], ◌∷◌, if◌then◌else◌}
use Rattle.fisca_folder.specs.Steps.RulePaths.{is_module}
use Rattle.fisca_params.specs.Files.{Placed}
use Rattle.fisca_params.specs.Source.{Source}

-- the modules among these files
abbrev pub modules_in : List Placed → List Source
modules_in [] = []
modules_in (f ∷ fs) = if is_module f.1.path then f.1 ∷ modules_in fs else modules_in fs
