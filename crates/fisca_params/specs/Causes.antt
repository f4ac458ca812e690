-- Why files make no tree.
use Rattle.std.specs.Prelude.{ℕ}

pub data Cause : Type 0 where
  -- the file's text has no YAML tree, or passes a limit
  no_yaml_tree : Cause
  -- what stands at this line is no parameter, scale or map of such
  bad_parameter : ℕ → Cause
  -- the name at this line stands there already
  duplicate_name : ℕ → Cause

-- the place of the file among those handed in, and what is wrong with it
pub record Refused : Type 0 where
  pub file : ℕ
  pub cause : Cause
