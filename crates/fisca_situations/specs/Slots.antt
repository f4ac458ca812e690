-- What an axis moves: the keys of its inputs, and what stands at these where it has a value. To turn a slot is to set the inputs of its keys anew, where
-- all others stay.
use Rattle.std.specs.Prelude.{ℕ, List, Bool}
use Rattle.fisca_inputs.specs.declared.given.Given.{Given}
use Rattle.fisca_symbols.specs.declared.variable.DeclaredType.{DeclaredType}
use Rattle.fisca_time.specs.Period.{Span}

-- What an axis moves: the inputs of a member for these periods. The wheel is the place of the axis's group, all axes of which turn together.
pub record Slot : Type 0 where
  pub variable : ℕ
  pub member : ℕ
  pub wheel : ℕ
  pub value_type : DeclaredType
  pub is_divided : Bool
  pub periods : List Span

-- The slot of an axis

abbrev pub slot_with : ℕ → Given → DeclaredType → Bool → List Span → Slot
slot_with wheel g t divided periods = record {
  variable = g.variable;
  member = g.member;
  wheel = wheel;
  value_type = t;
  is_divided = divided;
  periods = periods;
}
