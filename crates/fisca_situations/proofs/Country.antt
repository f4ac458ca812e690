-- Examples of what is declared: persons in households, and some variables.
use Rattle.std.proofs.Common.{ℕ, List, [], ◌∷◌, codes}
use Rattle.std.specs.Prelude.{true, false, Option, Some, None}
use Rattle.fisca_num.specs.Number.{zero_number}
use Rattle.fisca_symbols.specs.declared.entity.Entity.{Entity}
use Rattle.fisca_symbols.specs.declared.role.Role.{Role}
use Rattle.fisca_symbols.specs.declared.tables.Tables.{Tables}
use Rattle.fisca_symbols.specs.declared.variable.DeclaredType.{DeclaredType}
use Rattle.fisca_symbols.specs.declared.variable.DeclaredType.TheVariants as type
use Rattle.fisca_symbols.specs.declared.variable.DefaultValue.{DefaultValue}
use Rattle.fisca_symbols.specs.declared.variable.DefaultValue.TheVariants as default
use Rattle.fisca_symbols.specs.declared.variable.SetInput.{SetInput}
use Rattle.fisca_symbols.specs.declared.variable.SetInput.TheVariants as shared
use Rattle.fisca_symbols.specs.declared.variable.Variable.{Variable}
use Rattle.fisca_time.specs.declared.unit.Unit.{Unit}
use Rattle.fisca_time.specs.declared.unit.Unit.TheVariants as unit

abbrev parent : Role
parent = record {
  key = codes "parent";
  plural = Some (codes "parents");
  label = None;
  doc = None;
  max = None;
  subroles = codes "first_parent" ∷ codes "second_parent" ∷ [];
}

abbrev pub child : Role
child = record { key = codes "child"; plural = Some (codes "children"); label = None; doc = None; max = None; subroles = [] }

-- households with these roles
abbrev pub households : List Role → Entity
households roles = record {
  constant = codes "Household";
  key = codes "household";
  plural = codes "households";
  label = None;
  doc = None;
  is_person = false;
  roles = roles;
}

abbrev pub person : Entity
person = record { constant = codes "Person"; key = codes "person"; plural = codes "persons"; label = None; doc = None; is_person = true; roles = [] }

-- a variable of this name, of the entity at this place, of a type, with a default, a definition period and how longer inputs are shared
abbrev pub variable : List ℕ → ℕ → DeclaredType → DefaultValue → Unit → Option SetInput → Variable
variable name entity t d u s = record {
  name = name;
  entity = entity;
  value_type = t;
  definition_period = u;
  default_value = d;
  end = None;
  set_input = s;
}

-- the default of a number
abbrev pub nought : DefaultValue
nought = default.Number zero_number

abbrev pub country : Tables
country = record {
  entities = households (parent ∷ child ∷ []) ∷ person ∷ [];
  enums = record { name = codes "Occupancy"; members = (codes "tenant", codes "Tenant") ∷ (codes "owner", codes "Owner") ∷ [] } ∷ [];
  variables =
      variable (codes "salary") 1 type.Float nought unit.Month (Some shared.DivideByPeriod)
      ∷ variable (codes "age") 1 type.Int nought unit.Month (Some shared.DispatchByPeriod)
      ∷ variable (codes "insured") 1 type.Bool (default.Bool false) unit.Month None
      ∷ variable (codes "occupancy") 0 (type.Enum 0) (default.Member 0) unit.Month None
      ∷ variable (codes "yearly_tax") 0 type.Float nought unit.Year None
      ∷ variable (codes "born") 1 type.Date (default.Date None) unit.Eternity None
      ∷ variable (codes "height") 1 type.Float nought unit.Eternity None
      ∷ variable (codes "nickname") 1 type.Text (default.Text None) unit.Month None
      ∷ [];
  parameters = [];
}
