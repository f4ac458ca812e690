-- The definitions of columns and of texts, worked out on small ones.
use Rattle.std.proofs.Common.{◌≡◌, ℕ, List, [], ◌∷◌, codes, refl}
use Rattle.std.specs.Prelude.{true, false, Option, Some, None}
use Rattle.fisca_inputs.specs.Entries.{key}
use Rattle.fisca_model.specs.declared.value.Value.TheVariants as v
use Rattle.fisca_model.specs.declared.key.Key.{Key}
use Rattle.fisca_groups.specs.declared.entity_members.EntityMembers.{EntityMembers}
use Rattle.fisca_time.specs.Period.{eternity, months}
use Rattle.fisca_time.specs.declared.unit.Unit.{Unit}
use Rattle.fisca_time.specs.declared.unit.Unit.TheVariants as unit
use Rattle.fisca_model.specs.Tables.{Tables, Variable}
use Rattle.fisca_model.specs.declared.value_type.ValueType.{ValueType}
use Rattle.fisca_model.specs.declared.value_type.ValueType.TheVariants as type
use Rattle.fisca_columns.specs.Columns.{column_of}
use Rattle.fisca_columns.specs.Texts.{value_text}
use Rattle.fisca_columns.specs.Written.{Parts, text_of_parts}
use Rattle.fisca_columns.specs.Steps.Written.{parts_of}
use Rattle.fisca_situations.proofs.Shown.{january}

-- How columns are written

abbrev parts : List ℕ → Option (List ℕ) → Option (List ℕ) → Parts
parts name index period = record { name = name; index = index; period = period }

a_name : parts_of (codes "rent") ≡ parts (codes "rent") None None
a_name = refl

with_index : parts_of (codes "rent#2") ≡ parts (codes "rent") (Some (codes "2")) None
with_index = refl

with_period : parts_of (codes "rent@2017") ≡ parts (codes "rent") None (Some (codes "2017"))
with_period = refl

with_both : parts_of (codes "rent#2@2017") ≡ parts (codes "rent") (Some (codes "2")) (Some (codes "2017"))
with_both = refl

period_first : parts_of (codes "rent@2017#2") ≡ parts (codes "rent") None (Some (codes "2017#2"))
period_first = refl

text_with_both : text_of_parts (parts (codes "rent") (Some (codes "2")) (Some (codes "2017"))) ≡ codes "rent#2@2017"
text_with_both = refl

-- Two persons in a household, and some variables

abbrev variable : List ℕ → ℕ → Option ValueType → Unit → Variable
variable name entity t u = record { name = name; entity = entity; value_type = t; definition_period = u }

abbrev country : Tables
country = record {
  entities = [];
  enums = record { name = codes "Occupancy"; members = codes "tenant" ∷ codes "owner" ∷ [] } ∷ [];
  variables =
      variable (codes "salary") 1 (Some type.Number) unit.Month
      ∷ variable (codes "rent") 0 (Some type.Number) unit.Month
      ∷ variable (codes "occupancy") 0 (Some (type.Enum 0)) unit.Month
      ∷ variable (codes "tax") 1 (Some type.Number) unit.Year
      ∷ variable (codes "present") 1 (Some type.Number) unit.Day
      ∷ variable (codes "height") 1 (Some type.Number) unit.Eternity
      ∷ variable (codes "born") 1 None unit.Eternity
      ∷ [];
  nodes = [];
}

abbrev members : List (List ℕ) → EntityMembers
members names = record { names = names; homes = [] }

abbrev couple : List EntityMembers
couple = members (codes "home" ∷ []) ∷ members (codes "Ann" ∷ codes "Bob" ∷ []) ∷ []

-- a text's key in January 2017
abbrev named : List ℕ → Option Key
named text = column_of country couple (Some january) text

abbrev named_without : List ℕ → Option Key
named_without text = column_of country couple None text

default_place : named (codes "salary") ≡ Some (key 0 0 january)
default_place = refl

second_person : named (codes "salary#1") ≡ Some (key 0 1 january)
second_person = refl

zeros_before : named (codes "salary#001") ≡ Some (key 0 1 january)
zeros_before = refl

no_third_person : named (codes "salary#2") ≡ None
no_third_person = refl

one_household : named (codes "rent#1") ≡ None
one_household = refl

at_a_month : named (codes "salary#1@2016-12") ≡ Some (key 0 1 (months unit.Month 24203 1))
at_a_month = refl

short_month : named (codes "salary@2017-2") ≡ Some (key 0 0 (months unit.Month 24205 1))
short_month = refl

no_index : named (codes "salary#") ≡ None
no_index = refl

index_with_blank : named (codes "salary# 1") ≡ None
index_with_blank = refl

index_with_plus : named (codes "salary#+1") ≡ None
index_with_plus = refl

no_period : named (codes "salary@") ≡ None
no_period = refl

period_in_words : named (codes "salary@soon") ≡ None
period_in_words = refl

month_of_a_year : named (codes "salary@2017") ≡ None
month_of_a_year = refl

two_months : named (codes "salary@month:2017-01:2") ≡ None
two_months = refl

year_of_a_month : named (codes "tax") ≡ None
year_of_a_month = refl

a_year : named (codes "tax@year:2016-04") ≡ Some (key 3 0 (months unit.Year 24195 1))
a_year = refl

unknown : named (codes "wealth") ≡ None
unknown = refl

blank_before : named (codes " salary") ≡ None
blank_before = refl

not_asked_for : named (codes "born") ≡ None
not_asked_for = refl

for_ever : named (codes "height") ≡ Some (key 5 0 eternity)
for_ever = refl

for_ever_whenever : named (codes "height#1@2017") ≡ Some (key 5 1 eternity)
for_ever_whenever = refl

for_ever_unreadable : named (codes "height@soon") ≡ None
for_ever_unreadable = refl

without_default : named_without (codes "salary") ≡ None
without_default = refl

for_ever_without_default : named_without (codes "height") ≡ Some (key 5 0 eternity)
for_ever_without_default = refl

-- Texts of values

true_text : value_text country 0 (v.Bool true) ≡ codes "true"
true_text = refl

false_text : value_text country 0 (v.Bool false) ≡ codes "false"
false_text = refl
