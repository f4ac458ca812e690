-- How definitions see what the code keeps of inputs while they are read, of situations and of slots.
use Rattle.std.specs.Prelude.{List, map}
use Rattle.fisca_situations.specs.declared.place.Place.{Place}
use Rattle.fisca_situations.specs.declared.slot.Slot.{Slot}
use Rattle.fisca_situations.specs.Reading as reading
use Rattle.fisca_situations.specs.Slots as slots

abbrev pub place : Place → reading.Place
place p = record { variable = p.variable; declared = p.declared.now; member = p.member }

abbrev pub slot : Slot → slots.Slot
slot s = record {
  variable = s.variable;
  member = s.member;
  wheel = s.wheel;
  value_type = s.value_type;
  is_divided = s.is_divided;
  periods = s.periods.items;
}

abbrev pub slot_list : List Slot → List slots.Slot
slot_list = map slot
