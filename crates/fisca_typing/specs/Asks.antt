-- Calls of the formula's entity: variables, roles, and what the persons of a group come to.
use Rattle.std.specs.Prelude.{ℕ, List, [], ◌∷◌, length, Bool, true, false, ◌==◌, if◌then◌else◌, Option, Some, None, option_map, ok_or, Result, Ok, Err, codes}
use Rattle.fisca_ast.specs.Words.{is}
use Rattle.fisca_num.specs.Results.{and_then}
use Rattle.fisca_ast.specs.declared.fault.FormulaKind.{FormulaKind}
use Rattle.fisca_ast.specs.declared.fault.FormulaKind.TheVariants as kind
use Rattle.fisca_typing.specs.declared.asking.Asking.{Asking}
use Rattle.fisca_typing.specs.declared.asking.Asking.TheVariants as asking
use Rattle.fisca_model.specs.declared.role_place.RolePlace.{RolePlace}
use Rattle.fisca_typing.specs.declared.asking.Whom.{Whom}
use Rattle.fisca_typing.specs.declared.asking.Whom.TheVariants as whom
use Rattle.fisca_typing.specs.declared.kinds.Level.{Level}
use Rattle.fisca_typing.specs.declared.kinds.Level.TheVariants as level
use Rattle.fisca_model.specs.declared.value_type.ValueType.{ValueType}
use Rattle.fisca_model.specs.declared.value_type.ValueType.TheVariants as vt
use Rattle.fisca_typing.specs.declared.operations.Method.{Method}
use Rattle.fisca_typing.specs.declared.operations.Method.TheVariants as method
use Rattle.fisca_typing.specs.declared.operations.Total.{Total}
use Rattle.fisca_typing.specs.declared.operations.Total.TheVariants as total
use Rattle.fisca_typing.specs.Calls.{CallArgument, Positions, by_position, and_keyword, more_keywords, alone, positions, settled}
use Rattle.fisca_typing.specs.Names.{Names, unknown_name}
use Rattle.fisca_typing.specs.Nodes.{ask, has_role, count, total as total_node}
use Rattle.fisca_model.specs.Tables.{Tables, Variable, is_person, is_group_of, is_person_at, place_in, role_of_key, roles_at, if_single, variable_named}
use Rattle.fisca_typing.specs.Things.{Thing, Things, Relation, none, more, typed, value_of, text_of, things_of, period_of, option_of, role_of, method as method_thing, group_count}
use Rattle.fisca_typing.specs.Types.{bad_type, bad_level, is_numeric, is_bool, is_of_members}

-- Variables

-- a variable that formulas use, of this entity
abbrev pub usable : ℕ → ℕ × Variable → Option ValueType → Result (ℕ × ValueType) FormulaKind
usable entity v None = bad_type
usable entity v (Some t) = if v.1.entity == entity then Ok (v.0, t) else bad_level

abbrev pub variable_of : Tables → ℕ → Thing → Result (ℕ × ValueType) FormulaKind
variable_of c entity x =
    and_then (text_of x) (λ t. and_then (ok_or (variable_named c t) kind.UnknownVariable) (λ v. usable entity v v.1.value_type))

-- `[ADD]` or `[DIVIDE]`
abbrev pub one_option : Things → Result Asking FormulaKind
one_option none = bad_type
one_option (more x none) = option_of x
one_option (more x (more y ys)) = bad_type

abbrev pub options_of : Option (Result Thing FormulaKind) → Result Asking FormulaKind
options_of None = Ok asking.Plain
options_of (Some x) = and_then x (λ y. and_then (things_of y) one_option)

abbrev pub numeric_only : ValueType → Result ValueType FormulaKind
numeric_only t = if is_numeric t then Ok vt.Number else bad_type

-- sums and parts are numbers
abbrev pub asked_type : Asking → ValueType → Result ValueType FormulaKind
asked_type asking.Plain t = Ok t
asked_type asking.Add t = numeric_only t
asked_type asking.Divide t = numeric_only t

-- a variable and a period, perhaps with options: the variable is judged first, then the period, then the options
abbrev pub asked : Tables → Relation → Level → CallArgument → CallArgument → Option (Result Thing FormulaKind) → Result Thing FormulaKind
asked c r l v p o =
    and_then v.thing (λ x. and_then (variable_of c r.entity x) (λ found.
    and_then p.thing (λ y. and_then (period_of y) (λ ms.
    and_then (options_of o) (λ how.
    and_then (asked_type how found.1) (λ t. typed t l (ask found.0 r.whom how ms)))))))

abbrev pub is_options : Option (List ℕ) → Bool
is_options None = false
is_options (Some k) = is k (codes "options")

abbrev pub is_positional : Option (List ℕ) → Bool
is_positional None = true
is_positional (Some k) = false

-- the number and the keywords of the arguments are judged before all else
abbrev pub asked_with : Tables → Relation → Level → List CallArgument → Result Thing FormulaKind
asked_with c r l (v ∷ p ∷ []) =
    if is_positional v.keyword then (if is_positional p.keyword then asked c r l v p None else bad_type) else bad_type
asked_with c r l (v ∷ p ∷ o ∷ []) =
    if is_positional v.keyword then (if is_positional p.keyword then (if is_options o.keyword then asked c r l v p (Some o.thing) else bad_type) else bad_type) else bad_type
asked_with c r l _ = bad_type

-- Names behind the first argument

abbrev pub person_place : Tables → ℕ
person_place c = first (place_in is_person c.entities) where
  first : Option ℕ → ℕ
  first (Some place) = place
  first None = length c.entities

abbrev pub to_group : ℕ → Relation
to_group g = record { whom = whom.Group g; entity = g }

abbrev pub to_holder : Tables → RolePlace → Relation
to_holder c r = record { whom = whom.Holder r; entity = person_place c }

abbrev pub to_person : Tables → Relation
to_person c = record { whom = whom.Person; entity = person_place c }

abbrev pub to_self : ℕ → Relation
to_self entity = record { whom = whom.Own; entity = entity }

-- of a person a group, of a group a role that at most one person has, other than `members`
abbrev pub relation_named : Names → List ℕ → Option Relation
relation_named c t =
    if is_person_at c.tables c.entity then option_map to_group (place_in (is_group_of t) c.tables.entities)
    else (if is t (codes "members") then None
    else option_map (to_holder c.tables) (if_single (roles_at c.tables c.entity) (role_of_key (roles_at c.tables c.entity) t)))

unfoldable pub group_method : List ℕ → Option Method
group_method t =
    if is t (codes "members") then Some method.Members
    else (if is t (codes "sum") then Some (method.Total total.Sum)
    else (if is t (codes "min") then Some (method.Total total.Min)
    else (if is t (codes "max") then Some (method.Total total.Max)
    else (if is t (codes "any") then Some (method.Total total.Any)
    else (if is t (codes "all") then Some (method.Total total.All)
    else (if is t (codes "nb_persons") then Some method.Count else None))))))

unfoldable pub person_method : List ℕ → Option Method
person_method t = if is t (codes "has_role") then Some method.HasRole else None

abbrev pub method_named : Names → List ℕ → Option Method
method_named c t = if is_person_at c.tables c.entity then person_method t else group_method t

abbrev pub some_method : Option Method → Option Relation → Result Thing FormulaKind
some_method None None = unknown_name
some_method None (Some r) = Ok (method_thing None (Some r))
some_method (Some m) r = Ok (method_thing (Some m) r)

abbrev pub asker_attribute : Names → List ℕ → Result Thing FormulaKind
asker_attribute c t = some_method (method_named c t) (relation_named c t)

-- Names behind a name behind the first argument, which this project adds: `GROUP.nb_persons` of a person, `members.has_role` of a group

abbrev pub group_of_whom : Whom → Option ℕ
group_of_whom (whom.Group g) = Some g
group_of_whom _ = None

abbrev pub group_led_to : Option Relation → Option ℕ
group_led_to None = None
group_led_to (Some r) = group_of_whom r.whom

abbrev pub is_members : Option Method → Bool
is_members (Some method.Members) = true
is_members _ = false

abbrev pub count_behind : List ℕ → Option ℕ → Result Thing FormulaKind
count_behind t None = bad_type
count_behind t (Some g) = if is t (codes "nb_persons") then Ok (group_count g) else bad_type

abbrev pub method_attribute : List ℕ → Option Method → Option Relation → Result Thing FormulaKind
method_attribute t m r =
    if is_members m then (if is t (codes "has_role") then Ok (method_thing (Some method.EachHasRole) None) else bad_type)
    else count_behind t (group_led_to r)

-- Roles

abbrev pub own_role : ℕ → ℕ × RolePlace → Result (Option RolePlace) FormulaKind
own_role entity r = if r.0 == entity then Ok (Some r.1) else bad_type

-- a role of this entity
abbrev pub role_in : ℕ → Thing → Result (Option RolePlace) FormulaKind
role_in entity x = and_then (role_of x) (own_role entity)

-- of one person, or of each of a group's persons
abbrev pub has_role_by : Level → Positions → Result Thing FormulaKind
has_role_by l ps = and_then (alone ps) (λ s. and_then (role_of s.thing) (λ r. typed vt.Bool l (has_role r.0 r.1)))

abbrev pub count_by : ℕ → Positions → Result Thing FormulaKind
count_by entity (by_position []) = typed vt.Number level.Own (count entity None)
count_by entity (by_position (s ∷ [])) = and_then (role_in entity s.thing) (λ r. typed vt.Number level.Own (count entity r))
count_by entity (by_position (s ∷ t ∷ ss)) = bad_type
count_by entity (and_keyword ss k x) = bad_type
count_by entity more_keywords = bad_type

-- Totals

abbrev pub takes : Total → ValueType → Bool
takes total.Sum t = is_numeric t
takes total.Min t = is_numeric t
takes total.Max t = is_numeric t
takes total.Any t = is_bool t
takes total.All t = is_bool t

abbrev pub gives : Total → ValueType
gives total.Sum = vt.Number
gives total.Min = vt.Number
gives total.Max = vt.Number
gives total.Any = vt.Bool
gives total.All = vt.Bool

-- of values of the persons; their type is judged first, then the role, then their level
abbrev pub total_of : Total → Thing → Result (Option RolePlace) FormulaKind → Result Thing FormulaKind
total_of t x role =
    and_then (value_of x) (λ v. and_then (if takes t v.value_type then role else bad_type) (λ r.
    if is_of_members v.level then typed (gives t) level.Own (total_node t r v.node) else bad_level))

abbrev pub role_by : ℕ → List ℕ → Thing → Result (Option RolePlace) FormulaKind
role_by entity k x = if is k (codes "role") then role_in entity x else bad_type

abbrev pub total_by : ℕ → Total → Positions → Result Thing FormulaKind
total_by entity t (by_position (m ∷ [])) = total_of t m.thing (Ok None)
total_by entity t (by_position _) = bad_type
total_by entity t (and_keyword (m ∷ []) k x) = total_of t m.thing (role_by entity k x)
total_by entity t (and_keyword _ k x) = bad_type
total_by entity t more_keywords = bad_type

-- Calls

abbrev pub settled_positions : List CallArgument → (Positions → Result Thing FormulaKind) → Result Thing FormulaKind
settled_positions gs f = and_then (settled gs) (λ ss. f (positions ss))

abbrev pub method_by : Names → Method → List CallArgument → Result Thing FormulaKind
method_by c method.HasRole gs = settled_positions gs (has_role_by level.Own)
method_by c method.EachHasRole gs = settled_positions gs (has_role_by level.Members)
method_by c method.Members gs = asked_with c.tables (to_person c.tables) level.Members gs
method_by c (method.Total t) gs = settled_positions gs (total_by c.entity t)
method_by c method.Count gs = settled_positions gs (count_by c.entity)

abbrev pub is_ok_text : Result Thing FormulaKind → Bool
is_ok_text x = is_some_text (and_then x text_of) where
  is_some_text : Result (List ℕ) FormulaKind → Bool
  is_some_text (Ok t) = true
  is_some_text (Err k) = false

abbrev pub begins_with_text : List CallArgument → Bool
begins_with_text [] = false
begins_with_text (g ∷ gs) = is_ok_text g.thing

-- where a name is a role's or a group's and a function's too, the arguments decide: a text comes first where a variable is asked for
abbrev pub method_called : Names → Option Method → Option Relation → List CallArgument → Result Thing FormulaKind
method_called c None None gs = unknown_name
method_called c None (Some r) gs = asked_with c.tables r level.Own gs
method_called c (Some m) None gs = method_by c m gs
method_called c (Some m) (Some r) gs = if begins_with_text gs then asked_with c.tables r level.Own gs else method_by c m gs
