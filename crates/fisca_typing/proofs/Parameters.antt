-- Parameters have values of their kind.
use Rattle.std.proofs.Common.{◌≡◌, ℕ, zero, suc, ◌<◌, List, [], ◌∷◌, length, Bool, true, false, refl, arith, Option, Some, None}
use Rattle.std.specs.Prelude.{◌&&◌, slice_get, option_map, Result, Ok, Err}
use Rattle.std.specs.List.{list_all}
use Rattle.std.proofs.lemmas.Bool.{and_parts}
use Rattle.fisca_num.specs.Number.{Number}
use Rattle.fisca_time.specs.Instant.{CivilDate}
use Rattle.fisca_scales.specs.Dates.{value_at}
use Rattle.fisca_params.specs.Lookup.{kind_of, value_in}
use Rattle.fisca_params.specs.Tree.{TreeNode, content_at}
use Rattle.fisca_params.specs.declared.content.Content.{Content}
use Rattle.fisca_params.specs.declared.content.Content.TheVariants as content
use Rattle.fisca_params.specs.declared.content.ParamValue.TheVariants as param
use Rattle.fisca_scales.specs.declared.fault.ParamFault.{ParamFault}
use Rattle.fisca_model.specs.declared.value_type.ValueType.{ValueType}
use Rattle.fisca_model.specs.declared.value_type.ValueType.TheVariants as vt
use Rattle.fisca_typing.specs.Parameters.{kinds_at}
use Rattle.fisca_model.specs.Tables.{Tables}
use Rattle.fisca_typing.specs.Meaning.{parameter_value, scale_value, at_place}
use Rattle.fisca_typing.specs.Safe.{IsSafe}
use Rattle.fisca_typing.specs.Wellformed.{has_kind}

numbers-safe : (c : Tables) (o : Option Number) → IsSafe c vt.Number (parameter_value (option_map param.Number o))
numbers-safe c None = tt
numbers-safe c (Some n) = refl

bools-safe : (c : Tables) (o : Option Bool) → IsSafe c vt.Bool (parameter_value (option_map param.Bool o))
bools-safe c None = tt
bools-safe c (Some b) = refl

value-safe : (c : Tables) (t : ValueType) (o : Option Content) (day : CivilDate) → has_kind t (kind_of o) ≡ true → IsSafe c t (parameter_value (value_in o day))
value-safe c t None day is = tt
value-safe c t (Some content.Folder) day is = tt
value-safe c t (Some content.Branch) day is = tt
value-safe c vt.Number (Some (content.Numbers ds)) day is = numbers-safe c (value_at ds day)
value-safe c vt.Bool (Some (content.Numbers ds)) day is = cc
value-safe c (vt.Enum e) (Some (content.Numbers ds)) day is = cc
value-safe c vt.Number (Some (content.Bools ds)) day is = cc
value-safe c vt.Bool (Some (content.Bools ds)) day is = bools-safe c (value_at ds day)
value-safe c (vt.Enum e) (Some (content.Bools ds)) day is = cc
value-safe c t (Some content.Unusable) day is = tt
value-safe c t (Some (content.Scale s)) day is = tt

pub place-safe : (c : Tables) (t : ValueType) (ns : List TreeNode) (places : List ℕ) (i : ℕ) (day : CivilDate) → list_all (has_kind t) (kinds_at ns places) ≡ true → i < length places → IsSafe c t (at_place (slice_get places i) (λ place. parameter_value (value_in (content_at ns place) day)))
place-safe c t ns [] i day all below = absurd (omega (arith, below))
place-safe c t ns (p ∷ ps) zero day all below = value-safe c t (content_at ns p) day (and_parts (has_kind t (kind_of (content_at ns p))) _ all).0
place-safe c t ns (p ∷ ps) (suc i) day all below = place-safe c t ns ps i day (and_parts (has_kind t (kind_of (content_at ns p))) _ all).1 (omega (arith, below))

pub scale-safe : (c : Tables) (o : Result Number ParamFault) → IsSafe c vt.Number (scale_value o)
scale-safe c (Ok n) = refl
scale-safe c (Err e) = tt
