-- Scales among parameters.
use Rattle.std.proofs.Common.{◌≡◌, ℕ, List, [], ◌∷◌, Option, Some, None, Result, Ok, refl}
use Rattle.fisca_params.specs.declared.content.NodeKind.{NodeKind}
use Rattle.fisca_params.specs.declared.content.NodeKind.TheVariants as node
use Rattle.fisca_ast.specs.declared.fault.FormulaKind.{FormulaKind}
use Rattle.fisca_typing.specs.Nodes.{Indices, no_index, index}
use Rattle.fisca_typing.specs.Parameters.{chosen_thing, of_one_kind}
use Rattle.fisca_typing.specs.Things.{Thing, Chosen, scale}
use Rattle.fisca_check_calls.specs.Parameters.{scale_alone}

abbrev or_scale : Chosen → Option ℕ → Result Thing FormulaKind → Result Thing FormulaKind
or_scale c None others = others
or_scale c (Some place) others = Ok (scale place c.moves)

pub scale_or_others : (c : Chosen) (is : Indices) (places : List ℕ) (ks : List NodeKind) → chosen_thing c is places ks ≡ or_scale c (scale_alone is places ks) (of_one_kind c ks)
scale_or_others c no_index [] ks = refl
scale_or_others c no_index (p ∷ []) [] = refl
scale_or_others c no_index (p ∷ []) (node.Node ∷ []) = refl
scale_or_others c no_index (p ∷ []) (node.Number ∷ []) = refl
scale_or_others c no_index (p ∷ []) (node.Bool ∷ []) = refl
scale_or_others c no_index (p ∷ []) (node.Unusable ∷ []) = refl
scale_or_others c no_index (p ∷ []) (node.Scale ∷ []) = refl
scale_or_others c no_index (p ∷ []) (node.Node ∷ k ∷ ks) = refl
scale_or_others c no_index (p ∷ []) (node.Number ∷ k ∷ ks) = refl
scale_or_others c no_index (p ∷ []) (node.Bool ∷ k ∷ ks) = refl
scale_or_others c no_index (p ∷ []) (node.Unusable ∷ k ∷ ks) = refl
scale_or_others c no_index (p ∷ []) (node.Scale ∷ k ∷ ks) = refl
scale_or_others c no_index (p ∷ q ∷ ps) ks = refl
scale_or_others c (index m s is) places ks = refl
