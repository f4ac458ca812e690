-- Members that choose among parameters, one behind the other.
use Rattle.std.proofs.Common.{◌≡◌, ℕ, List, [], ◌∷◌, ◌++◌, refl, ap, ◌∙◌}
use Rattle.fisca_typing.specs.Nodes.{Node, index, behind}
use Rattle.fisca_ir.specs.declared.node.Index.{Index}
use Rattle.fisca_ir.specs.Views.{index_view, indices}

behind_last : (is : List Index) (i : Index) → indices (is ++ i ∷ []) ≡ behind (indices is) (index_view i).member (index_view i).size
behind_last [] i = refl
behind_last (j ∷ is) i = ap (index (index_view j).member (index_view j).size) (behind_last is i)

pub behind_all : (old new : List Index) (i : Index) (n : Node) (size : ℕ) → new ≡ old ++ i ∷ [] → index_view i ≡ record { member = n; size = size } →
    indices new ≡ behind (indices old) n size
behind_all old new i n size e v = ap indices e ∙ behind_last old i ∙ ap (λ x. behind (indices old) x.member x.size) v
