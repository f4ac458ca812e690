-- Values of conditions, from the last one to the first.
use Rattle.std.proofs.Common.{◌≡◌, List, [], ◌∷◌, ◌++◌, length, refl, sym, ◌∙◌, ap, arith}
use Rattle.std.proofs.lemmas.List.{length-append}
use Rattle.std.specs.Prelude.{map}
use Rattle.fisca_ir.specs.Views.{node, typed}
use Rattle.fisca_ir.specs.declared.node.Node.{Node as Held}
use Rattle.fisca_ir.specs.declared.thing.Typed.{Typed as Value}
use Rattle.fisca_typing.specs.Calls.{selected}
use Rattle.fisca_typing.specs.Nodes.{Node, choose}

selected_last : (cs vs : List Value) (c v : Value) (rest : Node) → length cs ≡ length vs →
    selected (map typed (cs ++ c ∷ [])) (map typed (vs ++ v ∷ [])) rest ≡ selected (map typed cs) (map typed vs) (choose (node c.node) (node v.node) rest)
selected_last [] [] c v rest e = refl
selected_last [] (w ∷ vs) c v rest e = absurd (omega arith)
selected_last (b ∷ cs) [] c v rest e = absurd (omega arith)
selected_last (b ∷ cs) (w ∷ vs) c v rest e = ap (choose (node b.node) (node w.node)) (selected_last cs vs c v rest (omega arith))

pub selected_step : (whole : Node) (cs ds vs ws : List Value) (c v : Value) (rest found : Held) → length cs ≡ length vs →
    whole ≡ selected (map typed cs) (map typed vs) (node rest) → cs ≡ ds ++ c ∷ [] → vs ≡ ws ++ v ∷ [] → node found ≡ choose (node c.node) (node v.node) (node rest) →
    (length ds ≡ length ws) × (whole ≡ selected (map typed ds) (map typed ws) (node found))
selected_step whole cs ds vs ws c v rest found l h e f g =
    let fewer : length ds ≡ length ws = omega (arith, l, ap length e, ap length f, length-append ds (c ∷ []), length-append ws (v ∷ [])) in (
      fewer,
      h ∙ ap (λ xs. selected (map typed xs) (map typed vs) (node rest)) e ∙ ap (λ ys. selected (map typed (ds ++ c ∷ [])) (map typed ys) (node rest)) f
          ∙ selected_last ds ws c v (node rest) fewer ∙ ap (selected (map typed ds) (map typed ws)) (sym g),
    )
