-- What a parameter in memory stands for, by its lists.
use Rattle.std.proofs.Common.{rules, ◌≡◌, ◌≤◌, ◌<◌, ℕ, zero, suc, ◌+◌, false, List, [], ◌∷◌, length, Some, None, refl, sym, ap, ◌∙◌, arith, slice_get, slice_index_or}
use Rattle.fisca_ir.specs.Views.{node, index_view, indices}
use Rattle.fisca_ir.specs.declared.node.Index.{Index}
use Rattle.fisca_ir.specs.declared.node.Node.{Node}
use Rattle.fisca_ir.specs.declared.node.Parameter.{Parameter, out-Parameter, the_lemmas}
use Rattle.fisca_typing.specs.Nodes.{no_index, index}
use Rattle.fisca_machine.specs.Plans.{is_alone}
use Rattle.fisca_machine.specs.Running.{from, parametric}

-- the whole

seen : (p : Parameter) → parametric p ≡ record { indices = indices (out-Parameter p).indices.items; places = (out-Parameter p).places.value.items; moves = (out-Parameter p).moves.items }
seen p = search (the_lemmas, rules)

member_seen : (i : Index) → index_view i ≡ record { member = node i.member.value; size = i.size }
member_seen i = search (the_lemmas, rules)

-- its indices

indices_of : (p : Parameter) (is : List Index) → is ≡ (out-Parameter p).indices.items → (parametric p).indices ≡ indices is
indices_of p is e = ap (λ q. q.indices) (seen p) ∙ ap indices (sym e)

none_from : (is : List Index) (n : ℕ) → slice_get is n ≡ None → from n (indices is) ≡ no_index
none_from [] zero e = refl
none_from [] (suc n) e = refl
none_from (i ∷ is) zero e = cc
none_from (i ∷ is) (suc n) e = none_from is n e

some_from : (is : List Index) (n : ℕ) (i : Index) → slice_get is n ≡ Some i → from n (indices is) ≡ index (index_view i).member (index_view i).size (from (suc n) (indices is))
some_from [] zero i e = cc
some_from [] (suc n) i e = cc
some_from (j ∷ is) zero i e = search rules
some_from (j ∷ is) (suc n) i e = some_from is n i e

pub none_there : (p : Parameter) (n : ℕ) (is : List Index) → is ≡ (out-Parameter p).indices.items → slice_get is n ≡ None → from n (parametric p).indices ≡ no_index
none_there p n is e h = ap (from n) (indices_of p is e) ∙ none_from is n h

pub some_there : (p : Parameter) (n : ℕ) (is : List Index) (i : Index) (m : Node) → is ≡ (out-Parameter p).indices.items → slice_get is n ≡ Some i → m ≡ i.member.value →
    from n (parametric p).indices ≡ index (node m) i.size (from (n + 1) (parametric p).indices)
some_there p n is i m e h d =
    let more : suc n ≡ n + 1 = omega arith in
    ap (from n) (indices_of p is e) ∙ some_from is n i h ∙ ap (λ x. index x.member x.size (from (suc n) (indices is))) (member_seen i)
    ∙ (λ z. index (node (sym d z)) i.size (from (more z) (sym (indices_of p is e) z)))

-- its places

pub none_placed : (p : Parameter) (n : ℕ) (ps : List ℕ) → ps ≡ (out-Parameter p).places.value.items → slice_get ps n ≡ None → slice_get (parametric p).places n ≡ None
none_placed p n ps e h = ap (λ q. slice_get q.places n) (seen p) ∙ ap (λ qs. slice_get qs n) (sym e) ∙ h

pub some_placed : (p : Parameter) (n : ℕ) (ps : List ℕ) (i : ℕ) → ps ≡ (out-Parameter p).places.value.items → slice_get ps n ≡ Some i → slice_get (parametric p).places n ≡ Some i
some_placed p n ps i e h = ap (λ q. slice_get q.places n) (seen p) ∙ ap (λ qs. slice_get qs n) (sym e) ∙ h

-- one place, and nothing that chooses

some_choose : (is : List Index) (ps : List ℕ) → 1 ≤ length is → is_alone (indices is) ps ≡ false
some_choose [] ps h = absurd (omega (arith, h))
some_choose (i ∷ is) ps h = refl

none_choose : (is : List Index) → length is < 1 → indices is ≡ no_index
none_choose [] h = refl
none_choose (i ∷ is) h = absurd (omega (arith, h))

one_place : (ps : List ℕ) (place : ℕ) → 1 ≤ length ps → length ps < 2 → place ≡ slice_index_or ps 0 place → ps ≡ place ∷ []
one_place [] place a b e = absurd (omega (arith, a))
one_place (q ∷ []) place a b e = ap (λ x. x ∷ []) (sym e)
one_place (q ∷ r ∷ qs) place a b e = absurd (omega (arith, b))

pub not_alone : (p : Parameter) (is : List Index) → is ≡ (out-Parameter p).indices.items → 1 ≤ length is → is_alone (parametric p).indices (parametric p).places ≡ false
not_alone p is e h = ap (λ q. is_alone q.indices q.places) (seen p) ∙ (λ i. is_alone (indices (sym e i)) (out-Parameter p).places.value.items) ∙ some_choose is (out-Parameter p).places.value.items h

pub nothing_chooses : (p : Parameter) (is : List Index) → is ≡ (out-Parameter p).indices.items → length is < 1 → (parametric p).indices ≡ no_index
nothing_chooses p is e h = indices_of p is e ∙ none_choose is h

pub placed_alone : (p : Parameter) (ps : List ℕ) (place : ℕ) → ps ≡ (out-Parameter p).places.value.items → 1 ≤ length ps → length ps < 2 → place ≡ slice_index_or ps 0 place → (parametric p).places ≡ place ∷ []
placed_alone p ps place e a b h = ap (λ q. q.places) (seen p) ∙ sym e ∙ one_place ps place a b h
