-- What a local means: its node, over the locals before it.
use Rattle.std.proofs.Common.{◌≡◌, ℕ, zero, suc, ◌<◌, ◌≤◌, ◌∙◌, List, Option, None, Some, eq-eqb, ne_eqb, refl, sym, ap, subst, arith, ⊎_elim, length, map, option_map, slice_get}
use Rattle.std.proofs.lemmas.Bool.{cases_eq}
use Rattle.std.proofs.lemmas.List.{length-map}
use Rattle.std.proofs.lemmas.Option.{slice_get-map}
use Rattle.fisca_model.specs.Groups.{Groups, Point}
use Rattle.fisca_model.specs.Tables.{Tables}
use Rattle.fisca_ir.specs.Views.{node}
use Rattle.fisca_ir.specs.declared.node.Node.{Node as Held}
use Rattle.fisca_machine.specs.Context.{groups, tables}
use Rattle.fisca_typing.specs.Nodes.{Node}
use Rattle.fisca_simulation.specs.Followers.{point_of, tells, tells_all}
use Rattle.fisca_simulation.specs.NotedFormulas.{noted, noted_below, noted_or}
use Rattle.fisca_simulation.specs.Noted.{stuck}
use Rattle.fisca_simulation.specs.declared.follower.Follower.{Follower}

module _ (c : Tables) (g : Groups) (ns : List Node) where
  pub below_past : (n i : ℕ) (p : Point) → n ≤ i → noted_below c g ns n i p ≡ stuck
  unfolding noted_below
  below_past zero i p h = refl
  below_past (suc n) i p h =
      let d : i ≡ n → ⊥ = omega (arith, h) in
      let h' : n ≤ i = omega (arith, h) in
      rw (ne_eqb i n d) (below_past n i p h')

  pub below_at : (n i : ℕ) (p : Point) → i < n → noted_below c g ns n i p ≡ noted_or c g (noted_below c g ns i) (slice_get ns i) p
  unfolding noted_below
  below_at zero i p h = absurd (omega (arith, h))
  below_at (suc n) i p h = ⊎_elim
      (λ (e : i ≡ n). rw (eq-eqb i n e) (subst (λ j. noted_or c g (noted_below c g ns n) (slice_get ns n) p ≡ noted_or c g (noted_below c g ns j) (slice_get ns j) p) (sym e) refl))
      (λ (d : i ≡ n → ⊥). let h' : i < n = omega (arith, h, d) in rw (ne_eqb i n d) (below_at n i p h'))
      (cases_eq i n)

-- the same of locals in memory
module _ (c : Tables) (g : Groups) (ns : List Held) where
  pub local_none : (n i : ℕ) (p : Point) → i < n → slice_get ns i ≡ None → noted_below c g (map node ns) n i p ≡ stuck
  local_none n i p h e =
      let none : slice_get (map node ns) i ≡ None = slice_get-map node ns i ∙ ap (option_map node) e in
      rw (below_at c g (map node ns) n i p h, none) refl

  pub local_same : (n i : ℕ) (p : Point) (l : Held) → i < n → slice_get ns i ≡ Some l → noted c g (noted_below c g (map node ns) i) (node l) p ≡ noted_below c g (map node ns) n i p
  local_same n i p l h e =
      let there : slice_get (map node ns) i ≡ Some (node l) = slice_get-map node ns i ∙ ap (option_map node) e in
      rw (below_at c g (map node ns) n i p h, there) refl

-- a formula as a whole is what it returns, where all its locals are seen
pub all_told : {A : Type 0} (s : Follower A) (e : Held) (n : ℕ) → n ≡ length s.locals.now → tells_all s e ≡ tells s e (record { person = None; visible = n })
all_told s e n h =
    ap (λ k. noted (tables s.context) (groups s.context) (noted_below (tables s.context) (groups s.context) (map node s.locals.now) k) (node e) (point_of s (record { person = None; visible = n }))) (length-map s.locals.now node ∙ sym h)
