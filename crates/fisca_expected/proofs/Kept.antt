-- Which expected outputs are left where those of some variables are.
use Rattle.std.proofs.Common.{◌≡◌, ℕ, ◌++◌, [], ◌∷◌, List, map, Bool, true, false, cond, refl, sym, ap, ap₂, ◌∙◌}
use Rattle.std.proofs.lemmas.List.Elements.{filter-append}
use Rattle.std.specs.List.{filter, flat_map}
use Rattle.fisca_expected.specs.Outputs.{Output, members_of}
use Rattle.fisca_expected.specs.Views.{expected_outputs, output_of}
use Rattle.fisca_expected.specs.declared.outputs.ExpectedOutput.{ExpectedOutput}

-- all outputs of what is expected of a variable are left, or none
of_members : (test : ℕ → Bool) (e : ExpectedOutput) (members : List ℕ) (b : Bool) → test e.variable ≡ b
    → filter (λ (o : Output). test o.0.variable) (map (output_of e) members) ≡ cond b (map (output_of e) members) []
of_members test e [] true is = refl
of_members test e [] false is = refl
of_members test e (member ∷ members) true is = rw is (ap (λ os. output_of e member ∷ os) (of_members test e members true is))
of_members test e (member ∷ members) false is = rw is (of_members test e members false is)

pub kept_outputs : (test : ℕ → Bool) (items : List ExpectedOutput)
    → flat_map expected_outputs (filter (λ e. test e.variable) items) ≡ filter (λ (o : Output). test o.0.variable) (flat_map expected_outputs items)
kept_outputs test [] = refl
kept_outputs test (e ∷ items) =
    go (test e.variable) refl
    ∙ ap (λ os. filter (λ (o : Output). test o.0.variable) (expected_outputs e) ++ os) (kept_outputs test items)
    ∙ sym (filter-append (λ (o : Output). test o.0.variable) (expected_outputs e) (flat_map expected_outputs items))
  where
    go : (b : Bool) → test e.variable ≡ b
        → flat_map expected_outputs (cond b (e ∷ filter (λ x. test x.variable) items) (filter (λ x. test x.variable) items))
        ≡ filter (λ (o : Output). test o.0.variable) (expected_outputs e) ++ flat_map expected_outputs (filter (λ x. test x.variable) items)
    go true is = ap (λ os. os ++ flat_map expected_outputs (filter (λ x. test x.variable) items)) (sym (of_members test e (members_of e.whom) true is))
    go false is = ap (λ os. os ++ flat_map expected_outputs (filter (λ x. test x.variable) items)) (sym (of_members test e (members_of e.whom) false is))
