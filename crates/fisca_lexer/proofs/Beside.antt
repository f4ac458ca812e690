-- Texts side by side, made one.
use Rattle.std.proofs.Common.{◌≡◌, ℕ, List, [], ◌∷◌, ◌++◌, Bool, true, false, refl, sym, ap, ◌∙◌, MatchBool}
use Rattle.std.specs.Prelude.{◌&&◌, if◌then◌else◌}
use Rattle.std.specs.List.Retain.{DedupsFrom, IsDeduped}
use Rattle.fisca_lexer.specs.declared.token.Token.{Token}
use Rattle.fisca_lexer.specs.Texts.{put_before, joined}
use Rattle.fisca_lexer.specs.Steps.Texts.{beside, is_quoted, begins_line}

taken : {X : Type 0} (b : Bool) (x y : X) → b ≡ true → (if b then x else y) ≡ x
taken b x y e = ap (λ b. if b then x else y) e

left_out : {X : Type 0} (b : Bool) (x y : X) → b ≡ false → (if b then x else y) ≡ y
left_out b x y e = ap (λ b. if b then x else y) e

both_quoted : (a c begins x : Bool) → (a && (if begins then false else c)) ≡ true → (c && x) ≡ (a && x)
both_quoted true true begins x e = refl
both_quoted false true begins x e = cc
both_quoted true false true x e = cc
both_quoted true false false x e = cc
both_quoted false false begins x e = refl

-- of two texts side by side both stand so beside another
alike : (t u v : Token) → beside t u ≡ true → beside u v ≡ beside t v
alike t u v e = both_quoted (is_quoted t.class) (is_quoted u.class) (begins_line u.indent) _ e

-- texts side by side: the one in front takes both along
next_to : (t u : Token) (vs : List Token) → beside t u ≡ true → put_before t (put_before u vs) ≡ put_before (record t { end = u.end }) vs
next_to t u [] e = taken (beside t u) _ _ e
next_to t u (v ∷ vs) e = by (beside u v) refl where
  by : (b : Bool) → beside u v ≡ b → put_before t (put_before u (v ∷ vs)) ≡ put_before (record t { end = u.end }) (v ∷ vs)
  by true is = ap (put_before t) (taken (beside u v) _ _ is) ∙ taken (beside t u) _ _ e ∙ sym (taken (beside t v) _ _ (sym (alike t u v e) ∙ is))
  by false is = ap (put_before t) (left_out (beside u v) _ _ is) ∙ taken (beside t u) _ _ e ∙ sym (left_out (beside t v) _ _ (sym (alike t u v e) ∙ is))

apart : (t u : Token) (vs : List Token) → beside t u ≡ false → put_before t (put_before u vs) ≡ t ∷ put_before u vs
apart t u [] e = left_out (beside t u) _ _ e
apart t u (v ∷ vs) e = by (beside u v) refl where
  by : (b : Bool) → beside u v ≡ b → put_before t (put_before u (v ∷ vs)) ≡ t ∷ put_before u (v ∷ vs)
  by true is = ap (put_before t) (taken (beside u v) _ _ is) ∙ left_out (beside t u) _ _ e ∙ ap (λ us. t ∷ us) (sym (taken (beside u v) _ _ is))
  by false is = ap (put_before t) (left_out (beside u v) _ _ is) ∙ left_out (beside t u) _ _ e ∙ ap (λ us. t ∷ us) (sym (left_out (beside u v) _ _ is))

-- one step over tokens: the last one kept, and the next one beside it
turn : (b : Bool) (u t u' t' : Token) (us ks : List Token) (after : Token → List Token → Type 0) → ((v : Token) (vs : List Token) → after v vs → vs ≡ joined (v ∷ us))
    → b ≡ beside t u → (b ≡ true → t' ≡ record t { end = u.end }) → (b ≡ false → (t' ≡ t) × (u' ≡ u)) → MatchBool b (after t' ks) ((vs : List Token) × after u' vs × (ks ≡ t' ∷ vs)) → ks ≡ joined (t ∷ u ∷ us)
turn true u t u' t' us ks after all test one two left = all t' ks left ∙ ap (λ v. put_before v (joined us)) (one refl) ∙ sym (next_to t u (joined us) (sym test))
turn false u t u' t' us ks after all test one two left =
    left.2 ∙ ap (λ v. v ∷ left.0) (two refl).0 ∙ ap (λ vs. t ∷ vs) (all u' left.0 left.1 ∙ ap (λ v. put_before v (joined us)) (two refl).1) ∙ sym (apart t u (joined us) (sym test))

-- what a walk over tokens keeps that makes one of each two side by side
module _ {F : Type 0} (R : F → Token → Token → Bool → F → Token → Token → Type 0)
    (test : (f : F) (u t : Token) (b : Bool) (g : F) (u' t' : Token) → R f u t b g u' t' → b ≡ beside t u)
    (one : (f : F) (u t : Token) (b : Bool) (g : F) (u' t' : Token) → R f u t b g u' t' → b ≡ true → t' ≡ record t { end = u.end })
    (two : (f : F) (u t : Token) (b : Bool) (g : F) (u' t' : Token) → R f u t b g u' t' → b ≡ false → (t' ≡ t) × (u' ≡ u)) where
  from_last : (us : List Token) (f : F) (t : Token) (ks : List Token) → DedupsFrom R f t us ks → ks ≡ joined (t ∷ us)
  from_last [] f t ks left = left
  from_last (u ∷ us) f t ks left =
      let call = left.4 in
      turn left.0 u t left.2 left.3 us ks (λ v vs. DedupsFrom R left.1 v us vs) (λ v vs more. from_last us left.1 v vs more)
      (test f u t left.0 left.1 left.2 left.3 call) (one f u t left.0 left.1 left.2 left.3 call) (two f u t left.0 left.1 left.2 left.3 call) left.5

  pub joins_all : (ts ks : List Token) (f : F) → IsDeduped R f ts ks → ks ≡ joined ts
  joins_all [] ks f left = left.told
  joins_all (t ∷ ts) ks f left = from_last ts f t ks left.told
