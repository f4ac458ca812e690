-- Each text has just one list of parts that it is written of.
use Rattle.std.proofs.Common.{◌≡◌, ◌↔◌, ℕ, Bool, true, false, cond, eqb, List, [], ◌∷◌, ◌++◌, Option, Some, None, refl, ap, ap₂, ◌∙◌, sym, subst}
use Rattle.std.proofs.lemmas.Bool.{eq-eqb, eqb-true, or_from, or_parts, true≢false}
use Rattle.std.proofs.lemmas.List.{append_assoc}
use Rattle.std.proofs.lemmas.List.Folds.{list_any-append}
use Rattle.fisca_columns.specs.Written.{Parts, behind, has_sign, has_sign_in, IsWritten, at_sign, number_sign}
use Rattle.fisca_columns.specs.Steps.Written.{cut, parts_of}

abbrev Cut : Type 0
Cut = List ℕ × Option (List ℕ)

abbrev marked : ℕ → Option (List ℕ) → List ℕ
marked sign o = behind (sign ∷ []) o

abbrev step : Bool → ℕ → List ℕ → Cut → Cut
step t b bs c = cond t ([], Some bs) (b ∷ c.0, c.1)

-- what stands before a sign is cut off there

cut_on : (t : Bool) (b : ℕ) (bs : List ℕ) (c d : Cut) → t ≡ false → c ≡ d → step t b bs c ≡ (b ∷ d.0, d.1)
cut_on true b bs c d h e = absurd (true≢false h)
cut_on false b bs c d h e = ap (step false b bs) e

at_sign_by : (t : Bool) (b : ℕ) (bs : List ℕ) (c : Cut) → t ≡ true → step t b bs c ≡ ([], Some bs)
at_sign_by true b bs c h = refl
at_sign_by false b bs c h = absurd (true≢false (sym h))

cut_before : (sign : ℕ) (front : List ℕ) (o : Option (List ℕ)) → has_sign sign front ≡ false → cut sign (front ++ marked sign o) ≡ (front, o)
cut_before sign [] None h = refl
cut_before sign [] (Some t) h = at_sign_by (eqb sign sign) sign t (cut sign t) (eq-eqb sign sign refl)
cut_before sign (b ∷ bs) o h =
    let parts = or_parts (eqb b sign) (has_sign sign bs) h in
    cut_on (eqb b sign) b (bs ++ marked sign o) (cut sign (bs ++ marked sign o)) (bs, o) parts.0 (cut_before sign bs o parts.1)

clear_marked : (sign other : ℕ) (o : Option (List ℕ)) → eqb other sign ≡ false → has_sign_in sign o ≡ false → has_sign sign (marked other o) ≡ false
clear_marked sign other None apart h = refl
clear_marked sign other (Some t) apart h = or_from (eqb other sign) (has_sign sign t) apart h

clear_both : (sign : ℕ) (s t : List ℕ) → has_sign sign s ≡ false → has_sign sign t ≡ false → has_sign sign (s ++ t) ≡ false
clear_both sign s t h k = list_any-append (λ c. eqb c sign) s t ∙ or_from (has_sign sign s) (has_sign sign t) h k

abbrev from_cuts : Cut → Cut → Parts
from_cuts front name = record { name = name.0; index = name.1; period = front.1 }

read_of : (text : List ℕ) (w : Parts) → IsWritten text w → parts_of text ≡ w
read_of text w h =
    let front = w.name ++ marked number_sign w.index in
    let clear = clear_both at_sign w.name (marked number_sign w.index) h.name_has_no_period (clear_marked at_sign number_sign w.index refl h.index_ends) in
    let whole : text ≡ front ++ marked at_sign w.period = h.whole ∙ sym (append_assoc w.name (marked number_sign w.index) (marked at_sign w.period)) in
    let first : cut at_sign text ≡ (front, w.period) = ap (cut at_sign) whole ∙ cut_before at_sign front w.period clear in
    let second : cut number_sign (cut at_sign text).0 ≡ (w.name, w.index) = ap (λ c. cut number_sign c.0) first ∙ cut_before number_sign w.name w.index h.name_ends in
    ap₂ from_cuts first second

-- a cut text is what was before the sign, and what was behind it

whole_by : (t : Bool) (sign b : ℕ) (bs : List ℕ) (c : Cut) → (t ≡ true → b ≡ sign) → c.0 ++ marked sign c.1 ≡ bs → (step t b bs c).0 ++ marked sign (step t b bs c).1 ≡ b ∷ bs
whole_by true sign b bs c same h = ap (λ d. d ∷ bs) (sym (same refl))
whole_by false sign b bs c same h = ap (λ l. b ∷ l) h

cut_whole : (sign : ℕ) (s : List ℕ) → (cut sign s).0 ++ marked sign (cut sign s).1 ≡ s
cut_whole sign [] = refl
cut_whole sign (b ∷ bs) = whole_by (eqb b sign) sign b bs (cut sign bs) (eqb-true b sign) (cut_whole sign bs)

clear_by : (t : Bool) (sign b : ℕ) (bs : List ℕ) (c : Cut) → eqb b sign ≡ t → has_sign sign c.0 ≡ false → has_sign sign (step t b bs c).0 ≡ false
clear_by true sign b bs c e h = refl
clear_by false sign b bs c e h = or_from (eqb b sign) (has_sign sign c.0) e h

cut_clear : (sign : ℕ) (s : List ℕ) → has_sign sign (cut sign s).0 ≡ false
cut_clear sign [] = refl
cut_clear sign (b ∷ bs) = clear_by (eqb b sign) sign b bs (cut sign bs) refl (cut_clear sign bs)

clear_behind : (sign other : ℕ) (o : Option (List ℕ)) → has_sign sign (marked other o) ≡ false → has_sign_in sign o ≡ false
clear_behind sign other None h = refl
clear_behind sign other (Some t) h = (or_parts (eqb other sign) (has_sign sign t) h).1

written_by_parts : (text : List ℕ) → IsWritten text (parts_of text)
written_by_parts text =
    let front = (cut at_sign text).0 in
    let name = cut number_sign front in
    let clear : has_sign at_sign (name.0 ++ marked number_sign name.1) ≡ false = ap (has_sign at_sign) (cut_whole number_sign front) ∙ cut_clear at_sign text in
    let both = or_parts (has_sign at_sign name.0) (has_sign at_sign (marked number_sign name.1)) (sym (list_any-append (λ c. eqb c at_sign) name.0 (marked number_sign name.1)) ∙ clear) in
    record {
      whole = sym (sym (append_assoc name.0 (marked number_sign name.1) (marked at_sign (cut at_sign text).1))
          ∙ ap (λ s. s ++ marked at_sign (cut at_sign text).1) (cut_whole number_sign front) ∙ cut_whole at_sign text);
      name_ends = cut_clear number_sign front;
      name_has_no_period = both.0;
      index_ends = clear_behind at_sign number_sign name.1 both.1;
    }

pub written_once : (text : List ℕ) (w : Parts) → IsWritten text w ↔ (parts_of text ≡ w)
written_once text w = (read_of text w, λ e. subst (IsWritten text) e (written_by_parts text))
