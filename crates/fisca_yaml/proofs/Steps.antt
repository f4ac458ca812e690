-- Steps along the bytes of a line.
use Rattle.std.proofs.Common.{◌≡◌, ℕ, zero, suc, ◌+◌, ◌<◌, ◌≤◌, true, false, List, [], ◌∷◌, length, get_or, take, drop, Some, refl, sym, ap, ap₂, ◌∙◌, arith}
use Rattle.std.proofs.lemmas.List.{at_drop_more}
use Rattle.std.proofs.lemmas.Bool.Decides.{nat_tests}
use Rattle.fisca_yaml_scalars.specs.Scalars.{word, past_word}
use Rattle.fisca_yaml_scalars.specs.Steps.Scalars.{trim_end, may_begin, is_nil}
use Rattle.fisca_yaml.specs.Flow.{plain_flow}
use Rattle.fisca_yaml.specs.Steps.Grouping.{is_sign, is_header}

filled : (bs : List ℕ) (n : ℕ) → 0 < n → n ≤ length bs → is_nil (take n bs) ≡ false
filled [] n h k = absurd (omega arith)
filled (b ∷ bs) zero h k = absurd (omega arith)
filled (b ∷ bs) (suc n) h k = refl

pub plain_some : (bs w rest : List ℕ) (n : ℕ) → 0 < n → n ≤ length bs → may_begin bs ≡ true → word false bs ≡ take n bs → past_word false bs ≡ drop n bs → w ≡ trim_end (take n bs) → rest ≡ drop n bs
    → plain_flow bs ≡ Some (w, rest)
plain_some bs w rest n h k m e f p q =
    let full : is_nil (word false bs) ≡ false = ap is_nil e ∙ filled bs n h k in
    kept m full ∙ ap₂ (λ a b. Some (a, b)) (ap trim_end e ∙ sym p) (f ∙ sym q) where
      kept : may_begin bs ≡ true → is_nil (word false bs) ≡ false → plain_flow bs ≡ Some (trim_end (word false bs), past_word false bs)
      kept m e = rw (m, e) refl

-- the signs behind `|` or `>`
header_going : (b : ℕ) (bs : List ℕ) → is_sign b ≡ true → is_header (b ∷ bs) ≡ is_header bs
header_going b bs e = rw e refl

pub header_more : (bs : List ℕ) (i : ℕ) → i < length bs → is_sign (get_or bs i 0) ≡ true → is_header (drop i bs) ≡ is_header (drop (i + 1) bs)
header_more bs i h e = at_drop_more is_header bs i 0 h ∙ header_going (get_or bs i 0) (drop (i + 1) bs) e

pub sign_ascii : (b : ℕ) → is_sign b ≡ true → b < 128
sign_ascii b e = grind (arith, nat_tests)
