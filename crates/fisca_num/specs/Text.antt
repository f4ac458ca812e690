-- The text of a number, as a function.
use Rattle.std.proofs.Common.{◌≡◌, ℕ, List, ◌↔◌, sym, subst}
use Rattle.fisca_num.specs.Number.{Number}
use Rattle.fisca_num.specs.Numeral.{IsTextOf}
use Rattle.fisca_num.specs.TextAnswer.{text_answer, text_once}

-- the text that `IsTextOf` allows, the only one (`text_of_law`)
pub text_of : Number → List ℕ
text_of v = (text_answer v).text

pub is_text_of : (v : Number) → IsTextOf (text_of v) v
unfolding text_of
is_text_of v = (text_answer v).is

pub only_text_of : (v : Number) (text : List ℕ) → IsTextOf text v → text ≡ text_of v
only_text_of v text h = text_once text (text_of v) v h (is_text_of v)

pub text_of_law : (v : Number) (text : List ℕ) → IsTextOf text v ↔ (text ≡ text_of v)
text_of_law v text = (only_text_of v text, λ e. subst (λ t. IsTextOf t v) (sym e) (is_text_of v))
