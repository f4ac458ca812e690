-- What texts in quotes say.
use Rattle.std.specs.Prelude.{◌≡◌, ℕ, zero, suc, ◌-◌, List, [], ◌∷◌, ◌++◌, drop, take, length, ◌&&◌, ◌==◌, if◌then◌else◌, Option, Some, None, IsUtf8}
use Rattle.std.specs.List.{prefix_len}
use Rattle.fisca_ast.specs.Strings.{in_comment}
use Rattle.fisca_ast.specs.Strings.{is_quote}
use Rattle.fisca_ast.specs.Steps.Strings.{begins, string_len}

-- the end of a text that is UTF-8, from some byte on
pub record IsEnd (bs : List ℕ) : Type 0 where
  pub text : List ℕ
  pub from : ℕ
  pub utf8 : IsUtf8 text
  pub is : bs ≡ drop from text

-- the text without so many bytes at both ends
abbrev pub within : ℕ → List ℕ → List ℕ
within n t = drop n (take (length t - n) t)

-- what stands in one quote or in three
abbrev pub between_quotes : List ℕ → List ℕ
between_quotes [] = []
between_quotes (q ∷ bs) = if begins q bs && begins q (drop 1 bs) then within 3 (q ∷ bs) else within 1 (q ∷ bs)

abbrev pub said_first : (List ℕ → List ℕ) → List ℕ → Option ℕ → List ℕ
said_first others t (Some n) = between_quotes (take n t) ++ others (drop n t)
said_first others t None = []

-- Texts side by side say one text; blanks, comments and letters in front of them say nothing. The number bounds the pieces: the length
-- of the text is enough.
unfoldable pub said_within : ℕ → List ℕ → List ℕ
said_within zero t = []
said_within (suc n) [] = []
said_within (suc n) (b ∷ bs) =
    if is_quote b then said_first (said_within n) (b ∷ bs) (string_len (b ∷ bs))
    else (if b == 35 then said_within n (drop (prefix_len in_comment bs) bs) else said_within n bs)

-- what stands in the quotes, as it is written: a backslash stands for itself
abbrev pub content : List ℕ → List ℕ
content t = said_within (length t) t
