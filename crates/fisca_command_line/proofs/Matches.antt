-- What the matches of a command say.
use Rattle.std.proofs.Common.{◌≡◌, ℕ, List, Option, Some, None, Result, map, option_map, unwrap_or, refl, subst}
use Rattle.std.specs.Str.Parse.{ParsesUnsigned, ExplainsUnsignedError, HasUnsignedDigitsIfOk}
use Rattle.std.specs.declared.num.ParseIntError.{ParseIntError}
use Rattle.clap.specs.Matches.{ReadsOne, one_text}
use Rattle.clap.specs.Walk.{Text, one_of, rows_of}
use Rattle.clap.specs.declared.parser.matches.Found.{Found}
use Rattle.clap.proofs.WalkLemmas.{one_text-rows}
use Rattle.fisca_command_line.specs.Asked.{IsOptionalNumber}
use denote.Ref.{Bor}

-- the text of an option, or another
pub text_or : (text : Option (Bor (List ℕ))) (other : Bor (List ℕ)) → (unwrap_or text other).now ≡ unwrap_or (option_map (λ t. t.now) text) other.now
text_or None other = refl
text_or (Some text) other = refl

-- the texts of an option, or others
pub texts_or : (texts : Option (Bor (List (Bor (List ℕ))))) (others : Bor (List (Bor (List ℕ))))
    → map (λ t. t.now) (unwrap_or texts others).now ≡ unwrap_or (option_map (λ s. map (λ t. t.now) s.now) texts) (map (λ t. t.now) others.now)
texts_or None others = refl
texts_or (Some texts) others = refl

-- what std says of a number that is read from a text
abbrev IsRead : List ℕ → Result ℕ ParseIntError → Type 0
IsRead text r = ParsesUnsigned 64 10 text r × ExplainsUnsignedError 10 text r × HasUnsignedDigitsIfOk text r

read_weaker : (text : List ℕ) (r : Option ℕ) → ReadsOne IsRead text r → ReadsOne {E = ParseIntError} (ParsesUnsigned 64 10) text r
read_weaker text (Some v) h = h.0
read_weaker text None h = (h.0, h.1.0)

-- what `get_one` gives of a number
pub number_read : (found : Found) (id : Text) (r : Option ℕ) → (one_text found id ≡ None → r ≡ None) → ((text : List ℕ) → one_text found id ≡ Some text → ReadsOne IsRead text r) → IsOptionalNumber (one_of id (rows_of found)) r
number_read found id r none value = subst (λ (o : Option Text). IsOptionalNumber o r) (one_text-rows found id) (read (one_text found id) refl)
  where
    read : (o : Option Text) → one_text found id ≡ o → IsOptionalNumber o r
    read None e = none e
    read (Some text) e = read_weaker text r (value text e)
