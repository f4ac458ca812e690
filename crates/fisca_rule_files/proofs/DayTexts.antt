-- Writing days.
use Rattle.std.proofs.Common.{◌≡◌, ℕ, ◌+◌, ◌-◌, List, [], ◌∷◌, ◌++◌, length, replicate, codes, if◌then◌else◌, Result, Ok, Err, OnOk, ap, ◌∙◌, append_assoc, refl}
use Rattle.std.proofs.lemmas.List.{replicate_more}
use Rattle.std.specs.Fmt.{decimal}
use Rattle.std.specs.Result.{is_ok}
use Rattle.fisca_time.specs.Instant.{CivilDate}
use Rattle.fisca_time.specs.PeriodText.{date_text, digits_to, month_text}

-- one zero more
pub zero_more : (text before after : List ℕ) (n : ℕ) → after ≡ before ++ 48 ∷ [] → before ≡ text ++ replicate n 48 → after ≡ text ++ replicate (n + 1) 48
zero_more text before after n last is =
    last ∙ ap (λ b. b ++ 48 ∷ []) is ∙ append_assoc text (replicate n 48) (48 ∷ []) ∙ ap (λ zeros. text ++ zeros) (replicate_more n 48)

-- the digits stand behind the zeros
pub padded : {E : Type 0} (result : Result (Unit {0}) E) (text before after digits : List ℕ) (width number zeros : ℕ) → digits ≡ decimal number → zeros ≡ width - length digits
    → before ≡ text ++ replicate zeros 48 → after ≡ (if is_ok result then before ++ digits else before) → OnOk result (after ≡ text ++ digits_to width number)
padded (Ok x) text before after digits width number many are count is last =
    last ∙ ap (λ b. b ++ digits) is ∙ append_assoc text (replicate many 48) digits
    ∙ ap (λ n. text ++ (replicate n 48 ++ digits)) count ∙ ap (λ ds. text ++ (replicate (width - length ds) 48 ++ ds)) are
padded (Err e) text before after digits width number many are count is last = tt

-- two pieces behind a text, with a dash between
dashed : (text first behind dash whole second : List ℕ) → behind ≡ text ++ first → dash ≡ behind ++ codes "-" → whole ≡ dash ++ second → whole ≡ text ++ (first ++ codes "-" ++ second)
dashed text first behind dash whole second is then_dash last = last ∙ rw (then_dash, is) (simp append_assoc)

-- a day behind a text
pub date_behind : (d : CivilDate) (y m n : ℕ) (text a b c e whole : List ℕ) → y ≡ d.year → m ≡ d.month → n ≡ d.day
    → a ≡ text ++ digits_to 4 y → b ≡ a ++ codes "-" → c ≡ b ++ digits_to 2 m → e ≡ c ++ codes "-" → whole ≡ e ++ digits_to 2 n → whole ≡ text ++ date_text d
date_behind d y m n text a b c e whole year month day first dash second last_dash last =
    dashed text (month_text y m) c e whole (digits_to 2 n) (dashed text (digits_to 4 y) a b c (digits_to 2 m) first dash second) last_dash last
    ∙ rw (year, month, day) refl
