-- The steps of code behind `Strings`:
-- Texts in quotes.
use Rattle.std.specs.Prelude.{ℕ, ◌+◌, List, [], ◌∷◌, drop, Bool, false, not, ◌==◌, ◌&&◌, if◌then◌else◌, Option, Some, None, option_map}

-- the text begins with this byte
abbrev pub begins : ℕ → List ℕ → Bool
begins b [] = false
begins b (c ∷ cs) = c == b

abbrev pub longer : Option ℕ → Option ℕ
longer = option_map (λ n. 1 + n)

-- A backslash takes the character behind it along, and a whole line end. Whether the next byte is taken along, too.
abbrev pub takes_next : Bool → ℕ → List ℕ → Bool
takes_next taken b bs = if taken then (b == 13) && begins 10 bs else b == 92

-- The length of the rest of a text in quotes up to the quote that closes it, on one line. The flag: a backslash takes the next byte along.
abbrev pub quoted : ℕ → Bool → List ℕ → Option ℕ
quoted q taken [] = None
quoted q taken (b ∷ bs) =
    if not taken && (b == 10) then None else (if not taken && (b == q) then Some 1 else longer (quoted q (takes_next taken b bs) bs))

-- how many quotes stand in a row, up to this byte
abbrev pub quotes_up_to : ℕ → ℕ → Bool → ℕ → ℕ
quotes_up_to q quotes taken b = if not taken && (b == q) then quotes + 1 else 0

-- The same of a text in three quotes, which may have lines. The number: how many quotes stand right before.
abbrev pub tripled : ℕ → ℕ → Bool → List ℕ → Option ℕ
tripled q quotes taken [] = None
tripled q quotes taken (b ∷ bs) =
    if quotes_up_to q quotes taken b == 3 then Some 1 else longer (tripled q (quotes_up_to q quotes taken b) (takes_next taken b bs) bs)

-- the length of the text in quotes in front, where it is closed
abbrev pub string_len : List ℕ → Option ℕ
string_len [] = None
string_len (q ∷ bs) =
    if begins q bs && begins q (drop 1 bs) then option_map (λ n. 3 + n) (tripled q 0 false (drop 2 bs))
    else option_map (λ n. 1 + n) (quoted q false bs)
