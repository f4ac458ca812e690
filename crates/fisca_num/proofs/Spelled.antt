-- Digits put before a text, one at a time.
use Rattle.std.proofs.Common.{lit<, ◌≡◌, ℕ, suc, ◌+◌, ◌/◌, ◌%◌, ◌^◌, ◌<◌, ◌≤◌, List, [], ◌∷◌, ◌++◌, length, arith, ap, sym, ◌∙◌, append_assoc, length-append}
use Rattle.std.specs.Fmt.{decimal}
use Rattle.std.proofs.lemmas.Fmt.{decimal_step, decimal_digit, length-decimal-le}
use Rattle.std.proofs.Math.Nat.{div-le_self}
use Rattle.fisca_num.specs.Digits.{padded, padded-zero, padded-suc}

-- a digit d goes from the end of a front to the text behind it
moved : (front fuller rest text whole : List ℕ) (d : ℕ) → fuller ≡ front ++ (d ∷ []) → text ≡ d ∷ rest → fuller ++ rest ≡ whole → front ++ text ≡ whole
moved front fuller rest text whole d e f g = rw f (sym (append_assoc front (d ∷ []) rest) ∙ rw (← e) g)

pub next_digit : (n : ℕ) (rest text whole : List ℕ) → 10 ≤ n → n < 2 ^ 64 → text ≡ (48 + n % 10) ∷ rest → decimal n ++ rest ≡ whole → decimal (n / 10) ++ text ≡ whole
next_digit n rest text whole h small e = moved (decimal (n / 10)) (decimal n) rest text whole (48 + n % 10) (decimal_step n h small) e

pub length_next : (n : ℕ) → 10 ≤ n → n < 2 ^ 64 → length (decimal n) ≡ length (decimal (n / 10)) + 1
length_next n h small = ap length (decimal_step n h small) ∙ length-append (decimal (n / 10)) ((48 + n % 10) ∷ [])

pub last_digit : (n : ℕ) (rest text whole : List ℕ) → n < 10 → text ≡ (48 + n) ∷ rest → decimal n ++ rest ≡ whole → text ≡ whole
last_digit n rest text whole h e f = e ∙ ap (λ l. l ++ rest) (sym (decimal_digit n h)) ∙ f

pub next_place : (k j n : ℕ) (rest text whole : List ℕ) → k ≡ suc j → text ≡ (48 + n % 10) ∷ rest → padded k n ++ rest ≡ whole → padded j (n / 10) ++ text ≡ whole
next_place k j n rest text whole count e = moved (padded j (n / 10)) (padded k n) rest text whole (48 + n % 10) (ap (λ i. padded i n) count ∙ padded-suc j n) e

pub no_place : (k n : ℕ) (text whole : List ℕ) → k ≡ 0 → padded k n ++ text ≡ whole → text ≡ whole
no_place k n text whole e f = ap (λ l. l ++ text) (sym (ap (λ i. padded i n) e ∙ padded-zero n)) ∙ f

pub decimal_short : (n : ℕ) → n < 2 ^ 63 → length (decimal n) ≤ 19
decimal_short n h = length-decimal-le 19 n (lit< tt) (omega arith) (omega arith)

pub quotient_short : (n d : ℕ) → n < 2 ^ 63 → length (decimal (n / d)) ≤ 19
quotient_short n d h = decimal_short (n / d) (omega (arith, div-le_self n d))

pub length_pair : (n : ℕ) → 100 ≤ n → n < 2 ^ 64 → length (decimal n) ≡ length (decimal (n / 100)) + 2
length_pair n h small =
    let e : n / 10 / 10 ≡ n / 100 = omega arith in
    let one = length_next n (omega arith) small in
    let two = length_next (n / 10) (omega arith) (omega arith) in
    omega (arith, one, two, ap (λ m. length (decimal m)) e)

pub next_pair : (n : ℕ) (rest one two whole : List ℕ) → 100 ≤ n → n < 2 ^ 64 → one ≡ (48 + n % 100 % 10) ∷ rest → two ≡ (48 + n % 100 / 10) ∷ one → decimal n ++ rest ≡ whole → decimal (n / 100) ++ two ≡ whole
next_pair n rest one two whole h small e f g =
    let low : n % 100 % 10 ≡ n % 10 = omega arith in
    let high : n % 100 / 10 ≡ n / 10 % 10 = omega arith in
    let quotient : n / 10 / 10 ≡ n / 100 = omega arith in
    rw quotient at (next_digit (n / 10) one two whole (omega arith) (omega arith) (rw high at f) (next_digit n rest one whole (omega arith) small (rw low at e) g))

pub last_pair : (n : ℕ) (rest one two whole : List ℕ) → 10 ≤ n → n < 100 → one ≡ (48 + n % 10) ∷ rest → two ≡ (48 + n / 10) ∷ one → decimal n ++ rest ≡ whole → two ≡ whole
last_pair n rest one two whole h small e f g = last_digit (n / 10) one two whole (omega arith) f (next_digit n rest one whole h (omega arith) e g)
