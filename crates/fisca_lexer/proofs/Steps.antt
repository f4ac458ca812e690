-- One turn of the reader of tokens.
use Rattle.std.proofs.Common.{◌≡◌, ℕ, ◌-◌, ◌<◌, ◌≤◌, zero, suc, List, [], ◌∷◌, ◌++◌, length, refl, ap, ◌∙◌, arith, append_assoc}
use Rattle.std.specs.Prelude.{Ok, Err, Some, None}
use Rattle.fisca_lexer.specs.declared.token.Token.{Token}
use Rattle.fisca_lexer.specs.declared.layout.Layout.{Layout}
use Rattle.fisca_lexer.specs.Tokens.{Lexed, put, in_front, behind, after_piece, tokens_from}
use Rattle.fisca_lexer.specs.Steps.Pieces.{front}

pub put_more : (old new : List Token) (t : Token) → new ≡ old ++ t ∷ [] → (o : Lexed) → behind new o ≡ behind old (in_front t o)
put_more old new t e (Ok us) = ap (λ ts. Ok (ts ++ us)) e ∙ ap Ok (append_assoc old (t ∷ []) us)
put_more old new t e (Err f) = refl

-- the next piece
pub turn : (n at : ℕ) (l : Layout) (text : List ℕ) → 0 < n → 0 < length text → tokens_from n at l text ≡ after_piece (tokens_from (n - 1)) at l text (front text)
unfolding tokens_from
turn n at l [] some more = absurd (omega arith)
turn zero at l (b ∷ bs) some more = absurd (omega arith)
turn (suc n) at l (b ∷ bs) some more = let same : n ≡ suc n - 1 = omega arith in ap (λ m. after_piece (tokens_from m) at l (b ∷ bs) (front (b ∷ bs))) same

pub no_turn : (n at : ℕ) (l : Layout) (text : List ℕ) → length text ≤ 0 → tokens_from n at l text ≡ Ok []
unfolding tokens_from
no_turn n at l [] none = refl
no_turn n at l (b ∷ bs) none = absurd (omega arith)

pub no_front : (o : Lexed) → o ≡ behind [] o
no_front (Ok us) = refl
no_front (Err f) = refl
