-- The tokens of a text stand between characters of it.
use Rattle.std.proofs.Common.{◌≡◌, ℕ, zero, suc, ◌+◌, ◌^◌, ◌≤◌, List, [], ◌∷◌, length, drop, Bool, true, false, nat_lt, if◌then◌else◌, Option, Some, None, Result, Ok, Err, refl, sym, ap, subst, ◌∙◌, arith, drop-drop, IsUtf8, IsCharBoundary}
use Rattle.std.proofs.lemmas.Str.{IsUtf8-drop, IsCharBoundary-start, IsCharBoundary-from_rest}
use Rattle.std.specs.Prelude.{⊤}
use Rattle.fisca_ast.specs.declared.fault.FormulaKind.{FormulaKind}
use Rattle.fisca_ast.specs.declared.fault.FormulaKind.TheVariants as kind
use Rattle.fisca_ast.specs.declared.fault.FormulaFault.{FormulaFault}
use Rattle.fisca_lexer.specs.declared.layout.Layout.{Layout}
use Rattle.fisca_lexer.specs.declared.token.Class.{Class}
use Rattle.fisca_lexer.specs.declared.token.Form.{Form}
use Rattle.fisca_lexer.specs.declared.token.Form.TheVariants as form
use Rattle.fisca_lexer.specs.declared.token.Piece.{Piece}
use Rattle.fisca_lexer.specs.declared.token.Token.{Token}
use Rattle.fisca_lexer.specs.Cuts.{IsCut, AreCut}
use Rattle.fisca_lexer.specs.Layout.{Step, start, step_of, stepped, begun, at_line}
use Rattle.fisca_lexer.specs.Steps.Pieces.{front}
use Rattle.fisca_lexer.specs.Steps.Texts.{beside}
use Rattle.fisca_lexer.specs.Steps.Tokens.{tokens}
use Rattle.fisca_lexer.specs.Texts.{put_before, joined}
use Rattle.fisca_lexer.specs.Tokens.{Lexed, in_front, put, after_step, after_piece, tokens_from}
use Rattle.fisca_lexer.proofs.CutPieces.{IsCutBehind, front_behind}

abbrev IsLexedFrom : List ℕ → ℕ → Lexed → Type 0
IsLexedFrom text at (Ok ts) = AreCut text at ts
IsLexedFrom text at (Err f) = ⊤

-- not before a place is not before an earlier one
earlier : (text : List ℕ) (at later : ℕ) (ts : List Token) → at ≤ later → AreCut text later ts → AreCut text at ts
earlier text at later [] le cut = tt
earlier text at later (t ∷ ts) le cut = (omega (arith, le, cut.0), cut.1, cut.2)

lexed_earlier : (text : List ℕ) (at later : ℕ) (o : Lexed) → at ≤ later → IsLexedFrom text later o → IsLexedFrom text at o
lexed_earlier text at later (Ok ts) le cut = earlier text at later ts le cut
lexed_earlier text at later (Err f) le cut = tt

-- One step

-- a token of a step stands between these places
abbrev IsTokenAt : ℕ → ℕ → Option Token → Type 0
IsTokenAt at end (Some t) = (t.start ≡ at) × (t.end ≡ end)
IsTokenAt at end None = ⊤

abbrev IsStepAt : ℕ → ℕ → Step → Type 0
IsStepAt at end (Ok s) = IsTokenAt at end s.0
IsStepAt at end (Err f) = ⊤

token_at_place : (at : ℕ) (l : Layout) (p : Piece) (c : Class) (b : Result (Option ℕ × List ℕ) FormulaFault) → IsStepAt at (at + p.length) (stepped at l p c b)
token_at_place at l p c (Ok b) = (refl, refl)
token_at_place at l p c (Err f) = tt

step_at_place : (at : ℕ) (l : Layout) (p : Piece) (f : Form) → IsStepAt at (at + p.length) (step_of at l p f)
step_at_place at l p (form.Token c) = token_at_place at l p c (begun l.line l.margin l.levels)
step_at_place at l p form.Spaces = tt
step_at_place at l p form.Tabs = tt
step_at_place at l p form.Comment = tt
step_at_place at l p form.LineEnd = tt

with_token : (text : List ℕ) (at : ℕ) (t : Token) (o : Lexed) → at ≤ t.start → IsCut text t → IsLexedFrom text t.end o → IsLexedFrom text at (in_front t o)
with_token text at t (Ok ts) from cut others = (from, cut, others)
with_token text at t (Err f) from cut others = tt

with_step : (text : List ℕ) (at end : ℕ) (t : Option Token) (o : Lexed) → at ≤ end → IsCharBoundary text at → IsCharBoundary text end → IsTokenAt at end t → IsLexedFrom text end o → IsLexedFrom text at (put t o)
with_step text at end (Some t) o le from up_to is rest =
    let cut : IsCut text t = record { ordered = omega (arith, le, is.0, is.1); begins = subst (IsCharBoundary text) (sym is.0) from; ends = subst (IsCharBoundary text) (sym is.1) up_to } in
    with_token text at t o (omega (arith, is.0)) cut (subst (λ n. IsLexedFrom text n o) (sym is.1) rest)
with_step text at end None o le from up_to is rest = lexed_earlier text at end o le rest

behind_step : (text : List ℕ) (at end : ℕ) (others : Layout → Lexed) (s : Step) → at ≤ end → IsCharBoundary text at → IsCharBoundary text end → IsStepAt at end s
    → ((l : Layout) → IsLexedFrom text end (others l)) → IsLexedFrom text at (after_step others s)
behind_step text at end others (Ok s) le from up_to is rest = with_step text at end s.0 (others s.1) le from up_to is (rest s.1)
behind_step text at end others (Err f) le from up_to is rest = tt

-- All steps

cut_from : (n at : ℕ) (l : Layout) (text rest : List ℕ) → IsUtf8 text → IsCharBoundary text at → rest ≡ drop at text → IsLexedFrom text at (tokens_from n at l rest)
unfolding tokens_from
cut_from n at l text [] utf8 cut is = tt
cut_from zero at l text (b ∷ bs) utf8 cut is = tt
cut_from (suc n) at l text (b ∷ bs) utf8 cut is = by (front (b ∷ bs)) (front_behind (b ∷ bs) (subst IsUtf8 (sym is) (IsUtf8-drop text at utf8 cut))) (λ end m rest up_to from. cut_from n end m text rest utf8 up_to from) where
  by : (r : Result Piece FormulaKind) → IsCutBehind (b ∷ bs) r
      → ((end : ℕ) (m : Layout) (rest : List ℕ) → IsCharBoundary text end → rest ≡ drop end text → IsLexedFrom text end (tokens_from n end m rest)) → IsLexedFrom text at (after_piece (tokens_from n) at l (b ∷ bs) r)
  by (Err k) h others = tt
  by (Ok p) h others =
      let up_to : IsCharBoundary text (at + p.length) = IsCharBoundary-from_rest text at p.length cut.0 (subst (λ r. IsCharBoundary r p.length) is h) in
      behind_step text at (at + p.length) (λ m. tokens_from n (at + p.length) m (drop p.length (b ∷ bs))) (step_of at l p p.form) (omega arith) cut up_to (step_at_place at l p p.form)
      (λ m. others (at + p.length) m (drop p.length (b ∷ bs)) up_to (ap (drop p.length) is ∙ drop-drop p.length at text))

-- Texts side by side, made one

put_cut : (text : List ℕ) (at : ℕ) (t : Token) (ts : List Token) → at ≤ t.start → IsCut text t → AreCut text t.end ts → AreCut text at (put_before t ts)
put_cut text at t [] from cut rest = (from, cut, tt)
put_cut text at t (u ∷ us) from cut rest = by (beside t u) where
  by : (c : Bool) → AreCut text at (if c then record t { end = u.end } ∷ us else t ∷ u ∷ us)
  by true = (from, record { ordered = omega (arith, cut.ordered, rest.0, rest.1.ordered); begins = cut.begins; ends = rest.1.ends }, rest.2)
  by false = (from, cut, rest)

joined_cut : (text : List ℕ) (at : ℕ) (ts : List Token) → AreCut text at ts → AreCut text at (joined ts)
joined_cut text at [] cut = tt
joined_cut text at (t ∷ ts) cut = put_cut text at t (joined ts) cut.0 cut.1 (joined_cut text t.end ts cut.2)

pub all_cut : (text : List ℕ) (found : List Token) → IsUtf8 text → tokens text ≡ Ok found → AreCut text 0 (joined found)
all_cut text found utf8 e = joined_cut text 0 found (by (nat_lt (2 ^ 20) (length text)) e) where
  by : (c : Bool) → (if c then Err (at_line 1 kind.TooLong) else tokens_from (length text) 0 start text) ≡ Ok found → AreCut text 0 found
  by true e = cc
  by false e = subst (IsLexedFrom text 0) e (cut_from (length text) 0 start text text utf8 (IsCharBoundary-start text utf8) refl)
