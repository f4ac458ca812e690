-- What lines declare is read.
use Rattle.std.proofs.Common.{◌≡◌, ◌<◌, ◌≤◌, ℕ, zero, suc, List, [], ◌∷◌, ◌++◌, length, Bool, true, false, Option, Some, None, refl, sym, ap, subst, ◌∙◌, arith, append_assoc, length-append}
use Rattle.std.specs.Prelude.{Ok, nat_lt}
use Rattle.std.proofs.lemmas.Bool.{ltb-false, ltb-true}
use Rattle.fisca_parser.specs.Lines.{Line}
use Rattle.fisca_parser.specs.Reading.{Reader, next_at, deeper, block, below}
use Rattle.fisca_parser.specs.Grammar.{IsBlock, over, more, IsBelow}
use Rattle.fisca_parser.proofs.Found.{Ends}

pub below_test : (a b : ℕ) → a < b → nat_lt a b ≡ true
below_test a b e = by (nat_lt a b) refl where
  by : (t : Bool) → nat_lt a b ≡ t → nat_lt a b ≡ true
  by true p = p
  by false p = let h : b ≤ a = ltb-false a b p in absurd (omega arith)

above_test : (a b : ℕ) → b ≤ a → nat_lt a b ≡ false
above_test a b e = by (nat_lt a b) refl where
  by : (t : Bool) → nat_lt a b ≡ t → nat_lt a b ≡ false
  by true p = let h : a < b = ltb-true a b p in absurd (omega arith)
  by false p = p

pub next-ends : (i : ℕ) (ls : List Line) → Ends i ls → next_at i ls ≡ Ok (None, ls)
next-ends i [] e = refl
next-ends i (l ∷ ls) e = rw (below_test l.indent i e) refl

pub next-at : (i : ℕ) (l : Line) (ls : List Line) → l.indent ≡ i → next_at i (l ∷ ls) ≡ Ok (Some l, ls)
next-at i l ls e = rw (above_test l.indent i (omega arith), above_test i l.indent (omega arith)) refl

-- what follows a line with the lines of its own is no deeper
abbrev pub Stops : ℕ → List Line → Type 0
Stops i [] = Unit {0}
Stops i (l ∷ ls) = l.indent ≤ i

-- and so it ends a deeper block
pub ends_deeper : (i j : ℕ) (rest : List Line) → i < j → Stops i rest → Ends j rest
ends_deeper i j [] low s = tt
ends_deeper i j (r ∷ rest) low s = omega arith

-- a reader of a line takes all the lines that belong to it
abbrev pub Complete : {A : Type 0} → (Line → List Line → Option A → Type 0) → (Line → Reader (Option A)) → Type 0
Complete {A} IsOne one = (l : Line) (own rest : List Line) (x : Option A) → IsOne l own x → Stops l.indent rest → one l (own ++ rest) ≡ Ok (x, rest)

module _ {A : Type 0} (i : ℕ) (IsOne : Line → List Line → Option A → Type 0) (one : Line → Reader (Option A)) (all : Complete IsOne one) where
  stops-behind : (ls rest : List Line) → Ends i rest → Stops i rest
  stops-behind ls [] e = tt
  stops-behind ls (l ∷ rest) e = omega arith

  stops : {ls : List Line} {xs : List A} → IsBlock i IsOne ls xs → (rest : List Line) → Ends i rest → Stops i (ls ++ rest)
  stops over rest e = stops-behind [] rest e
  stops (more l own others x xs at is b) rest e = omega arith

  pub block-read : {ls : List Line} {xs : List A} → IsBlock i IsOne ls xs → (rest : List Line) (n : ℕ) → Ends i rest → length ls ≤ n → block i one n (ls ++ rest) ≡ Ok (xs, rest)
  unfolding block
  block-read over rest zero e low = refl
  block-read over rest (suc n) e low = rw (next-ends i rest e) refl
  block-read (more l own others x xs at is b) rest zero e low = absurd (omega arith)
  block-read (more l own others x xs at is b) rest (suc n) e low =
      let joined : (own ++ others) ++ rest ≡ own ++ (others ++ rest) = append_assoc own others rest in
      let stop : Stops l.indent (others ++ rest) = subst (λ i. Stops i (others ++ rest)) (sym at) (stops b rest e) in
      let one-read : one l ((own ++ others) ++ rest) ≡ Ok (x, others ++ rest) = ap (one l) joined ∙ all l own (others ++ rest) x is stop in
      let fewer : length others ≤ n = omega (arith, length-append own others) in
      let again : block i one n (others ++ rest) ≡ Ok (xs, rest) = block-read b rest n e fewer in
      rw (next-at i l ((own ++ others) ++ rest) at, one-read, again) refl

module _ {A : Type 0} (IsOne : Line → List Line → Option A → Type 0) (one : Line → Reader (Option A)) (all : Complete IsOne one) (end : ℕ) where
  pub below-read : (l : Line) (own rest : List Line) (xs : List A) → IsBelow IsOne l own xs → Stops l.indent rest → below end l.indent one (own ++ rest) ≡ Ok (xs, rest)
  below-read l own rest xs is s =
      let k = is.first in
      let whole : own ++ rest ≡ k ∷ (is.others ++ rest) = ap (λ ls. ls ++ rest) is.lines in
      let deep : deeper end l.indent (own ++ rest) ≡ Ok (k.indent, own ++ rest) =
      ap (deeper end l.indent) whole ∙ rw (below_test l.indent k.indent is.deeper) (ap (λ ls. Ok (k.indent, ls)) (sym whole)) in
      let read : block k.indent one (length (own ++ rest)) (own ++ rest) ≡ Ok (xs, rest) =
      block-read k.indent IsOne one all is.block rest (length (own ++ rest)) (ends_deeper l.indent k.indent rest is.deeper s) (omega (arith, length-append own rest)) in
      rw (deep, read) refl
