-- One turn of the reader's loops.
use Rattle.std.proofs.Common.{◌≡◌, ℕ, ◌+◌, ◌-◌, ◌<◌, ◌≤◌, zero, suc, List, length, true, false, refl, sym, ap, ◌∙◌, arith}
use Rattle.std.specs.Prelude.{Ok, Err, ◌&&◌, if◌then◌else◌, nat_lt}
use Rattle.std.proofs.lemmas.Bool.{lt-ltb, le-ltb}
use Rattle.fisca_expr_parser.specs.declared.sign.Sign.{Sign}
use Rattle.fisca_ast.specs.declared.fault.FormulaKind.TheVariants as kind
use Rattle.fisca_expr_parser.specs.Steps.Marks.{tightness}
use Rattle.fisca_expr_parser.specs.declared.refusal.ParseRefusal.{ParseRefusal}
use Rattle.fisca_lexer.specs.declared.token.Mark.{Mark}
use Rattle.fisca_lexer.specs.declared.token.Mark.TheVariants as mark
use Rattle.fisca_expr_parser.specs.declared.mode.Place.{Place}
use Rattle.fisca_expr_parser.specs.declared.mode.Mode.{Mode}
use Rattle.fisca_ast.specs.declared.tree.Argument.{Argument as Given}
use Rattle.fisca_ast.specs.Tree.{Tree, Series, Argument, nothing, last, next, height}
use Rattle.fisca_expr_parser.specs.Steps.Spelling.{place_behind, takes_many}
use Rattle.fisca_ast.specs.Views.{before}
use Rattle.fisca_expr_parser.specs.Reading.{Outcome, Reader, and_then, pure, tail, joint_ahead, argument, series, joined, climb, expression, reads}
use Rattle.fisca_expr_parser.specs.Steps.Reading.{begins}
use Rattle.fisca_expr_parser.proofs.Steps.{fine}
use Rattle.fisca_expr_parser.proofs.Only.{taken, left_out}

pub deeper : {X : Type 0} (f : ℕ → X) (n : ℕ) → 0 < n → f n ≡ f (suc (n - 1))
deeper f n some = let e : n ≡ suc (n - 1) = omega arith in ap f e

module _ (inner : ℕ → Reader Tree) (limit least : ℕ) (left : Tree) (ts : List Sign) where
  pub climb_stop : (n : ℕ) → tightness (joint_ahead ts) < least → climb inner limit least n left ts ≡ Ok (left, ts)
  unfolding climb
  climb_stop zero below = taken (nat_lt (tightness (joint_ahead ts)) least) _ _ (lt-ltb (tightness (joint_ahead ts)) least below)
  climb_stop (suc n) below = taken (nat_lt (tightness (joint_ahead ts)) least) _ _ (lt-ltb (tightness (joint_ahead ts)) least below)

  pub climb_deep : (n : ℕ) → least ≤ tightness (joint_ahead ts) → limit ≤ height left → climb inner limit least n left ts ≡ Err (record { left = length ts; kind = kind.TooDeep })
  unfolding climb
  climb_deep zero on high = left_out (nat_lt (tightness (joint_ahead ts)) least) _ _ (le-ltb (tightness (joint_ahead ts)) least on)
  climb_deep (suc n) on high = left_out (nat_lt (tightness (joint_ahead ts)) least) _ _ (le-ltb (tightness (joint_ahead ts)) least on) ∙ left_out (nat_lt (height left) limit) _ _ (le-ltb (height left) limit high)

  pub climb_more : (n : ℕ) → least ≤ tightness (joint_ahead ts) → height left < limit → limit ≤ n + height left → climb inner limit least n left ts ≡ and_then (joined inner (joint_ahead ts) left (tail ts)) (climb inner limit least (n - 1))
  unfolding climb
  climb_more n on room fuel =
      deeper (λ n. climb inner limit least n left ts) n (omega arith)
      ∙ left_out (nat_lt (tightness (joint_ahead ts)) least) _ _ (le-ltb (tightness (joint_ahead ts)) least on) ∙ taken (nat_lt (height left) limit) _ _ (lt-ltb (height left) limit room)

module _ (inner : ℕ → Reader Tree) (p : Place) (end : Mark) (ts : List Sign) (n : ℕ) (more : 0 < n) where
  pub series_end : (begins end ts && takes_many p) ≡ true → series inner p end n ts ≡ Ok (nothing, ts)
  unfolding series
  series_end e = deeper (λ n. series inner p end n ts) n more ∙ taken (begins end ts && takes_many p) _ _ e

  abbrev rest_of : ℕ → Argument → Reader Series
  rest_of n a = λ rest. if begins mark.Comma rest && takes_many p then and_then (series inner (place_behind p a) end n (tail rest)) (λ xs. pure (next a xs)) else Ok (last a, rest)

  pub series_fail : (r : ParseRefusal) → (begins end ts && takes_many p) ≡ false → argument inner p ts ≡ Err r → series inner p end n ts ≡ Err r
  unfolding series
  series_fail r e fails = deeper (λ n. series inner p end n ts) n more ∙ left_out (begins end ts && takes_many p) _ _ e ∙ ap (λ o. and_then o (rest_of (n - 1))) fails

  pub series_last : (a : Argument) (rest : List Sign) → (begins end ts && takes_many p) ≡ false → argument inner p ts ≡ Ok (a, rest) → (begins mark.Comma rest && takes_many p) ≡ false → series inner p end n ts ≡ Ok (last a, rest)
  unfolding series
  series_last a rest e found apart = deeper (λ n. series inner p end n ts) n more ∙ left_out (begins end ts && takes_many p) _ _ e ∙ ap (λ o. and_then o (rest_of (n - 1))) found ∙ left_out (begins mark.Comma rest && takes_many p) _ _ apart

  pub series_next : (a : Argument) (rest : List Sign) → (begins end ts && takes_many p) ≡ false → argument inner p ts ≡ Ok (a, rest) → (begins mark.Comma rest && takes_many p) ≡ true
      → series inner p end n ts ≡ and_then (series inner (place_behind p a) end (n - 1) (tail rest)) (λ xs. pure (next a xs))
  unfolding series
  series_next a rest e found comma = deeper (λ n. series inner p end n ts) n more ∙ left_out (begins end ts && takes_many p) _ _ e ∙ ap (λ o. and_then o (rest_of (n - 1))) found ∙ taken (begins mark.Comma rest && takes_many p) _ _ comma

pub before_next : (o : Outcome Series) (old new : List Given) (a : Argument) → ((more : Series) → before new more ≡ before old (next a more))
    → and_then (and_then o (λ xs. pure (next a xs))) (λ xs. pure (before old xs)) ≡ and_then o (λ xs. pure (before new xs))
before_next (Ok x) old new a e = ap (λ s. fine (s, x.1)) (sym (e x.0))
before_next (Err r) old new a e = refl

pub reads_within : (md : Mode) (d least : ℕ) (ts : List Sign) → 0 < d → reads md d least ts ≡ expression (reads md (d - 1)) md d least ts
unfolding reads
reads_within md zero least ts some = absurd (omega arith)
reads_within md (suc k) least ts some = let same : k ≡ suc k - 1 = omega arith in ap (λ m. expression (reads md m) md (suc k) least ts) same
