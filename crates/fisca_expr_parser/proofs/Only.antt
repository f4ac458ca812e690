-- What is spelled so is read: a tree whose tokens stand in front is the one that reading finds.
use Rattle.std.proofs.Common.{◌≡◌, ◌≢◌, ℕ, ◌+◌, ◌-◌, ◌<◌, ◌≤◌, zero, suc, List, [], ◌∷◌, ◌++◌, length, Bool, true, false, Some, None, refl, ap, ◌∙◌, arith, append_assoc, length-append}
use Rattle.std.specs.Prelude.{◌&&◌, Ok, Err, if◌then◌else◌, is_some, nat_lt, nat_le}
use Rattle.std.proofs.lemmas.Bool.{lt-ltb, leb-true, le-ltb, and_parts, and_left, and_from}
use Rattle.std.proofs.Math.Dec.{eqb-suc-zero}
use Rattle.fisca_expr_parser.specs.declared.sign.Sign.{Sign}
use Rattle.fisca_expr_parser.specs.declared.sign.Sign.TheVariants as sign
use Rattle.fisca_lexer.specs.declared.token.Mark.{Mark}
use Rattle.fisca_lexer.specs.declared.token.Mark.TheVariants as mark
use Rattle.fisca_expr_parser.specs.declared.marks.Joint.{Joint}
use Rattle.fisca_expr_parser.specs.declared.marks.Joint.TheVariants as joint
use Rattle.fisca_ast.specs.declared.tree.Operator.{Operator}
use Rattle.fisca_ast.specs.declared.tree.Operator.TheVariants as op
use Rattle.fisca_ast.specs.declared.tree.Comparison.{Comparison}
use Rattle.fisca_ast.specs.declared.tree.Comparison.TheVariants as cmp
use Rattle.fisca_ast.specs.declared.tree.Prefix.{Prefix}
use Rattle.fisca_ast.specs.declared.tree.Prefix.TheVariants as pre
use Rattle.fisca_expr_parser.specs.Marks.{operator_mark, comparison_mark, prefix_mark, opening_mark}
use Rattle.fisca_expr_parser.specs.Steps.Marks.{closing_mark, bracket_of, binds, same_mark, joint_of, tightness, comparison_of}
use Rattle.fisca_ast.specs.Steps.Words.{is_name, is_atom}
use Rattle.fisca_expr_parser.specs.declared.mode.Mode.{Mode}
use Rattle.fisca_ast.specs.declared.tree.Delimiter.{Delimiter}
use Rattle.fisca_ast.specs.declared.tree.Delimiter.TheVariants as bracket
use Rattle.fisca_ast.specs.declared.tree.Suffix.{Suffix}
use Rattle.fisca_ast.specs.declared.tree.Suffix.TheVariants as suffix
use Rattle.fisca_expr_parser.specs.declared.mode.Place.{Place}
use Rattle.fisca_expr_parser.specs.declared.mode.Place.TheVariants as place
use Rattle.fisca_ast.specs.Tree.{Tree, Series, Argument, name, number, text, bracketed, attribute, applied, prefixed, binary, compare, nothing, last, next, positional, keyword, entry, height, height_all, height_of}
use Rattle.fisca_expr_parser.specs.Spelling.{spelling, spelling_all, spelling_of, fits, fits_all, fits_in, level}
use Rattle.fisca_expr_parser.specs.Steps.Spelling.{takes_positional, takes_keyword, takes_entry, takes_many, place_behind, place_in, allows, place_behind_suffix}
use Rattle.fisca_expr_parser.specs.Reading.{Outcome, Reader, and_then, pure, tail, joint_ahead, comparison_ahead, keyword_ahead, expect, argument, argument_by, mapped, stop, series, enclosed, opened, operand, joined, climb, unchained, compared, compared_by, expression, reads}
use Rattle.fisca_expr_parser.specs.Steps.Reading.{begins}
use Rattle.fisca_expr_parser.proofs.Steps.{same_self, joint_of-operator, joint_of-opening, comparison_of-mark, joint_of-comparison, beginning_of-opening, beginning_of-prefix}
use Rattle.fisca_expr_parser.proofs.Found.{edge, binds-small, binds-some}

pub height-some : (e : Tree) → 1 ≤ height e
height-some (name t) = omega arith
height-some (number t) = omega arith
height-some (text t) = omega arith
height-some _ = omega arith

pub level-edge : (e : Tree) (k : ℕ) → k ≤ level e → k ≢ 5 → k ≤ 6 → k < edge e
level-edge (compare o a b) k on other most = omega arith
level-edge (binary o a b) k on other most = omega arith
level-edge (prefixed p e) k on other most = omega arith
level-edge _ k on other most = omega arith

pub level-least : (e : Tree) (k : ℕ) → k ≤ level e → k ≤ edge e
level-least (compare o a b) k on = omega arith
level-least (binary o a b) k on = omega arith
level-least (prefixed p e) k on = omega arith
level-least _ k on = omega arith

pub tightness-other : (j : Joint) → tightness j ≢ 5
tightness-other joint.Access e = absurd (omega arith)
tightness-other (joint.Applied s) e = absurd (omega arith)
tightness-other (joint.Operates o) e = absurd (omega (arith, binds-small o))
tightness-other joint.Ends e = absurd (omega arith)

-- nothing goes on behind an expression here
pub record Closed (rest : List Sign) : Type 0 where
  pub joint : joint_ahead rest ≡ joint.Ends
  pub comparison : comparison_ahead rest ≡ None
  pub equal : begins mark.Equal rest ≡ false

pub loose : (rest : List Sign) → Closed rest → tightness (joint_ahead rest) ≡ 0
loose rest c = ap tightness c.joint

-- a mark that closes, and begins no expression
pub record Closer (m : Mark) : Type 0 where
  pub opening : (b : Delimiter) → same_mark (opening_mark b) m ≡ false
  pub prefix : (p : Prefix) → same_mark (prefix_mark p) m ≡ false
  pub joint : joint_of m ≡ joint.Ends
  pub comparison : comparison_of m ≡ None
  pub equal : same_mark m mark.Equal ≡ false
  pub comma : same_mark m mark.Comma ≡ false

close_round : Closer mark.Close
unfolding same_mark
close_round = record { opening = opens; prefix = none; joint = refl; comparison = refl; equal = refl; comma = refl } where
  opens : (b : Delimiter) → same_mark (opening_mark b) mark.Close ≡ false
  opens bracket.Round = refl
  opens bracket.Square = refl
  opens bracket.Curly = refl

  none : (p : Prefix) → same_mark (prefix_mark p) mark.Close ≡ false
  none pre.Plus = refl
  none pre.Minus = refl
  none pre.Not = refl

close_square : Closer mark.CloseList
unfolding same_mark
close_square = record { opening = opens; prefix = none; joint = refl; comparison = refl; equal = refl; comma = refl } where
  opens : (b : Delimiter) → same_mark (opening_mark b) mark.CloseList ≡ false
  opens bracket.Round = refl
  opens bracket.Square = refl
  opens bracket.Curly = refl

  none : (p : Prefix) → same_mark (prefix_mark p) mark.CloseList ≡ false
  none pre.Plus = refl
  none pre.Minus = refl
  none pre.Not = refl

close_curly : Closer mark.CloseMap
unfolding same_mark
close_curly = record { opening = opens; prefix = none; joint = refl; comparison = refl; equal = refl; comma = refl } where
  opens : (b : Delimiter) → same_mark (opening_mark b) mark.CloseMap ≡ false
  opens bracket.Round = refl
  opens bracket.Square = refl
  opens bracket.Curly = refl

  none : (p : Prefix) → same_mark (prefix_mark p) mark.CloseMap ≡ false
  none pre.Plus = refl
  none pre.Minus = refl
  none pre.Not = refl

pub closer : (b : Delimiter) → Closer (closing_mark b)
closer bracket.Round = close_round
closer bracket.Square = close_square
closer bracket.Curly = close_curly

pub closed : (m : Mark) (rest : List Sign) → Closer m → Closed (sign.Mark m ∷ rest)
closed m rest c = record { joint = c.joint; comparison = c.comparison; equal = c.equal }

pub closed-comma : (rest : List Sign) → Closed (sign.Mark mark.Comma ∷ rest)
unfolding same_mark
closed-comma rest = record { joint = refl; comparison = refl; equal = refl }

closed-colon : (rest : List Sign) → Closed (sign.Mark mark.Colon ∷ rest)
unfolding same_mark
closed-colon rest = record { joint = refl; comparison = refl; equal = refl }

opening-equal : (b : Delimiter) → same_mark (opening_mark b) mark.Equal ≡ false
unfolding same_mark
opening-equal bracket.Round = refl
opening-equal bracket.Square = refl
opening-equal bracket.Curly = refl

operator-equal : (o : Operator) → same_mark (operator_mark o) mark.Equal ≡ false
unfolding same_mark
operator-equal op.Or = refl
operator-equal op.And = refl
operator-equal op.Add = refl
operator-equal op.Subtract = refl
operator-equal op.Multiply = refl
operator-equal op.Divide = refl

comparison-equal : (o : Comparison) → same_mark (comparison_mark o) mark.Equal ≡ false
unfolding same_mark
comparison-equal cmp.Less = refl
comparison-equal cmp.LessEqual = refl
comparison-equal cmp.Greater = refl
comparison-equal cmp.GreaterEqual = refl
comparison-equal cmp.Equal = refl
comparison-equal cmp.NotEqual = refl

-- the first sign of an expression, and what follows it
pub not-keyword : (e : Tree) (rest : List Sign) → begins mark.Equal rest ≡ false → keyword_ahead (spelling e ++ rest) ≡ None
unfolding same_mark
not-keyword (name t) rest apart = ap (λ b. if b then Some t else None) apart
not-keyword (number t) rest apart = refl
not-keyword (text t) rest apart = refl
not-keyword (bracketed b xs) rest apart = refl
not-keyword (attribute e t) rest apart = ap keyword_ahead (append_assoc (spelling e) (sign.Mark mark.Dot ∷ sign.Word t ∷ []) rest) ∙ not-keyword e (sign.Mark mark.Dot ∷ sign.Word t ∷ rest) refl
not-keyword (applied s e xs) rest apart =
    let b = bracket_of s in
    ap keyword_ahead (append_assoc (spelling e) (sign.Mark (opening_mark b) ∷ (spelling_all xs ++ sign.Mark (closing_mark b) ∷ [])) rest)
    ∙ not-keyword e (sign.Mark (opening_mark b) ∷ ((spelling_all xs ++ sign.Mark (closing_mark b) ∷ []) ++ rest)) (opening-equal b)
not-keyword (prefixed p e) rest apart = refl
not-keyword (binary o a b) rest apart = ap keyword_ahead (append_assoc (spelling a) (sign.Mark (operator_mark o) ∷ spelling b) rest) ∙ not-keyword a (sign.Mark (operator_mark o) ∷ (spelling b ++ rest)) (operator-equal o)
not-keyword (compare o a b) rest apart = ap keyword_ahead (append_assoc (spelling a) (sign.Mark (comparison_mark o) ∷ spelling b) rest) ∙ not-keyword a (sign.Mark (comparison_mark o) ∷ (spelling b ++ rest)) (comparison-equal o)

pub not-closed : (m : Mark) (e : Tree) (rest : List Sign) → Closer m → begins m (spelling e ++ rest) ≡ false
not-closed m (name t) rest c = refl
not-closed m (number t) rest c = refl
not-closed m (text t) rest c = refl
not-closed m (bracketed b xs) rest c = c.opening b
not-closed m (attribute e t) rest c = ap (begins m) (append_assoc (spelling e) (sign.Mark mark.Dot ∷ sign.Word t ∷ []) rest) ∙ not-closed m e (sign.Mark mark.Dot ∷ sign.Word t ∷ rest) c
not-closed m (applied s e xs) rest c =
    let b = bracket_of s in
    ap (begins m) (append_assoc (spelling e) (sign.Mark (opening_mark b) ∷ (spelling_all xs ++ sign.Mark (closing_mark b) ∷ [])) rest)
    ∙ not-closed m e (sign.Mark (opening_mark b) ∷ ((spelling_all xs ++ sign.Mark (closing_mark b) ∷ []) ++ rest)) c
not-closed m (prefixed p e) rest c = c.prefix p
not-closed m (binary o a b) rest c = ap (begins m) (append_assoc (spelling a) (sign.Mark (operator_mark o) ∷ spelling b) rest) ∙ not-closed m a (sign.Mark (operator_mark o) ∷ (spelling b ++ rest)) c
not-closed m (compare o a b) rest c = ap (begins m) (append_assoc (spelling a) (sign.Mark (comparison_mark o) ∷ spelling b) rest) ∙ not-closed m a (sign.Mark (comparison_mark o) ∷ (spelling b ++ rest)) c

pub not-closed-of : (m : Mark) (a : Argument) (rest : List Sign) → Closer m → begins m (spelling_of a ++ rest) ≡ false
not-closed-of m (positional e) rest c = not-closed m e rest c
not-closed-of m (keyword k e) rest c = refl
not-closed-of m (entry k e) rest c = ap (begins m) (append_assoc (spelling k) (sign.Mark mark.Colon ∷ spelling e) rest) ∙ not-closed m k (sign.Mark mark.Colon ∷ (spelling e ++ rest)) c

-- a keyword comes first only in an argument by keyword
no_positional : (p : Place) → takes_entry p ≡ true → takes_positional p ≡ false
no_positional place.Alone e = cc
no_positional place.InList e = cc
no_positional place.InCall e = cc
no_positional place.BehindKeyword e = cc
no_positional place.InMap e = refl

-- how many turns a series takes
abbrev turns : Series → ℕ
turns nothing = 1
turns (last a) = 1
turns (next a xs) = suc (turns xs)

turns-enough : (xs : Series) → turns xs ≤ suc (length (spelling_all xs))
turns-enough nothing = omega arith
turns-enough (last a) = omega arith
turns-enough (next a xs) = omega (arith, turns-enough xs, length-append (spelling_of a) (sign.Mark mark.Comma ∷ spelling_all xs))

pub record Complete (md : Mode) (d : ℕ) (inner : ℕ → Reader Tree) : Type 0 where
  pub tighter : (least : ℕ) (e : Tree) (rest : List Sign) → 1 ≤ least → least ≤ 5 → fits md e ≡ true → height e ≤ d → least ≤ level e → tightness (joint_ahead rest) < least → inner least (spelling e ++ rest) ≡ Ok (e, rest)
  pub whole : (e : Tree) (rest : List Sign) → fits md e ≡ true → height e ≤ d → Closed rest → inner 0 (spelling e ++ rest) ≡ Ok (e, rest)

-- a test whose answer is known
pub taken : {X : Type 0} (b : Bool) (x y : X) → b ≡ true → (if b then x else y) ≡ x
taken b x y e = ap (λ b. if b then x else y) e

pub left_out : {X : Type 0} (b : Bool) (x y : X) → b ≡ false → (if b then x else y) ≡ y
left_out b x y e = ap (λ b. if b then x else y) e

and_then_and_then : {A B C : Type 0} (p : Outcome A) (f : A → Reader B) (g : B → Reader C) → and_then p (λ a ts. and_then (f a ts) g) ≡ and_then (and_then p f) g
and_then_and_then (Ok x) f g = refl
and_then_and_then (Err e) f g = refl

module _ (md : Mode) (inner : ℕ → Reader Tree) (d : ℕ) (all : Complete md d inner) where
  argument-read : (p : Place) (a : Argument) (rest : List Sign) → fits_in md p a ≡ true → height_of a ≤ d → Closed rest → argument inner p (spelling_of a ++ rest) ≡ Ok (a, rest)
  unfolding argument
  argument-read p (positional e) rest fit low c =
      let f = and_parts (takes_positional p) (fits md e) fit in
      ap (λ o. argument_by inner p o (spelling e ++ rest)) (not-keyword e rest c.equal) ∙ taken (takes_positional p) (and_then (inner 0 (spelling e ++ rest)) (λ e. pure (positional e))) _ f.0
      ∙ ap (λ r. and_then r (λ e. pure (positional e))) (all.whole e rest f.1 low c)
  argument-read p (entry k e) rest fit low c =
      let f = and_parts (takes_entry p) (fits md k && fits md e) fit in
      let g = and_parts (fits md k) (fits md e) f.1 in
      let us = sign.Mark mark.Colon ∷ (spelling e ++ rest) in
      let ts = spelling k ++ us in
      ap (argument inner p) (append_assoc (spelling k) (sign.Mark mark.Colon ∷ spelling e) rest)
      ∙ ap (λ o. argument_by inner p o ts) (not-keyword k us (closed-colon (spelling e ++ rest)).equal)
      ∙ left_out (takes_positional p) (and_then (inner 0 ts) (λ e. pure (positional e))) _ (no_positional p f.0)
      ∙ taken (takes_entry p) (mapped inner ts) _ f.0
      ∙ ap (λ r. and_then r (λ k. λ ts. and_then (expect mark.Colon ts) (λ _. λ ts. and_then (inner 0 ts) (λ e. pure (entry k e))))) (all.whole k us g.0 (omega arith) (closed-colon (spelling e ++ rest)))
      ∙ ap (λ r. and_then r (λ _. λ ts. and_then (inner 0 ts) (λ e. pure (entry k e)))) (taken {X = Outcome (Unit {0})} (same_mark mark.Colon mark.Colon) (Ok (tt, spelling e ++ rest)) _ (same_self mark.Colon))
      ∙ ap (λ r. and_then r (λ e. pure (entry k e))) (all.whole e rest g.1 (omega arith) c)
  argument-read p (keyword k e) rest fit low c =
      let f = and_parts (takes_keyword p && is_name k) (fits md e) fit in
      let ts = sign.Word k ∷ sign.Mark mark.Equal ∷ (spelling e ++ rest) in
      ap (λ o. argument_by inner p o ts) (taken (same_mark mark.Equal mark.Equal) (Some k) None (same_self mark.Equal)) ∙ taken (takes_keyword p && is_name k) (and_then (inner 0 (spelling e ++ rest)) (λ e. pure (keyword k e))) _ f.0
      ∙ ap (λ r. and_then r (λ e. pure (keyword k e))) (all.whole e rest f.1 low c)

  series-read : (p : Place) (m : Mark) (n : ℕ) (xs : Series) (rest : List Sign) → Closer m → turns xs ≤ n → fits_all md p xs ≡ true → height_all xs ≤ d → series inner p m n (spelling_all xs ++ sign.Mark m ∷ rest) ≡ Ok (xs, sign.Mark m ∷ rest)
  unfolding series
  series-read p m zero nothing rest c many fit low = absurd (omega arith)
  series-read p m zero (last a) rest c many fit low = absurd (omega arith)
  series-read p m zero (next a xs) rest c many fit low = absurd (omega arith)
  series-read p m (suc n) nothing rest c many fit low = taken (same_mark m m && takes_many p) _ _ (and_from (same_mark m m) (takes_many p) (same_self m) fit)
  series-read p m (suc n) (last a) rest c many fit low =
      let ts = sign.Mark m ∷ rest in
      left_out (begins m (spelling_of a ++ ts) && takes_many p) _ _ (and_left (begins m (spelling_of a ++ ts)) (takes_many p) (not-closed-of m a ts c))
      ∙ ap (λ r. and_then r (λ a rest. if begins mark.Comma rest && takes_many p then and_then (series inner (place_behind p a) m n (tail rest)) (λ xs. pure (next a xs)) else Ok (last a, rest))) (argument-read p a ts fit low (closed m rest c))
      ∙ left_out (same_mark m mark.Comma && takes_many p) _ _ (and_left (same_mark m mark.Comma) (takes_many p) c.comma)
  series-read p m (suc n) (next a xs) rest c many fit low =
      let h = and_parts (takes_many p) (fits_in md p a && fits_all md (place_behind p a) xs) fit in
      let f = and_parts (fits_in md p a) (fits_all md (place_behind p a) xs) h.1 in
      let us = spelling_all xs ++ sign.Mark m ∷ rest in
      let ts = sign.Mark mark.Comma ∷ us in
      ap (series inner p m (suc n)) (append_assoc (spelling_of a) (sign.Mark mark.Comma ∷ spelling_all xs) (sign.Mark m ∷ rest))
      ∙ left_out (begins m (spelling_of a ++ ts) && takes_many p) _ _ (and_left (begins m (spelling_of a ++ ts)) (takes_many p) (not-closed-of m a ts c))
      ∙ ap (λ r. and_then r (λ a rest. if begins mark.Comma rest && takes_many p then and_then (series inner (place_behind p a) m n (tail rest)) (λ xs. pure (next a xs)) else Ok (last a, rest))) (argument-read p a ts f.0 (omega (arith, low)) (closed-comma us))
      ∙ taken (same_mark mark.Comma mark.Comma && takes_many p) _ _ (and_from (same_mark mark.Comma mark.Comma) (takes_many p) (same_self mark.Comma) h.0)
      ∙ ap (λ r. and_then r (λ xs. pure (next a xs))) (series-read (place_behind p a) m n xs rest c (omega arith) f.1 (omega (arith, low)))

  enclosed-read : (p : Place) (m : Mark) (xs : Series) (rest : List Sign) → Closer m → fits_all md p xs ≡ true → height_all xs ≤ d → enclosed inner p m (spelling_all xs ++ sign.Mark m ∷ rest) ≡ Ok (xs, rest)
  unfolding enclosed
  enclosed-read p m xs rest c fit low =
      let ts = spelling_all xs ++ sign.Mark m ∷ rest in
      ap (λ r. and_then r (λ xs. λ ts. and_then (expect m ts) (λ _. pure xs)))
      (series-read p m (length ts) xs rest c (omega (arith, turns-enough xs, length-append (spelling_all xs) (sign.Mark m ∷ rest))) fit low)
      ∙ ap (λ r. and_then r (λ _. pure xs)) (taken {X = Outcome (Unit {0})} (same_mark m m) (Ok (tt, rest)) _ (same_self m))

  -- one turn of climbing
  climb-turn : (least n : ℕ) (j : Joint) (left : Tree) (ts : List Sign) (x : Tree × List Sign) → joint_ahead ts ≡ j → least ≤ tightness j → height left < suc d → suc d ≤ n + height left → joined inner j left (tail ts) ≡ Ok x
      → climb inner (suc d) least n left ts ≡ climb inner (suc d) least (n - 1) x.0 x.1
  unfolding climb
  climb-turn least n j left ts x ahead enough room fuel e =
      let more : n ≡ suc (n - 1) = omega arith in
      ap (λ n. climb inner (suc d) least n left ts) more
      ∙ left_out (nat_lt (tightness (joint_ahead ts)) least) _ _ (ap (λ j. nat_lt (tightness j) least) ahead ∙ le-ltb (tightness j) least enough)
      ∙ taken (nat_lt (height left) (suc d)) _ _ (lt-ltb (height left) (suc d) room)
      ∙ ap (λ j. and_then (joined inner j left (tail ts)) (climb inner (suc d) least (n - 1))) ahead
      ∙ ap (λ r. and_then r (climb inner (suc d) least (n - 1))) e

  climb-stop : (least n : ℕ) (left : Tree) (ts : List Sign) → tightness (joint_ahead ts) < least → climb inner (suc d) least n left ts ≡ Ok (left, ts)
  unfolding climb
  climb-stop least zero left ts below = taken (nat_lt (tightness (joint_ahead ts)) least) _ _ (lt-ltb (tightness (joint_ahead ts)) least below)
  climb-stop least (suc n) left ts below = taken (nat_lt (tightness (joint_ahead ts)) least) _ _ (lt-ltb (tightness (joint_ahead ts)) least below)

  -- reading has come to the end of this tree
  abbrev start : ℕ → List Sign → Outcome Tree
  start least ts = and_then (operand inner md ts) (climb inner (suc d) least (suc d))

  Reaches : ℕ → Tree → List Sign → Type 0
  Reaches least e rest = (n : ℕ) × (suc d ≤ n + height e) × (start least (spelling e ++ rest) ≡ climb inner (suc d) least n e rest)

  at_once : (least : ℕ) (e : Tree) (rest : List Sign) → operand inner md (spelling e ++ rest) ≡ Ok (e, rest) → Reaches least e rest
  unfolding Reaches
  at_once least e rest read = (suc d, omega arith, ap (λ r. and_then r (climb inner (suc d) least (suc d))) read)

  behind : (least : ℕ) (j : Joint) (left e : Tree) (ts rest : List Sign) → least ≤ tightness j → joint_ahead ts ≡ j → height left < height e → height e ≤ suc d → spelling e ++ rest ≡ spelling left ++ ts
      → joined inner j left (tail ts) ≡ Ok (e, rest) → Reaches least left ts → Reaches least e rest
  unfolding Reaches
  behind least j left e ts rest enough ahead grows low spelled read r =
      (r.0 - 1, omega (arith, r.1), ap (start least) spelled ∙ r.2 ∙ climb-turn least r.0 j left ts (e, rest) ahead enough (omega arith) r.1 read)

  reaches : (e : Tree) (least : ℕ) (rest : List Sign) → 1 ≤ least → least ≤ 5 → fits md e ≡ true → height e ≤ suc d → least ≤ level e → tightness (joint_ahead rest) < edge e → Reaches least e rest
  unfolding operand joined
  reaches (name t) least rest some most fit low on follows = at_once least (name t) rest (taken (is_atom t) _ _ fit)
  reaches (number t) least rest some most fit low on follows = at_once least (number t) rest refl
  reaches (text t) least rest some most fit low on follows = at_once least (text t) rest refl
  reaches (bracketed b xs) least rest some most fit low on follows =
      let f = and_parts (allows md b) (fits_all md (place_in md b) xs) fit in
      at_once least (bracketed b xs) rest (
      ap (λ k. opened inner md k (sign.Mark (opening_mark b) ∷ ((spelling_all xs ++ sign.Mark (closing_mark b) ∷ []) ++ rest))) (beginning_of-opening b)
      ∙ taken (allows md b) (and_then (enclosed inner (place_in md b) (closing_mark b) ((spelling_all xs ++ sign.Mark (closing_mark b) ∷ []) ++ rest)) (λ xs. pure (bracketed b xs))) _ f.0
      ∙ ap (λ ts. and_then (enclosed inner (place_in md b) (closing_mark b) ts) (λ xs. pure (bracketed b xs))) (append_assoc (spelling_all xs) (sign.Mark (closing_mark b) ∷ []) rest)
      ∙ ap (λ r. and_then r (λ xs. pure (bracketed b xs))) (enclosed-read (place_in md b) (closing_mark b) xs rest (closer b) f.1 (omega arith)))
  reaches (prefixed p e) least rest some most fit low on follows =
      let f = and_parts (fits md e) (nat_le 5 (level e)) fit in
      at_once least (prefixed p e) rest (
      ap (λ b. opened inner md b (sign.Mark (prefix_mark p) ∷ (spelling e ++ rest))) (beginning_of-prefix p)
      ∙ ap (λ r. and_then r (λ e. pure (prefixed p e))) (all.tighter 5 e rest (omega arith) (omega arith) f.0 (omega arith) (leb-true 5 (level e) f.1) follows))
  reaches (attribute e t) least rest some most fit low on follows =
      let f = and_parts (fits md e) (nat_le 6 (level e) && is_name t) fit in
      let g = and_parts (nat_le 6 (level e)) (is_name t) f.1 in
      let six : 6 ≤ level e = leb-true 6 (level e) g.0 in
      let ts = sign.Mark mark.Dot ∷ sign.Word t ∷ rest in
      behind least joint.Access e (attribute e t) ts rest (omega arith) refl (omega arith) low (append_assoc (spelling e) (sign.Mark mark.Dot ∷ sign.Word t ∷ []) rest)
      (ap (λ r. and_then r (λ t. pure (attribute e t))) (taken {X = Outcome (List ℕ)} (is_name t) (Ok (t, rest)) _ g.1))
      (reaches e least ts some most f.0 (omega arith) (omega arith) (level-edge e 6 six (λ n. absurd (omega arith)) (omega arith)))
  reaches (applied s e xs) least rest some most fit low on follows =
      let b = bracket_of s in
      let p = place_behind_suffix s in
      let f = and_parts (fits md e) (nat_le 6 (level e) && fits_all md p xs) fit in
      let g = and_parts (nat_le 6 (level e)) (fits_all md p xs) f.1 in
      let six : 6 ≤ level e = leb-true 6 (level e) g.0 in
      let us = spelling_all xs ++ sign.Mark (closing_mark b) ∷ rest in
      let ts = sign.Mark (opening_mark b) ∷ us in
      let ahead : joint_ahead ts ≡ joint.Applied s = joint_of-opening s in
      let tight : tightness (joint_ahead ts) ≡ 6 = ap tightness ahead in
      let inside : (spelling_all xs ++ sign.Mark (closing_mark b) ∷ []) ++ rest ≡ us = append_assoc (spelling_all xs) (sign.Mark (closing_mark b) ∷ []) rest in
      let near : 6 < edge e = level-edge e 6 six (λ n. absurd (omega arith)) (omega arith) in
      behind least (joint.Applied s) e (applied s e xs) ts rest (omega arith) ahead (omega arith) low
      (append_assoc (spelling e) (sign.Mark (opening_mark b) ∷ (spelling_all xs ++ sign.Mark (closing_mark b) ∷ [])) rest ∙ ap (λ r. spelling e ++ sign.Mark (opening_mark b) ∷ r) inside)
      (ap (λ r. and_then r (λ xs. pure (applied s e xs))) (enclosed-read p (closing_mark b) xs rest (closer b) g.1 (omega arith)))
      (reaches e least ts some most f.0 (omega arith) (omega arith) (omega arith))
  reaches (binary o a b) least rest some most fit low on follows =
      let f = and_parts (fits md a && nat_le (binds o) (level a)) (fits md b && nat_le (suc (binds o)) (level b)) fit in
      let l = and_parts (fits md a) (nat_le (binds o) (level a)) f.0 in
      let r = and_parts (fits md b) (nat_le (suc (binds o)) (level b)) f.1 in
      let left : binds o ≤ level a = leb-true (binds o) (level a) l.1 in
      let right : suc (binds o) ≤ level b = leb-true (suc (binds o)) (level b) r.1 in
      let small : binds o ≤ 4 = binds-small o in
      let ts = sign.Mark (operator_mark o) ∷ (spelling b ++ rest) in
      let ahead : joint_ahead ts ≡ joint.Operates o = joint_of-operator o in
      let tight : tightness (joint_ahead ts) ≡ binds o = ap tightness ahead in
      let near : binds o < edge a = level-edge a (binds o) left (λ n. absurd (omega arith)) (omega arith) in
      behind least (joint.Operates o) a (binary o a b) ts rest on ahead (omega arith) low (append_assoc (spelling a) (sign.Mark (operator_mark o) ∷ spelling b) rest)
      (ap (λ r. and_then r (λ b. pure (binary o a b))) (all.tighter (suc (binds o)) b rest (omega arith) (omega arith) r.0 (omega arith) right follows))
      (reaches a least ts some most l.0 (omega arith) (omega arith) (omega arith))
  reaches (compare o a b) least rest some most fit low on follows = absurd (omega arith)

  tighter-read : (least : ℕ) (e : Tree) (rest : List Sign) → 1 ≤ least → least ≤ 5 → fits md e ≡ true → height e ≤ suc d → least ≤ level e → tightness (joint_ahead rest) < least → start least (spelling e ++ rest) ≡ Ok (e, rest)
  unfolding Reaches
  tighter-read least e rest some most fit low on follows =
      let r = reaches e least rest some most fit low on (omega (arith, level-least e least on)) in
      r.2 ∙ climb-stop least r.0 e rest follows

  plain-read : (e : Tree) (rest : List Sign) → fits md e ≡ true → height e ≤ suc d → 1 ≤ level e → Closed rest → and_then (start 1 (spelling e ++ rest)) (compared inner (suc d)) ≡ Ok (e, rest)
  unfolding compared
  plain-read e rest fit low on c =
      let nothing_on : tightness (joint_ahead rest) ≡ 0 = loose rest c in
      ap (λ r. and_then r (compared inner (suc d))) (tighter-read 1 e rest (omega arith) (omega arith) fit low on (omega arith))
      ∙ ap (λ o. compared_by inner (suc d) e o rest) c.comparison

  whole-read : (e : Tree) (rest : List Sign) → fits md e ≡ true → height e ≤ suc d → Closed rest → and_then (start 1 (spelling e ++ rest)) (compared inner (suc d)) ≡ Ok (e, rest)
  unfolding compared
  whole-read (compare o a b) rest fit low c =
      let f = and_parts (fits md a && nat_le 1 (level a)) (fits md b && nat_le 1 (level b)) fit in
      let l = and_parts (fits md a) (nat_le 1 (level a)) f.0 in
      let r = and_parts (fits md b) (nat_le 1 (level b)) f.1 in
      let ts = sign.Mark (comparison_mark o) ∷ (spelling b ++ rest) in
      let loose_a : tightness (joint_ahead ts) ≡ 0 = ap tightness (joint_of-comparison o) in
      let loose_b : tightness (joint_ahead rest) ≡ 0 = loose rest c in
      ap (λ ts. and_then (start 1 ts) (compared inner (suc d))) (append_assoc (spelling a) (sign.Mark (comparison_mark o) ∷ spelling b) rest)
      ∙ ap (λ (r : Outcome Tree). and_then r (compared inner (suc d))) (tighter-read 1 a ts (omega arith) (omega arith) l.0 (omega arith) (leb-true 1 (level a) l.1) (omega arith))
      ∙ ap (λ n. compared_by inner (suc d) a n ts) (comparison_of-mark o)
      ∙ taken (nat_lt (height a) (suc d)) (and_then (inner 1 (spelling b ++ rest)) (λ right. unchained inner (compare o a right))) _ (lt-ltb (height a) (suc d) (omega arith))
      ∙ ap (λ r. and_then r (λ right. unchained inner (compare o a right))) (all.tighter 1 b rest (omega arith) (omega arith) r.0 (omega arith) (leb-true 1 (level b) r.1) (omega arith))
      ∙ left_out (is_some (comparison_ahead rest)) _ _ (ap is_some c.comparison)
  whole-read (binary o a b) rest fit low c = plain-read (binary o a b) rest fit low (binds-some o) c
  whole-read e rest fit low c = plain-read e rest fit low (omega arith) c

  expression-read : Complete md (suc d) (expression inner md (suc d))
  expression-read = record { tighter = tighter; whole = whole } where
    tighter : (least : ℕ) (e : Tree) (rest : List Sign) → 1 ≤ least → least ≤ 5 → fits md e ≡ true → height e ≤ suc d → least ≤ level e → tightness (joint_ahead rest) < least → expression inner md (suc d) least (spelling e ++ rest) ≡ Ok (e, rest)
    tighter zero e rest some most fit low on follows = absurd (omega arith)
    tighter (suc k) e rest some most fit low on follows =
        ap (λ b. and_then (operand inner md (spelling e ++ rest)) (λ first ts. if b then and_then (climb inner (suc d) 1 (suc d) first ts) (compared inner (suc d)) else climb inner (suc d) (suc k) (suc d) first ts)) (eqb-suc-zero k)
        ∙ tighter-read (suc k) e rest some most fit low on follows

    whole : (e : Tree) (rest : List Sign) → fits md e ≡ true → height e ≤ suc d → Closed rest → expression inner md (suc d) 0 (spelling e ++ rest) ≡ Ok (e, rest)
    whole e rest fit low c = and_then_and_then (operand inner md (spelling e ++ rest)) (climb inner (suc d) 1 (suc d)) (compared inner (suc d)) ∙ whole-read e rest fit low c

pub reads-read : (md : Mode) (d : ℕ) → Complete md d (reads md d)
unfolding reads
reads-read md zero = record { tighter = λ least e rest some most fit low on follows. absurd (omega (arith, height-some e)); whole = λ e rest fit low c. absurd (omega (arith, height-some e)) }
reads-read md (suc d) = expression-read md (reads md d) d (reads-read md d)
