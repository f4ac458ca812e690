-- What an outcome tells of its steps.
use Rattle.std.proofs.Common.{◌≡◌, ◌≢◌, ℕ, List, [], ◌∷◌, Bool, true, false, ◌⊎◌, inl, inr, Option, Some, None, refl, sym, ap, subst, ◌∙◌, rules}
use Rattle.std.specs.Prelude.{◌&&◌, Ok, Err, if◌then◌else◌}
use denote.Enum.Bare.{same_true, true_same}
use Rattle.fisca_lexer.specs.contracts.token.Mark.{the_type}
use Rattle.fisca_expr_parser.specs.declared.refusal.ParseRefusal.{ParseRefusal}
use Rattle.fisca_expr_parser.specs.declared.sign.Sign.{Sign}
use Rattle.fisca_expr_parser.specs.declared.sign.Sign.TheVariants as sign
use Rattle.fisca_lexer.specs.declared.token.Mark.{Mark}
use Rattle.fisca_lexer.specs.declared.token.Mark.TheVariants as mark
use Rattle.fisca_expr_parser.specs.declared.marks.Joint.{Joint}
use Rattle.fisca_expr_parser.specs.declared.marks.Joint.TheVariants as joint
use Rattle.fisca_expr_parser.specs.declared.marks.Beginning.{Beginning}
use Rattle.fisca_expr_parser.specs.declared.marks.Beginning.TheVariants as begin
use Rattle.fisca_ast.specs.declared.tree.Operator.{Operator}
use Rattle.fisca_ast.specs.declared.tree.Operator.TheVariants as op
use Rattle.fisca_ast.specs.declared.tree.Comparison.{Comparison}
use Rattle.fisca_ast.specs.declared.tree.Comparison.TheVariants as cmp
use Rattle.fisca_ast.specs.declared.tree.Prefix.{Prefix}
use Rattle.fisca_ast.specs.declared.tree.Prefix.TheVariants as pre
use Rattle.fisca_expr_parser.specs.Marks.{operator_mark, comparison_mark, prefix_mark, opening_mark}
use Rattle.fisca_expr_parser.specs.Steps.Marks.{bracket_of, same_mark, joint_of, beginning_of, comparison_of}
use Rattle.fisca_ast.specs.Steps.Words.{is_name}
use Rattle.fisca_ast.specs.declared.tree.Delimiter.{Delimiter}
use Rattle.fisca_ast.specs.declared.tree.Delimiter.TheVariants as bracket
use Rattle.fisca_ast.specs.declared.tree.Suffix.{Suffix}
use Rattle.fisca_ast.specs.declared.tree.Suffix.TheVariants as suffix
use Rattle.fisca_expr_parser.specs.Reading.{Outcome, Reader, and_then, pure, tail, joint_ahead, comparison_ahead, word_ahead, keyword_ahead, keyed, expect, named, take_name}
use Rattle.fisca_expr_parser.specs.Steps.Reading.{begins}

abbrev pub fine : {A : Type 0} → A × List Sign → Outcome A
fine x = Ok x

pub and_then_ok : {A B : Type 0} (p : Outcome A) (f : A → Reader B) (y : B × List Sign) → and_then p f ≡ Ok y → (x : A × List Sign) × (p ≡ Ok x) × (f x.0 x.1 ≡ Ok y)
and_then_ok (Ok x) f y e = (x, refl, e)
and_then_ok (Err r) f y e = cc

-- the last step, which only makes something of what was read
pub made_ok : {A B : Type 0} (p : Outcome A) (f : A → B) (y : B × List Sign) → and_then p (λ a. pure (f a)) ≡ Ok y → (x : A × List Sign) × (p ≡ Ok x) × ((f x.0, x.1) ≡ y)
made_ok (Ok x) f y e = (x, refl, cc)
made_ok (Err r) f y e = cc

pub then_ok : {A : Type 0} (b : Bool) (x : Outcome A) (r : ParseRefusal) (y : A × List Sign) → (if b then x else Err r) ≡ Ok y → (b ≡ true) × (x ≡ Ok y)
then_ok true x r y e = (refl, e)
then_ok false x r y e = cc

pub else_ok : {A : Type 0} (b : Bool) (x : Outcome A) (r : ParseRefusal) (y : A × List Sign) → (if b then Err r else x) ≡ Ok y → (b ≡ false) × (x ≡ Ok y)
else_ok true x r y e = cc
else_ok false x r y e = (refl, e)

pub chosen : {X : Type 0} (b : Bool) (x y z : X) → (if b then x else y) ≡ z → ((b ≡ true) × (x ≡ z)) ⊎ ((b ≡ false) × (y ≡ z))
chosen true x y z e = inl (refl, e)
chosen false x y z e = inr (refl, e)

-- marks

begun-mark : (m n : Mark) (ts : List Sign) → same_mark n m ≡ true → sign.Mark n ∷ ts ≡ sign.Mark m ∷ ts
unfolding same_mark
begun-mark m n ts e = ap (λ k. sign.Mark k ∷ ts) (same_true the_type (search rules) n m e)

pub begun : (m : Mark) (ts : List Sign) → begins m ts ≡ true → ts ≡ sign.Mark m ∷ tail ts
begun m [] e = cc
begun m (sign.Word t ∷ ts) e = cc
begun m (sign.Number t ∷ ts) e = cc
begun m (sign.Text t ∷ ts) e = cc
begun m (sign.Mark n ∷ ts) e = begun-mark m n ts e

pub same_self : (m : Mark) → same_mark m m ≡ true
unfolding same_mark
same_self m = true_same the_type m m refl

-- the mark that joins so
abbrev pub mark_of : Joint → Mark
mark_of joint.Access = mark.Dot
mark_of (joint.Applied s) = opening_mark (bracket_of s)
mark_of (joint.Operates o) = operator_mark o
mark_of joint.Ends = mark.Comma

joins : (m : Mark) (j : Joint) → joint_of m ≡ j → j ≢ joint.Ends → m ≡ mark_of j
joins mark.Dot j e some = ap mark_of e
joins mark.Open j e some = ap mark_of e
joins mark.OpenList j e some = ap mark_of e
joins mark.Bar j e some = ap mark_of e
joins mark.Ampersand j e some = ap mark_of e
joins mark.Plus j e some = ap mark_of e
joins mark.Minus j e some = ap mark_of e
joins mark.Star j e some = ap mark_of e
joins mark.Slash j e some = ap mark_of e
joins _ j e some = absurd (some (sym e))

pub joined-mark : (ts : List Sign) (j : Joint) → joint_ahead ts ≡ j → j ≢ joint.Ends → ts ≡ sign.Mark (mark_of j) ∷ tail ts
joined-mark [] j e some = absurd (some (sym e))
joined-mark (sign.Word t ∷ ts) j e some = absurd (some (sym e))
joined-mark (sign.Number t ∷ ts) j e some = absurd (some (sym e))
joined-mark (sign.Text t ∷ ts) j e some = absurd (some (sym e))
joined-mark (sign.Mark m ∷ ts) j e some = ap (λ k. sign.Mark k ∷ ts) (joins m j e some)

pub joint_of-operator : (o : Operator) → joint_of (operator_mark o) ≡ joint.Operates o
joint_of-operator op.Or = refl
joint_of-operator op.And = refl
joint_of-operator op.Add = refl
joint_of-operator op.Subtract = refl
joint_of-operator op.Multiply = refl
joint_of-operator op.Divide = refl

abbrev comparison_or : Mark → Option Comparison → Mark
comparison_or m None = m
comparison_or m (Some o) = comparison_mark o

compares : (m : Mark) (o : Comparison) → comparison_of m ≡ Some o → m ≡ comparison_mark o
compares mark.Less o e = ap (comparison_or mark.Dot) e
compares mark.LessEqual o e = ap (comparison_or mark.Dot) e
compares mark.Greater o e = ap (comparison_or mark.Dot) e
compares mark.GreaterEqual o e = ap (comparison_or mark.Dot) e
compares mark.EqualEqual o e = ap (comparison_or mark.Dot) e
compares mark.NotEqual o e = ap (comparison_or mark.Dot) e
compares _ o e = cc

pub compared-mark : (ts : List Sign) (o : Comparison) → comparison_ahead ts ≡ Some o → ts ≡ sign.Mark (comparison_mark o) ∷ tail ts
compared-mark [] o e = cc
compared-mark (sign.Word t ∷ ts) o e = cc
compared-mark (sign.Number t ∷ ts) o e = cc
compared-mark (sign.Text t ∷ ts) o e = cc
compared-mark (sign.Mark m ∷ ts) o e = ap (λ k. sign.Mark k ∷ ts) (compares m o e)

pub comparison_of-mark : (o : Comparison) → comparison_of (comparison_mark o) ≡ Some o
comparison_of-mark cmp.Less = refl
comparison_of-mark cmp.LessEqual = refl
comparison_of-mark cmp.Greater = refl
comparison_of-mark cmp.GreaterEqual = refl
comparison_of-mark cmp.Equal = refl
comparison_of-mark cmp.NotEqual = refl

pub joint_of-comparison : (o : Comparison) → joint_of (comparison_mark o) ≡ joint.Ends
joint_of-comparison cmp.Less = refl
joint_of-comparison cmp.LessEqual = refl
joint_of-comparison cmp.Greater = refl
joint_of-comparison cmp.GreaterEqual = refl
joint_of-comparison cmp.Equal = refl
joint_of-comparison cmp.NotEqual = refl

-- the mark that begins so
abbrev pub opening_of : Beginning → Mark
opening_of (begin.Opens b) = opening_mark b
opening_of (begin.Sign p) = prefix_mark p
opening_of begin.Nothing = mark.Comma

pub begins-so : (m : Mark) (b : Beginning) → beginning_of m ≡ b → b ≢ begin.Nothing → m ≡ opening_of b
begins-so mark.Open b e some = ap opening_of e
begins-so mark.OpenList b e some = ap opening_of e
begins-so mark.OpenMap b e some = ap opening_of e
begins-so mark.Plus b e some = ap opening_of e
begins-so mark.Minus b e some = ap opening_of e
begins-so mark.Tilde b e some = ap opening_of e
begins-so _ b e some = absurd (some (sym e))

pub beginning_of-opening : (b : Delimiter) → beginning_of (opening_mark b) ≡ begin.Opens b
beginning_of-opening bracket.Round = refl
beginning_of-opening bracket.Square = refl
beginning_of-opening bracket.Curly = refl

pub joint_of-opening : (s : Suffix) → joint_of (opening_mark (bracket_of s)) ≡ joint.Applied s
joint_of-opening suffix.Call = refl
joint_of-opening suffix.Subscript = refl

pub beginning_of-prefix : (p : Prefix) → beginning_of (prefix_mark p) ≡ begin.Sign p
beginning_of-prefix pre.Plus = refl
beginning_of-prefix pre.Minus = refl
beginning_of-prefix pre.Not = refl

-- words

pub word-is : (ts : List Sign) (k : List ℕ) → word_ahead ts ≡ Some k → ts ≡ sign.Word k ∷ tail ts
word-is [] k e = cc
word-is (sign.Word t ∷ ts) k e = let same : t ≡ k = cc in ap (λ w. sign.Word w ∷ ts) same
word-is (sign.Number t ∷ ts) k e = cc
word-is (sign.Text t ∷ ts) k e = cc
word-is (sign.Mark m ∷ ts) k e = cc

pub keyed-some : (o : Option (List ℕ)) (ts : List Sign) (k : List ℕ) → keyed o ts ≡ Some k → (o ≡ Some k) × (begins mark.Equal ts ≡ true)
keyed-some None ts k e = cc
keyed-some (Some w) ts k e = keyed-if w ts k (begins mark.Equal ts) refl e where
  keyed-if : (w : List ℕ) (ts : List Sign) (k : List ℕ) (b : Bool) → begins mark.Equal ts ≡ b → (if b then Some w else None) ≡ Some k → (Some w ≡ Some k) × (begins mark.Equal ts ≡ true)
  keyed-if w ts k true is e = (e, is)
  keyed-if w ts k false is e = cc

pub keyword-is : (ts : List Sign) (k : List ℕ) → keyword_ahead ts ≡ Some k → ts ≡ sign.Word k ∷ sign.Mark mark.Equal ∷ tail (tail ts)
keyword-is ts k e =
    let p = keyed-some (word_ahead ts) (tail ts) k e in
    word-is ts k p.0 ∙ ap (λ r. sign.Word k ∷ r) (begun mark.Equal (tail ts) p.1)

named-ok : (o : Option (List ℕ)) (ts : List Sign) (x : List ℕ × List Sign) → named o ts ≡ Ok x → (o ≡ Some x.0) × (is_name x.0 ≡ true) × (tail ts ≡ x.1)
named-ok None ts x e = cc
named-ok (Some t) ts x e =
    let p = then_ok (is_name t) (Ok (t, tail ts)) _ x e in
    let q : (t, tail ts) ≡ x = cc in
    (ap (λ y. Some y.0) q, subst (λ y. is_name y.0 ≡ true) q p.0, ap (λ y. y.1) q)

pub take_name-ok : (ts : List Sign) (x : List ℕ × List Sign) → take_name ts ≡ Ok x → (ts ≡ sign.Word x.0 ∷ x.1) × (is_name x.0 ≡ true)
take_name-ok ts x e =
    let p = named-ok (word_ahead ts) ts x e in
    (word-is ts x.0 p.0 ∙ ap (λ r. sign.Word x.0 ∷ r) p.2, p.1)

pub expect-ok : (m : Mark) (ts : List Sign) (x : Unit {0} × List Sign) → expect m ts ≡ Ok x → ts ≡ sign.Mark m ∷ x.1
expect-ok m ts x e =
    let p = then_ok (begins m ts) (Ok (tt, tail ts)) _ x e in
    let q : (tt, tail ts) ≡ x = cc in
    begun m ts p.0 ∙ ap (λ (y : Unit {0} × List Sign). sign.Mark m ∷ y.1) q
