-- What is read of a text's lines is declared there.
use Rattle.std.proofs.Common.{◌≡◌, ◌<◌, ◌≤◌, ℕ, zero, suc, List, [], ◌∷◌, ◌++◌, length, Bool, true, false, Option, Some, None, refl, sym, ap, subst, ◌∙◌, arith, append_assoc, length-append}
use Rattle.std.specs.Prelude.{Ok, Err, if◌then◌else◌, nat_lt, Result}
use Rattle.std.proofs.lemmas.Bool.{ltb-false, ltb-true}
use Rattle.fisca_ast.specs.declared.fault.FormulaFault.{FormulaFault}
use Rattle.fisca_ast.specs.declared.fault.FormulaKind.TheVariants.{Indent}
use Rattle.fisca_expr_parser.specs.declared.sign.Sign.{Sign}
use Rattle.fisca_expr_parser.specs.Reading.{Outcome as Noted}
use Rattle.fisca_parser.specs.Lines.{Line, fault}
use Rattle.fisca_parser.specs.Steps.Lines.{number, told}
use Rattle.fisca_parser.specs.Reading.{Outcome, Reader, and_then, pure, given, missing, next_at, deeper, put, turn, turn_by, after_turn, block, below}
use Rattle.fisca_parser.specs.Grammar.{IsBlock, over, more, IsBelow}

abbrev pub sound : {A : Type 0} → A × List Line → Outcome A
sound x = Ok x

pub and_then_ok : {A B : Type 0} (p : Outcome A) (f : A → Reader B) (y : B × List Line) → and_then p f ≡ Ok y → (x : A × List Line) × (p ≡ Ok x) × (f x.0 x.1 ≡ Ok y)
and_then_ok (Ok x) f y e = (x, refl, e)
and_then_ok (Err r) f y e = cc

pub made_ok : {A B : Type 0} (p : Outcome A) (f : A → B) (y : B × List Line) → and_then p (λ a. pure (f a)) ≡ Ok y → (x : A × List Line) × (p ≡ Ok x) × ((f x.0, x.1) ≡ y)
made_ok (Ok x) f y e = (x, refl, cc)
made_ok (Err r) f y e = cc

-- what a line has
pub given_ok : {A B : Type 0} (r : Result A FormulaFault) (f : A → Reader B) (ls : List Line) (y : B × List Line) → and_then (given r ls) f ≡ Ok y → (a : A) × (r ≡ Ok a) × (f a ls ≡ Ok y)
given_ok (Ok a) f ls y e = (a, refl, e)
given_ok (Err r) f ls y e = cc

pub told_ok : {A : Type 0} (l : Line) (o : Noted A) (a : A) → told l o ≡ Ok a → (x : A × List Sign) × (o ≡ Ok x) × (x.0 ≡ a)
told_ok l (Ok x) a e = (x, refl, cc)
told_ok l (Err r) a e = cc

-- blocks

-- a block at this indentation ends here
abbrev pub Ends : ℕ → List Line → Type 0
Ends i [] = Unit {0}
Ends i (l ∷ ls) = l.indent < i

abbrev pub IsNext : ℕ → List Line → Option Line × List Line → Type 0
IsNext i ls (None, rest) = (rest ≡ ls) × Ends i ls
IsNext i ls (Some l, rest) = (ls ≡ l ∷ rest) × (l.indent ≡ i)

abbrev nobody : List Line → Outcome (Option Line)
nobody ls = Ok (None, ls)

abbrev somebody : Line → List Line → Outcome (Option Line)
somebody l ls = Ok (Some l, ls)

pub next-ok : (i : ℕ) (ls : List Line) (x : Option Line × List Line) → next_at i ls ≡ Ok x → IsNext i ls x
next-ok i [] x e = let k : (None, []) ≡ x = cc in subst (IsNext i []) k (refl, tt)
next-ok i (l ∷ ls) x e = by (nat_lt l.indent i) (nat_lt i l.indent) refl refl e where
  by : (a b : Bool) → nat_lt l.indent i ≡ a → nat_lt i l.indent ≡ b → (if a then nobody (l ∷ ls) else (if b then Err (fault (number l) Indent) else somebody l ls)) ≡ Ok x → IsNext i (l ∷ ls) x
  by true b p q e = let k : (None, l ∷ ls) ≡ x = cc in subst (IsNext i (l ∷ ls)) k (refl, ltb-true l.indent i p)
  by false true p q e = cc
  by false false p q e = let k : (Some l, ls) ≡ x = cc in let low : i ≤ l.indent = ltb-false l.indent i p in let high : l.indent ≤ i = ltb-false i l.indent q in let at : l.indent ≡ i = omega arith in subst (IsNext i (l ∷ ls)) k (refl, at)

-- a reader of a line takes just the lines that belong to it
abbrev pub Sound : {A : Type 0} → (Line → List Line → Option A → Type 0) → (Line → Reader (Option A)) → Type 0
Sound {A} IsOne one = (l : Line) (ls : List Line) (x : Option A × List Line) → one l ls ≡ Ok x → (own : List Line) × (ls ≡ own ++ x.1) × IsOne l own x.0

module _ {A : Type 0} (i : ℕ) (IsOne : Line → List Line → Option A → Type 0) (one : Line → Reader (Option A)) (is : Sound IsOne one) where
  abbrev pub Block : List Line → List A × List Line → Type 0
  Block ls y = (own : List Line) × (ls ≡ own ++ y.1) × IsBlock i IsOne own y.0 × Ends i y.1

  -- a line, and the block of what follows it
  first-ok : (l : Line) (ls : List Line) (x : Option A × List Line) (y : List A × List Line) → l.indent ≡ i → one l ls ≡ Ok x → Block x.1 y → Block (l ∷ ls) (put x.0 y.0, y.1)
  first-ok l ls x y at e b =
      let f = is l ls x e in
      (l ∷ (f.0 ++ b.0), ap (λ ks. l ∷ ks) (f.1 ∙ ap (λ ks. f.0 ++ ks) b.1 ∙ sym (append_assoc f.0 b.0 y.1)), more l f.0 b.0 x.0 y.0 at f.2 b.2, b.3)

  abbrev After : ℕ → List A × List Line → Option (Option A) × List Line → Type 0
  After n y t = after_turn (block i one n) t.0 t.1 ≡ Ok y

  step-ok : (n : ℕ) (ls : List Line) (y : List A × List Line) (o : Option Line × List Line) (t : Option (Option A) × List Line) → length ls ≤ suc n → IsNext i ls o → turn_by one o.0 o.1 ≡ Ok t → After n y t
      → ((ks : List Line) (y : List A × List Line) → length ks ≤ n → block i one n ks ≡ Ok y → Block ks y) → Block ls y
  step-ok n ls y (None, rest) t low nx e g again =
      let k : (None, rest) ≡ t = cc in
      let h : After n y (None, rest) = subst (After n y) (sym k) g in
      let m : ([], rest) ≡ y = cc in
      subst (Block ls) m ([], sym nx.0, over, subst (Ends i) (sym nx.0) nx.1)
  step-ok n ls y (Some l, rest) t low nx e g again =
      let m = made_ok (one l rest) Some t e in
      let h : After n y (Some m.0.0, m.0.1) = subst (After n y) (sym m.2) g in
      let r = made_ok (block i one n m.0.1) (put m.0.0) y h in
      let f = is l rest m.0 m.1 in
      let whole : length ls ≡ length (l ∷ rest) = ap length nx.0 in
      let part : length rest ≡ length (f.0 ++ m.0.1) = ap length f.1 in
      let fewer : length m.0.1 ≤ n = omega (arith, length-append f.0 m.0.1) in
      subst (λ ls. Block ls y) (sym nx.0) (subst (Block (l ∷ rest)) r.2 (first-ok l rest m.0 r.0 nx.1 m.1 (again m.0.1 r.0 fewer r.1)))

  pub block-ok : (n : ℕ) (ls : List Line) (y : List A × List Line) → length ls ≤ n → block i one n ls ≡ Ok y → Block ls y
  unfolding block
  block-ok zero [] y low e = let k : ([], []) ≡ y = cc in subst (Block []) k ([], refl, over, tt)
  block-ok zero (l ∷ ls) y low e = absurd (omega arith)
  block-ok (suc n) ls y low e =
      let t = and_then_ok (turn i one ls) (after_turn (block i one n)) y e in
      let o = and_then_ok (next_at i ls) (turn_by one) t.0 t.1 in
      step-ok n ls y o.0 t.0 low (next-ok i ls o.0 o.1) o.2 t.2 (block-ok n)

-- the block below a line

abbrev pub IsDeeper : ℕ → List Line → ℕ × List Line → Type 0
IsDeeper i ls x = (k : Line) × (ks : List Line) × (ls ≡ k ∷ ks) × (x ≡ (k.indent, k ∷ ks)) × (i < k.indent)

abbrev deep : ℕ → List Line → Outcome ℕ
deep j ls = Ok (j, ls)

pub deeper-ok : (end i : ℕ) (ls : List Line) (x : ℕ × List Line) → deeper end i ls ≡ Ok x → IsDeeper i ls x
deeper-ok end i [] x e = cc
deeper-ok end i (k ∷ ks) x e = by (nat_lt i k.indent) refl e where
  by : (b : Bool) → nat_lt i k.indent ≡ b → (if b then deep k.indent (k ∷ ks) else missing end (k ∷ ks)) ≡ Ok x → IsDeeper i (k ∷ ks) x
  by true p e = let same : (k.indent, k ∷ ks) ≡ x = cc in (k, ks, refl, sym same, ltb-true i k.indent p)
  by false p e = cc

module _ {A : Type 0} (IsOne : Line → List Line → Option A → Type 0) (one : Line → Reader (Option A)) (is : Sound IsOne one) (end : ℕ) (l : Line) where
  abbrev pub Below : List Line → List A × List Line → Type 0
  Below ls y = (own : List Line) × (ls ≡ own ++ y.1) × IsBelow IsOne l own y.0

  some-below : (k : Line) (ks : List Line) (y : List A × List Line) (own : List Line) → l.indent < k.indent → k ∷ ks ≡ own ++ y.1 → IsBlock k.indent IsOne own y.0 → Ends k.indent y.1 → Below (k ∷ ks) y
  some-below k ks y [] low e b d = let at : Ends k.indent (k ∷ ks) = subst (Ends k.indent) (sym e) d in absurd (omega arith)
  some-below k ks y (f ∷ os) low e b d = let same : f ≡ k = cc in (f ∷ os, e, record { first = k; others = os; lines = ap (λ g. g ∷ os) same; deeper = low; block = b })

  pub below-ok : (ls : List Line) (y : List A × List Line) → below end l.indent one ls ≡ Ok y → Below ls y
  below-ok ls y e =
      let p = and_then_ok (deeper end l.indent ls) (λ j ls. block j one (length ls) ls) y e in
      let d = deeper-ok end l.indent ls p.0 p.1 in
      let h : block d.0.indent one (length (d.0 ∷ d.1)) (d.0 ∷ d.1) ≡ Ok y = subst (λ (x : ℕ × List Line). block x.0 one (length x.1) x.1 ≡ Ok y) d.3 p.2 in
      let b = block-ok d.0.indent IsOne one is (length (d.0 ∷ d.1)) (d.0 ∷ d.1) y (omega arith) h in
      subst (λ ls. Below ls y) (sym d.2) (some-below d.0 d.1 y b.0 d.4 b.1 b.2 b.3)
