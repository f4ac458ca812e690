-- What is read of a statement's lines is declared there.
use Rattle.std.proofs.Common.{◌≡◌, ℕ, zero, suc, List, [], ◌∷◌, ◌++◌, length, Bool, true, false, inl, inr, Option, Some, None, refl, sym, ap, subst, ◌∙◌}
use Rattle.std.specs.Prelude.{Ok, if◌then◌else◌, codes}
use Rattle.fisca_expr_parser.specs.declared.sign.Sign.{Sign}
use Rattle.fisca_expr_parser.specs.declared.sign.Sign.TheVariants as sign
use Rattle.fisca_expr_parser.specs.declared.mode.Mode.{Mode}
use Rattle.fisca_expr_parser.specs.declared.mode.Mode.TheVariants as mode
use Rattle.fisca_expr_parser.specs.Reading.{tail}
use Rattle.fisca_expr_parser.specs.Signs.{signs}
use Rattle.fisca_ast.specs.Tree.{Tree}
use Rattle.fisca_expr_parser.proofs.Laws.{expression_found}
use Rattle.fisca_ast.specs.declared.module.Member.{Member}
use Rattle.fisca_time.specs.Instant.{CivilDate}
use Rattle.fisca_ast.specs.declared.module.Signature.{Signature}
use Rattle.fisca_parser.specs.Steps.Shapes.{is_text}
use Rattle.fisca_parser.specs.declared.shape.Shape.{Shape}
use Rattle.fisca_parser.specs.declared.shape.Shape.TheVariants as shape
use Rattle.fisca_parser.specs.Headings.{limit, alone, assignment, returned, labelled, definition_heading}
use Rattle.fisca_parser.specs.Lines.{Line}
use Rattle.fisca_parser.specs.Steps.Lines.{number, on_line}
use Rattle.fisca_ast.specs.Modules.{Assigned, Answer, Step, local, result, Formula}
use Rattle.fisca_parser.specs.Reading.{and_then, pure, next_at, shape_at, skipped, assigned_in, ended_by, enum_line, enum_line_by, body_line, body_line_by, deeper, documented, documented_body, after_step, step_by, step_at, body, formula_at}
use Rattle.fisca_parser.specs.Grammar.{IsText, IsPass, IsAssigned, IsAssignment, IsReturn, IsLabelled, IsEnumLine, IsLocals, IsBody, IsFormula, IsDefinition}
use Rattle.fisca_parser.proofs.Inverse.{ended-ok, assignment-ok, labelled-ok, definition-ok, Shaped, shaped}
use Rattle.fisca_parser.proofs.Found.{and_then_ok, made_ok, given_ok, IsNext, deeper-ok, told_ok, next-ok, Sound}

module _ (source : List ℕ) where
  abbrev On : Line → List Sign
  On l = signs source l.tokens

  -- `pass` alone
  pub passed-ok : (l : Line) → Shaped shape.Pass (On l) → on_line source alone l ≡ Ok tt → IsPass (On l)
  passed-ok l s e =
      let o = told_ok l (alone (On l)) tt e in
      s ∙ ap (λ us. sign.Word (codes "pass") ∷ us) (ended-ok (tail (On l)) o.0 o.1)

  pub assigned-ok : (m : Mode) (l : Line) (p : List ℕ × Tree) → on_line source (assignment m) l ≡ Ok p → IsAssigned source m l (assigned_in l p)
  assigned-ok m l p e =
      let o = told_ok l (assignment m (On l)) p e in
      (refl, subst (λ (p : List ℕ × Tree). IsAssignment m (On l) p.0 p.1) o.2 (assignment-ok m (On l) o.0 o.1))

  pub returned-ok : (l : Line) (t : Tree) → Shaped shape.Return (On l) → on_line source (returned mode.Formula) l ≡ Ok t → IsReturn (On l) t
  returned-ok l t s e =
      let o = told_ok l (returned mode.Formula (On l)) t e in
      let v = expression_found mode.Formula limit (tail (On l)) o.0 o.1 in
      subst (IsReturn (On l)) o.2 (record { rest = tail (On l); spelled = s; value = record { expression = v.0; low = v.1 } })

  abbrev pub Owned : {A : Type 0} → (Line → List Line → Option A → Type 0) → Line → List Line → Option A × List Line → Type 0
  Owned IsOne l ls x = (own : List Line) × (ls ≡ own ++ x.1) × IsOne l own x.0

  enum-by : (l : Line) (ls : List Line) (x : Option Member × List Line) (s : Shape) → Shaped s (On l) → enum_line_by source s l ls ≡ Ok x → Owned (IsEnumLine source) l ls x
  enum-by l ls x shape.Import s e = cc
  enum-by l ls x shape.Text s e = let k : (None, ls) ≡ x = cc in subst (Owned (IsEnumLine source) l ls) k ([], refl, (refl, inl s))
  enum-by l ls x shape.Pass s e =
      let g = given_ok (on_line source alone l) (λ _. skipped) ls x e in
      let k : (None, ls) ≡ x = cc in
      subst (Owned (IsEnumLine source) l ls) k ([], refl, (refl, inr (passed-ok l s g.1)))
  enum-by l ls x shape.Assignment s e =
      let g = given_ok (on_line source labelled l) (λ p. pure (Some (record { line = number l; name = p.0; text = p.1 }))) ls x e in
      let o = told_ok l (labelled (On l)) g.0 g.1 in
      let k : (Some (record { line = number l; name = g.0.0; text = g.0.1 }), ls) ≡ x = cc in
      subst (Owned (IsEnumLine source) l ls) k ([], refl, (refl, refl, subst (λ (p : List ℕ × List ℕ). IsLabelled (On l) p.0 p.1) o.2 (labelled-ok (On l) o.0 o.1)))
  enum-by l ls x shape.Class s e = cc
  enum-by l ls x shape.Definition s e = cc
  enum-by l ls x shape.Return s e = cc
  enum-by l ls x (shape.Other k) s e = cc

  pub enum-ok : Sound (IsEnumLine source) (enum_line source)
  unfolding enum_line
  enum-ok l ls x e = enum-by l ls x (shape_at source l) (shaped (On l) (shape_at source l) refl) e

  -- formulas

  abbrev IsStep : ℕ → Line → List Line → Step × List Line → Type 0
  IsStep i l ls (local a, rest) = (rest ≡ ls) × IsAssigned source mode.Formula l a
  IsStep i l ls (result r, rest) = (rest ≡ ls) × (r.line ≡ number l) × IsReturn (On l) r.value

  ended-by : (i : ℕ) (l : Line) (ls : List Line) (a : Answer) (o : Option Line × List Line) (x : Step × List Line) → IsNext i ls o → ended_by (result a) o.0 o.1 ≡ Ok x → (result a, ls) ≡ x
  ended-by i l ls a (None, rest) x nx e = let k : (result a, rest) ≡ x = cc in ap (λ ls. (result a, ls)) (sym nx.0) ∙ k
  ended-by i l ls a (Some k, rest) x nx e = cc

  step-by : (i : ℕ) (l : Line) (ls : List Line) (x : Step × List Line) (s : Shape) → Shaped s (On l) → body_line_by source i s l ls ≡ Ok x → IsStep i l ls x
  step-by i l ls x shape.Import s e = cc
  step-by i l ls x shape.Text s e = cc
  step-by i l ls x shape.Pass s e = cc
  step-by i l ls x shape.Assignment s e =
      let g = given_ok (on_line source (assignment mode.Formula) l) (λ p. pure (local (assigned_in l p))) ls x e in
      let k : (local (assigned_in l g.0), ls) ≡ x = cc in
      subst (IsStep i l ls) k (refl, assigned-ok mode.Formula l g.0 g.1)
  step-by i l ls x shape.Class s e = cc
  step-by i l ls x shape.Definition s e = cc
  step-by i l ls x shape.Return s e =
      let g = given_ok (on_line source (returned mode.Formula) l) _ ls x e in
      let n = and_then_ok (next_at i ls) _ x g.2 in
      let a : Answer = record { line = number l; value = g.0 } in
      subst (IsStep i l ls) (ended-by i l ls a n.0 x (next-ok i ls n.0 n.1) n.2) (refl, refl, returned-ok l g.0 s g.1)
  step-by i l ls x (shape.Other k) s e = cc

  step-ok : (i : ℕ) (l : Line) (ls : List Line) (x : Step × List Line) → body_line source i l ls ≡ Ok x → IsStep i l ls x
  unfolding body_line
  step-ok i l ls x e = step-by i l ls x (shape_at source l) (shaped (On l) (shape_at source l) refl) e

module _ (source : List ℕ) (end : ℕ) where
  abbrev Body : Type 0
  Body = List Assigned × Answer

  abbrev Ready : ℕ → List Line → Body × List Line → Type 0
  Ready i ls y = (own : List Line) × (ls ≡ own ++ y.1) × IsLocals source i own y.0.0 y.0.1

  after-step : (i n : ℕ) (l : Line) (ls : List Line) (s : Step × List Line) (y : Body × List Line) → l.indent ≡ i → IsStep source i l ls s → after_step (body source end i n) s.0 s.1 ≡ Ok y
      → ((ks : List Line) (y : Body × List Line) → body source end i n ks ≡ Ok y → Ready i ks y) → Ready i (l ∷ ls) y
  after-step i n l ls (local a, rest) y at is e again =
      let m = made_ok (body source end i n rest) (λ b. (a ∷ b.0, b.1)) y e in
      let r = again rest m.0 m.1 in
      subst (Ready i (l ∷ ls)) m.2 (l ∷ r.0, ap (λ ks. l ∷ ks) (sym is.0 ∙ r.1), (at, is.1, r.2))
  after-step i n l ls (result a, rest) y at is e again =
      let k : (([], a), rest) ≡ y = cc in
      subst (Ready i (l ∷ ls)) k (l ∷ [], ap (λ ks. l ∷ ks) (sym is.0), (at, refl, is.1, is.2))

  turn-ok : (i n : ℕ) (ls : List Line) (o : Option Line × List Line) (s : Step × List Line) (y : Body × List Line) → IsNext i ls o → step_by source end i o.0 o.1 ≡ Ok s → after_step (body source end i n) s.0 s.1 ≡ Ok y
      → ((ks : List Line) (y : Body × List Line) → body source end i n ks ≡ Ok y → Ready i ks y) → Ready i ls y
  turn-ok i n ls (None, rest) s y nx e g again = cc
  turn-ok i n ls (Some l, rest) s y nx e g again = subst (λ ls. Ready i ls y) (sym nx.0) (after-step i n l rest s y nx.1 (step-ok source i l rest s e) g again)

  pub body-ok : (i n : ℕ) (ls : List Line) (y : Body × List Line) → body source end i n ls ≡ Ok y → Ready i ls y
  unfolding body
  body-ok i zero ls y e = cc
  body-ok i (suc n) ls y e =
      let s = and_then_ok (step_at source end i ls) (after_step (body source end i n)) y e in
      let o = and_then_ok (next_at i ls) (step_by source end i) s.0 s.1 in
      turn-ok i n ls o.0 s.0 y (next-ok i ls o.0 o.1) o.2 s.2 (body-ok i n)

  abbrev Full : ℕ → List Line → Body × List Line → Type 0
  Full i ls y = (own : List Line) × (ls ≡ own ++ y.1) × IsBody source i own y.0.0 y.0.1

  bare : (i : ℕ) (ls : List Line) (y : Body × List Line) → Ready i ls y → Full i ls y
  bare i ls y ([], e, b) = absurd b
  bare i ls y (l ∷ own, e, b) = (l ∷ own, e, inr b)

  text-of : (s : Shape) (ts : List Sign) → Shaped s ts → is_text s ≡ true → IsText ts
  text-of shape.Import ts s e = cc
  text-of shape.Text ts s e = s
  text-of shape.Pass ts s e = cc
  text-of shape.Assignment ts s e = cc
  text-of shape.Class ts s e = cc
  text-of shape.Definition ts s e = cc
  text-of shape.Return ts s e = cc
  text-of (shape.Other k) ts s e = cc

  documented-ok : (k : Line) (ks : List Line) (y : Body × List Line) → documented_body source end k.indent (documented source (k ∷ ks)) ≡ Ok y → Full k.indent (k ∷ ks) y
  unfolding documented
  documented-ok k ks y e = by (is_text (shape_at source k)) refl e where
    by : (b : Bool) → is_text (shape_at source k) ≡ b → documented_body source end k.indent (if b then ks else k ∷ ks) ≡ Ok y → Full k.indent (k ∷ ks) y
    by true p e =
        let r = body-ok k.indent (length ks) ks y e in
        let t = text-of (shape_at source k) (signs source k.tokens) (shaped (signs source k.tokens) (shape_at source k) refl) p in
        (k ∷ r.0, ap (λ ks. k ∷ ks) r.1, inl (refl, t, r.2))
    by false p e = bare k.indent (k ∷ ks) y (body-ok k.indent (length (k ∷ ks)) (k ∷ ks) y e)

  abbrev formula_of : Line → CivilDate × Signature → Body → Formula
  formula_of l h b = record { line = number l; start = h.0; signature = h.1; locals = b.0; returned = b.1 }

  abbrev IsFormed : Line → List Line → Formula × List Line → Type 0
  IsFormed l ls x = (own : List Line) × (ls ≡ own ++ x.1) × IsFormula source l own x.0

  definition : (l : Line) (h : CivilDate × Signature) (b : Body) → Shaped shape.Definition (signs source l.tokens) → on_line source definition_heading l ≡ Ok h → IsDefinition (signs source l.tokens) (formula_of l h b)
  definition l h b s e =
      let o = told_ok l (definition_heading (signs source l.tokens)) h e in
      let d = definition-ok (signs source l.tokens) o.0 o.1 in
      subst (λ h. IsDefinition (signs source l.tokens) (formula_of l h b)) o.2
      (record { name = d.0; between = d.1; spelled = s ∙ ap (λ us. sign.Word (codes "def") ∷ us) d.2; named = d.3; started = d.4; signature = d.5 })

  pub formula-ok : (l : Line) (ls : List Line) (x : Formula × List Line) → Shaped shape.Definition (signs source l.tokens) → formula_at source end l ls ≡ Ok x → IsFormed l ls x
  unfolding formula_at
  formula-ok l ls x s e =
      let g = given_ok (on_line source definition_heading l) _ ls x e in
      let d = and_then_ok (deeper end l.indent ls) (λ i ls. and_then (documented_body source end i (documented source ls)) (λ b. pure (formula_of l g.0 b))) x g.2 in
      let k = deeper-ok end l.indent ls d.0 d.1 in
      let h : and_then (documented_body source end k.0.indent (documented source (k.0 ∷ k.1))) (λ b. pure (formula_of l g.0 b)) ≡ Ok x = subst (λ (p : ℕ × List Line). and_then (documented_body source end p.0 (documented source p.1)) (λ b. pure (formula_of l g.0 b)) ≡ Ok x) k.3 d.2 in
      let m = made_ok (documented_body source end k.0.indent (documented source (k.0 ∷ k.1))) (formula_of l g.0) x h in
      let b = documented-ok k.0 k.1 m.0 m.1 in
      let all : IsFormed l (k.0 ∷ k.1) x = subst (IsFormed l (k.0 ∷ k.1)) m.2 (b.0, b.1, record { line = refl; heading = definition l g.0 m.0.0 s g.1; indent = k.0.indent; deeper = k.4; body = b.2 }) in
      subst (λ ls. IsFormed l ls x) (sym k.2) all
