-- What is read of a text is its module.
use Rattle.std.proofs.Common.{◌≡◌, ℕ, List, [], ◌∷◌, ◌++◌, length, Bool, true, false, inl, inr, Option, Some, None, refl, sym, ap, subst, ◌∙◌, arith, append-nil}
use Rattle.std.specs.Prelude.{◌&&◌, Ok, Err, if◌then◌else◌, codes}
use Rattle.std.specs.Str.{bytes_eq}
use Rattle.std.proofs.lemmas.Bool.{and_parts}
use Rattle.fisca_ast.specs.declared.fault.FormulaKind.TheVariants.{Unsupported}
use Rattle.fisca_lexer.specs.Texts.{joined}
use Rattle.fisca_lexer.specs.Tokens.{Lexed}
use Rattle.fisca_lexer.specs.Steps.Tokens.{tokens}
use Rattle.fisca_expr_parser.specs.declared.sign.Sign.{Sign}
use Rattle.fisca_expr_parser.specs.declared.sign.Sign.TheVariants as sign
use Rattle.fisca_expr_parser.specs.declared.mode.Mode.TheVariants as mode
use Rattle.fisca_expr_parser.specs.Signs.{signs}
use Rattle.fisca_parser.specs.declared.heading.Base.{Base}
use Rattle.fisca_parser.specs.declared.heading.Base.TheVariants as base
use Rattle.fisca_parser.specs.declared.shape.Shape.{Shape}
use Rattle.fisca_parser.specs.declared.shape.Shape.TheVariants as shape
use Rattle.fisca_parser.specs.Steps.Forms.{is_entity, is_list_of_names, declared, is_week_attribute}
use Rattle.fisca_parser.specs.Headings.{alone, assignment, class_heading}
use Rattle.fisca_parser.specs.Lines.{Line}
use Rattle.fisca_parser.specs.Steps.Lines.{number, on_line, lines, last_line}
use Rattle.fisca_ast.specs.Modules.{Assigned, Item, attribute, formula, Statement, entity, entities, choices, variable}
use Rattle.fisca_parser.specs.Reading.{Outcome, pure, refuse, shape_at, skipped, assigned_in, below, block, enum_line, formula_at, with_unit, variable_line, variable_line_by, with_form, class_of, class_at, module_line, module_line_by, first_of, of_lines, of_tokens, module_of}
use Rattle.fisca_parser.specs.Grammar.{IsAssigned, IsClass, IsBlock, IsEnumLine, IsVariableLine, IsModuleLine, IsModule}
use Rattle.fisca_parser.proofs.Inverse.{class-ok, Shaped, shaped}
use Rattle.fisca_parser.proofs.Found.{made_ok, given_ok, told_ok, Sound, Ends, block-ok, below-ok}
use Rattle.fisca_parser.proofs.Statements.{Owned, passed-ok, assigned-ok, enum-ok, formula-ok}

module _ (source : List ℕ) (end : ℕ) where
  abbrev On : Line → List Sign
  On l = signs source l.tokens

  -- variables

  with_unit-ok : (l : Line) (a : Assigned) (ls : List Line) (x : Option Item × List Line) → with_unit source end l a ls ≡ Ok x → (is_week_attribute a ≡ false) × ((Some (attribute a), ls) ≡ x)
  with_unit-ok l a ls x e = by (is_week_attribute a) refl e where
    by : (b : Bool) → is_week_attribute a ≡ b → (if b then refuse Unsupported l else pure (Some (attribute a))) ls ≡ Ok x → (is_week_attribute a ≡ false) × ((Some (attribute a), ls) ≡ x)
    by true p e = cc
    by false p e = (p, cc)

  variable-by : (l : Line) (ls : List Line) (x : Option Item × List Line) (s : Shape) → Shaped s (On l) → variable_line_by source end s l ls ≡ Ok x → Owned source (IsVariableLine source) l ls x
  variable-by l ls x shape.Import s e = cc
  variable-by l ls x shape.Text s e = let k : (None, ls) ≡ x = cc in subst (Owned source (IsVariableLine source) l ls) k ([], refl, (refl, inl s))
  variable-by l ls x shape.Pass s e =
      let g = given_ok (on_line source alone l) (λ _. skipped) ls x e in
      let k : (None, ls) ≡ x = cc in
      subst (Owned source (IsVariableLine source) l ls) k ([], refl, (refl, inr (passed-ok source l s g.1)))
  variable-by l ls x shape.Assignment s e =
      let g = given_ok (on_line source (assignment mode.Value) l) (λ p. with_unit source end l (assigned_in l p)) ls x e in
      let w = with_unit-ok l (assigned_in l g.0) ls x g.2 in
      subst (Owned source (IsVariableLine source) l ls) w.1 ([], refl, (refl, assigned-ok source mode.Value l g.0 g.1, w.0))
  variable-by l ls x shape.Class s e = cc
  variable-by l ls x shape.Definition s e =
      let m = made_ok (formula_at source end l ls) (λ f. Some (formula f)) x e in
      let f = formula-ok source end l ls m.0 s m.1 in
      subst (Owned source (IsVariableLine source) l ls) m.2 (f.0, f.1, f.2)
  variable-by l ls x shape.Return s e = cc
  variable-by l ls x (shape.Other k) s e = cc

  pub variable-ok : Sound (IsVariableLine source) (variable_line source end)
  unfolding variable_line
  variable-ok l ls x e = variable-by l ls x (shape_at source l) (shaped (On l) (shape_at source l) refl) e

  -- classes

  heading : (l : Line) (h : List ℕ × Base) → Shaped shape.Class (On l) → on_line source class_heading l ≡ Ok h → IsClass (On l) h.0 h.1
  heading l h s e =
      let o = told_ok l (class_heading (On l)) h e in
      let d = class-ok (On l) o.0 o.1 in
      subst (λ (h : List ℕ × Base). IsClass (On l) h.0 h.1) o.2 (record { spelled = s ∙ ap (λ us. sign.Word (codes "class") ∷ us) d.0; named = d.1 })

  abbrev IsMade : Line → List Line → Statement × List Line → Type 0
  IsMade l ls x = (own : List Line) × (ls ≡ own ++ x.1) × IsModuleLine source l own (Some x.0)

  class_of-ok : (l : Line) (n : List ℕ) (b : Base) (ls : List Line) (x : Statement × List Line) → IsClass (On l) n b → class_of source end l n b ls ≡ Ok x → IsMade l ls x
  class_of-ok l n base.Enum ls x c e =
      let m = made_ok (below end l.indent (enum_line source) ls) (choices (number l) n) x e in
      let b = below-ok (IsEnumLine source) (enum_line source) (enum-ok source) end l ls m.0 m.1 in
      subst (IsMade l ls) m.2 (b.0, b.1, (refl, c, b.2))
  class_of-ok l n base.Variable ls x c e =
      let m = made_ok (below end l.indent (variable_line source end) ls) (variable (number l) n) x e in
      let b = below-ok (IsVariableLine source) (variable_line source end) variable-ok end l ls m.0 m.1 in
      subst (IsMade l ls) m.2 (b.0, b.1, (refl, c, b.2))

  class_at-ok : (l : Line) (ls : List Line) (x : Statement × List Line) → Shaped shape.Class (On l) → class_at source end l ls ≡ Ok x → IsMade l ls x
  unfolding class_at
  class_at-ok l ls x s e =
      let g = given_ok (on_line source class_heading l) (λ h. class_of source end l h.0 h.1) ls x e in
      class_of-ok l g.0.0 g.0.1 ls x (heading l g.0 s g.1) g.2

  -- modules

  form-ok : (l : Line) (a : Assigned) (s : Statement) → IsAssigned source mode.Value l a → declared a ≡ Some s → IsModuleLine source l [] (Some s)
  unfolding declared
  form-ok l a s is e = by (is_entity a.value) (bytes_eq a.name (codes "entities") && is_list_of_names a.value) refl refl e where
    by : (b c : Bool) → is_entity a.value ≡ b → (bytes_eq a.name (codes "entities") && is_list_of_names a.value) ≡ c → (if b then Some (entity a) else (if c then Some (entities a) else None)) ≡ Some s → IsModuleLine source l [] (Some s)
    by true c p q e = let k : entity a ≡ s = cc in subst (λ s. IsModuleLine source l [] (Some s)) k (refl, is, p)
    by false true p q e =
        let k : entities a ≡ s = cc in
        let r = and_parts (bytes_eq a.name (codes "entities")) (is_list_of_names a.value) q in
        subst (λ s. IsModuleLine source l [] (Some s)) k (refl, is, r.0, r.1)
    by false false p q e = cc

  with_form-ok : (l : Line) (o : Option Statement) (ls : List Line) (x : Option Statement × List Line) → with_form source end l o ls ≡ Ok x → (s : Statement) × (o ≡ Some s) × ((Some s, ls) ≡ x)
  with_form-ok l None ls x e = cc
  with_form-ok l (Some s) ls x e = (s, refl, cc)

  module-by : (l : Line) (ls : List Line) (x : Option Statement × List Line) (s : Shape) → Shaped s (On l) → module_line_by source end s l ls ≡ Ok x → Owned source (IsModuleLine source) l ls x
  module-by l ls x shape.Import s e = let k : (None, ls) ≡ x = cc in subst (Owned source (IsModuleLine source) l ls) k ([], refl, (refl, inr s))
  module-by l ls x shape.Text s e = let k : (None, ls) ≡ x = cc in subst (Owned source (IsModuleLine source) l ls) k ([], refl, (refl, inl s))
  module-by l ls x shape.Pass s e = cc
  module-by l ls x shape.Assignment s e =
      let g = given_ok (on_line source (assignment mode.Value) l) (λ p. with_form source end l (declared (assigned_in l p))) ls x e in
      let w = with_form-ok l (declared (assigned_in l g.0)) ls x g.2 in
      subst (Owned source (IsModuleLine source) l ls) w.2 ([], refl, form-ok l (assigned_in l g.0) w.0 (assigned-ok source mode.Value l g.0 g.1) w.1)
  module-by l ls x shape.Class s e =
      let m = made_ok (class_at source end l ls) Some x e in
      let c = class_at-ok l ls m.0 s m.1 in
      subst (Owned source (IsModuleLine source) l ls) m.2 (c.0, c.1, c.2)
  module-by l ls x shape.Definition s e = cc
  module-by l ls x shape.Return s e = cc
  module-by l ls x (shape.Other k) s e = cc

  pub module-ok : Sound (IsModuleLine source) (module_line source end)
  unfolding module_line
  module-ok l ls x e = module-by l ls x (shape_at source l) (shaped (On l) (shape_at source l) refl) e

  nothing_left : (ls : List Line) → Ends 0 ls → ls ≡ []
  nothing_left [] e = refl
  nothing_left (l ∷ ls) e = absurd (omega arith)

  first_of-ok : (o : Outcome (List Statement)) (ss : List Statement) → first_of o ≡ Ok ss → (x : List Statement × List Line) × (o ≡ Ok x) × (x.0 ≡ ss)
  first_of-ok (Ok x) ss e = (x, refl, cc)
  first_of-ok (Err f) ss e = cc

  pub lines-ok : (ls : List Line) (ss : List Statement) → of_lines source end ls ≡ Ok ss → IsBlock 0 (IsModuleLine source) ls ss
  lines-ok ls ss e =
      let o = first_of-ok (block 0 (module_line source end) (length ls) ls) ss e in
      let b = block-ok 0 (IsModuleLine source) (module_line source end) module-ok (length ls) ls o.0 (omega arith) o.1 in
      let all : b.0 ≡ ls = sym (b.1 ∙ ap (λ r. b.0 ++ r) (nothing_left o.0.1 b.3) ∙ append-nil b.0) in
      subst (IsBlock 0 (IsModuleLine source) ls) o.2 (subst (λ ls. IsBlock 0 (IsModuleLine source) ls o.0.0) all b.2)

tokens-ok : (source : List ℕ) (o : Lexed) (ss : List Statement) → tokens source ≡ o → of_tokens source o ≡ Ok ss → IsModule source ss
tokens-ok source (Ok ts) ss p e = record { tokens_of = ts; lexed = p; block = lines-ok source (last_line (joined ts)) (lines (joined ts)) ss e }
tokens-ok source (Err f) ss p e = cc

pub module_found : (source : List ℕ) (ss : List Statement) → module_of source ≡ Ok ss → IsModule source ss
module_found source ss e = tokens-ok source (tokens source) ss refl e
