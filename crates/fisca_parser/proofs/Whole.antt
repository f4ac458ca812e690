-- What statements declare is read, and so a text has one module at most.
use Rattle.std.proofs.Common.{◌≡◌, ◌<◌, ◌≤◌, ℕ, zero, suc, List, [], ◌∷◌, ◌++◌, length, true, false, inl, inr, Option, Some, None, refl, sym, ap, subst, ◌∙◌, arith, append-nil, length-append}
use Rattle.std.specs.Prelude.{Ok, codes}
use Rattle.std.specs.Str.{bytes_eq}
use Rattle.fisca_expr_parser.specs.declared.sign.Sign.{Sign}
use Rattle.fisca_expr_parser.specs.declared.mode.Mode.{Mode}
use Rattle.fisca_expr_parser.specs.declared.mode.Mode.TheVariants as mode
use Rattle.fisca_lexer.specs.Texts.{joined}
use Rattle.fisca_ast.specs.Steps.Groups.{bare as ungrouped}
use Rattle.fisca_expr_parser.specs.Signs.{signs}
use Rattle.fisca_ast.specs.Tree.{Tree, name, number as numeral, text, bracketed, attribute as member, applied, prefixed, binary, compare}
use Rattle.fisca_parser.specs.declared.heading.Base.{Base}
use Rattle.fisca_parser.specs.declared.heading.Base.TheVariants as base
use Rattle.fisca_ast.specs.declared.module.Member.{Member}
use Rattle.fisca_parser.specs.declared.shape.Shape.TheVariants as shape
use Rattle.fisca_parser.specs.Steps.Forms.{is_entity, builds_entity, is_list_of_names, lists_names, declared}
use Rattle.fisca_parser.specs.Headings.{alone, assignment, returned, labelled, class_heading, definition_heading}
use Rattle.fisca_parser.specs.Lines.{Line}
use Rattle.fisca_parser.specs.Steps.Lines.{number, told, on_line, lines, last_line}
use Rattle.fisca_ast.specs.Modules.{Assigned, Answer, local, result, Formula, Item, attribute, formula, Statement, entity, entities, choices, variable}
use Rattle.fisca_parser.specs.Reading.{Reader, deeper, shape_at, assigned_in, enum_line, body_line, documented, documented_body, body, formula_at, variable_line, class_at, block, module_line, module_of}
use Rattle.fisca_parser.specs.Steps.Shapes.{shape_of, is_text}
use Rattle.fisca_parser.specs.Grammar.{IsPass, IsAssigned, IsAssignment, IsReturn, IsLabelled, IsClass, IsDefinition, IsEnumLine, IsLocals, IsBody, IsFormula, IsVariableLine, IsModuleLine, IsModule, IsBelow}
use Rattle.fisca_parser.proofs.Spelled.{assignment-read, returned-read, labelled-read, alone-read, class-read, definition-read, assigned-shape, text-shape, pass-shape, import-shape, class-shape, definition-shape, return-shape}
use Rattle.fisca_parser.proofs.Found.{Ends}
use Rattle.fisca_parser.proofs.Complete.{below_test, next-ends, next-at, Stops, Complete, ends_deeper, block-read, below-read}

module _ (source : List ℕ) where
  abbrev On : Line → List Sign
  On l = signs source l.tokens

  alone-on : (l : Line) → IsPass (On l) → on_line source alone l ≡ Ok tt
  alone-on l is = ap (told l) (alone-read (On l) is)

  assigned-on : (m : Mode) (l : Line) (n : List ℕ) (a : Assigned) → IsAssignment m (On l) a.name a.value → on_line source (assignment m) l ≡ Ok (a.name, a.value)
  assigned-on m l n a is = ap (told l) (assignment-read m (On l) a.name a.value is)

  assigned-at : (m : Mode) (l : Line) (a : Assigned) → IsAssignment m (On l) a.name a.value → shape_at source l ≡ shape.Assignment
  assigned-at m l a is = ap shape_of is.spelled ∙ assigned-shape a.name is.rest is.named

  labelled-at : (l : Line) (n t : List ℕ) → IsLabelled (On l) n t → shape_at source l ≡ shape.Assignment
  labelled-at l n t is = ap shape_of is.spelled ∙ assigned-shape n _ is.named

  -- nothing of its own below it
  bare : {A : Type 0} (one : Line → Reader (Option A)) (l : Line) (own rest : List Line) (x : Option A) → own ≡ [] → one l rest ≡ Ok (x, rest) → one l (own ++ rest) ≡ Ok (x, rest)
  bare one l own rest x e h = ap (λ ls. one l (ls ++ rest)) e ∙ h

  pub enum-read : Complete (IsEnumLine source) (enum_line source)
  unfolding enum_line
  enum-read l own rest None (e, inl t) s = bare (enum_line source) l own rest None e (rw (text-shape (On l) t) refl)
  enum-read l own rest None (e, inr p) s = bare (enum_line source) l own rest None e (rw (pass-shape (On l) p, alone-on l p) refl)
  enum-read l own rest (Some m) (e, n, is) s =
      let at : labelled (On l) ≡ Ok ((m.name, m.text), []) = labelled-read (On l) m.name m.text is in
      bare (enum_line source) l own rest (Some m) e (rw (labelled-at l m.name m.text is, at) (ap (λ k. Ok (Some (record { line = k; name = m.name; text = m.text }), rest)) (sym n)))

  -- formulas

  local-read : (i : ℕ) (l : Line) (ls : List Line) (a : Assigned) → IsAssigned source mode.Formula l a → body_line source i l ls ≡ Ok (local a, ls)
  unfolding body_line
  local-read i l ls a is =
      rw (assigned-at mode.Formula l a is.1, assigned-on mode.Formula l a.name a is.1) (ap (λ k. Ok (local (record { line = k; name = a.name; value = a.value }), ls)) (sym is.0))

  result-read : (i : ℕ) (l : Line) (ls : List Line) (r : Answer) → r.line ≡ number l → IsReturn (On l) r.value → Ends i ls → body_line source i l ls ≡ Ok (result r, ls)
  unfolding body_line
  result-read i l ls r n is e =
      let at : shape_at source l ≡ shape.Return = ap shape_of is.spelled ∙ return-shape is.rest in
      let on : returned mode.Formula (On l) ≡ Ok (r.value, []) = returned-read (On l) r.value is in
      rw (at, on, next-ends i ls e) (ap (λ k. Ok (result (record { line = k; value = r.value }), ls)) (sym n))

  -- the first line of locals is no text
  no_text : (i : ℕ) (l : Line) (ls : List Line) (xs : List Assigned) (r : Answer) → IsLocals source i (l ∷ ls) xs r → is_text (shape_at source l) ≡ false
  no_text i l ls [] r is = let at : shape_at source l ≡ shape.Return = ap shape_of is.3.spelled ∙ return-shape is.3.rest in ap is_text at
  no_text i l ls (a ∷ xs) r is = ap is_text (assigned-at mode.Formula l a is.1.1)

  first-at : (i : ℕ) (l : Line) (ls : List Line) (xs : List Assigned) (r : Answer) → IsLocals source i (l ∷ ls) xs r → l.indent ≡ i
  first-at i l ls [] r is = is.0
  first-at i l ls (a ∷ xs) r is = is.0

module _ (source : List ℕ) (end : ℕ) where
  pub body-read : (i : ℕ) (ls rest : List Line) (xs : List Assigned) (r : Answer) (n : ℕ) → IsLocals source i ls xs r → Ends i rest → length ls ≤ n → body source end i n (ls ++ rest) ≡ Ok ((xs, r), rest)
  unfolding body
  body-read i [] rest xs r n is e low = absurd is
  body-read i (l ∷ ls) rest xs r zero is e low = absurd (omega arith)
  body-read i (l ∷ ls) rest [] r (suc n) is e low =
      let last : ls ++ rest ≡ rest = ap (λ ls. ls ++ rest) is.1 in
      let stop : Ends i (ls ++ rest) = subst (Ends i) (sym last) e in
      let one : body_line source i l (ls ++ rest) ≡ Ok (result r, ls ++ rest) = result-read source i l (ls ++ rest) r is.2 is.3 stop in
      rw (next-at i l (ls ++ rest) is.0, one) (ap (λ ls. Ok (([], r), ls)) last)
  body-read i (l ∷ ls) rest (a ∷ xs) r (suc n) is e low =
      let one : body_line source i l (ls ++ rest) ≡ Ok (local a, ls ++ rest) = local-read source i l (ls ++ rest) a is.1 in
      let again : body source end i n (ls ++ rest) ≡ Ok ((xs, r), rest) = body-read i ls rest xs r n is.2 e (omega arith) in
      rw (next-at i l (ls ++ rest) is.0, one, again) refl

  -- the lines of a body, of which the first may be a text
  full-read : (i : ℕ) (l : Line) (ls rest : List Line) (xs : List Assigned) (r : Answer) → IsBody source i (l ∷ ls) xs r → Ends i rest → (l.indent ≡ i) × (documented_body source end i (documented source (l ∷ (ls ++ rest))) ≡ Ok ((xs, r), rest))
  unfolding documented
  full-read i l ls rest xs r (inl is) e =
      let at : shape_at source l ≡ shape.Text = text-shape (signs source l.tokens) is.1 in
      (is.0, rw at (body-read i ls rest xs r (length (ls ++ rest)) is.2 e (omega (arith, length-append ls rest))))
  full-read i l ls rest xs r (inr is) e =
      (first-at source i l ls xs r is, rw (no_text source i l ls xs r is) (body-read i (l ∷ ls) rest xs r (length (l ∷ (ls ++ rest))) is e (omega (arith, length-append ls rest))))

  formula-with : (l : Line) (own rest : List Line) (f : Formula) → IsFormula source l own f → Stops l.indent rest → formula_at source end l (own ++ rest) ≡ Ok (f, rest)
  unfolding formula_at
  formula-with l [] rest f is s = absurd is.body
  formula-with l (k ∷ ks) rest f is s =
      let stop : Ends is.indent rest = ends_deeper l.indent is.indent rest is.deeper s in
      let full = full-read is.indent k ks rest f.locals f.returned is.body stop in
      let high : l.indent < k.indent = omega (arith, is.deeper, full.0) in
      let deep : deeper end l.indent (k ∷ (ks ++ rest)) ≡ Ok (k.indent, k ∷ (ks ++ rest)) = rw (below_test l.indent k.indent high) refl in
      let inside : documented_body source end k.indent (documented source (k ∷ (ks ++ rest))) ≡ Ok ((f.locals, f.returned), rest) = ap (λ i. documented_body source end i (documented source (k ∷ (ks ++ rest)))) full.0 ∙ full.1 in
      let heading : on_line source definition_heading l ≡ Ok (f.start, f.signature) = ap (told l) (definition-read (signs source l.tokens) f is.heading) in
      rw (heading, deep, inside) (ap (λ k. Ok (record { line = k; start = f.start; signature = f.signature; locals = f.locals; returned = f.returned }, rest)) (sym is.line))

  definition-at : (l : Line) (f : Formula) → IsDefinition (signs source l.tokens) f → shape_at source l ≡ shape.Definition
  definition-at l f is = ap shape_of is.spelled ∙ definition-shape _

  pub variable-read : Complete (IsVariableLine source) (variable_line source end)
  unfolding variable_line
  variable-read l own rest None (e, inl t) s = bare source (variable_line source end) l own rest None e (rw (text-shape (signs source l.tokens) t) refl)
  variable-read l own rest None (e, inr p) s = bare source (variable_line source end) l own rest None e (rw (pass-shape (signs source l.tokens) p, alone-on source l p) refl)
  variable-read l own rest (Some (attribute a)) (e, is, no_week) s =
      let same : assigned_in l (a.name, a.value) ≡ a = ap (λ k. record { line = k; name = a.name; value = a.value }) (sym is.0) in
      bare source (variable_line source end) l own rest (Some (attribute a)) e (rw (assigned-at source mode.Value l a is.1, assigned-on source mode.Value l a.name a is.1, same, no_week) refl)
  variable-read l own rest (Some (formula f)) is s = rw (definition-at l f is.heading, formula-with l own rest f is s) refl

  -- classes

  class-at : (l : Line) (n : List ℕ) (b : Base) → IsClass (signs source l.tokens) n b → shape_at source l ≡ shape.Class
  class-at l n b is = ap shape_of is.spelled ∙ class-shape _

  heading-on : (l : Line) (n : List ℕ) (b : Base) → IsClass (signs source l.tokens) n b → on_line source class_heading l ≡ Ok (n, b)
  heading-on l n b is = ap (told l) (class-read (signs source l.tokens) n b is)

  enum-class : (l : Line) (own rest : List Line) (n : List ℕ) (ms : List Member) → IsClass (signs source l.tokens) n base.Enum → IsBelow (IsEnumLine source) l own ms → Stops l.indent rest → class_at source end l (own ++ rest) ≡ Ok (choices (number l) n ms, rest)
  unfolding class_at
  enum-class l own rest n ms is b s = rw (heading-on l n base.Enum is, below-read (IsEnumLine source) (enum_line source) (enum-read source) end l own rest ms b s) refl

  variable-class : (l : Line) (own rest : List Line) (n : List ℕ) (xs : List Item) → IsClass (signs source l.tokens) n base.Variable → IsBelow (IsVariableLine source) l own xs → Stops l.indent rest → class_at source end l (own ++ rest) ≡ Ok (variable (number l) n xs, rest)
  unfolding class_at
  variable-class l own rest n xs is b s = rw (heading-on l n base.Variable is, below-read (IsVariableLine source) (variable_line source end) variable-read end l own rest xs b s) refl

  -- modules

  entity-form : (a : Assigned) → is_entity a.value ≡ true → declared a ≡ Some (entity a)
  unfolding declared
  entity-form a e = rw e refl

  -- a list is no call
  no_entity : (e : Tree) → lists_names e ≡ true → builds_entity e ≡ false
  no_entity (name t) p = refl
  no_entity (numeral t) p = refl
  no_entity (text t) p = refl
  no_entity (bracketed b xs) p = refl
  no_entity (member e t) p = refl
  no_entity (applied s f xs) p = cc
  no_entity (prefixed o e) p = refl
  no_entity (binary o a b) p = refl
  no_entity (compare o a b) p = refl

  list-form : (a : Assigned) → bytes_eq a.name (codes "entities") ≡ true → is_list_of_names a.value ≡ true → declared a ≡ Some (entities a)
  unfolding declared
  list-form a e f = rw (no_entity (ungrouped a.value) f, e, f) refl

  pub module-read : Complete (IsModuleLine source) (module_line source end)
  unfolding module_line
  module-read l own rest None (e, inl t) s = bare source (module_line source end) l own rest None e (rw (text-shape (signs source l.tokens) t) refl)
  module-read l own rest None (e, inr i) s = bare source (module_line source end) l own rest None e (rw (import-shape (signs source l.tokens) i) refl)
  module-read l own rest (Some (entity a)) (e, is, f) s =
      let same : assigned_in l (a.name, a.value) ≡ a = ap (λ k. record { line = k; name = a.name; value = a.value }) (sym is.0) in
      bare source (module_line source end) l own rest (Some (entity a)) e (rw (assigned-at source mode.Value l a is.1, assigned-on source mode.Value l a.name a is.1, same, entity-form a f) refl)
  module-read l own rest (Some (entities a)) (e, is, n, f) s =
      let same : assigned_in l (a.name, a.value) ≡ a = ap (λ k. record { line = k; name = a.name; value = a.value }) (sym is.0) in
      bare source (module_line source end) l own rest (Some (entities a)) e (rw (assigned-at source mode.Value l a is.1, assigned-on source mode.Value l a.name a is.1, same, list-form a n f) refl)
  module-read l own rest (Some (choices k n ms)) (at, is, b) s = rw (class-at l n base.Enum is, enum-class l own rest n ms is b s) (ap (λ k. Ok (Some (choices k n ms), rest)) (sym at))
  module-read l own rest (Some (variable k n xs)) (at, is, b) s = rw (class-at l n base.Variable is, variable-class l own rest n xs is b s) (ap (λ k. Ok (Some (variable k n xs), rest)) (sym at))

pub module_read : (source : List ℕ) (ss : List Statement) → IsModule source ss → module_of source ≡ Ok ss
module_read source ss is =
    let ls = lines (joined is.tokens_of) in
    let end = last_line (joined is.tokens_of) in
    let read : block 0 (module_line source end) (length ls) (ls ++ []) ≡ Ok (ss, []) = block-read 0 (IsModuleLine source) (module_line source end) (module-read source end) is.block [] (length ls) tt (omega arith) in
    let all : block 0 (module_line source end) (length ls) ls ≡ Ok (ss, []) = ap (block 0 (module_line source end) (length ls)) (sym (append-nil ls)) ∙ read in
    rw (is.lexed, all) refl
