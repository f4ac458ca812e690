-- What is read on one line is spelled so.
use Rattle.std.proofs.Common.{◌≡◌, ◌≤◌, ℕ, List, [], ◌∷◌, ◌++◌, length, Bool, true, false, Option, Some, None, refl, ap, subst, ◌∙◌, arith}
use Rattle.std.specs.Prelude.{◌||◌, Ok, if◌then◌else◌, nat_lt, codes}
use Rattle.std.specs.Str.{bytes_eq}
use Rattle.std.proofs.lemmas.Bool.{ltb-false}
use Rattle.std.proofs.lemmas.Slice.Eq.{bytes_eq-Decides}
use Rattle.fisca_ast.specs.declared.fault.FormulaKind.TheVariants.{Syntax, Unsupported}
use Rattle.fisca_lexer.specs.declared.token.Mark.TheVariants as mark
use Rattle.fisca_time.specs.Instant.{CivilDate}
use Rattle.fisca_expr_parser.specs.declared.sign.Sign.{Sign}
use Rattle.fisca_expr_parser.specs.declared.sign.Sign.TheVariants as sign
use Rattle.fisca_expr_parser.specs.declared.mode.Mode.{Mode}
use Rattle.fisca_ast.specs.Tree.{Tree}
use Rattle.fisca_ast.specs.Steps.Words.{is_name}
use Rattle.fisca_expr_parser.specs.Reading.{Outcome, and_then, refuse, stop, tail, word_ahead, expect, take_name}
use Rattle.fisca_expr_parser.specs.Steps.Reading.{begins}
use Rattle.fisca_expr_parser.specs.Views.{whole}
use Rattle.fisca_expr_parser.proofs.Steps.{fine, and_then_ok, made_ok, then_ok, else_ok, begun, word-is, take_name-ok, expect-ok}
use Rattle.fisca_expr_parser.proofs.Laws.{expression_found}
use Rattle.fisca_parser.specs.declared.heading.Base.{Base}
use Rattle.fisca_parser.specs.declared.heading.Base.TheVariants as base
use Rattle.fisca_ast.specs.declared.module.Signature.{Signature}
use Rattle.fisca_parser.specs.declared.shape.Shape.{Shape}
use Rattle.fisca_parser.specs.declared.shape.Shape.TheVariants as shape
use Rattle.fisca_parser.specs.Steps.Shapes.{is_import, begins_nothing, worded, begun_by, quoted, shape_of}
use Rattle.fisca_parser.specs.Steps.Starts.{start_of}
use Rattle.fisca_parser.specs.Headings.{limit, ended, assignment, labelled, bases_open, bases_close, class_heading, signature, definition_heading}
use Rattle.fisca_parser.specs.Steps.Headings.{text, text_at, base_named, base_ahead, base_of, start_found, start_named, start, is_word, other_name, third_name, past_comma, third_at, third}
use Rattle.fisca_parser.specs.Grammar.{IsImport, IsText, IsAssignment, IsLabelled, IsSignature, IsThird, base_word, spelled_third, spelled_comma}

none_left : (ts : List Sign) → length ts ≤ 0 → ts ≡ []
none_left [] e = refl
none_left (s ∷ ts) e = absurd (omega arith)

pub ended-ok : (ts : List Sign) (x : Unit {0} × List Sign) → ended ts ≡ Ok x → ts ≡ []
ended-ok ts x e =
    let q = else_ok (nat_lt 0 (length ts)) (fine (tt, ts)) _ x e in
    none_left ts (ltb-false 0 (length ts) q.0)

pub assignment-ok : (m : Mode) (ts : List Sign) (x : (List ℕ × Tree) × List Sign) → assignment m ts ≡ Ok x → IsAssignment m ts x.0.0 x.0.1
assignment-ok m ts x e =
    let p = and_then_ok (take_name ts) _ x e in
    let q = and_then_ok (expect mark.Equal p.0.1) _ x p.2 in
    let r = made_ok (whole m limit q.0.1) (λ e. (p.0.0, e)) x q.2 in
    let n = take_name-ok ts p.0 p.1 in
    let v = expression_found m limit q.0.1 r.0 r.1 in
    let all : IsAssignment m ts p.0.0 r.0.0 = record { rest = q.0.1; spelled = n.0 ∙ ap (λ us. sign.Word p.0.0 ∷ us) (expect-ok mark.Equal p.0.1 q.0 q.1); named = n.1; value = record { expression = v.0; low = v.1 } } in
    subst (λ (x : (List ℕ × Tree) × List Sign). IsAssignment m ts x.0.0 x.0.1) r.2 all

text_at-ok : (s : Sign) (ts : List Sign) (x : List ℕ × List Sign) → text_at s ts ≡ Ok x → s ∷ ts ≡ sign.Text x.0 ∷ []
text_at-ok (sign.Word t) ts x e = cc
text_at-ok (sign.Number t) ts x e = cc
text_at-ok (sign.Text t) ts x e =
    let q = else_ok (nat_lt 0 (length ts)) (fine (t, ts)) _ x e in
    let none : ts ≡ [] = none_left ts (ltb-false 0 (length ts) q.0) in
    let same : (t, ts) ≡ x = cc in
    ap (λ us. sign.Text t ∷ us) none ∙ ap (λ (x : List ℕ × List Sign). sign.Text x.0 ∷ []) same
text_at-ok (sign.Mark m) ts x e = cc

text-ok : (ts : List Sign) (x : List ℕ × List Sign) → text ts ≡ Ok x → ts ≡ sign.Text x.0 ∷ []
text-ok [] x e = cc
text-ok (s ∷ ts) x e = text_at-ok s ts x e

pub labelled-ok : (ts : List Sign) (x : (List ℕ × List ℕ) × List Sign) → labelled ts ≡ Ok x → IsLabelled ts x.0.0 x.0.1
labelled-ok ts x e =
    let p = and_then_ok (take_name ts) _ x e in
    let q = and_then_ok (expect mark.Equal p.0.1) _ x p.2 in
    let r = made_ok (text q.0.1) (λ t. (p.0.0, t)) x q.2 in
    let n = take_name-ok ts p.0 p.1 in
    let equal = expect-ok mark.Equal p.0.1 q.0 q.1 in
    let last = text-ok q.0.1 r.0 r.1 in
    let all : IsLabelled ts p.0.0 r.0.0 = record { spelled = n.0 ∙ ap (λ us. sign.Word p.0.0 ∷ us) (equal ∙ ap (λ us. sign.Mark mark.Equal ∷ us) last); named = n.1 } in
    subst (λ (x : (List ℕ × List ℕ) × List Sign). IsLabelled ts x.0.0 x.0.1) r.2 all

-- classes

same : (t w : List ℕ) → bytes_eq t w ≡ true → t ≡ w
same t w = (bytes_eq-Decides t w).0

bases_open-ok : (ts : List Sign) (x : Unit {0} × List Sign) → bases_open ts ≡ Ok x → ts ≡ sign.Mark mark.Open ∷ x.1
bases_open-ok ts x e = let q = else_ok (begins mark.Colon ts) (expect mark.Open ts) _ x e in expect-ok mark.Open ts x q.1

bases_close-ok : (ts : List Sign) (x : Unit {0} × List Sign) → bases_close ts ≡ Ok x → ts ≡ sign.Mark mark.Close ∷ x.1
bases_close-ok ts x e = let q = else_ok (begins mark.Comma ts || begins mark.Dot ts) (expect mark.Close ts) _ x e in expect-ok mark.Close ts x q.1

abbrev found : Base → List Sign → Outcome Base
found b ts = Ok (b, ts)

base_named-ok : (t : List ℕ) (ts : List Sign) (x : Base × List Sign) → base_named t ts ≡ Ok x → (t ≡ base_word x.0) × (tail ts ≡ x.1)
base_named-ok t ts x e = first (bytes_eq t (codes "Enum")) (bytes_eq t (codes "Variable")) (is_name t) refl refl e where
  first : (a b c : Bool) → bytes_eq t (codes "Enum") ≡ a → bytes_eq t (codes "Variable") ≡ b → (if a then found base.Enum (tail ts) else (if b then found base.Variable (tail ts) else (if c then refuse Unsupported ts else stop ts))) ≡ Ok x → (t ≡ base_word x.0) × (tail ts ≡ x.1)
  first true b c p q e = let k : (base.Enum, tail ts) ≡ x = cc in (same t (codes "Enum") p ∙ ap (λ (x : Base × List Sign). base_word x.0) k, ap (λ (x : Base × List Sign). x.1) k)
  first false true c p q e = let k : (base.Variable, tail ts) ≡ x = cc in (same t (codes "Variable") q ∙ ap (λ (x : Base × List Sign). base_word x.0) k, ap (λ (x : Base × List Sign). x.1) k)
  first false false true p q e = cc
  first false false false p q e = cc

base_ahead-ok : (o : Option (List ℕ)) (ts : List Sign) (x : Base × List Sign) → word_ahead ts ≡ o → base_ahead o ts ≡ Ok x → ts ≡ sign.Word (base_word x.0) ∷ x.1
base_ahead-ok None ts x p e = closed (begins mark.Close ts) e where
  closed : (b : Bool) → (if b then refuse {A = Base} Unsupported ts else stop ts) ≡ Ok x → ts ≡ sign.Word (base_word x.0) ∷ x.1
  closed true e = cc
  closed false e = cc
base_ahead-ok (Some t) ts x p e =
    let q = base_named-ok t ts x e in
    word-is ts t p ∙ ap (λ w. sign.Word w ∷ tail ts) q.0 ∙ ap (λ us. sign.Word (base_word x.0) ∷ us) q.1

base_of-ok : (ts : List Sign) (x : Base × List Sign) → base_of ts ≡ Ok x → ts ≡ sign.Word (base_word x.0) ∷ x.1
unfolding base_of
base_of-ok ts x e = base_ahead-ok (word_ahead ts) ts x refl e

abbrev behind_class : List ℕ → Base → List Sign
behind_class n b = sign.Word n ∷ sign.Mark mark.Open ∷ sign.Word (base_word b) ∷ sign.Mark mark.Close ∷ sign.Mark mark.Colon ∷ []

pub class-ok : (ts : List Sign) (x : (List ℕ × Base) × List Sign) → class_heading ts ≡ Ok x → (tail ts ≡ behind_class x.0.0 x.0.1) × (is_name x.0.0 ≡ true)
class-ok ts x e =
    let p = and_then_ok (take_name (tail ts)) _ x e in
    let o = and_then_ok (bases_open p.0.1) _ x p.2 in
    let b = and_then_ok (base_of o.0.1) _ x o.2 in
    let c = and_then_ok (bases_close b.0.1) _ x b.2 in
    let d = and_then_ok (expect mark.Colon c.0.1) _ x c.2 in
    let f = made_ok (ended d.0.1) (λ _. (p.0.0, b.0.0)) x d.2 in
    let n = take_name-ok (tail ts) p.0 p.1 in
    let all : (tail ts ≡ behind_class p.0.0 b.0.0) × (is_name p.0.0 ≡ true) = (
      n.0
          ∙ ap (λ us. sign.Word p.0.0 ∷ us) (bases_open-ok p.0.1 o.0 o.1)
          ∙ ap (λ us. sign.Word p.0.0 ∷ sign.Mark mark.Open ∷ us) (base_of-ok o.0.1 b.0 b.1)
          ∙ ap (λ us. sign.Word p.0.0 ∷ sign.Mark mark.Open ∷ sign.Word (base_word b.0.0) ∷ us) (bases_close-ok b.0.1 c.0 c.1)
          ∙ ap (λ us. sign.Word p.0.0 ∷ sign.Mark mark.Open ∷ sign.Word (base_word b.0.0) ∷ sign.Mark mark.Close ∷ us) (expect-ok mark.Colon c.0.1 d.0 d.1)
          ∙ ap (λ us. sign.Word p.0.0 ∷ sign.Mark mark.Open ∷ sign.Word (base_word b.0.0) ∷ sign.Mark mark.Close ∷ sign.Mark mark.Colon ∷ us) (ended-ok d.0.1 f.0 f.1),
      n.1,
    ) in
    subst (λ (x : (List ℕ × Base) × List Sign). (tail ts ≡ behind_class x.0.0 x.0.1) × (is_name x.0.0 ≡ true)) f.2 all

-- formulas

start_found-ok : (o : Option CivilDate) (ts : List Sign) (x : CivilDate × List Sign) → start_found o ts ≡ Ok x → (o ≡ Some x.0) × (tail ts ≡ x.1)
start_found-ok None ts x e = cc
start_found-ok (Some d) ts x e = let k : (d, tail ts) ≡ x = cc in (ap (λ (x : CivilDate × List Sign). Some x.0) k, ap (λ (x : CivilDate × List Sign). x.1) k)

abbrev IsStart : List Sign → CivilDate × List Sign → Type 0
IsStart ts x = (t : List ℕ) × (ts ≡ sign.Word t ∷ x.1) × (is_name t ≡ true) × (start_of t ≡ Some x.0)

start_named-ok : (o : Option (List ℕ)) (ts : List Sign) (x : CivilDate × List Sign) → word_ahead ts ≡ o → start_named o ts ≡ Ok x → IsStart ts x
start_named-ok None ts x p e = cc
start_named-ok (Some t) ts x p e =
    let q = then_ok (is_name t) (start_found (start_of t) ts) _ x e in
    let r = start_found-ok (start_of t) ts x q.1 in
    (t, word-is ts t p ∙ ap (λ us. sign.Word t ∷ us) r.1, q.0, r.0)

start-ok : (ts : List Sign) (x : CivilDate × List Sign) → start ts ≡ Ok x → IsStart ts x
unfolding start
start-ok ts x e = start_named-ok (word_ahead ts) ts x refl e

apart-from : (a b : List ℕ) (ts us : List Sign) → ts ≡ sign.Word b ∷ us → is_word a (word_ahead ts) ≡ false → bytes_eq b a ≡ false
apart-from a b ts us p e = subst (λ ts. is_word a (word_ahead ts) ≡ false) p e

abbrev IsOther : List ℕ → List Sign → List ℕ × List Sign → Type 0
IsOther a ts x = (ts ≡ sign.Word x.0 ∷ x.1) × (is_name x.0 ≡ true) × (bytes_eq x.0 a ≡ false)

other-ok : (a : List ℕ) (ts : List Sign) (x : List ℕ × List Sign) → other_name a ts ≡ Ok x → IsOther a ts x
unfolding other_name
other-ok a ts x e =
    let q = else_ok (is_word a (word_ahead ts)) (take_name ts) _ x e in
    let n = take_name-ok ts x q.1 in
    (n.0, n.1, apart-from a x.0 ts x.1 n.0 q.0)

third_name-ok : (a b : List ℕ) (ts : List Sign) (x : List ℕ × List Sign) → third_name a b ts ≡ Ok x → (ts ≡ sign.Word x.0 ∷ x.1) × (is_name x.0 ≡ true) × (bytes_eq x.0 a ≡ false) × (bytes_eq x.0 b ≡ false)
unfolding third_name
third_name-ok a b ts x e =
    let q = else_ok (is_word a (word_ahead ts)) (other_name b ts) _ x e in
    let n = other-ok b ts x q.1 in
    (n.0, n.1, apart-from a x.0 ts x.1 n.0 q.0, n.2)

-- perhaps a comma
comma-ok : (ts : List Sign) → (c : Bool) × (ts ≡ spelled_comma c ++ past_comma ts)
comma-ok ts = either (begins mark.Comma ts) refl where
  either : (b : Bool) → begins mark.Comma ts ≡ b → (c : Bool) × (ts ≡ spelled_comma c ++ (if b then tail ts else ts))
  either true e = (true, begun mark.Comma ts e)
  either false e = (false, refl)

abbrev IsLast : List ℕ → List ℕ → List Sign → Option (List ℕ) × List Sign → Type 0
IsLast a b ts x = (c : Bool) × (ts ≡ (spelled_third x.0 ++ spelled_comma c) ++ x.1) × IsThird a b x.0

abbrev no_name : List Sign → Outcome (Option (List ℕ))
no_name us = Ok (None, us)

abbrev last_name : List ℕ → List Sign → Outcome (Option (List ℕ))
last_name c us = Ok (Some c, past_comma us)

third_at-ok : (a b : List ℕ) (ts us : List Sign) (x : Option (List ℕ) × List Sign) → ts ≡ sign.Mark mark.Comma ∷ us → third_at a b us ≡ Ok x → IsLast a b ts x
third_at-ok a b ts us x p e = either (begins mark.Close us) refl e where
  either : (c : Bool) → begins mark.Close us ≡ c → (if c then no_name us else and_then (third_name a b us) last_name) ≡ Ok x → IsLast a b ts x
  either true q e = let k : (None, us) ≡ x = cc in subst (λ (x : Option (List ℕ) × List Sign). IsLast a b ts x) k (true, p, tt)
  either false q e =
      let n = and_then_ok (third_name a b us) last_name x e in
      let m = third_name-ok a b us n.0 n.1 in
      let c = comma-ok n.0.1 in
      let k : (Some n.0.0, past_comma n.0.1) ≡ x = cc in
      subst (λ (x : Option (List ℕ) × List Sign). IsLast a b ts x) k
      (c.0, p ∙ ap (λ us. sign.Mark mark.Comma ∷ us) m.0 ∙ ap (λ us. sign.Mark mark.Comma ∷ sign.Word n.0.0 ∷ us) c.1, (m.1, m.2, m.3))

third-ok : (a b : List ℕ) (ts : List Sign) (x : Option (List ℕ) × List Sign) → third a b ts ≡ Ok x → IsLast a b ts x
unfolding third
third-ok a b ts x e = either (begins mark.Comma ts) refl e where
  either : (c : Bool) → begins mark.Comma ts ≡ c → (if c then third_at a b (tail ts) else no_name ts) ≡ Ok x → IsLast a b ts x
  either true q e = third_at-ok a b ts (tail ts) x (begun mark.Comma ts q) e
  either false q e = let k : (None, ts) ≡ x = cc in subst (λ (x : Option (List ℕ) × List Sign). IsLast a b ts x) k (false, refl, tt)

abbrev Between : List Sign → Signature × List Sign → Type 0
Between ts x = (between : List Sign) × (ts ≡ between ++ x.1) × IsSignature between x.0

signature-ok : (ts : List Sign) (x : Signature × List Sign) → signature ts ≡ Ok x → Between ts x
signature-ok ts x e =
    let p = and_then_ok (take_name ts) _ x e in
    let q = and_then_ok (expect mark.Comma p.0.1) _ x p.2 in
    let r = and_then_ok (other_name p.0.0 q.0.1) _ x q.2 in
    let s = made_ok (third p.0.0 r.0.0 r.0.1) (λ c. record { entity = p.0.0; period = r.0.0; parameters = c }) x r.2 in
    let n = take_name-ok ts p.0 p.1 in
    let o = other-ok p.0.0 q.0.1 r.0 r.1 in
    let l = third-ok p.0.0 r.0.0 r.0.1 s.0 s.1 in
    let between : List Sign = sign.Word p.0.0 ∷ sign.Mark mark.Comma ∷ sign.Word r.0.0 ∷ (spelled_third s.0.0 ++ spelled_comma l.0) in
    let spelled : ts ≡ between ++ s.0.1 = n.0
    ∙ ap (λ us. sign.Word p.0.0 ∷ us) (expect-ok mark.Comma p.0.1 q.0 q.1)
    ∙ ap (λ us. sign.Word p.0.0 ∷ sign.Mark mark.Comma ∷ us) o.0
    ∙ ap (λ us. sign.Word p.0.0 ∷ sign.Mark mark.Comma ∷ sign.Word r.0.0 ∷ us) l.1 in
    subst (Between ts) s.2 (between, spelled, record { comma = l.0; spelled = refl; entity = n.1; period = o.1; apart = o.2; third = l.2 })

abbrev Defines : List Sign → (CivilDate × Signature) × List Sign → Type 0
Defines ts x = (t : List ℕ) × (between : List Sign) × (tail ts ≡ sign.Word t ∷ sign.Mark mark.Open ∷ (between ++ sign.Mark mark.Close ∷ sign.Mark mark.Colon ∷ [])) × (is_name t ≡ true) × (start_of t ≡ Some x.0.0) × IsSignature between x.0.1

pub definition-ok : (ts : List Sign) (x : (CivilDate × Signature) × List Sign) → definition_heading ts ≡ Ok x → Defines ts x
definition-ok ts x e =
    let p = and_then_ok (start (tail ts)) _ x e in
    let o = and_then_ok (expect mark.Open p.0.1) _ x p.2 in
    let s = and_then_ok (signature o.0.1) _ x o.2 in
    let c = and_then_ok (expect mark.Close s.0.1) _ x s.2 in
    let d = and_then_ok (expect mark.Colon c.0.1) _ x c.2 in
    let f = made_ok (ended d.0.1) (λ _. (p.0.0, s.0.0)) x d.2 in
    let n = start-ok (tail ts) p.0 p.1 in
    let b = signature-ok o.0.1 s.0 s.1 in
    let closed : s.0.1 ≡ sign.Mark mark.Close ∷ sign.Mark mark.Colon ∷ [] =
    expect-ok mark.Close s.0.1 c.0 c.1
    ∙ ap (λ us. sign.Mark mark.Close ∷ us) (expect-ok mark.Colon c.0.1 d.0 d.1)
    ∙ ap (λ us. sign.Mark mark.Close ∷ sign.Mark mark.Colon ∷ us) (ended-ok d.0.1 f.0 f.1) in
    let spelled : tail ts ≡ sign.Word n.0 ∷ sign.Mark mark.Open ∷ (b.0 ++ sign.Mark mark.Close ∷ sign.Mark mark.Colon ∷ []) = n.1
    ∙ ap (λ us. sign.Word n.0 ∷ us) (expect-ok mark.Open p.0.1 o.0 o.1)
    ∙ ap (λ us. sign.Word n.0 ∷ sign.Mark mark.Open ∷ us) b.1
    ∙ ap (λ us. sign.Word n.0 ∷ sign.Mark mark.Open ∷ (b.0 ++ us)) closed in
    subst (Defines ts) f.2 (n.0, b.0, spelled, n.2, n.3, b.2)

-- shapes

-- what a line of this shape begins with
abbrev pub Shaped : Shape → List Sign → Type 0
Shaped shape.Import ts = IsImport ts
Shaped shape.Text ts = IsText ts
Shaped shape.Pass ts = ts ≡ sign.Word (codes "pass") ∷ tail ts
Shaped shape.Assignment ts = Unit {0}
Shaped shape.Class ts = ts ≡ sign.Word (codes "class") ∷ tail ts
Shaped shape.Definition ts = ts ≡ sign.Word (codes "def") ∷ tail ts
Shaped shape.Return ts = ts ≡ sign.Word (codes "return") ∷ tail ts
Shaped (shape.Other k) ts = Unit {0}

module _ (t : List ℕ) (us : List Sign) (s : Shape) where
  abbrev Here : Shape → Type 0
  Here s = Shaped s (sign.Word t ∷ us)

  word-is' : (w : List ℕ) → bytes_eq t w ≡ true → sign.Word t ∷ us ≡ sign.Word w ∷ us
  word-is' w e = ap (λ t. sign.Word t ∷ us) (same t w e)

  other : (a b c : Bool) → (if a then (if b then shape.Assignment else shape.Other Syntax) else (if c then shape.Other Syntax else shape.Other Unsupported)) ≡ s → Here s
  other true true c e = subst Here e tt
  other true false c e = subst Here e tt
  other false b true e = subst Here e tt
  other false b false e = subst Here e tt

  chosen-word : (a b c d f : Bool) → is_import t ≡ a → bytes_eq t (codes "pass") ≡ b → bytes_eq t (codes "class") ≡ c → bytes_eq t (codes "def") ≡ d → bytes_eq t (codes "return") ≡ f
      → (if a then shape.Import else (if b then shape.Pass else (if c then shape.Class else (if d then shape.Definition else (if f then shape.Return else worded t us))))) ≡ s → Here s
  chosen-word true b c d f p q r v w e = subst Here e (t, us, refl, p)
  chosen-word false true c d f p q r v w e = subst Here e (word-is' (codes "pass") q)
  chosen-word false false true d f p q r v w e = subst Here e (word-is' (codes "class") r)
  chosen-word false false false true f p q r v w e = subst Here e (word-is' (codes "def") v)
  chosen-word false false false false true p q r v w e = subst Here e (word-is' (codes "return") w)
  chosen-word false false false false false p q r v w e = other (begins mark.Equal us) (is_name t) (begins_nothing t) e

  word-shaped : begun_by t us ≡ s → Here s
  word-shaped e = chosen-word (is_import t) (bytes_eq t (codes "pass")) (bytes_eq t (codes "class")) (bytes_eq t (codes "def")) (bytes_eq t (codes "return")) refl refl refl refl refl e

text-shaped : (t : List ℕ) (us : List Sign) (s : Shape) → quoted us ≡ s → Shaped s (sign.Text t ∷ us)
text-shaped t [] s e = subst (λ s. Shaped s (sign.Text t ∷ [])) e (t, refl)
text-shaped t (u ∷ us) s e = subst (λ s. Shaped s (sign.Text t ∷ u ∷ us)) e tt

pub shaped : (ts : List Sign) (s : Shape) → shape_of ts ≡ s → Shaped s ts
unfolding shape_of
shaped [] s e = subst (λ s. Shaped s []) e tt
shaped (sign.Word t ∷ us) s e = word-shaped t us s e
shaped (sign.Number t ∷ us) s e = subst (λ s. Shaped s (sign.Number t ∷ us)) e tt
shaped (sign.Text t ∷ us) s e = text-shaped t us s e
shaped (sign.Mark m ∷ us) s e = subst (λ s. Shaped s (sign.Mark m ∷ us)) e tt
