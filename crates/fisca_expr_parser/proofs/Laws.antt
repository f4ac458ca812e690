-- Reading a whole token list finds just what it spells.
use Rattle.std.proofs.Common.{◌≡◌, ℕ, ◌+◌, ◌≤◌, List, [], ◌∷◌, ◌++◌, length, refl, sym, ap, ◌∙◌, subst, arith, append-nil}
use Rattle.std.specs.Prelude.{Ok, nat_lt}
use Rattle.std.proofs.lemmas.Bool.{ltb-false}
use Rattle.fisca_expr_parser.specs.declared.sign.Sign.{Sign}
use Rattle.fisca_ast.specs.Tree.{Tree, height}
use Rattle.fisca_expr_parser.specs.declared.mode.Mode.{Mode}
use Rattle.fisca_expr_parser.specs.Spelling.{spelling, IsExpression}
use Rattle.fisca_expr_parser.specs.Reading.{and_then, reads, ends}
use Rattle.fisca_expr_parser.specs.Views.{whole}
use Rattle.fisca_expr_parser.proofs.Steps.{and_then_ok, else_ok, fine}
use Rattle.fisca_expr_parser.proofs.Found.{reads-found}
use Rattle.fisca_expr_parser.proofs.Only.{reads-read, Closed}

none_left : (ts : List Sign) → length ts ≤ 0 → ts ≡ []
none_left [] e = refl
none_left (s ∷ ts) e = absurd (omega arith)

pub expression_found : (md : Mode) (limit : ℕ) (ts : List Sign) (x : Tree × List Sign) → whole md limit ts ≡ Ok x → IsExpression md ts x.0 × (height x.0 ≤ limit)
expression_found md limit ts x e =
    let p = and_then_ok (reads md limit 0 ts) ends x e in
    let f = reads-found md limit 0 ts p.0 (omega arith) p.1 in
    let q = else_ok (nat_lt 0 (length p.0.1)) (fine (p.0.0, p.0.1)) _ x p.2 in
    let same : (p.0.0, p.0.1) ≡ x = cc in
    let none : p.0.1 ≡ [] = none_left p.0.1 (ltb-false 0 (length p.0.1) q.0) in
    let all : ts ≡ spelling p.0.0 = f.spelled ∙ ap (λ r. spelling p.0.0 ++ r) none ∙ append-nil (spelling p.0.0) in
    subst (λ (x : Tree × List Sign). IsExpression md ts x.0 × (height x.0 ≤ limit)) same (record { spelled = sym all; fit = f.fit }, f.low)

nothing : Closed []
nothing = record { joint = refl; comparison = refl; equal = refl }

pub expression_only : (md : Mode) (limit : ℕ) (ts : List Sign) (e : Tree) → IsExpression md ts e → height e ≤ limit → whole md limit ts ≡ Ok (e, [])
expression_only md limit ts e is low =
    let c = reads-read md limit in
    ap (λ ts. and_then (reads md limit 0 ts) ends) (sym is.spelled ∙ sym (append-nil (spelling e))) ∙ ap (λ r. and_then r ends) (c.whole e [] is.fit low nothing)

-- a token list has one tree at most
pub one_tree : (md : Mode) (ts : List Sign) (a b : Tree) → IsExpression md ts a → IsExpression md ts b → a ≡ b
one_tree md ts a b p q =
    let limit = height a + height b in
    let e : fine (a, []) ≡ fine (b, []) = sym (expression_only md limit ts a p (omega arith)) ∙ expression_only md limit ts b q (omega arith) in
    let same : (a, []) ≡ (b, []) = cc in
    ap (λ (x : Tree × List Sign). x.0) same
