-- What is read is spelled so: the tree in front is spelled by what was taken.
use Rattle.std.proofs.Common.{◌≡◌, ℕ, ◌<◌, ◌≤◌, zero, suc, List, [], ◌∷◌, ◌++◌, length, true, false, ◌⊎◌, inl, inr, Option, Some, None, refl, sym, ap, ap₂, subst, ◌∙◌, arith, append_assoc}
use Rattle.std.specs.Prelude.{◌&&◌, ◌==◌, Ok, if◌then◌else◌, is_some, nat_lt, nat_le}
use Rattle.std.proofs.lemmas.Bool.{and_from, ltb-true, ltb-false, le-leb, eqb-true, eqb-false, and_parts}
use Rattle.fisca_ast.specs.declared.fault.FormulaKind.TheVariants as kind
use Rattle.fisca_expr_parser.specs.declared.sign.Sign.{Sign}
use Rattle.fisca_expr_parser.specs.declared.sign.Sign.TheVariants as sign
use Rattle.fisca_lexer.specs.declared.token.Mark.{Mark}
use Rattle.fisca_lexer.specs.declared.token.Mark.TheVariants as mark
use Rattle.fisca_expr_parser.specs.declared.marks.Joint.{Joint}
use Rattle.fisca_expr_parser.specs.declared.marks.Joint.TheVariants as joint
use Rattle.fisca_expr_parser.specs.declared.marks.Beginning.{Beginning}
use Rattle.fisca_expr_parser.specs.declared.marks.Beginning.TheVariants as begin
use Rattle.fisca_ast.specs.declared.tree.Operator.{Operator}
use Rattle.fisca_ast.specs.declared.tree.Operator.TheVariants as op
use Rattle.fisca_ast.specs.declared.tree.Comparison.{Comparison}
use Rattle.fisca_expr_parser.specs.Marks.{operator_mark, comparison_mark, prefix_mark, opening_mark}
use Rattle.fisca_expr_parser.specs.Steps.Marks.{closing_mark, bracket_of, binds, tightness, beginning_of}
use Rattle.fisca_ast.specs.Steps.Words.{is_name, is_atom}
use Rattle.fisca_expr_parser.specs.declared.mode.Mode.{Mode}
use Rattle.fisca_ast.specs.declared.tree.Delimiter.{Delimiter}
use Rattle.fisca_ast.specs.declared.tree.Delimiter.TheVariants as bracket
use Rattle.fisca_ast.specs.declared.tree.Suffix.{Suffix}
use Rattle.fisca_ast.specs.declared.tree.Suffix.TheVariants as suffix
use Rattle.fisca_expr_parser.specs.declared.mode.Place.{Place}
use Rattle.fisca_ast.specs.Tree.{Tree, Series, Argument, name, number, text, bracketed, attribute, applied, prefixed, binary, compare, nothing, last, next, positional, keyword, entry, height, height_all, height_of}
use Rattle.fisca_expr_parser.specs.Spelling.{spelling, spelling_all, spelling_of, fits, fits_all, fits_in, level}
use Rattle.fisca_expr_parser.specs.Steps.Spelling.{takes_positional, takes_keyword, takes_entry, takes_many, place_behind, place_in, allows, place_behind_suffix}
use Rattle.fisca_expr_parser.specs.Reading.{Reader, and_then, pure, refuse, tail, joint_ahead, comparison_ahead, keyword_ahead, expect, take_name, argument, argument_by, mapped, stop, series, enclosed, opened, operand, joined, climb, compared, compared_by, onward, expression, reads}
use Rattle.fisca_expr_parser.specs.Steps.Reading.{begins}
use Rattle.fisca_expr_parser.proofs.Steps.{and_then_ok, made_ok, then_ok, else_ok, chosen, begun, mark_of, joined-mark, compared-mark, begins-so, keyword-is, take_name-ok, expect-ok, fine}

-- how tightly what follows an expression may join, at most
abbrev pub edge : Tree → ℕ
edge (compare o a b) = 1
edge (binary o a b) = suc (binds o)
edge (prefixed p e) = 5
edge _ = 7

pub binds-small : (o : Operator) → binds o ≤ 4
binds-small op.Or = omega arith
binds-small op.And = omega arith
binds-small op.Add = omega arith
binds-small op.Subtract = omega arith
binds-small op.Multiply = omega arith
binds-small op.Divide = omega arith

pub binds-some : (o : Operator) → 1 ≤ binds o
binds-some op.Or = omega arith
binds-some op.And = omega arith
binds-some op.Add = omega arith
binds-some op.Subtract = omega arith
binds-some op.Multiply = omega arith
binds-some op.Divide = omega arith

pub tightness-small : (j : Joint) → tightness j ≤ 6
tightness-small joint.Access = omega arith
tightness-small (joint.Applied s) = omega arith
tightness-small (joint.Operates o) = omega (arith, binds-small o)
tightness-small joint.Ends = omega arith

pub edge-level : (e : Tree) (k : ℕ) → k < edge e → k ≤ 6 → k ≤ level e
edge-level (compare o a b) k below most = omega arith
edge-level (binary o a b) k below most = omega arith
edge-level (prefixed p e) k below most = omega arith
edge-level _ k below most = most

pub record Found (md : Mode) (least d : ℕ) (ts : List Sign) (x : Tree × List Sign) : Type 0 where
  pub spelled : ts ≡ spelling x.0 ++ x.1
  pub fit : fits md x.0 ≡ true
  pub low : height x.0 ≤ d
  pub tight : least ≤ level x.0
  pub closed : 1 ≤ least → tightness (joint_ahead x.1) < least

pub record FoundArgument (md : Mode) (p : Place) (d : ℕ) (ts : List Sign) (x : Argument × List Sign) : Type 0 where
  pub spelled : ts ≡ spelling_of x.0 ++ x.1
  pub fit : fits_in md p x.0 ≡ true
  pub low : height_of x.0 ≤ d

pub record FoundSeries (md : Mode) (p : Place) (d : ℕ) (ts : List Sign) (x : Series × List Sign) : Type 0 where
  pub spelled : ts ≡ spelling_all x.0 ++ x.1
  pub fit : fits_all md p x.0 ≡ true
  pub low : height_all x.0 ≤ d

-- behind left, and past the sign that joins
pub record Joins (md : Mode) (j : Joint) (d : ℕ) (left : Tree) (ts : List Sign) (x : Tree × List Sign) : Type 0 where
  pub spelled : spelling left ++ sign.Mark (mark_of j) ∷ ts ≡ spelling x.0 ++ x.1
  pub fit : fits md x.0 ≡ true
  pub low : height x.0 ≤ suc d
  pub level_is : level x.0 ≡ tightness j
  pub closed : tightness (joint_ahead x.1) < edge x.0

pub record Climbs (md : Mode) (least limit : ℕ) (left : Tree) (ts : List Sign) (x : Tree × List Sign) : Type 0 where
  pub spelled : spelling left ++ ts ≡ spelling x.0 ++ x.1
  pub fit : fits md x.0 ≡ true
  pub low : height x.0 ≤ limit
  pub tight : least ≤ level x.0
  pub closed : tightness (joint_ahead x.1) < least

pub record Starts (md : Mode) (d : ℕ) (ts : List Sign) (x : Tree × List Sign) : Type 0 where
  pub spelled : ts ≡ spelling x.0 ++ x.1
  pub fit : fits md x.0 ≡ true
  pub low : height x.0 ≤ suc d
  pub tight : 5 ≤ level x.0
  pub closed : tightness (joint_ahead x.1) < edge x.0

abbrev pub Sound : Mode → ℕ → (ℕ → Reader Tree) → Type 0
Sound md d inner = (least : ℕ) (ts : List Sign) (x : Tree × List Sign) → least ≤ 5 → inner least ts ≡ Ok x → Found md least d ts x

-- x in front of the closing mark
pub closing : (s : Sign) (xs ts rest : List Sign) → ts ≡ s ∷ rest → xs ++ ts ≡ (xs ++ s ∷ []) ++ rest
closing s xs ts rest e = ap (λ r. xs ++ r) e ∙ sym (append_assoc xs (s ∷ []) rest)

module _ (md : Mode) (inner : ℕ → Reader Tree) (d : ℕ) (sound : Sound md d inner) where
  argument_by-found : (p : Place) (o : Option (List ℕ)) (ts : List Sign) (x : Argument × List Sign) → keyword_ahead ts ≡ o → argument_by inner p o ts ≡ Ok x → FoundArgument md p d ts x
  argument_by-found p None ts x ahead e = alone (chosen (takes_positional p) _ _ (fine x) e) where
    mapped-found : (takes_entry p ≡ true) → mapped inner ts ≡ Ok x → FoundArgument md p d ts x
    mapped-found takes e =
        let k = and_then_ok (inner 0 ts) _ x e in
        let f = sound 0 ts k.0 (omega arith) k.1 in
        let c = and_then_ok (expect mark.Colon k.0.1) _ x k.2 in
        let colon : k.0.1 ≡ sign.Mark mark.Colon ∷ c.0.1 = expect-ok mark.Colon k.0.1 c.0 c.1 in
        let m = made_ok (inner 0 c.0.1) (entry k.0.0) x c.2 in
        let g = sound 0 c.0.1 m.0 (omega arith) m.1 in
        subst (FoundArgument md p d ts) m.2 (record {
          spelled = f.spelled ∙ ap (λ r. spelling k.0.0 ++ r) (colon ∙ ap (λ r. sign.Mark mark.Colon ∷ r) g.spelled) ∙ sym (append_assoc (spelling k.0.0) (sign.Mark mark.Colon ∷ spelling m.0.0) m.0.1);
          fit = and_from (takes_entry p) (fits md k.0.0 && fits md m.0.0) takes (and_from (fits md k.0.0) (fits md m.0.0) f.fit g.fit);
          low = omega (arith, f.low, g.low);
        })

    alone : ((takes_positional p ≡ true) × (and_then (inner 0 ts) (λ e. pure (positional e)) ≡ fine x)) ⊎ ((takes_positional p ≡ false) × ((if takes_entry p then mapped inner ts else stop ts) ≡ fine x)) → FoundArgument md p d ts x
    alone (inl (takes, e)) =
        let m = made_ok (inner 0 ts) positional x e in
        let f = sound 0 ts m.0 (omega arith) m.1 in
        subst (FoundArgument md p d ts) m.2 (record { spelled = f.spelled; fit = and_from (takes_positional p) (fits md m.0.0) takes f.fit; low = f.low })
    alone (inr (takes, e)) =
        let t = then_ok (takes_entry p) (mapped inner ts) _ x e in
        mapped-found t.0 t.1
  argument_by-found p (Some k) ts x ahead e =
      let t = then_ok (takes_keyword p && is_name k) _ _ x e in
      let m = made_ok (inner 0 (tail (tail ts))) (keyword k) x t.1 in
      let f = sound 0 (tail (tail ts)) m.0 (omega arith) m.1 in
      subst (FoundArgument md p d ts) m.2 (record { spelled = keyword-is ts k ahead ∙ ap (λ r. sign.Word k ∷ sign.Mark mark.Equal ∷ r) f.spelled; fit = and_from (takes_keyword p && is_name k) (fits md m.0.0) t.0 f.fit; low = f.low })

  pub argument-found : (p : Place) (ts : List Sign) (x : Argument × List Sign) → argument inner p ts ≡ Ok x → FoundArgument md p d ts x
  unfolding argument
  argument-found p ts x e = argument_by-found p (keyword_ahead ts) ts x refl e

  pub series-found : (p : Place) (end : Mark) (n : ℕ) (ts : List Sign) (x : Series × List Sign) → series inner p end n ts ≡ Ok x → FoundSeries md p d ts x
  unfolding series
  series-found p end zero ts x e = cc
  series-found p end (suc n) ts x e = first (λ q us y. series-found q end n us y) (chosen (begins end ts && takes_many p) _ _ (fine x) e) where
    further : ((q : Place) (us : List Sign) (y : Series × List Sign) → series inner q end n us ≡ Ok y → FoundSeries md q d us y) → (a : Argument × List Sign) → FoundArgument md p d ts a
        → (((begins mark.Comma a.1 && takes_many p) ≡ true) × (and_then (series inner (place_behind p a.0) end n (tail a.1)) (λ xs. pure (next a.0 xs)) ≡ fine x)) ⊎ (((begins mark.Comma a.1 && takes_many p) ≡ false) × (fine (last a.0, a.1) ≡ fine x))
        → FoundSeries md p d ts x
    further again a f (inl (goes, e)) =
        let comma : (begins mark.Comma a.1 ≡ true) × (takes_many p ≡ true) = and_parts (begins mark.Comma a.1) (takes_many p) goes in
        let m = made_ok (series inner (place_behind p a.0) end n (tail a.1)) (next a.0) x e in
        let s = again (place_behind p a.0) (tail a.1) m.0 m.1 in
        let rest : a.1 ≡ sign.Mark mark.Comma ∷ (spelling_all m.0.0 ++ m.0.1) = begun mark.Comma a.1 comma.0 ∙ ap (λ r. sign.Mark mark.Comma ∷ r) s.spelled in
        subst (FoundSeries md p d ts) m.2 (record {
          spelled = f.spelled ∙ ap (λ r. spelling_of a.0 ++ r) rest ∙ sym (append_assoc (spelling_of a.0) (sign.Mark mark.Comma ∷ spelling_all m.0.0) m.0.1);
          fit = and_from (takes_many p) (fits_in md p a.0 && fits_all md (place_behind p a.0) m.0.0) comma.1 (and_from (fits_in md p a.0) (fits_all md (place_behind p a.0) m.0.0) f.fit s.fit);
          low = omega (arith, f.low, s.low);
        })
    further again a f (inr (none, e)) =
        let q : (last a.0, a.1) ≡ x = cc in
        subst (FoundSeries md p d ts) q (record { spelled = f.spelled; fit = f.fit; low = f.low })

    first : ((q : Place) (us : List Sign) (y : Series × List Sign) → series inner q end n us ≡ Ok y → FoundSeries md q d us y) → (((begins end ts && takes_many p) ≡ true) × (fine (nothing, ts) ≡ fine x)) ⊎ (((begins end ts && takes_many p) ≡ false) × (and_then (argument inner p ts) (λ a rest. if begins mark.Comma rest && takes_many p then and_then (series inner (place_behind p a) end n (tail rest)) (λ xs. pure (next a xs)) else Ok (last a, rest)) ≡ fine x))
        → FoundSeries md p d ts x
    first again (inl (closes, e)) =
        let q : (nothing, ts) ≡ x = cc in
        let ends : (begins end ts ≡ true) × (takes_many p ≡ true) = and_parts (begins end ts) (takes_many p) closes in
        subst (FoundSeries md p d ts) q (record { spelled = refl; fit = ends.1; low = omega arith })
    first again (inr (more, e)) =
        let a = and_then_ok (argument inner p ts) _ x e in
        further again a.0 (argument-found p ts a.0 a.1) (chosen (begins mark.Comma a.0.1 && takes_many p) _ _ (fine x) a.2)

  -- with its closing mark
  pub enclosed-found : (p : Place) (end : Mark) (ts : List Sign) (x : Series × List Sign) → enclosed inner p end ts ≡ Ok x → FoundSeries md p d ts (x.0, sign.Mark end ∷ x.1)
  unfolding enclosed
  enclosed-found p end ts x e =
      let s = and_then_ok (series inner p end (length ts) ts) _ x e in
      let f = series-found p end (length ts) ts s.0 s.1 in
      let m = made_ok (expect end s.0.1) (λ _. s.0.0) x s.2 in
      let ended : s.0.1 ≡ sign.Mark end ∷ m.0.1 = expect-ok end s.0.1 m.0 m.1 in
      subst (λ x. FoundSeries md p d ts (x.0, sign.Mark end ∷ x.1)) m.2 (record { spelled = f.spelled ∙ ap (λ r. spelling_all s.0.0 ++ r) ended; fit = f.fit; low = f.low })

  joined-found : (j : Joint) (left : Tree) (ts : List Sign) (x : Tree × List Sign) → fits md left ≡ true → height left ≤ d → tightness j ≤ level left → joined inner j left ts ≡ Ok x → Joins md j d left ts x
  unfolding joined
  joined-found joint.Access left ts x fit low tight e =
      let m = made_ok (take_name ts) (attribute left) x e in
      let n = take_name-ok ts m.0 m.1 in
      subst (Joins md joint.Access d left ts) m.2 (record {
        spelled = ap (λ r. spelling left ++ sign.Mark mark.Dot ∷ r) n.0 ∙ sym (append_assoc (spelling left) (sign.Mark mark.Dot ∷ sign.Word m.0.0 ∷ []) m.0.1);
        fit = and_from (fits md left) (nat_le 6 (level left) && is_name m.0.0) fit (and_from (nat_le 6 (level left)) (is_name m.0.0) (le-leb 6 (level left) tight) n.1);
        low = omega (arith, low);
        level_is = refl;
        closed = omega (arith, tightness-small (joint_ahead m.0.1));
      })
  joined-found (joint.Applied s) left ts x fit low tight e =
      let p = place_behind_suffix s in
      let open_mark = sign.Mark (opening_mark (bracket_of s)) in
      let close_mark = sign.Mark (closing_mark (bracket_of s)) in
      let m = made_ok (enclosed inner p (closing_mark (bracket_of s)) ts) (applied s left) x e in
      let f = enclosed-found p (closing_mark (bracket_of s)) ts m.0 m.1 in
      subst (Joins md (joint.Applied s) d left ts) m.2 (record {
        spelled = ap (λ r. spelling left ++ open_mark ∷ r) (f.spelled ∙ closing close_mark (spelling_all m.0.0) (close_mark ∷ m.0.1) m.0.1 refl)
            ∙ sym (append_assoc (spelling left) (open_mark ∷ (spelling_all m.0.0 ++ close_mark ∷ [])) m.0.1);
        fit = and_from (fits md left) (nat_le 6 (level left) && fits_all md p m.0.0) fit (and_from (nat_le 6 (level left)) (fits_all md p m.0.0) (le-leb 6 (level left) tight) f.fit);
        low = omega (arith, low, f.low);
        level_is = refl;
        closed = omega (arith, tightness-small (joint_ahead m.0.1));
      })
  joined-found (joint.Operates o) left ts x fit low tight e =
      let m = made_ok (inner (suc (binds o)) ts) (binary o left) x e in
      let f = sound (suc (binds o)) ts m.0 (omega (arith, binds-small o)) m.1 in
      subst (Joins md (joint.Operates o) d left ts) m.2 (record {
        spelled = ap (λ r. spelling left ++ sign.Mark (operator_mark o) ∷ r) f.spelled ∙ sym (append_assoc (spelling left) (sign.Mark (operator_mark o) ∷ spelling m.0.0) m.0.1);
        fit = and_from (fits md left && nat_le (binds o) (level left)) (fits md m.0.0 && nat_le (suc (binds o)) (level m.0.0)) (and_from (fits md left) (nat_le (binds o) (level left)) fit (le-leb (binds o) (level left) tight))
            (and_from (fits md m.0.0) (nat_le (suc (binds o)) (level m.0.0)) f.fit (le-leb (suc (binds o)) (level m.0.0) f.tight));
        low = omega (arith, low, f.low);
        level_is = refl;
        closed = f.closed (omega arith);
      })
  joined-found joint.Ends left ts x fit low tight e = cc

  climb-found : (least n : ℕ) (left : Tree) (ts : List Sign) (x : Tree × List Sign) → 1 ≤ least → fits md left ≡ true → height left ≤ suc d → least ≤ level left → tightness (joint_ahead ts) < edge left
      → climb inner (suc d) least n left ts ≡ Ok x → Climbs md least (suc d) left ts x
  unfolding climb
  climb-found least zero left ts x some fit low tight closed e =
      let t = then_ok (nat_lt (tightness (joint_ahead ts)) least) (Ok (left, ts)) _ x e in
      let q : (left, ts) ≡ x = cc in
      subst (Climbs md least (suc d) left ts) q (record { spelled = refl; fit = fit; low = low; tight = tight; closed = ltb-true (tightness (joint_ahead ts)) least t.0 })
  climb-found least (suc n) left ts x some fit low tight closed e = turn (λ l us y. climb-found least n l us y some) (chosen (nat_lt (tightness (joint_ahead ts)) least) _ _ (fine x) e) where
    turn : ((l : Tree) (us : List Sign) (y : Tree × List Sign) → fits md l ≡ true → height l ≤ suc d → least ≤ level l → tightness (joint_ahead us) < edge l → climb inner (suc d) least n l us ≡ Ok y → Climbs md least (suc d) l us y)
        → ((nat_lt (tightness (joint_ahead ts)) least ≡ true) × (fine (left, ts) ≡ fine x))
        ⊎ ((nat_lt (tightness (joint_ahead ts)) least ≡ false) × ((if nat_lt (height left) (suc d) then and_then (joined inner (joint_ahead ts) left (tail ts)) (climb inner (suc d) least n) else refuse kind.TooDeep ts) ≡ fine x))
        → Climbs md least (suc d) left ts x
    turn again (inl (stops, e)) =
        let q : (left, ts) ≡ x = cc in
        subst (Climbs md least (suc d) left ts) q (record { spelled = refl; fit = fit; low = low; tight = tight; closed = ltb-true (tightness (joint_ahead ts)) least stops })
    turn again (inr (goes, e)) =
        let j = joint_ahead ts in
        let t = then_ok (nat_lt (height left) (suc d)) (and_then (joined inner j left (tail ts)) (climb inner (suc d) least n)) _ x e in
        let room : height left < suc d = ltb-true (height left) (suc d) t.0 in
        let enough : least ≤ tightness j = ltb-false (tightness j) least goes in
        let under : tightness j ≤ level left = edge-level left (tightness j) closed (tightness-small j) in
        let p = and_then_ok (joined inner j left (tail ts)) (climb inner (suc d) least n) x t.1 in
        let f = joined-found j left (tail ts) p.0 fit (omega arith) under p.1 in
        let is : ts ≡ sign.Mark (mark_of j) ∷ tail ts = joined-mark ts j refl (λ ends. let none : tightness j ≡ 0 = ap tightness ends in omega arith) in
        let c = again p.0.0 p.0.1 x f.fit f.low (omega (arith, f.level_is)) f.closed p.2 in
        record { spelled = ap (λ r. spelling left ++ r) is ∙ f.spelled ∙ c.spelled; fit = c.fit; low = c.low; tight = c.tight; closed = c.closed }

  opened-found : (b : Beginning) (m : Mark) (ts : List Sign) (x : Tree × List Sign) → beginning_of m ≡ b → opened inner md b (sign.Mark m ∷ ts) ≡ Ok x → Starts md d (sign.Mark m ∷ ts) x
  opened-found (begin.Opens b) m ts x is e =
      let at : m ≡ opening_mark b = begins-so m (begin.Opens b) is (λ q. cc) in
      let close_mark = sign.Mark (closing_mark b) in
      let t = then_ok (allows md b) (and_then (enclosed inner (place_in md b) (closing_mark b) ts) (λ xs. pure (bracketed b xs))) _ x e in
      let p = made_ok (enclosed inner (place_in md b) (closing_mark b) ts) (bracketed b) x t.1 in
      let f = enclosed-found (place_in md b) (closing_mark b) ts p.0 p.1 in
      subst (Starts md d (sign.Mark m ∷ ts)) p.2 (record {
        spelled = ap₂ (λ k r. sign.Mark k ∷ r) at (f.spelled ∙ closing close_mark (spelling_all p.0.0) (close_mark ∷ p.0.1) p.0.1 refl);
        fit = and_from (allows md b) (fits_all md (place_in md b) p.0.0) t.0 f.fit;
        low = omega (arith, f.low);
        tight = omega arith;
        closed = omega (arith, tightness-small (joint_ahead p.0.1));
      })
  opened-found (begin.Sign s) m ts x is e =
      let at : m ≡ prefix_mark s = begins-so m (begin.Sign s) is (λ q. cc) in
      let p = made_ok (inner 5 ts) (prefixed s) x e in
      let f = sound 5 ts p.0 (omega arith) p.1 in
      subst (Starts md d (sign.Mark m ∷ ts)) p.2 (record {
        spelled = ap₂ (λ k r. sign.Mark k ∷ r) at f.spelled;
        fit = and_from (fits md p.0.0) (nat_le 5 (level p.0.0)) f.fit (le-leb 5 (level p.0.0) f.tight);
        low = omega (arith, f.low);
        tight = omega arith;
        closed = f.closed (omega arith);
      })
  opened-found begin.Nothing m ts x is e = cc

  operand-found : (ts : List Sign) (x : Tree × List Sign) → operand inner md ts ≡ Ok x → Starts md d ts x
  unfolding operand
  operand-found [] x e = cc
  operand-found (sign.Word t ∷ ts) x e =
      let p = then_ok (is_atom t) (Ok (name t, ts)) _ x e in
      let q : (name t, ts) ≡ x = cc in
      subst (Starts md d (sign.Word t ∷ ts)) q (record { spelled = refl; fit = p.0; low = omega arith; tight = omega arith; closed = omega (arith, tightness-small (joint_ahead ts)) })
  operand-found (sign.Number t ∷ ts) x e =
      let q : (number t, ts) ≡ x = cc in
      subst (Starts md d (sign.Number t ∷ ts)) q (record { spelled = refl; fit = refl; low = omega arith; tight = omega arith; closed = omega (arith, tightness-small (joint_ahead ts)) })
  operand-found (sign.Text t ∷ ts) x e =
      let q : (text t, ts) ≡ x = cc in
      subst (Starts md d (sign.Text t ∷ ts)) q (record { spelled = refl; fit = refl; low = omega arith; tight = omega arith; closed = omega (arith, tightness-small (joint_ahead ts)) })
  operand-found (sign.Mark m ∷ ts) x e = opened-found (beginning_of m) m ts x refl e

  compared_by-found : (o : Option Comparison) (left : Tree) (ts : List Sign) (x : Tree × List Sign) → comparison_ahead ts ≡ o → fits md left ≡ true → height left ≤ suc d → 1 ≤ level left → compared_by inner (suc d) left o ts ≡ Ok x
      → (spelling left ++ ts ≡ spelling x.0 ++ x.1) × (fits md x.0 ≡ true) × (height x.0 ≤ suc d)
  compared_by-found None left ts x is fit low tight e =
      let q : (left, ts) ≡ x = cc in
      subst (λ (x : Tree × List Sign). (spelling left ++ ts ≡ spelling x.0 ++ x.1) × (fits md x.0 ≡ true) × (height x.0 ≤ suc d)) q (refl, fit, low)
  compared_by-found (Some o) left ts x is fit low tight e =
      let t = then_ok (nat_lt (height left) (suc d)) _ _ x e in
      let room : height left < suc d = ltb-true (height left) (suc d) t.0 in
      let p = and_then_ok (inner 1 (tail ts)) _ x t.1 in
      let f = sound 1 (tail ts) p.0 (omega arith) p.1 in
      let u = else_ok (is_some (comparison_ahead p.0.1)) (fine (compare o left p.0.0, p.0.1)) _ x p.2 in
      let q : (compare o left p.0.0, p.0.1) ≡ x = cc in
      subst (λ (x : Tree × List Sign). (spelling left ++ ts ≡ spelling x.0 ++ x.1) × (fits md x.0 ≡ true) × (height x.0 ≤ suc d)) q (
        ap (λ r. spelling left ++ r) (compared-mark ts o is ∙ ap (λ r. sign.Mark (comparison_mark o) ∷ r) f.spelled) ∙ sym (append_assoc (spelling left) (sign.Mark (comparison_mark o) ∷ spelling p.0.0) p.0.1),
        and_from (fits md left && nat_le 1 (level left)) (fits md p.0.0 && nat_le 1 (level p.0.0)) (and_from (fits md left) (nat_le 1 (level left)) fit (le-leb 1 (level left) tight))
            (and_from (fits md p.0.0) (nat_le 1 (level p.0.0)) f.fit (le-leb 1 (level p.0.0) f.tight)),
        omega (arith, room, f.low),
      )

  expression-found : (least : ℕ) (ts : List Sign) (x : Tree × List Sign) → least ≤ 5 → expression inner md (suc d) least ts ≡ Ok x → Found md least (suc d) ts x
  unfolding compared
  expression-found least ts x most e =
      let p = and_then_ok (operand inner md ts) (onward inner (suc d) least) x e in
      continued p.0 (operand-found ts p.0 p.1) (chosen (least == 0) _ _ (fine x) p.2) where
        continued : (p : Tree × List Sign) → Starts md d ts p
            → ((least == 0) ≡ true) × (and_then (climb inner (suc d) 1 (suc d) p.0 p.1) (compared inner (suc d)) ≡ fine x) ⊎ ((least == 0) ≡ false) × (climb inner (suc d) least (suc d) p.0 p.1 ≡ fine x)
            → Found md least (suc d) ts x
        continued p f (inl (zeroth, e)) =
            let none : least ≡ 0 = eqb-true least 0 zeroth in
            let q = and_then_ok (climb inner (suc d) 1 (suc d) p.0 p.1) _ x e in
            let c = climb-found 1 (suc d) p.0 p.1 q.0 (omega arith) f.fit f.low (omega (arith, f.tight)) f.closed q.1 in
            let r = compared_by-found (comparison_ahead q.0.1) q.0.0 q.0.1 x refl c.fit c.low c.tight q.2 in
            record { spelled = f.spelled ∙ c.spelled ∙ r.0; fit = r.1; low = r.2; tight = omega arith; closed = λ some. absurd (omega arith) }
        continued p f (inr (some, e)) =
            let one : 1 ≤ least = omega (arith, eqb-false least 0 some) in
            let c = climb-found least (suc d) p.0 p.1 x one f.fit f.low (omega (arith, f.tight)) f.closed e in
            record { spelled = f.spelled ∙ c.spelled; fit = c.fit; low = c.low; tight = c.tight; closed = λ _. c.closed }

pub reads-found : (md : Mode) (d : ℕ) → Sound md d (reads md d)
unfolding reads
reads-found md zero least ts x most e = cc
reads-found md (suc d) least ts x most e = expression-found md (reads md d) d (reads-found md d) least ts x most e
