-- A node put behind the others, and its place in the table of the node above it.
use Rattle.std.proofs.Common.{◌≡◌, ℕ, ◌+◌, ◌<◌, Bool, true, false, ◌&&◌, cond, eqb, List, [], ◌∷◌, ◌++◌, length, get_or, set, Option, Some, None, refl, sym, ◌∙◌, ap, arith, inl, inr, ◌⊎◌, ◌≢◌, add-zero, zero-add}
use Rattle.std.proofs.lemmas.Bool.{cases_Bool, cases_lt, eqb-true, eqb-false}
use Rattle.std.proofs.lemmas.Bool.Decides.{Decides-eqb}
use Rattle.std.proofs.lemmas.List.{length-append, length-set, get_or-set_same, get_or-set_other, get_or_append_left}
use Rattle.std.proofs.Math.Seq.{get_or-append_seam}
use Rattle.std.proofs.lemmas.Slice.Eq.{bytes_eq-Decides}
use Rattle.std.specs.BTreeMap.{BTreeMap, get_by_text}
use Rattle.std.specs.List.{position_from}
use Rattle.std.specs.Prelude.{String, IfSome}
use Rattle.std.specs.Str.{bytes_eq}
use Rattle.std.specs.Map.{update}
use Rattle.std.specs.declared.alloc.Global.{Global}
use Rattle.fisca_params.specs.declared.content.Content.{Content}
use Rattle.fisca_params.specs.Tree.{TreeNode, is_child, child_of, child_node}
use Rattle.fisca_params.specs.Nodes.{IsIndexed}

abbrev pub or_else : Option ℕ → Option ℕ → Option ℕ
or_else (Some a) b = Some a
or_else None b = b

taken : (v : Bool) (a b : Option ℕ) → v ≡ true → cond v a b ≡ a
taken v a b e = rw e refl

passed : (v : Bool) (a b : Option ℕ) → v ≡ false → cond v a b ≡ b
passed v a b e = rw e refl

same_number : (n : ℕ) → eqb n n ≡ true
same_number n = (Decides-eqb n n).1 refl

other_number : (m n : ℕ) → (m ≡ n → ⊥) → eqb m n ≡ false
other_number m n h = elim (cases_Bool (eqb m n)) [ inl t ↦ absurd (h (eqb-true m n t)) | inr f ↦ f ]

or_none : (a : Option ℕ) → or_else a None ≡ a
or_none (Some a) = refl
or_none None = refl

-- the first that passes, among these and one more
position-next : (v : Bool) (i : ℕ) (a a' b b' : Option ℕ) → a' ≡ or_else a b' → b' ≡ b → cond v (Some i) a' ≡ or_else (cond v (Some i) a) b
position-next true i a a' b b' e f = refl
position-next false i a a' b b' e f = e ∙ ap (or_else a) f

position-snoc : (p : TreeNode → Bool) (i : ℕ) (xs : List TreeNode) (x : TreeNode) →
    position_from p i (xs ++ x ∷ []) ≡ or_else (position_from p i xs) (cond (p x) (Some (i + length xs)) None)
position-snoc p i [] x = ap (λ k. cond (p x) (Some k) None) (sym (add-zero i))
position-snoc p i (y ∷ ys) x =
    let same : (i + 1) + length ys ≡ i + length (y ∷ ys) = omega arith in
    position-next (p y) i (position_from p (i + 1) ys) (position_from p (i + 1) (ys ++ x ∷ [])) (cond (p x) (Some (i + length (y ∷ ys))) None) (cond (p x) (Some ((i + 1) + length ys)) None)
    (position-snoc p (i + 1) ys x) (ap (λ k. cond (p x) (Some k) None) same)

position-below : (p : TreeNode → Bool) (i : ℕ) (xs : List TreeNode) (k : ℕ) → position_from p i xs ≡ Some k → k < i + length xs
position-below p i [] k e = cc
position-below p i (x ∷ xs) k e =
    elim (cases_Bool (p x)) [
      | inl t ↦ let here : Some i ≡ Some k = sym (taken (p x) (Some i) (position_from p (i + 1) xs) t) ∙ e in let same : i ≡ k = cc in omega arith
      | inr f ↦ let rest : k < (i + 1) + length xs = position-below p (i + 1) xs k (sym (passed (p x) (Some i) (position_from p (i + 1) xs) f) ∙ e) in omega arith
    ]

pub child-within : (t : List TreeNode) (parent : ℕ) (name : List ℕ) (k : ℕ) → child_of t parent name ≡ Some k → k < length t
child-within t parent name k e = let b : k < 0 + length t = position-below (is_child parent name) 0 t k e in omega arith

pub child-within_if : (t : List TreeNode) (parent : ℕ) (name : List ℕ) (o : Option ℕ) → o ≡ child_of t parent name → IfSome o (λ k. k < length t)
child-within_if t parent name None e = tt
child-within_if t parent name (Some k) e = child-within t parent name k (sym e)

abbrev Table : Type 0
Table = BTreeMap (String Global) ℕ

-- a node put below another changes only what the other's name for it finds
pub child-put : (t : List TreeNode) (parent : ℕ) (name : List ℕ) (c : Content) (place : ℕ) (q : List ℕ) →
    child_of (t ++ child_node parent name c ∷ []) place q ≡ or_else (child_of t place q) (cond (eqb parent place && bytes_eq name q) (Some (length t)) None)
child-put t parent name c place q =
    position-snoc (is_child place q) 0 t (child_node parent name c)
    ∙ ap (λ k. or_else (child_of t place q) (cond (eqb parent place && bytes_eq name q) (Some k) None)) (zero-add (length t))

child-put_apart : (t : List TreeNode) (parent : ℕ) (name : List ℕ) (c : Content) (place : ℕ) (q : List ℕ) → eqb parent place ≡ false →
    child_of (t ++ child_node parent name c ∷ []) place q ≡ child_of t place q
child-put_apart t parent name c place q f =
    child-put t parent name c place q ∙ ap (λ v. or_else (child_of t place q) (cond (v && bytes_eq name q) (Some (length t)) None)) f ∙ or_none (child_of t place q)

pub child-put_below : (t : List TreeNode) (parent : ℕ) (name : List ℕ) (c : Content) (q : List ℕ) → child_of t parent name ≡ None →
    child_of (t ++ child_node parent name c ∷ []) parent q ≡ cond (bytes_eq name q) (Some (length t)) (child_of t parent q)
child-put_below t parent name c q free =
    child-put t parent name c parent q
    ∙ ap (λ v. or_else (child_of t parent q) (cond (v && bytes_eq name q) (Some (length t)) None)) (same_number parent)
    ∙ at (cases_Bool (bytes_eq name q))
  where
    at : (bytes_eq name q ≡ true) ⊎ (bytes_eq name q ≡ false) → or_else (child_of t parent q) (cond (bytes_eq name q) (Some (length t)) None) ≡ cond (bytes_eq name q) (Some (length t)) (child_of t parent q)
    at (inr f) = rw f (or_none (child_of t parent q))
    at (inl e) =
        let same : name ≡ q = (bytes_eq-Decides name q).0 e in
        let none : child_of t parent q ≡ None = ap (child_of t parent) (sym same) ∙ free in
        rw (e, none) refl

empty_table : (m : Table) (q : List ℕ) → m.entries ≡ [] → get_by_text m q ≡ None
empty_table m q e = rw e refl

found_elsewhere : (t : List TreeNode) (tables : List Table) (parent : ℕ) (name : List ℕ) (c : Content) (empty full : Table) →
    IsIndexed t tables → empty.entries ≡ [] → (place : ℕ) (d : Table) (q : List ℕ) → place < length t + 1 → eqb parent place ≡ false →
    get_by_text (get_or (set (tables ++ empty ∷ []) parent full) place d) q ≡ child_of (t ++ child_node parent name c ∷ []) place q
found_elsewhere t tables parent name c empty full h e place d q within f =
    let apart : place ≢ parent = λ same. eqb-false parent place f (sym same) in
    ap (λ (m : Table). get_by_text m q) (get_or-set_other (tables ++ empty ∷ []) parent place full d apart)
    ∙ elim (cases_lt place (length t)) [
      | inl before ↦
          ap (λ (m : Table). get_by_text m q) (get_or_append_left tables (empty ∷ []) d place (omega (arith, h.tables)))
          ∙ h.found place d before q
      | inr after ↦
          let last : length tables ≡ place = omega (arith, h.tables) in
          let seam : get_or (tables ++ empty ∷ []) place d ≡ empty = ap (λ k. get_or (tables ++ empty ∷ []) k d) (sym last) ∙ get_or-append_seam tables empty [] d in
          ap (λ (m : Table). get_by_text m q) seam ∙ empty_table empty q e ∙ sym (h.below place after q)
    ]
    ∙ sym (child-put_apart t parent name c place q f)

found_there : (t : List TreeNode) (tables : List Table) (parent : ℕ) (name : List ℕ) (c : Content) (empty old full : Table) →
    IsIndexed t tables → parent < length t → child_of t parent name ≡ None → old ≡ get_or (tables ++ empty ∷ []) parent old →
    ((q : List ℕ) → get_by_text full q ≡ update bytes_eq (get_by_text old) name (Some (length t)) q) →
    (place : ℕ) (d : Table) (q : List ℕ) → parent ≡ place →
    get_by_text (get_or (set (tables ++ empty ∷ []) parent full) place d) q ≡ child_of (t ++ child_node parent name c ∷ []) place q
found_there t tables parent name c empty old full h p free was new place d q same =
    let longer : length (tables ++ empty ∷ []) ≡ length tables + 1 = length-append tables (empty ∷ []) in
    let full_there : get_or (set (tables ++ empty ∷ []) parent full) place d ≡ full =
    ap (λ k. get_or (set (tables ++ empty ∷ []) parent full) k d) (sym same) ∙ get_or-set_same (tables ++ empty ∷ []) parent full d (omega (arith, h.tables, longer)) in
    let had : get_by_text old q ≡ child_of t parent q =
    ap (λ (m : Table). get_by_text m q) (was ∙ get_or_append_left tables (empty ∷ []) old parent (omega (arith, h.tables))) ∙ h.found parent old p q in
    ap (λ (m : Table). get_by_text m q) full_there
    ∙ new q
    ∙ ap (λ o. cond (bytes_eq name q) (Some (length t)) o) had
    ∙ sym (child-put_below t parent name c q free)
    ∙ ap (λ k. child_of (t ++ child_node parent name c ∷ []) k q) same

pub indexed-put : (t : List TreeNode) (tables : List Table) (parent : ℕ) (name : List ℕ) (c : Content) (empty old full : Table) →
    IsIndexed t tables → parent < length t → child_of t parent name ≡ None → empty.entries ≡ [] → old ≡ get_or (tables ++ empty ∷ []) parent old →
    ((q : List ℕ) → get_by_text full q ≡ update bytes_eq (get_by_text old) name (Some (length t)) q) →
    IsIndexed (t ++ child_node parent name c ∷ []) (set (tables ++ empty ∷ []) parent full)
indexed-put t tables parent name c empty old full h p free e was new =
    let longer : length (tables ++ empty ∷ []) ≡ length tables + 1 = length-append tables (empty ∷ []) in
    let more : length (t ++ child_node parent name c ∷ []) ≡ length t + 1 = length-append t (child_node parent name c ∷ []) in
    record {
      some = omega (arith, more);
      tables = omega (arith, length-set (tables ++ empty ∷ []) parent full, longer, more, h.tables);
      found = λ place d within q.
          elim (cases_Bool (eqb parent place)) [
            | inl s ↦ found_there t tables parent name c empty old full h p free was new place d q (eqb-true parent place s)
            | inr f ↦ found_elsewhere t tables parent name c empty full h e place d q (omega arith) f
          ];
      below = λ place out q.
          let f : eqb parent place ≡ false = other_number parent place (λ same. omega arith) in
          child-put_apart t parent name c place q f ∙ h.below place (omega (arith, more)) q;
    }
