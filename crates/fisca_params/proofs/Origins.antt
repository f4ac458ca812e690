-- What stands in a tree comes from a file.
use Rattle.std.proofs.Common.{◌≡◌, ℕ, suc, zero, ◌+◌, ◌<◌, Bool, true, false, ◌&&◌, eqb, List, [], ◌∷◌, ◌++◌, length, Option, Some, None, Result, Ok, Err, option_and_then, is_some, slice_get, refl, sym, ◌∙◌, ap, arith, inl, inr, codes, append_assoc, append-nil}
use Rattle.std.proofs.lemmas.Bool.{cases_Bool, cases_lt, eqb-true}
use Rattle.std.proofs.lemmas.Option.{slice_get_within}
use Rattle.std.proofs.lemmas.List.{length-append}
use Rattle.std.proofs.lemmas.Slice.Eq.{bytes_eq-Decides}
use Rattle.std.specs.List.{position_from, enumerate_from}
use Rattle.std.specs.Str.{bytes_eq}
use Rattle.fisca_params.specs.declared.content.Content.{Content}
use Rattle.fisca_params.specs.declared.content.Content.TheVariants as content
use Rattle.fisca_yaml.specs.Steps.Find.{get}
use Rattle.fisca_yaml.specs.Grouping.{document}
use Rattle.fisca_yaml.specs.Node.{Node, null, scalar, list, map, Entries, no_entries, entry}
use Rattle.fisca_params.specs.Causes.{Cause, duplicate_name}
use Rattle.fisca_params.specs.Steps.Content.{date_map, parameter_in, scale_of}
use Rattle.fisca_params.specs.FaultLines.{line_at, values_line, scale_line}
use Rattle.fisca_params.specs.Files.{Placed, with_tree, with_names, with_file, after_file, with_files, root_alone}
use Rattle.fisca_params.specs.Steps.Files.{in_path_order, tree_of}
use Rattle.fisca_params.specs.Paths.{names_of}
use Rattle.fisca_params.specs.Places.{walk, EachReachedOnce, Says, EntrySays, SaysBelow, FileSays, SomeFileSays}
use Rattle.fisca_num.specs.Results.{and_then}
use Rattle.fisca_params.specs.Source.{Source}
use Rattle.fisca_params.specs.Tree.{TreeNode, child_of, child_node, is_child, is_at, content_at}
use Rattle.fisca_params.specs.Steps.Tree.{with_child, with_read, put_map, put_node, put_children, is_description, is_folder, describes_folder, enter_child, put_below}
use Rattle.fisca_params.proofs.EachFile.{Each, each-ordered}
use Rattle.fisca_params.proofs.Standing.{Kept, put-found, Grows, grows-if, grows-then, grows-from, grows-either, there-grows, kept-same, kept-put}

-- names that lead to a place, by the nodes above it
pub data Leads (t : List TreeNode) : List (List ℕ) → ℕ → Type 0 where
  at_root : Leads t [] 0
  below : (names : List (List ℕ)) (parent place : ℕ) (x : TreeNode) → Leads t names parent → slice_get t place ≡ Some x → x.parent ≡ Some parent →
      Leads t (names ++ x.name ∷ []) place

-- the root has no node above it, and each other node stands after the one above it
pub record IsTree (t : List TreeNode) : Type 0 where
  pub root : (x : TreeNode) (parent : ℕ) → slice_get t 0 ≡ Some x → x.parent ≡ Some parent → ⊥
  pub some : 0 < length t
  pub after : (place parent : ℕ) (x : TreeNode) → slice_get t place ≡ Some x → x.parent ≡ Some parent → parent < place

get-held : (t : List TreeNode) (y : TreeNode) (k : ℕ) (x : TreeNode) → slice_get t k ≡ Some x → slice_get (t ++ y ∷ []) k ≡ Some x
get-held [] y k x e = cc
get-held (z ∷ t) y zero x e = e
get-held (z ∷ t) y (suc k) x e = get-held t y k x e

get-back : (t : List TreeNode) (y : TreeNode) (k : ℕ) → k < length t → slice_get (t ++ y ∷ []) k ≡ slice_get t k
get-back [] y k h = absurd (omega arith)
get-back (z ∷ t) y zero h = refl
get-back (z ∷ t) y (suc k) h = get-back t y k (omega arith)

get-end : (t : List TreeNode) (y : TreeNode) → slice_get (t ++ y ∷ []) (length t) ≡ Some y
get-end [] y = refl
get-end (z ∷ t) y = get-end t y

pub within : (t : List TreeNode) (names : List (List ℕ)) (place : ℕ) → IsTree t → Leads t names place → place < length t
within t _ _ w at_root = w.some
within t _ _ w (below names parent place x l e p) = slice_get_within t place x e

leads-held : (t : List TreeNode) (y : TreeNode) (names : List (List ℕ)) (place : ℕ) → Leads t names place → Leads (t ++ y ∷ []) names place
leads-held t y _ _ at_root = at_root
leads-held t y _ _ (below names parent place x l e p) = below names parent place x (leads-held t y names parent l) (get-held t y place x e) p

leads-back : (t : List TreeNode) (y : TreeNode) (names : List (List ℕ)) (place : ℕ) → IsTree t → place < length t → Leads (t ++ y ∷ []) names place → Leads t names place
leads-back t y _ _ w h at_root = at_root
leads-back t y _ _ w h (below names parent place x l e p) =
    let here : slice_get t place ≡ Some x = sym (get-back t y place h) ∙ e in
    let up : parent < place = w.after place parent x here p in
    below names parent place x (leads-back t y names parent w (omega arith) l) here p

one-way : (t : List TreeNode) (a b : List (List ℕ)) (place : ℕ) → IsTree t → Leads t a place → Leads t b place → a ≡ b
one-way t _ _ _ w at_root at_root = refl
one-way t _ _ _ w at_root (below names parent _ x l e p) = absurd (w.root x parent e p)
one-way t _ _ _ w (below names parent _ x l e p) at_root = absurd (w.root x parent e p)
one-way t _ _ _ w (below names parent place x l e p) (below others above _ y m f q) =
    let same : x ≡ y = let both : Some x ≡ Some y = sym e ∙ f in cc in
    let up : parent ≡ above = let both : Some parent ≡ Some above = sym p ∙ ap (λ z. z.parent) same ∙ q in cc in
    let names_same : names ≡ others = one-way t names others parent w l (rw up m) in
    ap (λ ns. ns ++ x.name ∷ []) names_same ∙ ap (λ z. others ++ z.name ∷ []) same

-- names lead to each node
abbrev pub IsReached : List TreeNode → Type 0
IsReached t = (place : ℕ) → place < length t → (names : List (List ℕ)) × (walk t 0 names ≡ Some place)

-- all that names lead to is what Q says
pub record Only (Q : List (List ℕ) → Content → Type 0) (t : List TreeNode) : Type 0 where
  pub tree : IsTree t
  pub reached : IsReached t
  pub said : (names : List (List ℕ)) (place : ℕ) (x : TreeNode) → Leads t names place → slice_get t place ≡ Some x → Q names x.content

leads-new : (t : List TreeNode) (parent : ℕ) (name : List ℕ) (c : Content) (above : List (List ℕ)) → Leads t above parent →
    Leads (with_child t parent name c) (above ++ name ∷ []) (length t)
leads-new t parent name c above l =
    below above parent (length t) (child_node parent name c) (leads-held t (child_node parent name c) above parent l) (get-end t (child_node parent name c)) refl

tree-put : (t : List TreeNode) (parent : ℕ) (name : List ℕ) (c : Content) → IsTree t → parent < length t → IsTree (with_child t parent name c)
tree-put t parent name c w h =
    let y = child_node parent name c in
    let more : length (t ++ y ∷ []) ≡ length t + 1 = length-append t (y ∷ []) in
    record {
      root = λ x above e p. w.root x above (sym (get-back t y 0 w.some) ∙ e) p;
      some = omega (arith, more);
      after = λ place above x e p.
          let inside : place < length (t ++ y ∷ []) = slice_get_within (t ++ y ∷ []) place x e in
          elim (cases_lt place (length t)) [
            | inl before ↦ w.after place above x (sym (get-back t y place before) ∙ e) p
            | inr last ↦
                let there : place ≡ length t = omega (arith, more, inside, last) in
                let is : y ≡ x = let both : Some y ≡ Some x = sym (get-end t y) ∙ ap (slice_get (t ++ y ∷ [])) (sym there) ∙ e in cc in
                let up : parent ≡ above = let both : Some parent ≡ Some above = ap (λ z. z.parent) is ∙ p in cc in
                omega (arith, h, up, there)
          ];
    }

-- a step of a walk, and the rest from where it leads
walk-on : (t u : List TreeNode) (place : ℕ) (name : List ℕ) (names rest : List (List ℕ)) (found : Option ℕ) (k j : ℕ) → ((child : ℕ) → found ≡ Some child → child_of u place name ≡ Some child) →
    option_and_then (λ child. walk t child names) found ≡ Some k → ((child : ℕ) → walk t child names ≡ Some k → walk u child rest ≡ Some j) → walk u place (name ∷ rest) ≡ Some j
walk-on t u place name names rest None k j f e later = cc
walk-on t u place name names rest (Some child) k j f e later = ap (option_and_then (λ place. walk u place rest)) (f child refl) ∙ later child e

walk-snoc : (t : List TreeNode) (name : List ℕ) (mid k : ℕ) → child_of t mid name ≡ Some k → (names : List (List ℕ)) (place : ℕ) → walk t place names ≡ Some mid → walk t place (names ++ name ∷ []) ≡ Some k
walk-snoc t name mid k h [] place e =
    let same : place ≡ mid = cc in
    ap (option_and_then (λ child. Some child)) (ap (λ p. child_of t p name) same ∙ h)
walk-snoc t name mid k h (first ∷ names) place e =
    walk-on t t place first names (names ++ name ∷ []) (child_of t place first) mid k (λ child is. is) e (λ child down. walk-snoc t name mid k h names child down)

walk-kept : (t u : List TreeNode) → Kept t u → (names : List (List ℕ)) (place k : ℕ) → walk t place names ≡ Some k → walk u place names ≡ Some k
walk-kept t u h [] place k e = e
walk-kept t u h (name ∷ names) place k e =
    walk-on t u place name names names (child_of t place name) k k (λ child is. h.child place name child is) e (λ child down. walk-kept t u h names child k down)

reached-put : (t : List TreeNode) (parent : ℕ) (name : List ℕ) (c : Content) → IsReached t → parent < length t → is_some (child_of t parent name) ≡ false → IsReached (with_child t parent name c)
reached-put t parent name c r inside free place h =
    let u = with_child t parent name c in
    let kept = kept-put t parent name c in
    elim (cases_lt place (length t)) [
      | inl before ↦ let way = r place before in (way.0, walk-kept t u kept way.0 0 place way.1)
      | inr last ↦
          let there : place ≡ length t = omega (arith, last, h, length-append t (child_node parent name c ∷ [])) in
          let way = r parent inside in
          (way.0 ++ name ∷ [], walk-snoc u name parent (length t) (put-found t parent name c free) way.0 0 (walk-kept t u kept way.0 0 parent way.1) ∙ ap Some (sym there))
    ]

only-put : (Q : List (List ℕ) → Content → Type 0) (t : List TreeNode) (parent : ℕ) (name : List ℕ) (c : Content) (above : List (List ℕ)) →
    is_some (child_of t parent name) ≡ false → Only Q t → Leads t above parent → Q (above ++ name ∷ []) c → Only Q (with_child t parent name c)
only-put Q t parent name c above free o l q =
    let y = child_node parent name c in
    let inside : parent < length t = within t above parent o.tree l in
    let more : length (t ++ y ∷ []) ≡ length t + 1 = length-append t (y ∷ []) in
    let grown : IsTree (t ++ y ∷ []) = tree-put t parent name c o.tree inside in
    record {
      tree = grown;
      reached = reached-put t parent name c o.reached inside free;
      said = λ names place x leads e.
          elim (cases_lt place (length t)) [
            | inl before ↦ o.said names place x (leads-back t y names place o.tree before leads) (sym (get-back t y place before) ∙ e)
            | inr last ↦
                let there : place ≡ length t = let bound : place < length (t ++ y ∷ []) = slice_get_within (t ++ y ∷ []) place x e in omega (arith, more, bound, last) in
                let is : y ≡ x = let both : Some y ≡ Some x = sym (get-end t y) ∙ ap (slice_get (t ++ y ∷ [])) (sym there) ∙ e in cc in
                let way : above ++ name ∷ [] ≡ names = one-way (t ++ y ∷ []) (above ++ name ∷ []) names place grown (rw there (leads-new t parent name c above l)) leads in
                rw (← way, ← is) q
          ];
    }

-- what the names of a walk lead to
found-at : (f : TreeNode → Bool) (i : ℕ) (t : List TreeNode) (k : ℕ) → position_from f i t ≡ Some k → (j : ℕ) × (x : TreeNode) × (k ≡ i + j) × (slice_get t j ≡ Some x) × (f x ≡ true)
found-at f i [] k e = cc
found-at f i (x ∷ t) k e =
    elim (cases_Bool (f x)) [
      | inl passes ↦ let here : Some i ≡ Some k = rw passes at e in (0, x, (let same : i ≡ k = cc in omega (arith, same)), refl, passes)
      | inr fails ↦ let later = found-at f (i + 1) t k (rw fails at e) in (suc later.0, later.1, omega (arith, later.2), later.3, later.4)
    ]

pub child-is : (t : List TreeNode) (parent : ℕ) (name : List ℕ) (k : ℕ) → child_of t parent name ≡ Some k →
    (x : TreeNode) × (slice_get t k ≡ Some x) × (x.parent ≡ Some parent) × (x.name ≡ name)
child-is t parent name k e =
    let there = found-at (is_child parent name) 0 t k e in
    let same : there.0 ≡ k = omega (arith, there.2) in
    let facts = both_true there.1 there.4 in
    (there.1, ap (slice_get t) (sym same) ∙ there.3, facts.0, facts.1)
  where
    both_true : (x : TreeNode) → is_child parent name x ≡ true → (x.parent ≡ Some parent) × (x.name ≡ name)
    both_true x h = by x.parent refl
      where
        by : (o : Option ℕ) → x.parent ≡ o → (x.parent ≡ Some parent) × (x.name ≡ name)
        by None e = absurd (let no : false ≡ true = sym (ap (λ o. is_at o parent && bytes_eq x.name name) e) ∙ h in cc)
        by (Some p) e =
            elim (cases_Bool (eqb p parent)) [
              | inl same ↦
                  let name_is : bytes_eq x.name name ≡ true = sym (ap (λ v. v && bytes_eq x.name name) same) ∙ sym (ap (λ o. is_at o parent && bytes_eq x.name name) e) ∙ h in
                  (e ∙ ap Some (eqb-true p parent same), (bytes_eq-Decides x.name name).0 name_is)
              | inr other ↦ absurd (let no : false ≡ true = sym (ap (λ v. v && bytes_eq x.name name) other) ∙ sym (ap (λ o. is_at o parent && bytes_eq x.name name) e) ∙ h in cc)
            ]

pub leads-child : (t : List TreeNode) (above : List (List ℕ)) (place : ℕ) (name : List ℕ) (child : ℕ) → Leads t above place → child_of t place name ≡ Some child →
    Leads t (above ++ name ∷ []) child
leads-child t above place name child l e =
    let is = child-is t place name child e in
    rw (← is.3) (below above place child is.0 l is.1 is.2)

walk-step : (t : List TreeNode) (above : List (List ℕ)) (name : List ℕ) (names : List (List ℕ)) (place k : ℕ) (found : Option ℕ) → child_of t place name ≡ found →
    Leads t above place → option_and_then (λ child. walk t child names) found ≡ Some k →
    ((child : ℕ) → Leads t (above ++ name ∷ []) child → walk t child names ≡ Some k → Leads t ((above ++ name ∷ []) ++ names) k) →
    Leads t (above ++ name ∷ names) k
walk-step t above name names place k None f l e later = cc
walk-step t above name names place k (Some child) f l e later =
    rw (← append_assoc above (name ∷ []) names) (later child (leads-child t above place name child l f) e)

walk-leads : (t : List TreeNode) (above names : List (List ℕ)) (place k : ℕ) → Leads t above place → walk t place names ≡ Some k → Leads t (above ++ names) k
walk-leads t above [] place k l e =
    let same : place ≡ k = cc in
    rw (append-nil above, ← same) l
walk-leads t above (name ∷ names) place k l e =
    walk-step t above name names place k (child_of t place name) refl l e (λ child down. walk-leads t (above ++ name ∷ []) names child k down)

-- all is said still, and names lead where they led
abbrev pub Held : (List (List ℕ) → Content → Type 0) → List TreeNode → List TreeNode → Type 0
Held Q t u = Only Q u × ((names : List (List ℕ)) (place : ℕ) → Leads t names place → Leads u names place)

held-put : (Q : List (List ℕ) → Content → Type 0) (t : List TreeNode) (parent : ℕ) (name : List ℕ) (c : Content) (above : List (List ℕ)) →
    is_some (child_of t parent name) ≡ false → Only Q t → Leads t above parent → Q (above ++ name ∷ []) c → Held Q t (with_child t parent name c)
held-put Q t parent name c above free o l q = (only-put Q t parent name c above free o l q, λ names place k. leads-held t (child_node parent name c) names place k)

held-then : (Q : List (List ℕ) → Content → Type 0) (t u v : List TreeNode) → Held Q t u → Held Q u v → Held Q t v
held-then Q t u v h k = (k.0, λ names place l. k.1 names place (h.1 names place l))

read-held : (Q : List (List ℕ) → Content → Type 0) (t : List TreeNode) (parent : ℕ) (name : List ℕ) (c : Option Content) (line : ℕ) (above : List (List ℕ)) →
    is_some (child_of t parent name) ≡ false → Only Q t → Leads t above parent → ((d : Content) → c ≡ Some d → Q (above ++ name ∷ []) d) → Grows t (with_read t parent name c line) (Held Q t)
read-held Q t parent name None line above free o l q = tt
read-held Q t parent name (Some c) line above free o l q = (kept-put t parent name c, held-put Q t parent name c above free o l (q c refl))

map-held : (Q : List (List ℕ) → Content → Type 0) (t : List TreeNode) (parent : ℕ) (name : List ℕ) (line : ℕ) (es : Entries) (above : List (List ℕ)) (values brackets : Option Node) →
    is_some (child_of t parent name) ≡ false → date_map (map es) ≡ values → get (codes "brackets") (map es) ≡ brackets → Only Q t → Leads t above parent →
    ((names : List (List ℕ)) (c : Content) → Says (map es) names c → Q ((above ++ name ∷ []) ++ names) c) →
    ((u : List TreeNode) (place : ℕ) → Only Q u → Leads u (above ++ name ∷ []) place →
    ((other : List ℕ) (names : List (List ℕ)) (c : Content) → EntrySays es other names c → Q ((above ++ name ∷ []) ++ other ∷ names) c) →
    Grows u (put_children u place es) (Held Q u)) →
    Grows t (put_map t parent name line (map es) (λ u. put_children u (length t) es) values brackets) (Held Q t)
map-held Q t parent name line es above (Some values) brackets free e f o l says deeper =
    read-held Q t parent name (parameter_in values) (values_line (line_at (codes "values") line (map es)) values) above free o l
    (λ d is. rw (append-nil (above ++ name ∷ [])) at (says [] d (rw e is)))
map-held Q t parent name line es above None (Some brackets) free e f o l says deeper =
    read-held Q t parent name (scale_of (map es) brackets) (scale_line (line_at (codes "brackets") line (map es)) brackets) above free o l
    (λ d is. rw (append-nil (above ++ name ∷ [])) at (says [] d (rw (e, f) is)))
map-held Q t parent name line es above None None free e f o l says deeper =
    let middle = with_child t parent name content.Branch in
    let here : Held Q t middle = held-put Q t parent name content.Branch above free o l (rw (append-nil (above ++ name ∷ [])) at (says [] content.Branch (rw (e, f) refl))) in
    grows-from t middle (put_children middle (length t) es) (Held Q middle) (Held Q t) (kept-put t parent name content.Branch)
    (deeper middle (length t) here.0 (leads-new t parent name content.Branch above l) (λ other names c h. says (other ∷ names) c (rw (e, f) refl, h)))
    (λ u k h. held-then Q t middle u here h)

mutual
  node-held : (Q : List (List ℕ) → Content → Type 0) (t : List TreeNode) (parent : ℕ) (name : List ℕ) (line : ℕ) (n : Node) (above : List (List ℕ)) →
      Only Q t → Leads t above parent → ((names : List (List ℕ)) (c : Content) → Says n names c → Q ((above ++ name ∷ []) ++ names) c) →
      Grows t (put_node t parent name line n) (Held Q t)
  node-held Q t parent name line null above o l says = grows-if t (is_some (child_of t parent name)) (duplicate_name line) (Err _) (Held Q t) (λ free. tt)
  node-held Q t parent name line (scalar text q k) above o l says = grows-if t (is_some (child_of t parent name)) (duplicate_name line) (Err _) (Held Q t) (λ free. tt)
  node-held Q t parent name line (list is) above o l says = grows-if t (is_some (child_of t parent name)) (duplicate_name line) (Err _) (Held Q t) (λ free. tt)
  node-held Q t parent name line (map es) above o l says =
      grows-if t (is_some (child_of t parent name)) (duplicate_name line) (put_map t parent name line (map es) (λ u. put_children u (length t) es) (date_map (map es)) (get (codes "brackets") (map es))) (Held Q t)
      (λ free. map-held Q t parent name line es above (date_map (map es)) (get (codes "brackets") (map es)) free refl refl o l says
      (λ u place p k s. children-held Q u place es (above ++ name ∷ []) p k s))

  children-held : (Q : List (List ℕ) → Content → Type 0) (t : List TreeNode) (place : ℕ) (es : Entries) (above : List (List ℕ)) →
      Only Q t → Leads t above place → ((name : List ℕ) (names : List (List ℕ)) (c : Content) → EntrySays es name names c → Q (above ++ name ∷ names) c) →
      Grows t (put_children t place es) (Held Q t)
  children-held Q t place no_entries above o l says = (kept-same t, (o, λ names k m. m))
  children-held Q t place (entry key line n es) above o l says =
      grows-either t (is_description key) (put_children t place es) (and_then (put_node t place key line n) (λ u. put_children u place es)) (Held Q t)
      (λ d. children-held Q t place es above o l (λ name names c h. says name names c (inr h)))
      (λ d. grows-then t (put_node t place key line n) (λ u. put_children u place es) (Held Q t) (Held Q t)
      (node-held Q t place key line n above o l (λ names c h. rw (append_assoc above (key ∷ []) names) (says key names c (inl (d, refl, h)))))
      (λ u k h. grows-from u u (put_children u place es) (Held Q u) (Held Q t) (kept-same u)
      (children-held Q u place es above h.0 (h.1 above place l) (λ name names c s. says name names c (inr s)))
      (λ v kv g. held-then Q t u v h g)))

entered-held : (Q : List (List ℕ) → Content → Type 0) (t : List TreeNode) (folder : ℕ) (name m : List ℕ) (ms : List (List ℕ)) (n : Node) (above : List (List ℕ)) (found : Option ℕ) →
    child_of t folder name ≡ found → Only Q t → Leads t above folder →
    ((names : List (List ℕ)) (c : Content) → SaysBelow (name ∷ m ∷ ms) n names c → Q (above ++ names) c) →
    ((u : List TreeNode) (place : ℕ) → Only Q u → Leads u (above ++ name ∷ []) place → Grows u (put_below u place (m ∷ ms) n) (Held Q u)) →
    Grows t (and_then (enter_child t folder name found) (λ e. put_below e.tree e.place (m ∷ ms) n)) (Held Q t)
entered-held Q t folder name m ms n above None e o l says deeper =
    let middle = with_child t folder name content.Folder in
    let here : Held Q t middle = held-put Q t folder name content.Folder above (rw e refl) o l (says (name ∷ []) content.Folder (refl, refl)) in
    grows-from t middle (put_below middle (length t) (m ∷ ms) n) (Held Q middle) (Held Q t) (kept-put t folder name content.Folder)
    (deeper middle (length t) here.0 (leads-new t folder name content.Folder above l)) (λ u k h. held-then Q t middle u here h)
entered-held Q t folder name m ms n above (Some place) e o l says deeper =
    there-grows t place (λ e. put_below e.tree e.place (m ∷ ms) n) (is_folder (content_at t place)) (Held Q t)
    (λ f. deeper t place o (leads-child t above folder name place l e))

below-held : (Q : List (List ℕ) → Content → Type 0) (t : List TreeNode) (folder : ℕ) (own : List (List ℕ)) (n : Node) (above : List (List ℕ)) →
    Only Q t → Leads t above folder → ((names : List (List ℕ)) (c : Content) → SaysBelow own n names c → Q (above ++ names) c) →
    Grows t (put_below t folder own n) (Held Q t)
below-held Q t folder [] n above o l says = (kept-same t, (o, λ names k m. m))
below-held Q t folder (name ∷ []) n above o l says =
    grows-either t (bytes_eq name (codes "index")) _ _ (Held Q t)
    (λ i. grows-either t (describes_folder n) _ _ (Held Q t) (λ d. (kept-same t, (o, λ names k m. m))) (λ d. tt))
    (λ i. node-held Q t folder name 1 n above o l (λ names c h. rw (append_assoc above (name ∷ []) names) (says (name ∷ names) c (refl, i, h))))
below-held Q t folder (name ∷ m ∷ ms) n above o l says =
    entered-held Q t folder name m ms n above (child_of t folder name) refl o l says
    (λ u place p k. below-held Q u place (m ∷ ms) n (above ++ name ∷ []) p k
    (λ names c h. rw (append_assoc above (name ∷ []) names) (says (name ∷ names) c (refl, h))))

text-held : (Q : List (List ℕ) → Content → Type 0) (t : List TreeNode) (f : Source) (own : List (List ℕ)) (n : Option Node) → names_of f.path ≡ Some own → document f.text ≡ n →
    Only Q t → ((names : List (List ℕ)) (c : Content) → FileSays f names c → Q names c) → Grows t (with_tree t own n) (Held Q t)
text-held Q t f own None e d o says = tt
text-held Q t f own (Some n) e d o says = below-held Q t 0 own n [] o at_root (λ names c h. says names c (own, n, e, d, h))

pub named-held : (Q : List (List ℕ) → Content → Type 0) (t : List TreeNode) (f : Source) (own : Option (List (List ℕ))) → names_of f.path ≡ own →
    Only Q t → ((names : List (List ℕ)) (c : Content) → FileSays f names c → Q names c) → Grows t (with_names t f.text own) (Held Q t)
named-held Q t f None e o says = (kept-same t, (o, λ names k m. m))
named-held Q t f (Some own) e o says = text-held Q t f own (document f.text) e refl o says

-- what a file says is what Q says
abbrev Agrees : (List (List ℕ) → Content → Type 0) → Placed → Type 0
Agrees Q p = (names : List (List ℕ)) (c : Content) → FileSays p.1 names c → Q names c

after-only : (Q : List (List ℕ) → Content → Type 0) (t : List TreeNode) (place : ℕ) (r : Result (List TreeNode) Cause) (ps : List Placed) (u : List TreeNode) →
    Grows t r (Held Q t) → after_file place r (λ v. with_files v ps) ≡ Ok u → ((v : List TreeNode) → Only Q v → with_files v ps ≡ Ok u → Only Q u) → Only Q u
after-only Q t place (Ok v) ps u g e later = later v g.1.0 e
after-only Q t place (Err c) ps u g e later = cc

all-only : (Q : List (List ℕ) → Content → Type 0) (t : List TreeNode) (ps : List Placed) (u : List TreeNode) → Only Q t → Each (Agrees Q) ps → with_files t ps ≡ Ok u → Only Q u
all-only Q t [] u o h e = let same : t ≡ u = cc in rw (← same) o
all-only Q t (p ∷ ps) u o h e =
    after-only Q t p.0 (with_file t p.1) ps u (named-held Q t p.1 (names_of p.1.path) refl o h.0) e (λ v ov ev. all-only Q v ps u ov h.1 ev)

files-say : (Q : List (List ℕ) → Content → Type 0) (i : ℕ) (files : List Source) → ((names : List (List ℕ)) (c : Content) → SomeFileSays files names c → Q names c) → Each (Agrees Q) (enumerate_from i files)
files-say Q i [] h = tt
files-say Q i (f ∷ fs) h = ((λ names c s. h names c (inl s)), files-say Q (i + 1) fs (λ names c s. h names c (inr s)))

root-said : (files : List Source) → SomeFileSays files [] content.Folder
root-said [] = (refl, refl)
root-said (f ∷ fs) = inr (root-said fs)

pub only-root : (Q : List (List ℕ) → Content → Type 0) → Q [] content.Folder → Only Q root_alone
only-root Q q = record {
  reached = λ place h. ([], let here : 0 ≡ place = omega (arith, h) in ap Some here);
  tree = record {
    root = λ x parent e p. let both : Some (record { parent = None; name = []; content = content.Folder }) ≡ Some x = e in no-parent x parent e p;
    some = omega arith;
    after = λ place parent x e p. absurd (none-above place x parent e p);
  };
  said = λ names place x l e. root-only names place x l e;
}
  where
    no-parent : (x : TreeNode) (parent : ℕ) → slice_get root_alone 0 ≡ Some x → x.parent ≡ Some parent → ⊥
    no-parent x parent e p = let is : record { parent = None; name = []; content = content.Folder } ≡ x = cc in let no : None ≡ Some parent = ap (λ z. z.parent) is ∙ p in cc

    none-above : (place : ℕ) (x : TreeNode) (parent : ℕ) → slice_get root_alone place ≡ Some x → x.parent ≡ Some parent → ⊥
    none-above zero x parent e p = no-parent x parent e p
    none-above (suc k) x parent e p = cc

    root-only : (names : List (List ℕ)) (place : ℕ) (x : TreeNode) → Leads root_alone names place → slice_get root_alone place ≡ Some x → Q names x.content
    root-only _ _ x at_root e = let is : record { parent = None; name = []; content = content.Folder } ≡ x = cc in rw (← is) q
    root-only _ _ x (below names parent place y l f p) e = absurd (none-above place y parent f p)

content-of : (t : List TreeNode) (place : ℕ) (c : Content) → content_at t place ≡ Some c → (x : TreeNode) × (slice_get t place ≡ Some x) × (x.content ≡ c)
content-of [] place c e = cc
content-of (y ∷ t) zero c e = (y, refl, (let both : Some y.content ≡ Some c = e in cc))
content-of (y ∷ t) (suc k) c e = content-of t k c e

all-said : (files : List Source) (t : List TreeNode) → tree_of files ≡ Ok t → Only (SomeFileSays files) t
all-said files t e =
    let Q : List (List ℕ) → Content → Type 0 = SomeFileSays files in
    all-only Q root_alone (in_path_order files) t (only-root Q (root-said files)) (each-ordered (Agrees Q) [] (enumerate_from 0 files) tt (files-say Q 0 files (λ names c s. s))) e

-- what names lead to is what some file says, or the root
pub nothing-else : (files : List Source) (t : List TreeNode) → tree_of files ≡ Ok t → (names : List (List ℕ)) (place : ℕ) (c : Content) →
    walk t 0 names ≡ Some place → content_at t place ≡ Some c → SomeFileSays files names c
nothing-else files t e names place c w is =
    let there = content-of t place c is in
    rw (← there.2) ((all-said files t e).said names place there.0 (walk-leads t [] names 0 place at_root w) there.1)

pub reached-once : (files : List Source) (t : List TreeNode) → tree_of files ≡ Ok t → EachReachedOnce t
reached-once files t e place h =
    let only = all-said files t e in
    let way = only.reached place h in
    (way.0, way.1, λ others w. one-way t way.0 others place only.tree (walk-leads t [] way.0 0 place at_root way.1) (walk-leads t [] others 0 place at_root w))
