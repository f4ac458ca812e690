-- Files that fit, and whose names differ, make a tree.
use Rattle.std.proofs.Common.{◌≡◌, ℕ, ◌+◌, ◌<◌, ◌≤◌, Bool, true, false, cond, ◌&&◌, eqb, List, [], ◌∷◌, ◌++◌, length, Option, Some, None, Result, Ok, is_none, refl, sym, ◌∙◌, ap, subst, arith, inl, inr, ◌⊎◌, codes, append_assoc, option_map}
use Rattle.std.proofs.lemmas.Bool.{eqb-true, and_parts}
use Rattle.std.proofs.lemmas.List.{length-append}
use Rattle.std.proofs.lemmas.Slice.Eq.{bytes_eq-Decides}
use Rattle.std.specs.List.{enumerate_from}
use Rattle.std.specs.Str.{bytes_eq}
use Rattle.fisca_yaml.specs.Find.{get_entry}
use Rattle.fisca_yaml.specs.Steps.Find.{get}
use Rattle.fisca_yaml.specs.Grouping.{document}
use Rattle.fisca_yaml.specs.Node.{Node, null, scalar, list, map, Entries, no_entries, entry}
use Rattle.fisca_params.specs.Causes.{Cause}
use Rattle.fisca_params.specs.Steps.Content.{date_map, parameter_in, scale_of}
use Rattle.fisca_params.specs.FaultLines.{line_at, values_line, scale_line}
use Rattle.fisca_params.specs.Files.{Placed, with_names, with_file, with_files, root_alone}
use Rattle.fisca_params.specs.Steps.Files.{in_path_order, in_path_order_with, is_path_before, put_by_path, tree_of}
use Rattle.fisca_params.specs.Fits.{Fits, ChildrenFit, FitsAt, FileFits, IsInTheWay, AreApart, IsApart, AllFit}
use Rattle.fisca_params.specs.Paths.{names_of}
use Rattle.fisca_params.specs.Places.{content_by, SaysBelow, FileSays, SomeFileSays}
use Rattle.fisca_num.specs.Results.{and_then}
use Rattle.fisca_params.specs.Source.{Source}
use Rattle.fisca_params.specs.Tree.{TreeNode, child_of, child_node, content_at}
use Rattle.fisca_params.specs.Steps.Tree.{with_child, with_read, put_map, put_node, put_children, is_description, enter_child, put_below}
use Rattle.fisca_params.specs.declared.content.Content.{Content}
use Rattle.fisca_params.specs.declared.content.Content.TheVariants as content
use Rattle.fisca_params.proofs.EachFile.{Each, each-ordered, each-put}
use Rattle.fisca_params.proofs.Indexed.{child-put, or_else}
use Rattle.fisca_params.proofs.Origins.{Held, IsTree, Leads, at_root, Only, child-is, leads-child, named-held, only-root, within}
use Rattle.fisca_params.proofs.Standing.{Grows}
use Rattle.std.proofs.lemmas.Option.{slice_get_within}

-- no node stands below one that is not there
abbrev Bounded : List TreeNode → Type 0
Bounded t = (place : ℕ) (name : List ℕ) → length t ≤ place → child_of t place name ≡ None

-- a new node is found at its own place alone
elsewhere : (t : List TreeNode) (parent : ℕ) (name : List ℕ) (c : Content) (place : ℕ) (q : List ℕ) → ((parent ≡ place) × (name ≡ q) → ⊥) → child_of (with_child t parent name c) place q ≡ child_of t place q
elsewhere t parent name c place q other = child-put t parent name c place q ∙ go (child_of t place q) (eqb parent place && bytes_eq name q) refl
  where
    go : (found : Option ℕ) (b : Bool) → eqb parent place && bytes_eq name q ≡ b → or_else found (cond b (Some (length t)) None) ≡ found
    go found true e = let h = and_parts (eqb parent place) (bytes_eq name q) e in absurd (other (eqb-true parent place h.0, (bytes_eq-Decides name q).0 h.1))
    go None false e = refl
    go (Some k) false e = refl

longer : (t : List TreeNode) (parent : ℕ) (name : List ℕ) (c : Content) → length (with_child t parent name c) ≡ length t + 1
longer t parent name c = length-append t (child_node parent name c ∷ [])

bounded-put : (t : List TreeNode) (parent : ℕ) (name : List ℕ) (c : Content) → Bounded t → parent < length t → Bounded (with_child t parent name c)
bounded-put t parent name c b in_tree place q beyond =
    let more = longer t parent name c in
    elsewhere t parent name c place q (λ same. let e : parent ≡ place = same.0 in omega (arith, more, in_tree, beyond, e)) ∙ b place q (omega (arith, more, beyond))

fresh : (t : List TreeNode) (parent : ℕ) (name : List ℕ) (c : Content) → Bounded t → parent < length t → (q : List ℕ) → child_of (with_child t parent name c) (length t) q ≡ None
fresh t parent name c b in_tree q =
    elsewhere t parent name c (length t) q (λ same. let e : parent ≡ length t = same.0 in omega (arith, in_tree, e)) ∙ b (length t) q (omega arith)

-- a tree that grew by what was put at this name of this place
record Made (t : List TreeNode) (parent : ℕ) (name : List ℕ) (r : Result (List TreeNode) Cause) : Type 0 where
  tree : List TreeNode
  is : r ≡ Ok tree
  bounded : Bounded tree
  more : length t ≤ length tree
  others : (place : ℕ) (q : List ℕ) → place < length t → ((parent ≡ place) × (name ≡ q) → ⊥) → child_of tree place q ≡ child_of t place q

-- the same by what was put below this place
record MadeBelow (t : List TreeNode) (parent : ℕ) (r : Result (List TreeNode) Cause) : Type 0 where
  tree : List TreeNode
  is : r ≡ Ok tree
  bounded : Bounded tree
  more : length t ≤ length tree
  others : (place : ℕ) (q : List ℕ) → place < length t → (parent ≡ place → ⊥) → child_of tree place q ≡ child_of t place q

-- none of these keys is taken
abbrev AreFree : List TreeNode → ℕ → Entries → Type 0
AreFree t place no_entries = Unit
AreFree t place (entry key line n es) = (is_description key ≡ false → child_of t place key ≡ None) × AreFree t place es

free-all : (t : List TreeNode) (place : ℕ) (es : Entries) → ((q : List ℕ) → child_of t place q ≡ None) → AreFree t place es
free-all t place no_entries none = tt
free-all t place (entry key line n es) none = (λ d. none key, free-all t place es none)

made-one : (t : List TreeNode) (parent : ℕ) (name : List ℕ) (c : Content) → Bounded t → parent < length t → Made t parent name (Ok (with_child t parent name c))
made-one t parent name c b in_tree = record {
  tree = with_child t parent name c;
  is = refl;
  bounded = bounded-put t parent name c b in_tree;
  more = let more = longer t parent name c in omega (arith, more);
  others = λ place q inside other. elsewhere t parent name c place q other;
}

read-made : (t : List TreeNode) (parent : ℕ) (name : List ℕ) (o : Option Content) (line : ℕ) (c : Content) → o ≡ Some c → Bounded t → parent < length t → Made t parent name (with_read t parent name o line)
read-made t parent name None line c e b in_tree = cc
read-made t parent name (Some d) line c e b in_tree = made-one t parent name d b in_tree

map-made : (t : List TreeNode) (parent : ℕ) (name : List ℕ) (line : ℕ) (es : Entries) (values brackets : Option Node) (c : Content) → content_by (map es) values brackets ≡ Some c → Bounded t → parent < length t
    → ((is_none values && is_none brackets) ≡ true → ChildrenFit es) → ((u : List TreeNode) (place : ℕ) → Bounded u → place < length u → AreFree u place es → ChildrenFit es → MadeBelow u place (put_children u place es))
    → Made t parent name (put_map t parent name line (map es) (λ u. put_children u (length t) es) values brackets)
map-made t parent name line es (Some values) brackets c is b in_tree fit below = read-made t parent name (parameter_in values) (values_line (line_at (codes "values") line (map es)) values) c is b in_tree
map-made t parent name line es None (Some brackets) c is b in_tree fit below = read-made t parent name (scale_of (map es) brackets) (scale_line (line_at (codes "brackets") line (map es)) brackets) c is b in_tree
map-made t parent name line es None None c is b in_tree fit below =
    let middle = with_child t parent name content.Branch in
    let more = longer t parent name content.Branch in
    let inner = below middle (length t) (bounded-put t parent name content.Branch b in_tree) (omega (arith, more)) (free-all middle (length t) es (fresh t parent name content.Branch b in_tree)) (fit refl) in
    record {
      tree = inner.tree;
      is = inner.is;
      bounded = inner.bounded;
      more = let grown = inner.more in omega (arith, more, grown);
      others = λ place q inside other. inner.others place q (omega (arith, more, inside)) (λ same. let e : length t ≡ place = same in omega (arith, inside, e)) ∙ elsewhere t parent name content.Branch place q other;
    }

free-after : (t u : List TreeNode) (place : ℕ) (key : List ℕ) (es : Entries) → ((q : List ℕ) → (key ≡ q → ⊥) → child_of u place q ≡ child_of t place q) → get_entry key es ≡ None → AreFree t place es → AreFree u place es
free-after t u place key no_entries kept absent free = tt
free-after t u place key (entry other line n es) kept absent free = go (bytes_eq other key) refl absent (λ a. free-after t u place key es kept a free.1)
  where
    go : (b : Bool) → bytes_eq other key ≡ b → cond b (Some n) (get_entry key es) ≡ None → (get_entry key es ≡ None → AreFree u place es) → AreFree u place (entry other line n es)
    go true e a later = cc
    go false e a later = (
      λ d. kept other (λ same. let yes : bytes_eq other key ≡ true = (bytes_eq-Decides other key).1 (sym same) in let no : true ≡ false = sym yes ∙ e in cc) ∙ free.0 d,
      later a,
    )

mutual
  node-made : (t : List TreeNode) (parent : ℕ) (name : List ℕ) (line : ℕ) (n : Node) → Bounded t → parent < length t → child_of t parent name ≡ None → Fits n → Made t parent name (put_node t parent name line n)
  node-made t parent name line null b in_tree free fit = absurd fit
  node-made t parent name line (scalar text q l) b in_tree free fit = absurd fit
  node-made t parent name line (list is) b in_tree free fit = absurd fit
  node-made t parent name line (map es) b in_tree free fit =
      rw free (map-made t parent name line es (date_map (map es)) (get (codes "brackets") (map es)) fit.0.0 fit.0.1 b in_tree fit.1 (λ u place bu inside frees fits. children-made u place es bu inside frees fits))

  children-made : (t : List TreeNode) (place : ℕ) (es : Entries) → Bounded t → place < length t → AreFree t place es → ChildrenFit es → MadeBelow t place (put_children t place es)
  children-made t place no_entries b in_tree free fit = record { tree = t; is = refl; bounded = b; more = omega arith; others = λ p q inside other. refl }
  children-made t place (entry key line n es) b in_tree free fit =
      described (is_description key) refl (λ d. children-made t place es b in_tree free.1 fit.1)
      (λ d. let one = node-made t place key line n b in_tree (free.0 d) (fit.0 d).0 in
      let grown = one.more in
      let kept = λ (q : List ℕ) (other : key ≡ q → ⊥). one.others place q in_tree (λ same. other same.1) in
      let rest = children-made one.tree place es one.bounded (omega (arith, in_tree, grown)) (free-after t one.tree place key es kept (fit.0 d).1 free.1) fit.1 in
      let after : and_then (put_node t place key line n) (λ u. put_children u place es) ≡ Ok rest.tree = rw one.is rest.is in
      record {
        tree = rest.tree;
        is = after;
        bounded = rest.bounded;
        more = let last = rest.more in omega (arith, grown, last);
        others = λ p q inside other. rest.others p q (omega (arith, inside, grown)) other ∙ one.others p q inside (λ same. other same.0);
      })
    where
      described : (v : Bool) → is_description key ≡ v → (is_description key ≡ true → MadeBelow t place (put_children t place es))
          → (is_description key ≡ false → MadeBelow t place (and_then (put_node t place key line n) (λ u. put_children u place es)))
          → MadeBelow t place (cond v (put_children t place es) (and_then (put_node t place key line n) (λ u. put_children u place es)))
      described true e h k = h e
      described false e h k = k e

-- some tree comes of it
abbrev IsMade : Result (List TreeNode) Cause → Type 0
IsMade r = (u : List TreeNode) × (r ≡ Ok u)

either-made : (v : Bool) (r s : Result (List TreeNode) Cause) → (v ≡ true → IsMade r) → (v ≡ false → IsMade s) → IsMade (cond v r s)
either-made true r s h k = h refl
either-made false r s h k = k refl

file-made : (t : List TreeNode) (folder : ℕ) (name : List ℕ) (n : Node) → Bounded t → folder < length t → (bytes_eq name (codes "index") ≡ false → child_of t folder name ≡ None) → FitsAt (name ∷ []) n
    → IsMade (put_below t folder (name ∷ []) n)
file-made t folder name n b in_tree free fit =
    either-made (bytes_eq name (codes "index")) _ _ (λ i. rw (fit.0 i) (t, refl)) (λ i. let made = node-made t folder name 1 n b in_tree (free i) (fit.1 i) in (made.tree, made.is))

-- below a folder that has nothing yet
below-made : (t : List TreeNode) (folder : ℕ) (names : List (List ℕ)) (n : Node) → Bounded t → folder < length t → ((q : List ℕ) → child_of t folder q ≡ None) → FitsAt names n → IsMade (put_below t folder names n)
below-made t folder [] n b in_tree none fit = (t, refl)
below-made t folder (name ∷ []) n b in_tree none fit = file-made t folder name n b in_tree (λ i. none name) fit
below-made t folder (name ∷ m ∷ ms) n b in_tree none fit =
    let more = longer t folder name content.Folder in
    let made = below-made (with_child t folder name content.Folder) (length t) (m ∷ ms) n (bounded-put t folder name content.Folder b in_tree) (omega (arith, more)) (fresh t folder name content.Folder b in_tree) fit in
    rw (none name) made

-- what G says leaves room for a file of these names
abbrev Leaves : (List (List ℕ) → Content → Type 0) → List (List ℕ) → Type 0
Leaves G [] = Unit
Leaves G (name ∷ []) = bytes_eq name (codes "index") ≡ false → (c : Content) → G (name ∷ []) c → ⊥
Leaves G (name ∷ m ∷ ms) = ((c : Content) → G (name ∷ []) c → c ≡ content.Folder) × Leaves (λ names c. G (name ∷ names) c) (m ∷ ms)

leaves-weaker : (G H : List (List ℕ) → Content → Type 0) (own : List (List ℕ)) → ((names : List (List ℕ)) (c : Content) → G names c → H names c) → Leaves H own → Leaves G own
leaves-weaker G H [] f h = tt
leaves-weaker G H (name ∷ []) f h = λ i c g. h i c (f (name ∷ []) c g)
leaves-weaker G H (name ∷ m ∷ ms) f h = (λ c g. h.0 c (f (name ∷ []) c g), leaves-weaker (λ names c. G (name ∷ names) c) (λ names c. H (name ∷ names) c) (m ∷ ms) (λ names c g. f (name ∷ names) c g) h.1)

leaves-never : (G : List (List ℕ) → Content → Type 0) (own : List (List ℕ)) → ((names : List (List ℕ)) (c : Content) → G names c → ⊥) → Leaves G own
leaves-never G [] never = tt
leaves-never G (name ∷ []) never = λ i c g. never (name ∷ []) c g
leaves-never G (name ∷ m ∷ ms) never = (λ c g. absurd (never (name ∷ []) c g), leaves-never (λ names c. G (name ∷ names) c) (m ∷ ms) (λ names c g. never (name ∷ names) c g))

leaves-both : (G H : List (List ℕ) → Content → Type 0) (own : List (List ℕ)) → Leaves G own → Leaves H own → Leaves (λ names c. G names c ⊎ H names c) own
leaves-both G H [] g h = tt
leaves-both G H (name ∷ []) g h = λ i c said. elim said [ inl x ↦ g i c x | inr y ↦ h i c y ]
leaves-both G H (name ∷ m ∷ ms) g h = (
  λ c said. elim said [ inl x ↦ g.0 c x | inr y ↦ h.0 c y ],
  leaves-both (λ names c. G (name ∷ names) c) (λ names c. H (name ∷ names) c) (m ∷ ms) g.1 h.1,
)

-- a file whose names differ leaves room
leaves-file : (own others : List (List ℕ)) (n : Node) → ¬ (IsInTheWay own others) → ¬ (IsInTheWay others own) → Leaves (λ names c. SaysBelow others n names c) own
leaves-file [] others n far near = tt
leaves-file (name ∷ []) [] n far near = λ i c said. said
leaves-file (name ∷ []) (first ∷ []) n far near = λ i c said. near (said.0, said.1)
leaves-file (name ∷ []) (first ∷ m ∷ ms) n far near = λ i c said. far (sym said.0, i)
leaves-file (name ∷ o ∷ os) [] n far near = (λ c said. absurd said, leaves-never (λ names c. ⊥) (o ∷ os) (λ names c said. said))
leaves-file (name ∷ o ∷ os) (first ∷ []) n far near = (λ c said. absurd (near (said.0, said.1)), leaves-never (λ names c. SaysBelow (first ∷ []) n (name ∷ names) c) (o ∷ os) (λ names c said. near (said.0, said.1)))
leaves-file (name ∷ o ∷ os) (first ∷ m ∷ ms) n far near = (
  λ c said. said.1,
  go (bytes_eq first name) refl (λ f g. leaves-file (o ∷ os) (m ∷ ms) n f g),
)
  where
    go : (b : Bool) → bytes_eq first name ≡ b → (¬ (IsInTheWay (o ∷ os) (m ∷ ms)) → ¬ (IsInTheWay (m ∷ ms) (o ∷ os)) → Leaves (λ names c. SaysBelow (m ∷ ms) n names c) (o ∷ os))
        → Leaves (λ names c. SaysBelow (first ∷ m ∷ ms) n (name ∷ names) c) (o ∷ os)
    go true e deeper =
        let same = (bytes_eq-Decides first name).0 e in
        leaves-weaker (λ names c. SaysBelow (first ∷ m ∷ ms) n (name ∷ names) c) (λ names c. SaysBelow (m ∷ ms) n names c) (o ∷ os) (λ names c said. said.1)
        (deeper (λ way. far (sym same, way)) (λ way. near (same, way)))
    go false e deeper =
        leaves-never (λ names c. SaysBelow (first ∷ m ∷ ms) n (name ∷ names) c) (o ∷ os)
        (λ names c said. let yes : bytes_eq first name ≡ true = (bytes_eq-Decides first name).1 said.0 in let no : true ≡ false = sym yes ∙ e in cc)

bounded-tree : (t : List TreeNode) → IsTree t → Bounded t
bounded-tree t w place name beyond = go (child_of t place name) refl
  where
    go : (found : Option ℕ) → child_of t place name ≡ found → found ≡ None
    go None e = refl
    go (Some k) e =
        let x = child-is t place name k e in
        let up : place < k = w.after k place x.0 x.1 x.2 in
        let inside : k < length t = slice_get_within t k x.0 x.1 in
        absurd (omega (arith, up, inside, beyond))

leaves-root : (own : List (List ℕ)) → Leaves (λ names c. (names ≡ []) × (c ≡ content.Folder)) own
leaves-root [] = tt
leaves-root (name ∷ []) = λ i c said. let e : name ∷ [] ≡ [] = said.0 in cc
leaves-root (name ∷ m ∷ ms) = (
  λ c said. said.1,
  leaves-never (λ names c. (name ∷ names ≡ []) × (c ≡ content.Folder)) (m ∷ ms) (λ names c said. let e : name ∷ names ≡ [] = said.0 in cc),
)

leaves-source : (own : List (List ℕ)) (f g : Source) → names_of f.path ≡ Some own → AreApart f g → Leaves (λ names c. FileSays g names c) own
leaves-source own f g is apart = by_names (names_of g.path) refl
  where
    by_text : (others : List (List ℕ)) → names_of g.path ≡ Some others → (read : Option Node) → document g.text ≡ read → Leaves (λ names c. FileSays g names c) own
    by_text others named None e = leaves-never (λ names c. FileSays g names c) own (λ names c said. let both : None ≡ Some said.1 = sym e ∙ said.3 in cc)
    by_text others named (Some n) e =
        let apart_is = apart own others is named in
        leaves-weaker (λ names c. FileSays g names c) (λ names c. SaysBelow others n names c) own
        (λ names c said.
        let same : said.0 ≡ others = let both : Some said.0 ≡ Some others = sym said.2 ∙ named in cc in
        let one : said.1 ≡ n = let both : Some said.1 ≡ Some n = sym said.3 ∙ e in cc in
        rw (← same, ← one) said.4)
        (leaves-file own others n apart_is.0 apart_is.1)

    by_names : (others : Option (List (List ℕ))) → names_of g.path ≡ others → Leaves (λ names c. FileSays g names c) own
    by_names None e = leaves-never (λ names c. FileSays g names c) own (λ names c said. let both : None ≡ Some said.0 = sym e ∙ said.2 in cc)
    by_names (Some others) e = by_text others e (document g.text) refl

leaves-all : (own : List (List ℕ)) (f : Source) (gs : List Source) → names_of f.path ≡ Some own → IsApart f gs → Leaves (λ names c. SomeFileSays gs names c) own
leaves-all own f [] is apart = leaves-root own
leaves-all own f (g ∷ gs) is apart =
    leaves-both (λ names c. FileSays g names c) (λ names c. SomeFileSays gs names c) own (leaves-source own f g is apart.0) (leaves-all own f gs is apart.1)

-- below a folder of which names lead to all that Q says
told-made : (Q : List (List ℕ) → Content → Type 0) (t : List TreeNode) (folder : ℕ) (own : List (List ℕ)) (n : Node) (above : List (List ℕ)) → Only Q t → Leads t above folder → FitsAt own n
    → Leaves (λ names c. Q (above ++ names) c) own → IsMade (put_below t folder own n)
told-made Q t folder [] n above o l fit room = (t, refl)
told-made Q t folder (name ∷ []) n above o l fit room =
    file-made t folder name n (bounded-tree t o.tree) (within t above folder o.tree l) (λ i. none (child_of t folder name) refl (room i)) fit
  where
    none : (found : Option ℕ) → child_of t folder name ≡ found → ((c : Content) → Q (above ++ name ∷ []) c → ⊥) → found ≡ None
    none None e never = refl
    none (Some child) e never = let x = child-is t folder name child e in absurd (never x.0.content (o.said (above ++ name ∷ []) child x.0 (leads-child t above folder name child l e) x.1))
told-made Q t folder (name ∷ m ∷ ms) n above o l fit room =
    found (child_of t folder name) refl room.0
    (λ place lead. told-made Q t place (m ∷ ms) n (above ++ name ∷ []) o lead fit (leaves-weaker (λ names c. Q ((above ++ name ∷ []) ++ names) c) (λ names c. Q (above ++ name ∷ names) c) (m ∷ ms) (λ names c q. rw (append_assoc above (name ∷ []) names) at q) room.1))
  where
    b : Bounded t
    b = bounded-tree t o.tree

    in_tree : folder < length t
    in_tree = within t above folder o.tree l

    found : (there : Option ℕ) → child_of t folder name ≡ there → ((c : Content) → Q (above ++ name ∷ []) c → c ≡ content.Folder)
        → ((place : ℕ) → Leads t (above ++ name ∷ []) place → IsMade (put_below t place (m ∷ ms) n))
        → IsMade (and_then (enter_child t folder name there) (λ e. put_below e.tree e.place (m ∷ ms) n))
    found None e folders deeper =
        let more = longer t folder name content.Folder in
        below-made (with_child t folder name content.Folder) (length t) (m ∷ ms) n (bounded-put t folder name content.Folder b in_tree) (omega (arith, more)) (fresh t folder name content.Folder b in_tree) fit
    found (Some place) e folders deeper =
        let x = child-is t folder name place e in
        let lead = leads-child t above folder name place l e in
        let is : x.0.content ≡ content.Folder = folders x.0.content (o.said (above ++ name ∷ []) place x.0 lead x.1) in
        let here : content_at t place ≡ Some content.Folder = ap (option_map (λ y. y.content)) x.1 ∙ ap Some is in
        rw here (deeper place lead)

only-weaker : (Q R : List (List ℕ) → Content → Type 0) (t : List TreeNode) → ((names : List (List ℕ)) (c : Content) → Q names c → R names c) → Only Q t → Only R t
only-weaker Q R t f o = record { tree = o.tree; reached = o.reached; said = λ names place x l e. f names x.content (o.said names place x l e) }

-- one file more
step-made : (t : List TreeNode) (done : List Source) (f : Source) → Only (SomeFileSays done) t → FileFits f → IsApart f done → IsMade (with_file t f)
step-made t done f o fit apart = go (names_of f.path) refl
  where
    go : (own : Option (List (List ℕ))) → names_of f.path ≡ own → IsMade (with_names t f.text own)
    go None e = (t, refl)
    go (Some own) e =
        let read = fit own e in
        rw read.1 (told-made (SomeFileSays done) t 0 own read.0 [] o at_root read.2 (leaves-all own f done e apart))

step-only : (t : List TreeNode) (done : List Source) (f : Source) (u : List TreeNode) → Only (SomeFileSays done) t → with_file t f ≡ Ok u → Only (SomeFileSays (f ∷ done)) u
step-only t done f u o is =
    let Q : List (List ℕ) → Content → Type 0 = SomeFileSays (f ∷ done) in
    let grown : Grows t (with_file t f) (Held Q t) = named-held Q t f (names_of f.path) refl (only-weaker (SomeFileSays done) Q t (λ names c said. inr said) o) (λ names c said. inl said) in
    let made : Grows t (Ok u) (Held Q t) = subst (λ (r : Result (List TreeNode) Cause). Grows t r (Held Q t)) is grown in
    made.1.0

abbrev PairsApart : List Placed → Type 0
PairsApart [] = Unit
PairsApart (p ∷ ps) = Each (λ q. AreApart p.1 q.1) ps × PairsApart ps

swapped : (f g : Source) → AreApart f g → AreApart g f
swapped f g apart = λ own others named others_named. let h = apart others own others_named named in (h.1, h.0)

each-both : (P Q R : Placed → Type 0) (ps : List Placed) → ((p : Placed) → P p → Q p → R p) → Each P ps → Each Q ps → Each R ps
each-both P Q R [] f h k = tt
each-both P Q R (p ∷ ps) f h k = (f p h.0 k.0, each-both P Q R ps f h.1 k.1)

-- one file after another, behind those that are done
files-made : (t : List TreeNode) (done : List Source) (ps : List Placed) → Only (SomeFileSays done) t → Each (λ p. FileFits p.1) ps → Each (λ p. IsApart p.1 done) ps → PairsApart ps
    → (u : List TreeNode) × (with_files t ps ≡ Ok u)
files-made t done [] o fit apart pairs = (t, refl)
files-made t done (p ∷ ps) o fit apart pairs =
    let made = step-made t done p.1 o fit.0 apart.0 in
    let next = files-made made.0 (p.1 ∷ done) ps (step-only t done p.1 made.0 o made.1) fit.1
    (each-both (λ q. AreApart p.1 q.1) (λ q. IsApart q.1 done) (λ q. IsApart q.1 (p.1 ∷ done)) ps (λ q h k. (swapped p.1 q.1 h, k)) pairs.0 apart.1) pairs.1 in
    rw made.1 next

pairs-cond : (v : Bool) (ps qs : List Placed) → PairsApart ps → PairsApart qs → PairsApart (cond v ps qs)
pairs-cond true ps qs h k = h
pairs-cond false ps qs h k = k

pairs-put : (p : Placed) (ps : List Placed) → Each (λ q. AreApart p.1 q.1) ps → PairsApart ps → PairsApart (put_by_path p ps)
pairs-put p [] h hs = (tt, tt)
pairs-put p (q ∷ qs) h hs =
    pairs-cond (is_path_before p.1.path q.1.path) (p ∷ q ∷ qs) (q ∷ put_by_path p qs) (h, hs)
    (each-put (λ r. AreApart q.1 r.1) p qs (swapped p.1 q.1 h.0) hs.0, pairs-put p qs h.1 hs.1)

pairs-ordered : (sorted rest : List Placed) → PairsApart sorted → PairsApart rest → Each (λ r. Each (λ s. AreApart r.1 s.1) sorted) rest → PairsApart (in_path_order_with sorted rest)
pairs-ordered sorted [] hs ks cross = hs
pairs-ordered sorted (p ∷ ps) hs ks cross =
    pairs-ordered (put_by_path p sorted) ps (pairs-put p sorted cross.0 hs) ks.1
    (each-both (λ r. AreApart p.1 r.1) (λ r. Each (λ s. AreApart r.1 s.1) sorted) (λ r. Each (λ s. AreApart r.1 s.1) (put_by_path p sorted)) ps
    (λ r h k. each-put (λ s. AreApart r.1 s.1) p sorted (swapped p.1 r.1 h) k) ks.0 cross.1)

each-always : (P : Placed → Type 0) (ps : List Placed) → ((p : Placed) → P p) → Each P ps
each-always P [] f = tt
each-always P (p ∷ ps) f = (f p, each-always P ps f)

apart-placed : (f : Source) (i : ℕ) (gs : List Source) → IsApart f gs → Each (λ q. AreApart f q.1) (enumerate_from i gs)
apart-placed f i [] h = tt
apart-placed f i (g ∷ gs) h = (h.0, apart-placed f (i + 1) gs h.1)

fit-placed : (i : ℕ) (files : List Source) → AllFit files → Each (λ p. FileFits p.1) (enumerate_from i files) × PairsApart (enumerate_from i files)
fit-placed i [] h = (tt, tt)
fit-placed i (f ∷ fs) h = let rest = fit-placed (i + 1) fs h.2 in ((h.0, rest.0), (apart-placed f (i + 1) fs h.1, rest.1))

pub all-made : (files : List Source) → AllFit files → (tree : List TreeNode) × (tree_of files ≡ Ok tree)
all-made files fit =
    let placed = fit-placed 0 files fit in
    let ordered = in_path_order files in
    files-made root_alone [] ordered (only-root (SomeFileSays []) (refl, refl)) (each-ordered (λ p. FileFits p.1) [] (enumerate_from 0 files) tt placed.0)
    (each-always (λ p. IsApart p.1 []) ordered (λ p. tt)) (pairs-ordered [] (enumerate_from 0 files) tt placed.1 (each-always (λ r. Each (λ s. AreApart r.1 s.1) []) (enumerate_from 0 files) (λ r. tt)))
