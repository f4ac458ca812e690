-- What is put into a tree stands there from then on.
use Rattle.std.proofs.Common.{◌≡◌, ℕ, suc, zero, ◌+◌, Bool, true, false, cond, List, [], ◌∷◌, ◌++◌, length, Option, Some, None, Result, Ok, Err, is_some, refl, sym, ◌∙◌, codes}
use Rattle.std.proofs.lemmas.Slice.Eq.{bytes_eq-Decides}
use Rattle.std.specs.List.{enumerate_from}
use Rattle.std.specs.Str.{bytes_eq}
use Rattle.fisca_yaml.specs.Steps.Find.{get}
use Rattle.fisca_yaml.specs.Grouping.{document}
use Rattle.fisca_yaml.specs.Node.{Node, null, scalar, list, map, Entries, no_entries, entry}
use Rattle.fisca_params.specs.declared.content.Content.{Content}
use Rattle.fisca_params.specs.declared.content.Content.TheVariants as content
use Rattle.fisca_params.specs.Causes.{Cause, duplicate_name}
use Rattle.fisca_params.specs.Steps.Content.{date_map, parameter_in, scale_of}
use Rattle.fisca_params.specs.FaultLines.{line_at, values_line, scale_line}
use Rattle.fisca_params.specs.Files.{Placed, with_tree, with_names, with_file, after_file, with_files, root_alone}
use Rattle.fisca_params.specs.Steps.Files.{in_path_order, tree_of}
use Rattle.fisca_params.specs.Paths.{names_of}
use Rattle.fisca_params.specs.Places.{content_in, is_branch, Stands, ChildrenStand, StandsBelow, StandsAtItsPath, EachStands}
use Rattle.fisca_num.specs.Results.{and_then}
use Rattle.fisca_params.specs.Source.{Source}
use Rattle.fisca_params.specs.Tree.{TreeNode, child_of, child_node, content_at, Entered, entered}
use Rattle.fisca_params.specs.Steps.Tree.{with_child, with_read, put_map, put_node, put_children, is_description, is_folder, describes_folder, enter_child, put_below}
use Rattle.fisca_params.proofs.EachFile.{Each, of-ordered}
use Rattle.fisca_params.proofs.Indexed.{child-put, child-put_below}

-- what is found in one tree is found in the other
pub record Kept (t u : List TreeNode) : Type 0 where
  pub child : (parent : ℕ) (name : List ℕ) (k : ℕ) → child_of t parent name ≡ Some k → child_of u parent name ≡ Some k
  pub content : (k : ℕ) (c : Content) → content_at t k ≡ Some c → content_at u k ≡ Some c

pub kept-same : (t : List TreeNode) → Kept t t
kept-same t = record { child = λ parent name k e. e; content = λ k c e. e }

kept-then : (t u v : List TreeNode) → Kept t u → Kept u v → Kept t v
kept-then t u v p q = record {
  child = λ parent name k e. q.child parent name k (p.child parent name k e);
  content = λ k c e. q.content k c (p.content k c e);
}

get-before : (t : List TreeNode) (x : TreeNode) (k : ℕ) (c : Content) → content_at t k ≡ Some c → content_at (t ++ x ∷ []) k ≡ Some c
get-before [] x k c e = cc
get-before (y ∷ t) x zero c e = e
get-before (y ∷ t) x (suc k) c e = get-before t x k c e

get-last : (t : List TreeNode) (x : TreeNode) → content_at (t ++ x ∷ []) (length t) ≡ Some x.content
get-last [] x = refl
get-last (y ∷ t) x = get-last t x

pub kept-put : (t : List TreeNode) (parent : ℕ) (name : List ℕ) (c : Content) → Kept t (with_child t parent name c)
kept-put t parent name c = record {
  child = λ place q k e. child-put t parent name c place q ∙ rw e refl;
  content = λ k d e. get-before t (child_node parent name c) k d e;
}

none_if : {X : Type 0} (o : Option X) → is_some o ≡ false → o ≡ None
none_if None e = refl
none_if (Some x) e = cc

pub put-found : (t : List TreeNode) (parent : ℕ) (name : List ℕ) (c : Content) → is_some (child_of t parent name) ≡ false →
    child_of (with_child t parent name c) parent name ≡ Some (length t)
put-found t parent name c free =
    child-put_below t parent name c name (none_if (child_of t parent name) free) ∙ rw ((bytes_eq-Decides name name).1 refl) refl

-- a child stands below a place
abbrev ChildStands : List TreeNode → ℕ → List ℕ → Node → Type 0
ChildStands t place name n = (child : ℕ) × (child_of t place name ≡ Some child) × Stands t child n

mutual
  stands-kept : (t u : List TreeNode) (place : ℕ) (n : Node) → Kept t u → Stands t place n → Stands u place n
  stands-kept t u place null k h = h
  stands-kept t u place (scalar text q l) k h = h
  stands-kept t u place (list is) k h = h
  stands-kept t u place (map es) k h =
      ((h.0.0, h.0.1, k.content place h.0.0 h.0.2), λ branch. children-kept t u place es k (h.1 branch))

  children-kept : (t u : List TreeNode) (place : ℕ) (es : Entries) → Kept t u → ChildrenStand t place es → ChildrenStand u place es
  children-kept t u place no_entries k h = h
  children-kept t u place (entry key line n es) k h =
      (λ child. let c = h.0 child in (c.0, k.child place key c.0 c.1, stands-kept t u c.0 n k c.2), children-kept t u place es k h.1)

-- what a tree that something is put into has
abbrev pub Grows : List TreeNode → Result (List TreeNode) Cause → (List TreeNode → Type 0) → Type 0
Grows t (Ok u) P = Kept t u × P u
Grows t (Err c) P = Unit

pub grows-if : (t : List TreeNode) (v : Bool) (c : Cause) (r : Result (List TreeNode) Cause) (P : List TreeNode → Type 0) →
    (v ≡ false → Grows t r P) → Grows t (cond v (Err c) r) P
grows-if t true c r P h = tt
grows-if t false c r P h = h refl

pub grows-then : (t : List TreeNode) (r : Result (List TreeNode) Cause) (next : List TreeNode → Result (List TreeNode) Cause) (P Q : List TreeNode → Type 0) →
    Grows t r P → ((u : List TreeNode) → Kept t u → P u → Grows u (next u) Q) → Grows t (and_then r next) Q
grows-then t (Ok u) next P Q h f = more (next u) (f u h.0 h.1)
  where
    more : (s : Result (List TreeNode) Cause) → Grows u s Q → Grows t s Q
    more (Ok v) g = (kept-then t u v h.0 g.0, g.1)
    more (Err c) g = tt
grows-then t (Err c) next P Q h f = tt

pub grows-from : (t mid : List TreeNode) (r : Result (List TreeNode) Cause) (P Q : List TreeNode → Type 0) →
    Kept t mid → Grows mid r P → ((u : List TreeNode) → Kept mid u → P u → Q u) → Grows t r Q
grows-from t mid (Ok u) P Q k h f = (kept-then t mid u k h.0, f u h.0 h.1)
grows-from t mid (Err c) P Q k h f = tt

pub grows-either : (t : List TreeNode) (v : Bool) (r s : Result (List TreeNode) Cause) (P : List TreeNode → Type 0) →
    (v ≡ true → Grows t r P) → (v ≡ false → Grows t s P) → Grows t (cond v r s) P
grows-either t true r s P h k = h refl
grows-either t false r s P h k = k refl

-- a parameter or a scale
read-grows : (t : List TreeNode) (parent : ℕ) (name : List ℕ) (es : Entries) (c : Option Content) (line : ℕ) →
    is_some (child_of t parent name) ≡ false → content_in (map es) ≡ c → is_branch (map es) ≡ false →
    Grows t (with_read t parent name c line) (λ u. ChildStands u parent name (map es))
read-grows t parent name es None line free is other = tt
read-grows t parent name es (Some c) line free is other =
    (kept-put t parent name c, (length t, put-found t parent name c free, ((c, is, get-last t (child_node parent name c)), λ branch. absurd (let no : true ≡ false = sym branch ∙ other in cc))))

-- a map that is put into a tree, by its date map and its brackets
map-grows : (t : List TreeNode) (parent : ℕ) (name : List ℕ) (line : ℕ) (es : Entries) (values brackets : Option Node) →
    is_some (child_of t parent name) ≡ false → date_map (map es) ≡ values → get (codes "brackets") (map es) ≡ brackets →
    ((u : List TreeNode) (place : ℕ) → Grows u (put_children u place es) (λ v. ChildrenStand v place es)) →
    Grows t (put_map t parent name line (map es) (λ u. put_children u (length t) es) values brackets) (λ u. ChildStands u parent name (map es))
map-grows t parent name line es (Some values) brackets free e f below =
    read-grows t parent name es (parameter_in values) (values_line (line_at (codes "values") line (map es)) values) free (rw e refl) (rw e refl)
map-grows t parent name line es None (Some brackets) free e f below =
    read-grows t parent name es (scale_of (map es) brackets) (scale_line (line_at (codes "brackets") line (map es)) brackets) free (rw (e, f) refl) (rw (e, f) refl)
map-grows t parent name line es None None free e f below =
    let middle = with_child t parent name content.Branch in
    grows-from t middle (put_children middle (length t) es) (λ v. ChildrenStand v (length t) es) (λ u. ChildStands u parent name (map es)) (kept-put t parent name content.Branch) (below middle (length t))
    (λ u k h. (length t, k.child parent name (length t) (put-found t parent name content.Branch free), ((content.Branch, rw (e, f) refl, k.content (length t) content.Branch (get-last t (child_node parent name content.Branch))), λ branch. h)))

child-kept : (t u : List TreeNode) (place : ℕ) (name : List ℕ) (n : Node) → Kept t u → ChildStands t place name n → ChildStands u place name n
child-kept t u place name n k h = (h.0, k.child place name h.0 h.1, stands-kept t u h.0 n k h.2)

mutual
  node-grows : (t : List TreeNode) (parent : ℕ) (name : List ℕ) (line : ℕ) (n : Node) →
      Grows t (put_node t parent name line n) (λ u. ChildStands u parent name n)
  node-grows t parent name line null = grows-if t (is_some (child_of t parent name)) (duplicate_name line) (Err _) _ (λ free. tt)
  node-grows t parent name line (scalar text q l) = grows-if t (is_some (child_of t parent name)) (duplicate_name line) (Err _) _ (λ free. tt)
  node-grows t parent name line (list is) = grows-if t (is_some (child_of t parent name)) (duplicate_name line) (Err _) _ (λ free. tt)
  node-grows t parent name line (map es) =
      grows-if t (is_some (child_of t parent name)) (duplicate_name line) (put_map t parent name line (map es) (λ u. put_children u (length t) es) (date_map (map es)) (get (codes "brackets") (map es))) (λ u. ChildStands u parent name (map es))
      (λ free. map-grows t parent name line es (date_map (map es)) (get (codes "brackets") (map es)) free refl refl (λ u place. children-grow u place es))

  children-grow : (t : List TreeNode) (place : ℕ) (es : Entries) → Grows t (put_children t place es) (λ u. ChildrenStand u place es)
  children-grow t place no_entries = (kept-same t, tt)
  children-grow t place (entry key line n es) =
      let Q : List TreeNode → Type 0 = λ u. (is_description key ≡ false → ChildStands u place key n) × ChildrenStand u place es in
      grows-either t (is_description key) (put_children t place es) (and_then (put_node t place key line n) (λ u. put_children u place es)) Q
      (λ d. grows-from t t (put_children t place es) (λ u. ChildrenStand u place es) Q (kept-same t) (children-grow t place es)
      (λ u k h. ((λ f. absurd (let no : true ≡ false = sym d ∙ f in cc)), h)))
      (λ d. grows-then t (put_node t place key line n) (λ u. put_children u place es) (λ u. ChildStands u place key n) Q (node-grows t place key line n)
      (λ u k c. grows-from u u (put_children u place es) (λ v. ChildrenStand v place es) Q (kept-same u) (children-grow u place es)
      (λ v kv h. ((λ f. child-kept u v place key n kv c), h))))

folder-is : (o : Option Content) → is_folder o ≡ true → o ≡ Some content.Folder
folder-is (Some content.Folder) e = refl
folder-is (Some content.Branch) e = cc
folder-is (Some (content.Numbers ds)) e = cc
folder-is (Some (content.Bools ds)) e = cc
folder-is (Some content.Unusable) e = cc
folder-is (Some (content.Scale s)) e = cc
folder-is None e = cc

-- below a folder that is there already
pub there-grows : (t : List TreeNode) (place : ℕ) (next : Entered → Result (List TreeNode) Cause) (v : Bool) (P : List TreeNode → Type 0) →
    (v ≡ true → Grows t (next (entered t place)) P) → Grows t (and_then (cond v (Ok (entered t place)) (Err (duplicate_name 1))) next) P
there-grows t place next true P h = h refl
there-grows t place next false P h = tt

-- below a folder, by what its name finds
entered-grows : (t : List TreeNode) (folder : ℕ) (name m : List ℕ) (ms : List (List ℕ)) (n : Node) (found : Option ℕ) → child_of t folder name ≡ found →
    ((u : List TreeNode) (place : ℕ) → Grows u (put_below u place (m ∷ ms) n) (λ v. StandsBelow v place (m ∷ ms) n)) →
    Grows t (and_then (enter_child t folder name found) (λ e. put_below e.tree e.place (m ∷ ms) n)) (λ u. StandsBelow u folder (name ∷ m ∷ ms) n)
entered-grows t folder name m ms n None e below =
    let middle = with_child t folder name content.Folder in
    let free : is_some (child_of t folder name) ≡ false = rw e refl in
    grows-from t middle (put_below middle (length t) (m ∷ ms) n) (λ v. StandsBelow v (length t) (m ∷ ms) n) (λ u. StandsBelow u folder (name ∷ m ∷ ms) n) (kept-put t folder name content.Folder) (below middle (length t))
    (λ u k h. (length t, k.child folder name (length t) (put-found t folder name content.Folder free), k.content (length t) content.Folder (get-last t (child_node folder name content.Folder)), h))
entered-grows t folder name m ms n (Some place) e below =
    there-grows t place (λ e. put_below e.tree e.place (m ∷ ms) n) (is_folder (content_at t place)) (λ u. StandsBelow u folder (name ∷ m ∷ ms) n)
    (λ f. grows-from t t (put_below t place (m ∷ ms) n) (λ v. StandsBelow v place (m ∷ ms) n) (λ u. StandsBelow u folder (name ∷ m ∷ ms) n) (kept-same t) (below t place)
    (λ u k h. (place, k.child folder name place e, k.content place content.Folder (folder-is (content_at t place) f), h)))

file-grows : (t : List TreeNode) (folder : ℕ) (name : List ℕ) (n : Node) → Grows t (put_below t folder (name ∷ []) n) (λ u. StandsBelow u folder (name ∷ []) n)
file-grows t folder name n =
    let P : List TreeNode → Type 0 = λ u. StandsBelow u folder (name ∷ []) n in
    grows-either t (bytes_eq name (codes "index")) _ _ P
    (λ i. grows-either t (describes_folder n) _ _ P (λ d. (kept-same t, λ f. absurd (let no : true ≡ false = sym i ∙ f in cc))) (λ d. tt))
    (λ i. grows-from t t (put_node t folder name 1 n) (λ u. ChildStands u folder name n) P (kept-same t) (node-grows t folder name 1 n) (λ u k h. λ f. h))

below-grows : (t : List TreeNode) (folder : ℕ) (names : List (List ℕ)) (n : Node) → Grows t (put_below t folder names n) (λ u. StandsBelow u folder names n)
below-grows t folder [] n = (kept-same t, tt)
below-grows t folder (name ∷ []) n = file-grows t folder name n
below-grows t folder (name ∷ m ∷ ms) n = entered-grows t folder name m ms n (child_of t folder name) refl (λ u place. below-grows u place (m ∷ ms) n)

below-kept : (t u : List TreeNode) (folder : ℕ) (names : List (List ℕ)) (n : Node) → Kept t u → StandsBelow t folder names n → StandsBelow u folder names n
below-kept t u folder [] n k h = h
below-kept t u folder (name ∷ []) n k h = λ f. child-kept t u folder name n k (h f)
below-kept t u folder (name ∷ m ∷ ms) n k h = (h.0, k.child folder name h.0 h.1, k.content h.0 content.Folder h.2, below-kept t u h.0 (m ∷ ms) n k h.3)

-- the file whose names and tree these are
read-file-grows : (t : List TreeNode) (f : Source) (names : List (List ℕ)) (n : Option Node) → names_of f.path ≡ Some names → document f.text ≡ n →
    Grows t (with_tree t names n) (λ u. StandsAtItsPath u f)
read-file-grows t f names None e d = tt
read-file-grows t f names (Some n) e d =
    grows-from t t (put_below t 0 names n) (λ u. StandsBelow u 0 names n) (λ u. StandsAtItsPath u f) (kept-same t) (below-grows t 0 names n)
    (λ u k h. λ other m is reads.
    let same : names ≡ other = let both : Some names ≡ Some other = sym e ∙ is in cc in
    let one : n ≡ m = let both : Some n ≡ Some m = sym d ∙ reads in cc in
    rw (← same, ← one) h)

named-grows : (t : List TreeNode) (f : Source) (names : Option (List (List ℕ))) → names_of f.path ≡ names →
    Grows t (with_names t f.text names) (λ u. StandsAtItsPath u f)
named-grows t f None e = (kept-same t, λ names m is reads. absurd (let no : None ≡ Some names = sym e ∙ is in cc))
named-grows t f (Some names) e = read-file-grows t f names (document f.text) e refl

placed-kept : (t u : List TreeNode) (f : Source) → Kept t u → StandsAtItsPath t f → StandsAtItsPath u f
placed-kept t u f k h = λ names n is reads. below-kept t u 0 names n k (h names n is reads)

abbrev PlacedStands : List TreeNode → Placed → Type 0
PlacedStands t p = StandsAtItsPath t p.1

after-grows : (t : List TreeNode) (place : ℕ) (f : Source) (r : Result (List TreeNode) Cause) (ps : List Placed) (u : List TreeNode) →
    Grows t r (λ v. StandsAtItsPath v f) → after_file place r (λ v. with_files v ps) ≡ Ok u →
    ((v : List TreeNode) → with_files v ps ≡ Ok u → Kept v u × Each (PlacedStands u) ps) → Kept t u × Each (PlacedStands u) ((place, f) ∷ ps)
after-grows t place f (Ok v) ps u g e later = let rest = later v e in (kept-then t v u g.0 rest.0, (placed-kept v u f rest.0 g.1, rest.1))
after-grows t place f (Err c) ps u g e later = cc

all-grow : (t : List TreeNode) (ps : List Placed) (u : List TreeNode) → with_files t ps ≡ Ok u → Kept t u × Each (PlacedStands u) ps
all-grow t [] u e = let same : t ≡ u = cc in (rw (← same) (kept-same t), tt)
all-grow t (p ∷ ps) u e =
    after-grows t p.0 p.1 (with_file t p.1) ps u (named-grows t p.1 (names_of p.1.path) refl) e (λ v. all-grow v ps u)

places-stand : (t : List TreeNode) (i : ℕ) (files : List Source) → Each (PlacedStands t) (enumerate_from i files) → EachStands t files
places-stand t i [] h = tt
places-stand t i (f ∷ fs) h = (h.0, places-stand t (i + 1) fs h.1)

-- what each file says stands where its path says
pub each-stands : (files : List Source) (t : List TreeNode) → tree_of files ≡ Ok t → EachStands t files
each-stands files t e =
    let all = all-grow root_alone (in_path_order files) t e in
    places-stand t 0 files (of-ordered (PlacedStands t) [] (enumerate_from 0 files) all.1).1
