-- Keys that come twice.
use Rattle.std.proofs.Common.{◌≡◌, ℕ, ◌+◌, ◌<◌, ◌≤◌, Bool, true, false, cond, ◌||◌, ◌⊎◌, List, [], ◌∷◌, ◌++◌, length, get_or, take, drop, map, is_some, Option, Some, None, inl, inr, ⊎_elim, refl, sym, ap, ap₂, ◌∙◌, arith}
use Rattle.std.specs.List.{list_any}
use Rattle.std.specs.Str.{bytes_eq}
use Rattle.std.proofs.lemmas.List.{take_more, take_all, take-map, take-append-drop, length-map, get_or-map}
use Rattle.std.proofs.lemmas.List.Folds.{list_any-append}
use Rattle.std.proofs.lemmas.Slice.Eq.{bytes_eq-Decides}
use Rattle.fisca_yaml.specs.Node.{Node, keys, repeats}
use Rattle.fisca_yaml.specs.Views.{entries_view, Seen_entry, Seen_item, seen_entry, tree_step, entry_step, item_step}
use Rattle.fisca_yaml.specs.declared.tree.Entry.{Entry, fold_out-Entry}

abbrev pub key : Entry → List ℕ
key e = (seen_entry e).key

pub key-is : (e : Entry) → key e ≡ e.key
key-is e = ap (λ (s : Seen_entry). s.key) (fold_out-Entry Node Seen_entry Seen_item tree_step entry_step item_step e)

pub keys-map : (es : List Entry) → keys (entries_view es) ≡ map key es
keys-map [] = refl
keys-map (e ∷ es) = ap (λ ks. key e ∷ ks) (keys-map es)

any_push : (p : List ℕ → Bool) (ks : List (List ℕ)) (k : List ℕ) → list_any p (ks ++ k ∷ []) ≡ list_any p ks || p k
any_push p [] k = or_false (p k) where
  or_false : (b : Bool) → b || false ≡ b
  or_false true = refl
  or_false false = refl
any_push p (j ∷ ks) k = ap (λ b. p j || b) (any_push p ks k) ∙ or_assoc (p j) (list_any p ks) (p k) where
  or_assoc : (a b c : Bool) → a || (b || c) ≡ (a || b) || c
  or_assoc true b c = refl
  or_assoc false b c = refl

pub put : {X : Type 0} (b : Bool) (x : X) (o : Option X) → is_some (cond b (Some x) o) ≡ is_some o || b
put true x None = refl
put true x (Some y) = refl
put false x None = refl
put false x (Some y) = refl

same_tests : (b c : Bool) → (b ≡ true → c ≡ true) → (c ≡ true → b ≡ true) → b ≡ c
same_tests true c f g = sym (f refl)
same_tests false true f g = g refl
same_tests false false f g = refl

pub swap_eq : (a b : List ℕ) → bytes_eq a b ≡ bytes_eq b a
swap_eq a b = same_tests (bytes_eq a b) (bytes_eq b a) (λ e. (bytes_eq-Decides b a).1 (sym ((bytes_eq-Decides a b).0 e))) (λ e. (bytes_eq-Decides a b).1 (sym ((bytes_eq-Decides b a).0 e)))

repeats_push : (ks : List (List ℕ)) (k : List ℕ) → repeats (ks ++ k ∷ []) ≡ repeats ks || list_any (bytes_eq k) ks
repeats_push [] k = refl
repeats_push (j ∷ ks) k =
    ap₂ (λ a b. a || b) (any_push (bytes_eq j) ks k) (repeats_push ks k)
    ∙ shuffle (list_any (bytes_eq j) ks) (bytes_eq j k) (repeats ks) (list_any (bytes_eq k) ks)
    ∙ ap (λ b. (list_any (bytes_eq j) ks || repeats ks) || (b || list_any (bytes_eq k) ks)) (swap_eq j k) where
      shuffle : (a b c d : Bool) → (a || b) || (c || d) ≡ (a || c) || (b || d)
      shuffle true b c d = refl
      shuffle false true true d = refl
      shuffle false true false d = refl
      shuffle false false true true = refl
      shuffle false false true false = refl
      shuffle false false false d = refl

or_true : (b : Bool) → b || true ≡ true
or_true true = refl
or_true false = refl

split_or : (a b : Bool) → a || b ≡ true → (a ≡ true) ⊎ (b ≡ true)
split_or true b e = inl refl
split_or false b e = inr e

any_longer : (p : List ℕ → Bool) (xs ys : List (List ℕ)) → list_any p xs ≡ true → list_any p (xs ++ ys) ≡ true
any_longer p xs ys e = list_any-append p xs ys ∙ ap (λ b. b || list_any p ys) e

pub repeats_longer : (xs ys : List (List ℕ)) → repeats xs ≡ true → repeats (xs ++ ys) ≡ true
repeats_longer [] ys e = absurd (cc)
repeats_longer (x ∷ xs) ys e =
    ⊎_elim (λ q. ap (λ c. c || repeats (xs ++ ys)) (any_longer (bytes_eq x) xs ys q))
    (λ q. ap (λ c. list_any (bytes_eq x) (xs ++ ys) || c) (repeats_longer xs ys q) ∙ or_true (list_any (bytes_eq x) (xs ++ ys)))
    (split_or (list_any (bytes_eq x) xs) (repeats xs) e)

-- one turn: the key at i beside those before it
module _ (es : List Entry) (i : ℕ) (d : Entry) (within : i < length es) where
  front_more : take (i + 1) (keys (entries_view es)) ≡ take i (keys (entries_view es)) ++ key (get_or es i d) ∷ []
  front_more =
      let ks = keys (entries_view es) in
      let same : ks ≡ map key es = keys-map es in
      let inside : i < length ks = omega (arith, ap length same, length-map es key) in
      let here : get_or ks i (key d) ≡ key (get_or es i d) = ap (λ l. get_or l i (key d)) same ∙ get_or-map key es i d (key d) within in
      take_more ks i (key d) inside ∙ ap (λ k. take i ks ++ k ∷ []) here

  pub found : list_any (bytes_eq (key (get_or es i d))) (take i (keys (entries_view es))) ≡ true → repeats (keys (entries_view es)) ≡ true
  found e =
      let ks = keys (entries_view es) in
      let here : repeats (take (i + 1) ks) ≡ true = ap repeats front_more ∙ repeats_push (take i ks) (key (get_or es i d)) ∙ ap (λ b. repeats (take i ks) || b) e ∙ or_true (repeats (take i ks)) in
      ap repeats (sym (take-append-drop (i + 1) ks)) ∙ repeats_longer (take (i + 1) ks) (drop (i + 1) ks) here

  pub not_yet : repeats (take i (keys (entries_view es))) ≡ false → list_any (bytes_eq (key (get_or es i d))) (take i (keys (entries_view es))) ≡ false → repeats (take (i + 1) (keys (entries_view es))) ≡ false
  not_yet r e = ap repeats front_more ∙ repeats_push (take i (keys (entries_view es))) (key (get_or es i d)) ∙ ap₂ (λ a b. a || b) r e

  pub one_more_key : (q : List ℕ) → list_any (bytes_eq q) (take (i + 1) (keys (entries_view es))) ≡ list_any (bytes_eq q) (take i (keys (entries_view es))) || bytes_eq q (key (get_or es i d))
  one_more_key q = ap (list_any (bytes_eq q)) front_more ∙ any_push (bytes_eq q) (take i (keys (entries_view es))) (key (get_or es i d))

  pub met : (q : List ℕ) → bytes_eq q (key (get_or es i d)) ≡ true → list_any (bytes_eq q) (keys (entries_view es)) ≡ true
  met q e =
      let ks = keys (entries_view es) in
      let here : list_any (bytes_eq q) (take (i + 1) ks) ≡ true = one_more_key q ∙ ap (λ b. list_any (bytes_eq q) (take i ks) || b) e ∙ or_true (list_any (bytes_eq q) (take i ks)) in
      ap (list_any (bytes_eq q)) (sym (take-append-drop (i + 1) ks)) ∙ any_longer (bytes_eq q) (take (i + 1) ks) (drop (i + 1) ks) here

-- the keys of the first entries
pub front_keys : (es : List Entry) (i : ℕ) → keys (entries_view (take i es)) ≡ take i (keys (entries_view es))
front_keys es i = keys-map (take i es) ∙ sym (take-map key i es) ∙ ap (take i) (sym (keys-map es))

pub all_keys : (es : List Entry) (i : ℕ) → length es ≤ i → take i (keys (entries_view es)) ≡ keys (entries_view es)
all_keys es i h = let same = keys-map es in take_all i (keys (entries_view es)) (omega (arith, ap length same, length-map es key))
