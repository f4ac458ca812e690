-- What files laid over one another come to.
use Rattle.std.proofs.Common.{◌≡◌, ◌≢◌, ℕ, ◌==◌, ◌++◌, [], ◌∷◌, ◌||◌, List, length, map, fold, Bool, true, false, not, cond, refl, sym, ap, ap₂, ◌∙◌, append-nil, All}
use Rattle.std.proofs.lemmas.Bool.{true≢false}
use Rattle.std.proofs.lemmas.List.Elements.{All-head, All-tail, filter-append}
use Rattle.std.proofs.lemmas.List.Sums.{fold-append}
use Rattle.std.proofs.lemmas.Slice.Eq.{bytes_eq-Decides}
use Rattle.std.proofs.Math.Dec.{eqb-suc-zero}
use Rattle.std.specs.List.{filter, list_any}
use Rattle.std.specs.Str.{bytes_eq}
use Rattle.fisca_params.specs.Source.{Source}
use Rattle.fisca_folder.specs.Layers.{first_layer, has_path, is_empty, laid_of, laid_over, Laid, Layer, path_below, Told, told_at, told_in, with_layer}
use Rattle.fisca_folder.specs.LayerLaws.{at_path, HaveNone, IsLastWith}

-- two tests one after another leave what they leave the other way round
swapped : {X : Type 0} (p q : X → Bool) (xs : List X) → filter p (filter q xs) ≡ filter q (filter p xs)
swapped p q [] = refl
swapped {X} p q (x ∷ xs) = go (p x) (q x) refl refl (swapped p q xs)
  where
    go : (a b : Bool) → p x ≡ a → q x ≡ b → filter p (filter q xs) ≡ filter q (filter p xs) → filter p (cond b (x ∷ filter q xs) (filter q xs)) ≡ filter q (cond a (x ∷ filter p xs) (filter p xs))
    go true true e f rest = rw (e, f) (ap (λ ys. x ∷ ys) rest)
    go true false e f rest = rw f rest
    go false true e f rest = rw e rest
    go false false e f rest = rest

-- what no element passes behind another test leaves nothing
none_left : {X : Type 0} (p q : X → Bool) (xs : List X) → ((x : X) → p x ≡ true → q x ≡ false) → filter p (filter q xs) ≡ []
none_left p q [] none = refl
none_left {X} p q (x ∷ xs) none = go (p x) (q x) refl refl (none_left p q xs none)
  where
    go : (a b : Bool) → p x ≡ a → q x ≡ b → filter p (filter q xs) ≡ [] → filter p (cond b (x ∷ filter q xs) (filter q xs)) ≡ []
    go true true e f rest = absurd (true≢false (sym f ∙ none x e))
    go true false e f rest = rest
    go false true e f rest = rw e rest
    go false false e f rest = rest

-- what all elements that pass pass too leaves them
all_left : {X : Type 0} (p q : X → Bool) (xs : List X) → ((x : X) → p x ≡ true → q x ≡ true) → filter p (filter q xs) ≡ filter p xs
all_left p q [] every = refl
all_left {X} p q (x ∷ xs) every = go (p x) (q x) refl refl (all_left p q xs every)
  where
    go : (a b : Bool) → p x ≡ a → q x ≡ b → filter p (filter q xs) ≡ filter p xs → filter p (cond b (x ∷ filter q xs) (filter q xs)) ≡ cond a (x ∷ filter p xs) (filter p xs)
    go true true e f rest = rw e (ap (λ ys. x ∷ ys) rest)
    go true false e f rest = absurd (true≢false (sym (every x e) ∙ f))
    go false true e f rest = rw e rest
    go false false e f rest = rest

-- where no element passes, none is left
none_at_all : {X : Type 0} (p : X → Bool) (xs : List X) → list_any p xs ≡ false → filter p xs ≡ []
none_at_all p [] none = refl
none_at_all {X} p (x ∷ xs) none = go (p x) none (none_at_all p xs)
  where
    go : (a : Bool) → (a || list_any p xs) ≡ false → (list_any p xs ≡ false → filter p xs ≡ []) → cond a (x ∷ filter p xs) (filter p xs) ≡ []
    go true none rest = absurd (true≢false none)
    go false none rest = rest none

has_same : (path : List ℕ) (files : List Source) (file : Source) → bytes_eq file.path path ≡ true → has_path file.path files ≡ has_path path files
has_same path files file same = ap (λ p. has_path p files) ((bytes_eq-Decides file.path path).0 same)

-- the files of a path that a layer has are those of the layer, but for the empty ones
layer_has : (path : List ℕ) (files layer : List Source) → has_path path layer ≡ true → at_path path (laid_over files layer) ≡ filter (λ file. not (is_empty file)) (at_path path layer)
layer_has path files layer has =
    filter-append (λ (file : Source). bytes_eq file.path path) (filter (λ (file : Source). not (has_path file.path layer)) files) (filter (λ (file : Source). not (is_empty file)) layer)
    ∙ ap (λ front. front ++ at_path path (filter (λ (file : Source). not (is_empty file)) layer))
    (none_left (λ (file : Source). bytes_eq file.path path) (λ file. not (has_path file.path layer)) files (λ file same. ap not (has_same path layer file same ∙ has)))
    ∙ swapped (λ (file : Source). bytes_eq file.path path) (λ file. not (is_empty file)) layer

-- those of any other are the ones that were there
layer_has_not : (path : List ℕ) (files layer : List Source) → has_path path layer ≡ false → at_path path (laid_over files layer) ≡ at_path path files
layer_has_not path files layer has =
    filter-append (λ (file : Source). bytes_eq file.path path) (filter (λ (file : Source). not (has_path file.path layer)) files) (filter (λ (file : Source). not (is_empty file)) layer)
    ∙ ap₂ (λ front back. front ++ back)
    (all_left (λ (file : Source). bytes_eq file.path path) (λ file. not (has_path file.path layer)) files (λ file same. ap not (has_same path layer file same ∙ has)))
    (swapped (λ (file : Source). bytes_eq file.path path) (λ file. not (is_empty file)) layer
    ∙ ap (filter (λ file. not (is_empty file))) (none_at_all (λ (file : Source). bytes_eq file.path path) layer has))
    ∙ append-nil (at_path path files)

abbrev HasNone : List ℕ → Layer → Type 0
HasNone path layer = has_path path layer.files ≡ false

-- the same of several layers
none_has : (path : List ℕ) (laid : Laid) (layers : List Layer) → HaveNone path layers → at_path path (fold with_layer laid layers).files ≡ at_path path laid.files
none_has path laid [] none = refl
none_has path laid (layer ∷ layers) none =
    none_has path (with_layer laid layer) layers (All-tail (HasNone path) layer layers none) ∙ layer_has_not path laid.files layer.files (All-head (HasNone path) layer layers none)

abbrev first_of : Layer → List Layer → Laid
first_of rules layers = first_layer (length layers == 0) rules

-- what comes of layers, by the last that has a path
cut : (start : Laid) (layer : Layer) (layers before after : List Layer) → layers ≡ before ++ layer ∷ after
    → fold with_layer start layers ≡ fold with_layer (with_layer (fold with_layer start before) layer) after
cut start layer layers before after split = ap (fold with_layer start) split ∙ fold-append with_layer start before (layer ∷ after)

pub last_has : (rules layer : Layer) (layers : List Layer) (path : List ℕ) → IsLastWith path layers layer
    → at_path path (laid_of rules layers).files ≡ filter (λ file. not (is_empty file)) (at_path path layer.files)
last_has rules layer layers path last =
    let mid = fold with_layer (first_of rules layers) last.before in
    ap (λ (l : Laid). at_path path l.files) (cut (first_of rules layers) layer layers last.before last.after last.split)
    ∙ none_has path (with_layer mid layer) last.after last.none
    ∙ layer_has path mid.files layer.files last.has

pub others_have : (rules : Layer) (layers : List Layer) (path : List ℕ) → HaveNone path layers → at_path path (laid_of rules layers).files ≡ at_path path rules.files
others_have rules layers path none = none_has path (first_of rules layers) layers none

abbrev told_of : List ℕ → Source → Told
told_of name file = record { path = file.path; told = path_below name file.path }

-- a path that a layer has is told in it
told_has : (name path : List ℕ) (files : List Source) (rest : List Told) → has_path path files ≡ true → told_at (map (told_of name) files ++ rest) path ≡ path_below name path
told_has name path [] rest has = absurd (true≢false (sym has))
told_has name path (file ∷ files) rest has = go (bytes_eq file.path path) refl has (told_has name path files rest)
  where
    go : (b : Bool) → bytes_eq file.path path ≡ b → (b || has_path path files) ≡ true → (has_path path files ≡ true → told_at (map (told_of name) files ++ rest) path ≡ path_below name path)
        → cond b (path_below name file.path) (told_at (map (told_of name) files ++ rest) path) ≡ path_below name path
    go true same has later = ap (path_below name) ((bytes_eq-Decides file.path path).0 same)
    go false same has later = later has

-- any other is told as before
told_has_not : (name path : List ℕ) (files : List Source) (rest : List Told) → has_path path files ≡ false → told_at (map (told_of name) files ++ rest) path ≡ told_at rest path
told_has_not name path [] rest has = refl
told_has_not name path (file ∷ files) rest has = go (bytes_eq file.path path) has (told_has_not name path files rest)
  where
    go : (b : Bool) → (b || has_path path files) ≡ false → (has_path path files ≡ false → told_at (map (told_of name) files ++ rest) path ≡ told_at rest path)
        → cond b (path_below name file.path) (told_at (map (told_of name) files ++ rest) path) ≡ told_at rest path
    go true has later = absurd (true≢false has)
    go false has later = later has

none_told : (path : List ℕ) (laid : Laid) (layers : List Layer) → HaveNone path layers → told_at (fold with_layer laid layers).told path ≡ told_at laid.told path
none_told path laid [] none = refl
none_told path laid (layer ∷ layers) none =
    none_told path (with_layer laid layer) layers (All-tail (HasNone path) layer layers none) ∙ told_has_not layer.name path layer.files laid.told (All-head (HasNone path) layer layers none)

pub last_told : (rules layer : Layer) (layers : List Layer) (path : List ℕ) → IsLastWith path layers layer → told_at (laid_of rules layers).told path ≡ path_below layer.name path
last_told rules layer layers path last =
    let mid = fold with_layer (first_of rules layers) last.before in
    ap (λ (l : Laid). told_at l.told path) (cut (first_of rules layers) layer layers last.before last.after last.split)
    ∙ none_told path (with_layer mid layer) last.after last.none
    ∙ told_has layer.name path layer.files mid.told last.has

-- beside a layer the paths of the rule set's own folder are told in it
beside : (rules : Layer) (layers : List Layer) → layers ≢ [] → (first_of rules layers).told ≡ told_in rules
beside rules [] some = absurd (some refl)
beside rules (layer ∷ layers) some = ap (λ alone. (first_layer alone rules).told) (eqb-suc-zero (length layers))

pub others_told : (rules : Layer) (layers : List Layer) (path : List ℕ) → layers ≢ [] → HaveNone path layers → has_path path rules.files ≡ true
    → told_at (laid_of rules layers).told path ≡ path_below rules.name path
others_told rules layers path some none has =
    none_told path (first_of rules layers) layers none
    ∙ ap (λ (told : List Told). told_at told path) (beside rules layers some ∙ sym (append-nil (told_in rules)))
    ∙ told_has rules.name path rules.files [] has
