-- How the files of folders are laid over, one folder after another.
use Rattle.std.proofs.Common.{◌≡◌, ℕ, suc, ◌+◌, ◌==◌, ◌++◌, [], ◌∷◌, List, Bool, cond, length, fold, All, Result, Ok, Err, MatchResult, refl, sym, ap, ap₂, ◌∙◌, subst, arith}
use Rattle.std.proofs.lemmas.List.Elements.{All-cons, All-nil}
use Rattle.std.specs.List.{AllZip}
use Rattle.fisca_params.specs.Source.{Source}
use Rattle.fisca_folder.specs.Folder.{Folder, AreFilesOf, IsRefused}
use Rattle.fisca_folder.specs.Layers.{first_layer, laid_of, laid_over, IsFirstRefused, IsLaid, IsLayerOf, Laid, Layer, Told, told_in, with_layer}
use Rattle.fisca_folder.specs.declared.folder.FolderFault.{FolderFault}
use Rattle.fisca_folder.specs.declared.layers.LayerFault.{LayerFault}

abbrev IsRead : Folder → Type 0
IsRead folder = (files : List Source) × AreFilesOf folder files

-- one folder that is read stands before the first that is refused
one_before : (folder : Folder) (others : List Folder) (place : ℕ) (fault : FolderFault) → IsRead folder → IsFirstRefused others place fault → IsFirstRefused (folder ∷ others) (suc place) fault
one_before folder others place fault read h =
    (folder ∷ h.0, h.1, h.2, ap (λ all. folder ∷ all) h.3, ap suc h.4, All-cons IsRead folder h.0 read h.5, h.6)

pub first_refused : (folder : Folder) (others : List Folder) (fault : FolderFault) → IsRefused folder fault → IsFirstRefused (folder ∷ others) 0 fault
first_refused folder others fault is = ([], folder, others, refl, refl, All-nil IsRead, is)

-- The folders that are left of reforms, when so many are laid over: what comes of those that are left comes of all.
pub record IsUnderWay {F : Type 0} (says : F → Folder → Type 0) (rest : List F) (others : List Folder) (gone : ℕ) (start now : Laid) : Type 0 where
  pub left : List Folder
  pub said : AllZip says rest left
  pub laid : (layers : List Layer) → AllZip IsLayerOf left layers → (all : List Layer) × AllZip IsLayerOf others all × (fold with_layer now layers ≡ fold with_layer start all)
  pub refused : (place : ℕ) (fault : FolderFault) → IsFirstRefused left place fault → IsFirstRefused others (gone + place) fault

pub begun : {F : Type 0} (says : F → Folder → Type 0) (reforms : List F) (others : List Folder) (start : Laid) → AllZip says reforms others → IsUnderWay says reforms others 0 start start
begun says reforms others start said = record {
  left = others;
  said = said;
  laid = λ layers h. (layers, h, refl);
  refused = λ place fault h. let e : place ≡ 0 + place = omega arith in subst (λ n. IsFirstRefused others n fault) e h;
}

abbrev IsLaidBy : Folder → Laid → Laid → Type 0
IsLaidBy known now next = (layer : Layer) × IsLayerOf known layer × (next ≡ with_layer now layer)

-- one folder more
pub further : {F : Type 0} (says : F → Folder → Type 0) (folder : F) (rest : List F) (others : List Folder) (gone : ℕ) (start now next : Laid)
    → ((known : Folder) → says folder known → IsLaidBy known now next) → IsUnderWay says (folder ∷ rest) others gone start now → IsUnderWay says rest others (gone + 1) start next
further {F} says folder rest others gone start now next step way = go way.left way.said way.laid way.refused
  where
    go : (left : List Folder) → AllZip says (folder ∷ rest) left
        → ((layers : List Layer) → AllZip IsLayerOf left layers → (all : List Layer) × AllZip IsLayerOf others all × (fold with_layer now layers ≡ fold with_layer start all))
        → ((place : ℕ) (fault : FolderFault) → IsFirstRefused left place fault → IsFirstRefused others (gone + place) fault)
        → IsUnderWay says rest others (gone + 1) start next
    go [] said laid refused = absurd said
    go (known ∷ left) said laid refused =
        let one = step known said.0 in
        record {
          left = left;
          said = said.1;
          laid = λ layers h. let all = laid (one.0 ∷ layers) (one.1, h) in (all.0, all.1, ap (λ (l : Laid). fold with_layer l layers) one.2 ∙ all.2);
          refused = λ place fault h.
              let e : gone + suc place ≡ gone + 1 + place = omega arith in
              subst (λ n. IsFirstRefused others n fault) e (refused (suc place) fault (one_before known left place fault (one.0.files, one.1.1) h));
        }

-- the folder that is refused
pub stopped : {F : Type 0} (says : F → Folder → Type 0) (folder : F) (rest : List F) (others : List Folder) (gone : ℕ) (start now : Laid) (fault : FolderFault)
    → ((known : Folder) → says folder known → IsRefused known fault) → IsUnderWay says (folder ∷ rest) others gone start now → IsFirstRefused others gone fault
stopped {F} says folder rest others gone start now fault step way = go way.left way.said way.refused
  where
    go : (left : List Folder) → AllZip says (folder ∷ rest) left → ((place : ℕ) (fault : FolderFault) → IsFirstRefused left place fault → IsFirstRefused others (gone + place) fault) → IsFirstRefused others gone fault
    go [] said refused = absurd said
    go (known ∷ left) said refused =
        let e : gone + 0 ≡ gone = omega arith in
        subst (λ n. IsFirstRefused others n fault) e (refused 0 fault (first_refused known left fault (step known said.0)))

-- no folder is left
pub ended : {F : Type 0} (says : F → Folder → Type 0) (others : List Folder) (gone : ℕ) (start now : Laid) → IsUnderWay says [] others gone start now
    → (layers : List Layer) × AllZip IsLayerOf others layers × (now ≡ fold with_layer start layers)
ended {F} says others gone start now way = go way.left way.said way.laid
  where
    go : (left : List Folder) → AllZip says [] left
        → ((layers : List Layer) → AllZip IsLayerOf left layers → (all : List Layer) × AllZip IsLayerOf others all × (fold with_layer now layers ≡ fold with_layer start all))
        → (layers : List Layer) × AllZip IsLayerOf others layers × (now ≡ fold with_layer start layers)
    go [] said laid = laid [] tt
    go (known ∷ left) said laid = absurd said

abbrev laid_with : List Source → List Told → Laid
laid_with files told = record { files = files; told = told }

-- the files of the rule set's own folder
pub first_laid : (is_alone : Bool) (name : List ℕ) (files seen : List Source) (told : List Told) → seen ≡ files → told ≡ cond is_alone [] (told_in (record { name = name; files = seen }))
    → laid_with files told ≡ first_layer is_alone (record { name = name; files = files })
first_laid is_alone name files seen told same is = ap (laid_with files) (is ∙ ap (λ (fs : List Source). cond is_alone [] (told_in (record { name = name; files = fs }))) same)

-- those of a reform over them
pub more_laid : (laid : Laid) (name : List ℕ) (files seen below after : List Source) (told told_below all : List Told)
    → laid_with below told_below ≡ laid → seen ≡ files → told ≡ told_in (record { name = name; files = seen }) → all ≡ told ++ told_below → after ≡ laid_over below files
    → laid_with after all ≡ with_layer laid (record { name = name; files = files })
more_laid laid name files seen below after told told_below all under same is joined over =
    ap₂ laid_with over (joined ∙ ap (λ (t : List Told). t ++ told_below) (is ∙ ap (λ (fs : List Source). told_in (record { name = name; files = fs })) same))
    ∙ ap (λ (l : Laid). with_layer l (record { name = name; files = files })) under

same_length : {A B : Type 0} (R : A → B → Type 0) (xs : List A) (ys : List B) → AllZip R xs ys → length xs ≡ length ys
same_length R [] [] h = refl
same_length R [] (y ∷ ys) h = absurd h
same_length R (x ∷ xs) [] h = absurd h
same_length R (x ∷ xs) (y ∷ ys) h = ap suc (same_length R xs ys h.1)

abbrev IsFirstLaid : Folder → Bool → Laid → Type 0
IsFirstLaid known is_alone first = (layer : Layer) × IsLayerOf known layer × (first ≡ first_layer is_alone layer)

abbrev IsLaidFrom : List Folder → Laid → Laid → Type 0
IsLaidFrom others first more = (layers : List Layer) × AllZip IsLayerOf others layers × (more ≡ fold with_layer first layers)

abbrev IsRefusedLater : List Folder → LayerFault → Type 0
IsRefusedLater others fault = (place : ℕ) × (fault.folder ≡ suc place) × IsFirstRefused others place fault.fault

-- the rule set's own folder stands before the others
pub all_laid : {F : Type 0} (says : F → Folder → Type 0) (reforms : List F) (known : Folder) (others : List Folder) (is_alone : Bool) (first : Laid) (r : Result Laid LayerFault)
    → AllZip says reforms others → is_alone ≡ (length reforms == 0) → IsFirstLaid known is_alone first → MatchResult r (IsLaidFrom others first) (IsRefusedLater others)
    → MatchResult r (IsLaid known others) (λ fault. IsFirstRefused (known ∷ others) fault.folder fault.fault)
all_laid says reforms known others is_alone first (Ok more) said alone one h =
    let long : length reforms ≡ length h.0 = same_length says reforms others said ∙ same_length IsLayerOf others h.0 h.1 in
    (one.0, h.0, one.1, h.1, h.2 ∙ ap (λ (l : Laid). fold with_layer l h.0) (one.2 ∙ ap (λ b. first_layer b one.0) (alone ∙ ap (λ n. n == 0) long)))
all_laid says reforms known others is_alone first (Err fault) said alone one h =
    subst (λ n. IsFirstRefused (known ∷ others) n fault.fault) (sym h.1) (one_before known others h.0 fault.fault (one.0.files, one.1.1) h.2)
