-- What is found in a folder, step by step.
use Rattle.std.proofs.Common.{◌≡◌, ◌<◌, ◌≤◌, ◌+◌, ◌||◌, ℕ, zero, suc, Bool, true, false, cond, not, List, [], ◌∷◌, ◌++◌, length, map, take, Option, Some, unwrap_or, is_some, fold, refl, sym, ◌∙◌, ap, subst, arith, append_assoc, take_all, append-nil, ap₂, String, string_bytes, get_or, drop, drop-cons, inl, ◌-◌, IsSorted, string_cmp}
use Rattle.std.specs.List.{filter}
use Rattle.std.proofs.lemmas.List.{length-map, get_or-map, map-append, take-append-drop}
use Rattle.std.proofs.lemmas.List.Sorted.{IsPermutation-map}
use Rattle.std.specs.Prelude.{IsPermutation}
use Rattle.std.specs.Cmp.Lexicographic.{slice_cmp}
use Rattle.std.specs.Ordering.{nat_cmp}
use Rattle.std.specs.declared.alloc.Global.{Global}
use Rattle.std.proofs.lemmas.List.Sums.{fold-append}
use Rattle.fisca_folder.specs.Steps.RulePaths.{is_rule_path}
use Rattle.fisca_folder.specs.Folder.{Entry, Folder, Found, AreRulePaths, IsListFault, IsListRefusal, files_in, folders_in, found_deeper, found_in, found_on_top, is_folder_in, path_in, with_folder}
use Rattle.fisca_folder.specs.FolderSteps.{with_entry}
use Rattle.fisca_folder.specs.declared.folder.FolderFault.{FolderFault}
use Rattle.fisca_folder.specs.declared.folder.FolderFault.TheVariants.{CannotList, CannotRead, TooLong, TooManyFiles, Memory}

-- the entries of a folder, one after another
entries_added : (path : List ℕ) (entries : List Entry) (found : Found)
    → fold (with_entry path) found entries ≡ record found { deeper = found.deeper ++ folders_in path entries; files = found.files ++ files_in path entries }
entries_added path [] found = ap₂ (λ deeper files. record found { deeper = deeper; files = files }) (sym (append-nil found.deeper)) (sym (append-nil found.files))
entries_added path (entry ∷ entries) found = go (λ f. entries_added path entries f) (is_folder_in path entry)
  where
    named : ((f : Found) → fold (with_entry path) f entries ≡ record f { deeper = f.deeper ++ folders_in path entries; files = f.files ++ files_in path entries })
        → (b : Bool) → fold (with_entry path) (cond b (record found { files = found.files ++ path_in path entry ∷ [] }) found) entries
        ≡ record found { deeper = found.deeper ++ folders_in path entries; files = found.files ++ cond b (path_in path entry ∷ files_in path entries) (files_in path entries) }
    named later true = later _ ∙ ap (λ files. record found { deeper = found.deeper ++ folders_in path entries; files = files }) (append_assoc found.files (path_in path entry ∷ []) (files_in path entries))
    named later false = later found

    go : ((f : Found) → fold (with_entry path) f entries ≡ record f { deeper = f.deeper ++ folders_in path entries; files = f.files ++ files_in path entries })
        → (folder : Bool)
        → fold (with_entry path) (cond folder (record found { deeper = found.deeper ++ path_in path entry ∷ [] }) (cond (is_rule_path (path_in path entry)) (record found { files = found.files ++ path_in path entry ∷ [] }) found)) entries
        ≡ record found {
          deeper = found.deeper ++ map (path_in path) (cond folder (entry ∷ filter (is_folder_in path) entries) (filter (is_folder_in path) entries));
          files = found.files ++ filter is_rule_path (map (path_in path) (cond (not folder) (entry ∷ filter (λ e. not (is_folder_in path e)) entries) (filter (λ e. not (is_folder_in path e)) entries)));
        }
    go later true = later _ ∙ ap (λ deeper. record found { deeper = deeper; files = found.files ++ files_in path entries }) (append_assoc found.deeper (path_in path entry ∷ []) (folders_in path entries))
    go later false = named later (is_rule_path (path_in path entry))

or_false : (b : Bool) → b || false ≡ b
or_false true = refl
or_false false = refl

-- a folder, with all its entries
folder_added : (folder : Folder) (found : Found) (path : List ℕ) (entries : List Entry) → folder.entries path ≡ Some entries
    → fold (with_entry path) (record found { seen = found.seen + length entries }) entries ≡ with_folder folder found path
folder_added folder found path entries is =
    let made : Option (List Entry) → Bool → Found = λ all short. record {
      deeper = found.deeper ++ folders_in path (unwrap_or all []);
      files = found.files ++ files_in path (unwrap_or all []);
      seen = found.seen + length (unwrap_or all []);
      is_short = short;
    } in
    entries_added path entries (record found { seen = found.seen + length entries })
    ∙ ap (made (Some entries)) (sym (or_false found.is_short))
    ∙ ap (λ all. made all (found.is_short || not (is_some all))) (sym is)

pub looked : (folder : Folder) (start found now : Found) (path : List ℕ) (entries items : List Entry) (place : ℕ) → now ≡ fold (with_entry path) start (take place items) → items ≡ entries → length items ≤ place
    → start ≡ record found { seen = found.seen + length entries } → folder.entries path ≡ Some entries → now ≡ with_folder folder found path
looked folder start found now path entries items place so same end begins is =
    so ∙ ap (fold (with_entry path) start) (take_all place items end ∙ same) ∙ ap (λ f. fold (with_entry path) f entries) begins ∙ folder_added folder found path entries is

pub seen_kept : (path : List ℕ) (entries : List Entry) (start now : Found) → now ≡ fold (with_entry path) start entries → now.seen ≡ start.seen
seen_kept path entries start now so = ap (λ f. f.seen) (so ∙ entries_added path entries start)

-- a fault stays one in what is found later
fault_stays : (folder : Folder) (found : Found) (path : List ℕ) (fault : FolderFault) → IsListFault found fault → IsListFault (with_folder folder found path) fault
fault_stays folder found path CannotList is = rw is refl
fault_stays folder found path (CannotRead told) is = is
fault_stays folder found path (TooLong told) is = is
fault_stays folder found path TooManyFiles is = omega (arith, is)
fault_stays folder found path Memory is = tt

fault_stays_on : (folder : Folder) (paths : List (List ℕ)) (found : Found) (fault : FolderFault) → IsListFault found fault → IsListFault (fold (with_folder folder) found paths) fault
fault_stays_on folder [] found fault is = is
fault_stays_on folder (path ∷ paths) found fault is = fault_stays_on folder paths (with_folder folder found path) fault (fault_stays folder found path fault is)

-- the fault of one of some folders
fault_of_one : (folder : Folder) (all before after : List (List ℕ)) (path : List ℕ) (start found : Found) (fault : FolderFault)
    → all ≡ before ++ path ∷ after → found ≡ fold (with_folder folder) start before → IsListFault (with_folder folder found path) fault → IsListFault (fold (with_folder folder) start all) fault
fault_of_one folder all before after path start found fault split so is =
    let whole : fold (with_folder folder) start all ≡ fold (with_folder folder) (with_folder folder found path) after =
    ap (fold (with_folder folder) start) split ∙ fold-append (with_folder folder) start before (path ∷ after) ∙ ap (λ f. fold (with_folder folder) (with_folder folder f path) after) (sym so) in
    subst (λ (f : Found). IsListFault f fault) (sym whole) (fault_stays_on folder after (with_folder folder found path) fault is)

-- the fault of one of the folders of a level
pub fault_of_folder : (folder : Folder) (given start now : Found) (paths items : List (String Global)) (place : ℕ) (path : String Global) (one : List ℕ) (fault : FolderFault)
    → start ≡ record given { deeper = [] } → map (λ p. string_bytes p) paths ≡ given.deeper → items ≡ paths → place < length items → path ≡ get_or items place path → one ≡ string_bytes path
    → now ≡ fold (with_folder folder) start (map (λ p. string_bytes p) (take place items)) → IsListFault (with_folder folder now one) fault → IsListFault (found_deeper folder given) fault
fault_of_folder folder given start now paths items place path one fault begins whole same inside at is so faulty =
    let bytes : String Global → List ℕ = λ p. string_bytes p in
    let before = map bytes (take place items) in
    let after = map bytes (drop (suc place) items) in
    let cut : items ≡ take place items ++ drop place items = sym (take-append-drop place items) in
    let next : drop place items ≡ path ∷ drop (suc place) items = drop-cons items place path inside ∙ ap (λ p. p ∷ drop (suc place) items) (sym at) in
    let split : given.deeper ≡ before ++ (one ∷ after) =
    sym whole ∙ ap (map bytes) (sym same ∙ cut ∙ ap (λ rest. take place items ++ rest) next) ∙ map-append bytes (take place items) (path ∷ drop (suc place) items) ∙ ap (λ p. before ++ (p ∷ after)) (sym is) in
    fault_of_one folder given.deeper before after one (record given { deeper = [] }) now fault split (so ∙ ap (λ f. fold (with_folder folder) f before) begins) faulty

fault_deeper : (folder : Folder) (found : Found) (fault : FolderFault) → IsListFault found fault → IsListFault (found_deeper folder found) fault
fault_deeper folder found fault is = fault_stays_on folder found.deeper (record found { deeper = [] }) fault (same fault is)
  where
    same : (f : FolderFault) → IsListFault found f → IsListFault (record found { deeper = [] }) f
    same CannotList h = h
    same (CannotRead told) h = h
    same (TooLong told) h = h
    same TooManyFiles h = h
    same Memory h = h

-- the fault of one of some levels
pub fault_of_level : (folder : Folder) (more levels : ℕ) (fault : FolderFault) → IsListFault (found_in folder levels) fault → IsListFault (found_in folder (more + levels)) fault
unfolding found_in
fault_of_level folder zero levels fault is =
    let e : levels ≡ 0 + levels = omega arith in
    subst (λ (n : ℕ). IsListFault (found_in folder n) fault) e is
fault_of_level folder (suc more) levels fault is =
    let e : suc (more + levels) ≡ suc more + levels = omega arith in
    subst (λ (n : ℕ). IsListFault (found_in folder n) fault) e (fault_deeper folder (found_in folder (more + levels)) fault (fault_of_level folder more levels fault is))

pub on_top : (folder : Folder) → found_in folder 0 ≡ found_on_top folder
unfolding found_in
on_top folder = refl

pub one_deeper : (folder : Folder) (levels : ℕ) (found : Found) → found ≡ found_in folder levels → found_deeper folder found ≡ found_in folder (levels + 1)
unfolding found_in
one_deeper folder levels found so =
    let e : suc levels ≡ levels + 1 = omega arith in
    ap (found_deeper folder) so ∙ ap (found_in folder) e

-- a fault of what is found in all levels refuses it
refused : (found : Found) (fault : FolderFault) → IsListFault found fault → IsListRefusal found fault
refused found CannotList is = is
refused found (CannotRead told) is = is
refused found (TooLong told) is = is
refused found TooManyFiles is = inl is
refused found Memory is = is

pub fault_on_top : (folder : Folder) (fault : FolderFault) → IsListFault (found_on_top folder) fault → IsListRefusal (found_in folder 8) fault
fault_on_top folder fault is = refused (found_in folder 8) fault (fault_of_level folder 8 0 fault (subst (λ (f : Found). IsListFault f fault) (sym (on_top folder)) is))

pub fault_below : (folder : Folder) (levels : ℕ) (found : Found) (fault : FolderFault) → levels < 8 → found ≡ found_in folder levels → IsListFault (found_deeper folder found) fault → IsListRefusal (found_in folder 8) fault
fault_below folder levels found fault inside so is =
    let here = subst (λ (f : Found). IsListFault f fault) (one_deeper folder levels found so) is in
    let e : (8 - (levels + 1)) + (levels + 1) ≡ 8 = omega arith in
    refused (found_in folder 8) fault (subst (λ (n : ℕ). IsListFault (found_in folder n) fault) e (fault_of_level folder (8 - (levels + 1)) (levels + 1) fault here))

-- texts in order are in order of their bytes
sorted_bytes : (paths : List (String Global)) → IsSorted string_cmp paths → IsSorted (slice_cmp nat_cmp) (map (λ p. string_bytes p) paths)
sorted_bytes [] order k d low inside = absurd (omega (arith, inside))
sorted_bytes (path ∷ paths) order k d low inside =
    let bytes : String Global → List ℕ = λ p. string_bytes p in
    let all = path ∷ paths in
    let same : length (map bytes all) ≡ length all = length-map all bytes in
    let before : get_or (map bytes all) k d ≡ string_bytes (get_or all k path) = get_or-map bytes all k path d (omega (arith, same, inside)) in
    let behind : get_or (map bytes all) (k + 1) d ≡ string_bytes (get_or all (k + 1) path) = get_or-map bytes all (k + 1) path d (omega (arith, same, inside)) in
    rw (before, behind) (order k path low (omega (arith, same, inside)))

-- as many paths as texts
count_kept : (files : List (String Global)) (paths : List (List ℕ)) (most : ℕ) → map (λ p. string_bytes p) files ≡ paths → length files ≤ most → length paths ≤ most
count_kept files paths most named few =
    let same : length (map (λ p. string_bytes p) files) ≡ length files = length-map files (λ p. string_bytes p) in
    let count : length (map (λ p. string_bytes p) files) ≡ length paths = ap length named in
    omega (arith, same, count, few)

pub rule_paths : (folder : Folder) (found : Found) (files paths : List (String Global)) → found ≡ found_in folder 8 → found.is_short ≡ false → found.seen ≤ 100000 → length files ≤ 1000 → map (λ p. string_bytes p) files ≡ found.files
    → IsPermutation files paths → IsSorted string_cmp paths → AreRulePaths folder (map (λ p. string_bytes p) paths)
rule_paths folder found files paths so whole few bounded named same order = record {
  whole = subst (λ (f : Found). f.is_short ≡ false) so whole;
  few = subst (λ (f : Found). f.seen ≤ 100000) so few;
  bounded = subst (λ (f : Found). length f.files ≤ 1000) so (count_kept files found.files 1000 named bounded);
  same = subst (λ (all : List (List ℕ)). IsPermutation all (map (λ p. string_bytes p) paths)) (named ∙ ap (λ f. f.files) so) (IsPermutation-map (λ p. string_bytes p) files paths same);
  order = sorted_bytes paths order;
}
