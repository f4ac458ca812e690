-- The first of the files of a folder.
use Rattle.std.proofs.Common.{◌≡◌, ◌+◌, ◌≤◌, ◌^◌, ℕ, List, [], ◌∷◌, ◌++◌, String, length, take, map, min, string_bytes, All, sym, ◌∙◌, ap, append_assoc, arith, take_all, get_or, IsSorted, string_cmp, Result, Ok, Err, IfOk, Option, Some, None, option_map, subst}
use Rattle.std.proofs.lemmas.List.{map-append, length-map, length-take, map_push, get_or-map}
use Rattle.std.proofs.lemmas.List.Elements.{All-append, All-cons, All-nil}
use Rattle.std.specs.Cmp.Lexicographic.{slice_cmp}
use Rattle.std.specs.Ordering.{nat_cmp}
use Rattle.std.specs.declared.alloc.Global.{Global}
use Rattle.fisca_params.specs.Source.{Source}
use Rattle.fisca_folder.specs.declared.folder.FolderFault.{FolderFault}
use Rattle.fisca_folder.specs.declared.folder.FolderFault.TheVariants.{CannotList, CannotRead, TooLong, TooManyFiles, Memory}
use Rattle.fisca_folder.specs.Folder.{AreRuleFiles, Folder, IsFileFault, IsFirstFault, IsReadable, IsTextOf, path_of}

abbrev Paths : Type 0
Paths = List (String Global)

abbrev names : Paths → List (List ℕ)
names paths = map (λ path. string_bytes path) paths

-- one path more has gone by
pub gone_by : (all gone old new : Paths) (path : String Global) → all ≡ gone ++ old → old ≡ path ∷ new → all ≡ (gone ++ path ∷ []) ++ new
gone_by all gone old new path e step = e ∙ ap (λ z. gone ++ z) step ∙ sym (append_assoc gone (path ∷ []) new)

-- one more file
pub one_more_named : (gone : Paths) (path : String Global) (files : List Source) (file : Source) → map path_of files ≡ names gone → file.path ≡ string_bytes path → map path_of (files ++ file ∷ []) ≡ names (gone ++ path ∷ [])
one_more_named gone path files file h is =
    map_push path_of files file
    ∙ ap (λ zs. zs ++ file.path ∷ []) h
    ∙ ap (λ z. names gone ++ z ∷ []) is
    ∙ sym (map_push (λ path. string_bytes path) gone path)

pub one_more_short : (files : List Source) (file : Source) → All (λ f. length f.text ≤ 2 ^ 20) files → length file.text ≤ 2 ^ 20 → All (λ f. length f.text ≤ 2 ^ 20) (files ++ file ∷ [])
one_more_short files file h k = All-append (λ f. length f.text ≤ 2 ^ 20) files (file ∷ []) h (All-cons (λ f. length f.text ≤ 2 ^ 20) file [] k (All-nil (λ f. length f.text ≤ 2 ^ 20)))

sorted_names : (path : String Global) (paths : Paths) → IsSorted string_cmp paths → IsSorted (slice_cmp nat_cmp) (names paths)
sorted_names path paths h k d low inside =
    let same : length (names paths) ≡ length paths = length-map paths (λ path. string_bytes path) in
    let before : get_or (names paths) k d ≡ string_bytes (get_or paths k path) = get_or-map (λ path. string_bytes path) paths k path d (omega (arith, same, inside)) in
    let behind : get_or (names paths) (k + 1) d ≡ string_bytes (get_or paths (k + 1) path) = get_or-map (λ path. string_bytes path) paths (k + 1) path d (omega (arith, same, inside)) in
    rw (before, behind) (h k path low (omega (arith, same, inside)))

sorted_files : (paths : Paths) (files : List Source) → IsSorted string_cmp paths → map path_of files ≡ names paths → IsSorted (slice_cmp nat_cmp) (map path_of files)
sorted_files [] files h e = rw e (λ k d low inside. absurd (omega (arith, inside)))
sorted_files (path ∷ paths) files h e = rw e (sorted_names path (path ∷ paths) h)

pub are_rule_files : (paths : Paths) (files : List Source) → IsSorted string_cmp paths → length paths ≤ 1000 → map path_of files ≡ names paths → All (λ f. length f.text ≤ 2 ^ 20) files → AreRuleFiles files
are_rule_files paths files h few e short =
    let same : length files ≡ length (names paths) = sym (length-map files path_of) ∙ ap length e in
    let count : length (names paths) ≡ length paths = length-map paths (λ path. string_bytes path) in
    record {
      few = omega (arith, same, count, few);
      order = sorted_files paths files h e;
      short = short;
    }

pub if_ok_both : {X E : Type 0} {P Q R : X → Type 0} (r : Result X E) → ((x : X) → P x → Q x → R x) → IfOk r P → IfOk r Q → IfOk r R
if_ok_both (Ok x) f p q = f x p q
if_ok_both (Err e) f p q = tt

abbrev IsText : Folder → Source → Type 0
IsText folder file = folder.bytes file.path ≡ Some file.text

abbrev CanBeRead : Folder → List ℕ → Type 0
CanBeRead folder path = IsReadable (folder.bytes path)

-- one more file that can be read
pub one_more_readable : (folder : Folder) (gone : Paths) (path : String Global) → All (λ p. IsReadable (folder.bytes p)) (names gone) → IsReadable (folder.bytes (string_bytes path))
    → All (λ p. IsReadable (folder.bytes p)) (names (gone ++ path ∷ []))
one_more_readable folder gone path h k =
    rw (map_push (λ p. string_bytes p) gone path) (All-append (CanBeRead folder) (names gone) (string_bytes path ∷ []) h (All-cons (CanBeRead folder) (string_bytes path) [] k (All-nil (CanBeRead folder))))

pub one_more_text : (folder : Folder) (files : List Source) (file : Source) → All (λ f. folder.bytes f.path ≡ Some f.text) files → folder.bytes file.path ≡ Some file.text
    → All (λ f. folder.bytes f.path ≡ Some f.text) (files ++ file ∷ [])
one_more_text folder files file h k = All-append (IsText folder) files (file ∷ []) h (All-cons (IsText folder) file [] k (All-nil (IsText folder)))

-- the first file that is refused
pub first_fault : (folder : Folder) (all gone old new : Paths) (path : String Global) (one : List ℕ) (fault : FolderFault) → all ≡ gone ++ old → old ≡ path ∷ new → one ≡ string_bytes path
    → All (λ p. IsReadable (folder.bytes p)) (names gone) → IsFileFault one (folder.bytes one) fault → IsFirstFault folder (names all) fault
first_fault folder all gone old new path one fault e step is readable faulty = (
  names gone,
  one,
  names new,
  ap names (e ∙ ap (λ rest. gone ++ rest) step) ∙ map-append (λ p. string_bytes p) gone (path ∷ new) ∙ ap (λ p. names gone ++ (p ∷ names new)) (sym is),
  readable,
  faulty,
)

-- the first bytes of a file, and one more, are all of a file that is not too long
whole : (bytes : List ℕ) → length (take 1048577 bytes) ≤ 1048576 → take 1048577 bytes ≡ bytes
whole bytes few =
    let cut : length (take 1048577 bytes) ≡ min 1048577 (length bytes) = length-take 1048577 bytes in
    take_all 1048577 bytes (omega (arith, cut, few))

-- so they say what all say
pub told_of_first : (path : List ℕ) (bytes : Option (List ℕ)) (r : Result (String Global) FolderFault) → IsTextOf path (option_map (take 1048577) bytes) r → IsTextOf path bytes r
told_of_first path None r is = is
told_of_first path (Some bytes) (Ok text) is = subst (λ some. IsTextOf path (Some some) (Ok text)) (whole bytes is.1.0) is
told_of_first path (Some bytes) (Err CannotList) is = absurd is
told_of_first path (Some bytes) (Err (CannotRead told)) is = subst (λ some. IsFileFault path (Some some) (CannotRead told)) (whole bytes is.0.0) is
told_of_first path (Some bytes) (Err (TooLong told)) is =
    let cut : length (take 1048577 bytes) ≡ min 1048577 (length bytes) = length-take 1048577 bytes in
    (omega (arith, cut, is.0), is.1)
told_of_first path (Some bytes) (Err TooManyFiles) is = absurd is
told_of_first path (Some bytes) (Err Memory) is = tt
