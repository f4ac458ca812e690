-- The latest local of a name, by its place.
use Rattle.std.proofs.Common.{◌≡◌, ◌∙◌, sym, ℕ, zero, suc, ◌<◌, ◌++◌, List, [], ◌∷◌, length, map, reverse, Bool, true, false, Option, Some, None, option_map, slice_get, refl, ap, arith, if◌then◌else◌}
use Rattle.std.proofs.lemmas.List.{append-nil, append_assoc, length-reverse, reverse-append, reverse-reverse}
use Rattle.std.specs.Str.{bytes_eq}
use Rattle.fisca_typing.specs.Names.{local_named}
use Rattle.fisca_typing.specs.Sizes.{Size, capped, one, size_named}
use Rattle.fisca_typing.specs.Things.{Thing}
use Rattle.fisca_check_calls.specs.Counts.{size}
use Rattle.fisca_check_calls.specs.Locals.{first_named, held, latest_place, local, sized}
use Rattle.fisca_check_calls.specs.declared.local.Local.{Local}
use Rattle.fisca_check_calls.proofs.Counted.{small_capped}

get-last : {X : Type 0} (xs : List X) (x : X) → slice_get (xs ++ x ∷ []) (length xs) ≡ Some x
get-last [] x = refl
get-last (y ∷ xs) x = get-last xs x

get-before : {X : Type 0} (xs : List X) (x : X) (i : ℕ) → i < length xs → slice_get (xs ++ x ∷ []) i ≡ slice_get xs i
get-before [] x i h = absurd (omega arith)
get-before (y ∷ xs) x zero h = refl
get-before (y ∷ xs) x (suc i) h = get-before xs x i (omega arith)

place-below : (t : List ℕ) (ls : List Local) (i : ℕ) → latest_place t ls ≡ Some i → i < length ls
place-below t [] i e = cc
place-below t (l ∷ ls) i e = by (bytes_eq l.name t) (place-below t ls i) e
  where
    by : (b : Bool) → (latest_place t ls ≡ Some i → i < length ls) → (if b then Some (length ls) else latest_place t ls) ≡ Some i → i < suc (length ls)
    by true more e =
        let same : length ls ≡ i = cc in
        omega arith
    by false more e =
        let below = more e in
        omega arith

latest-there : (t : List ℕ) (ls : List Local) (i : ℕ) → latest_place t ls ≡ Some i → slice_get (reverse ls) i ≡ first_named ls t
latest-there t [] i e = cc
latest-there t (l ∷ ls) i e = ap (λ (xs : List Local). slice_get xs i) (reverse-append (l ∷ []) ls) ∙ by (bytes_eq l.name t) (latest-there t ls i) (place-below t ls i) e
  where
    by : (b : Bool) → (latest_place t ls ≡ Some i → slice_get (reverse ls) i ≡ first_named ls t) → (latest_place t ls ≡ Some i → i < length ls)
        → (if b then Some (length ls) else latest_place t ls) ≡ Some i → slice_get (reverse ls ++ l ∷ []) i ≡ (if b then Some l else first_named ls t)
    by true more below e =
        let same : length ls ≡ i = cc in
        ap (slice_get (reverse ls ++ l ∷ [])) (sym (length-reverse ls ∙ same)) ∙ get-last (reverse ls) l
    by false more below e =
        let inside = below e in
        get-before (reverse ls) l i (omega (arith, length-reverse ls)) ∙ more e

pub found_at : (t : List ℕ) (ls : List Local) (i : ℕ) → latest_place t (reverse ls) ≡ Some i → slice_get ls i ≡ first_named (reverse ls) t
found_at t ls i e = ap (λ (xs : List Local). slice_get xs i) (sym (reverse-reverse ls)) ∙ latest-there t (reverse ls) i e

none-there : (t : List ℕ) (ls : List Local) → latest_place t ls ≡ None → first_named ls t ≡ None
none-there t [] e = refl
none-there t (l ∷ ls) e = by (bytes_eq l.name t) (none-there t ls) e
  where
    by : (b : Bool) → (latest_place t ls ≡ None → first_named ls t ≡ None) → (if b then Some (length ls) else latest_place t ls) ≡ None → (if b then Some l else first_named ls t) ≡ None
    by true more e = cc
    by false more e = more e

pub found_none : (t : List ℕ) (ls : List Local) → latest_place t (reverse ls) ≡ None → first_named (reverse ls) t ≡ None
found_none t ls e = none-there t (reverse ls) e

-- one local more
pub one_more : (t : List ℕ) (ls : List Local) (l : Local) → latest_place t (reverse (ls ++ l ∷ [])) ≡ (if bytes_eq l.name t then Some (length ls) else latest_place t (reverse ls))
one_more t ls l = ap (latest_place t) (reverse-append ls (l ∷ [])) ∙ ap (λ n. if bytes_eq l.name t then Some n else latest_place t (reverse ls)) (length-reverse ls)

-- Locals behind others

first-behind : (t : List ℕ) (ls ms : List Local) (l : Local) → first_named ls t ≡ Some l → first_named (ls ++ ms) t ≡ Some l
first-behind t [] ms l e = cc
first-behind t (m ∷ ls) ms l e = by (bytes_eq m.name t) (first-behind t ls ms l) e
  where
    by : (b : Bool) → (first_named ls t ≡ Some l → first_named (ls ++ ms) t ≡ Some l) → (if b then Some m else first_named ls t) ≡ Some l
        → (if b then Some m else first_named (ls ++ ms) t) ≡ Some l
    by true more e = e
    by false more e = more e

first-before : (t : List ℕ) (ls ms : List Local) → first_named ls t ≡ None → first_named (ls ++ ms) t ≡ first_named ms t
first-before t [] ms e = refl
first-before t (m ∷ ls) ms e = by (bytes_eq m.name t) (first-before t ls ms) e
  where
    by : (b : Bool) → (first_named ls t ≡ None → first_named (ls ++ ms) t ≡ first_named ms t) → (if b then Some m else first_named ls t) ≡ None
        → (if b then Some m else first_named (ls ++ ms) t) ≡ first_named ms t
    by true more e = cc
    by false more e = more e

pub named_behind : (t : List ℕ) (ls ms : List Local) (l : Local) → first_named (reverse ms) t ≡ Some l → first_named (reverse (ls ++ ms)) t ≡ Some l
named_behind t ls ms l e = ap (λ (xs : List Local). first_named xs t) (reverse-append ls ms) ∙ first-behind t (reverse ms) (reverse ls) l e

pub named_before : (t : List ℕ) (ls ms : List Local) → first_named (reverse ms) t ≡ None → first_named (reverse (ls ++ ms)) t ≡ first_named (reverse ls) t
named_before t ls ms e = ap (λ (xs : List Local). first_named xs t) (reverse-append ls ms) ∙ first-before t (reverse ms) (reverse ls) e

-- the last of these is the latest
pub named_last : (t : List ℕ) (ls : List Local) (l : Local) → first_named (reverse (ls ++ l ∷ [])) t ≡ (if bytes_eq l.name t then Some l else first_named (reverse ls) t)
named_last t ls l = ap (λ (xs : List Local). first_named xs t) (reverse-append ls (l ∷ []))

pub more_first : (ls ms : List Local) (l : Local) → ms ≡ [] → (ls ++ l ∷ []) ++ ms ≡ (ls ++ ms) ++ l ∷ []
more_first ls ms l e =
    ap (λ (xs : List Local). (ls ++ l ∷ []) ++ xs) e ∙ (append-nil (ls ++ l ∷ []) ∙ ap (λ (xs : List Local). xs ++ l ∷ []) (sym (ap (λ (xs : List Local). ls ++ xs) e ∙ append-nil ls)))

pub more_behind : (ls ms : List Local) (l : Local) → ls ++ (ms ++ l ∷ []) ≡ (ls ++ ms) ++ l ∷ []
more_behind ls ms l = sym (append_assoc ls ms (l ∷ []))

-- What it stands for

abbrev thing-by : Option Local → Option Thing
thing-by = option_map (λ l. held l.held)

named-by : (b : Bool) (l : Local) (o : Option Thing) (p : Option Local) → o ≡ thing-by p → (if b then Some (held l.held) else o) ≡ thing-by (if b then Some l else p)
named-by true l o p e = refl
named-by false l o p e = e

named : (ls : List Local) (t : List ℕ) → local_named (map local ls) t ≡ thing-by (first_named ls t)
named [] t = refl
named (l ∷ ls) t = named-by (bytes_eq l.name t) l (local_named (map local ls) t) (first_named ls t) (named ls t)

pub thing_found : (ls : List Local) (t : List ℕ) (l : Local) → first_named ls t ≡ Some l → Some (held l.held) ≡ local_named (map local ls) t
thing_found ls t l e = sym (named ls t ∙ ap thing-by e)

pub thing_missing : (ls : List Local) (t : List ℕ) → first_named ls t ≡ None → None ≡ local_named (map local ls) t
thing_missing ls t e = sym (named ls t ∙ ap thing-by e)

-- Its size

abbrev size-by : Option Local → Size
size-by None = one
size-by (Some l) = size l.size

sized-by : (b : Bool) (l : Local) (s : Size) (p : Option Local) → s ≡ size-by p → (if b then size l.size else s) ≡ size-by (if b then Some l else p)
sized-by true l s p e = refl
sized-by false l s p e = e

size-of-name : (ls : List Local) (t : List ℕ) → size_named (map sized ls) t ≡ size-by (first_named ls t)
size-of-name [] t = refl
size-of-name (l ∷ ls) t = sized-by (bytes_eq l.name t) l (size_named (map sized ls) t) (first_named ls t) (size-of-name ls t)

pub size_found : (ls : List Local) (t : List ℕ) (l : Local) → first_named ls t ≡ Some l → size l.size ≡ capped (size_named (map sized ls) t)
size_found ls t l e = sym (ap capped (size-of-name ls t ∙ ap size-by e) ∙ small_capped (size l.size) l.is_small)

pub size_missing : (ls : List Local) (t : List ℕ) → first_named ls t ≡ None → one ≡ capped (size_named (map sized ls) t)
size_missing ls t e = sym (ap capped (size-of-name ls t ∙ ap size-by e))
