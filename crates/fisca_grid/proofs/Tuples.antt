-- The positions of a grid and the tuples of places.
use Rattle.std.proofs.Common.{◌≡◌, ℕ, zero, suc, ◌+◌, ◌-◌, ◌*◌, ◌/◌, ◌%◌, ◌<◌, ◌≤◌, ⊎_elim, List, [], ◌∷◌, length, map, get_or, refl, sym, ap, ap₂, ◌∙◌, arith, add-one, length-append}
use Rattle.std.proofs.Math.Nat.{add-mod_right, div-eq-sub-div, mul-suc, mul-zero, zero-mul, mod-eq_of_lt, div-eq_of_lt, div-lt_iff_lt-mul, mul_comm}
use Rattle.std.proofs.Math.ListN.{get_or-append}
use Rattle.std.proofs.lemmas.Bool.{cases_lt}
use Rattle.std.proofs.lemmas.List.{get_or-append-add}
use Rattle.std.proofs.lemmas.List.FromFn.{get_or-map-range_with_len, length-map-range_with_len}
use Rattle.std.specs.List.{flat_map, range_with_len}
use Rattle.fisca_grid.specs.Grid.{grid}
use Rattle.fisca_writer.specs.Odometer.{places_at, product_of}

abbrev row_of : ℕ → List ℕ → List (List ℕ)
row_of n places = map (λ place. place ∷ places) (range_with_len 0 n)

rows_length : (n : ℕ) (xs : List (List ℕ)) → length (flat_map (row_of n) xs) ≡ n * length xs
rows_length n [] = sym (mul-zero n)
rows_length n (x ∷ xs) =
    length-append (row_of n x) (flat_map (row_of n) xs) ∙ ap₂ (λ (a b : ℕ). a + b) (length-map-range_with_len (λ (place : ℕ). place ∷ x) 0 n) (rows_length n xs)
    ∙ let more : n * suc (length xs) ≡ n * length xs + n = mul-suc n (length xs) in omega (arith, more)

-- as many tuples as positions
pub length-grid : (counts : List ℕ) → length (grid counts) ≡ product_of counts
length-grid [] = refl
length-grid (count ∷ counts) = rows_length count (grid counts) ∙ ap (λ n. count * n) (length-grid counts)

first_row : (n position : ℕ) (x : List ℕ) (xs : List (List ℕ)) → position < n → get_or (flat_map (row_of n) (x ∷ xs)) position [] ≡ (position % n) ∷ get_or (x ∷ xs) (position / n) []
first_row n position x xs less =
    let inside : position < length (row_of n x) = omega (arith, length-map-range_with_len (λ (place : ℕ). place ∷ x) 0 n) in
    let rest : position % n ≡ position = mod-eq_of_lt less in
    let none : position / n ≡ 0 = div-eq_of_lt less in
    rw (rest, none) (get_or-append (row_of n x) (flat_map (row_of n) xs) [] position inside ∙ get_or-map-range_with_len (λ (place : ℕ). place ∷ x) 0 n position position [] less (omega arith))

later_row : (n position : ℕ) (x : List ℕ) (xs : List (List ℕ)) → 0 < n → n ≤ position
    → get_or (flat_map (row_of n) xs) (position - n) [] ≡ ((position - n) % n) ∷ get_or xs ((position - n) / n) []
    → get_or (flat_map (row_of n) (x ∷ xs)) position [] ≡ (position % n) ∷ get_or (x ∷ xs) (position / n) []
later_row n position x xs some over before =
    let width : length (row_of n x) ≡ n = length-map-range_with_len (λ (place : ℕ). place ∷ x) 0 n in
    let whole : position ≡ length (row_of n x) + (position - n) = omega arith in
    let apart : position ≡ (position - n) + n = omega arith in
    let rest : (position - n) % n ≡ position % n = sym (ap (λ p. p % n) apart ∙ add-mod_right (position - n) n) in
    let turns : position / n ≡ suc ((position - n) / n) = div-eq-sub-div some over ∙ add-one ((position - n) / n) in
    ap (λ p. get_or (flat_map (row_of n) (x ∷ xs)) p []) whole
    ∙ (get_or-append-add (row_of n x) (flat_map (row_of n) xs) (position - n) [] ∙ before
    ∙ ap₂ (λ (place : ℕ) (others : List ℕ). place ∷ others) rest (ap (λ p. get_or (x ∷ xs) p []) (sym turns)))

rows : (n : ℕ) (xs : List (List ℕ)) (position : ℕ) → 0 < n → position < n * length xs → get_or (flat_map (row_of n) xs) position [] ≡ (position % n) ∷ get_or xs (position / n) []
rows n [] position some less = absurd (omega (arith, mul-zero n, less))
rows n (x ∷ xs) position some less = ⊎_elim
    (λ (low : position < n). first_row n position x xs low)
    (λ (over : n ≤ position). later_row n position x xs some over (rows n xs (position - n) some (omega (arith, mul-suc n (length xs), less, over, some))))
    (cases_lt position n)

some_of : (n k position : ℕ) → position < n * k → 0 < n
some_of zero k position less = absurd (omega (arith, zero-mul k, less))
some_of (suc n) k position less = omega arith

-- the tuple at a position
pub tuple_at : (counts : List ℕ) (position : ℕ) → position < product_of counts → get_or (grid counts) position [] ≡ places_at counts position
tuple_at [] position less = let first : position ≡ 0 = omega arith in rw first refl
tuple_at (count ∷ counts) position less =
    let some : 0 < count = some_of count (product_of counts) position less in
    let wide : position < count * length (grid counts) = rw (length-grid counts) less in
    rows count (grid counts) position some wide ∙ ap (λ others. (position % count) ∷ others) (tuple_at counts (position / count) ((div-lt_iff_lt-mul {k = count} {x = position} {y = product_of counts} some).1 (omega (arith, mul_comm count (product_of counts), less))))
