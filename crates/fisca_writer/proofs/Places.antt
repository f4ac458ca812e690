-- The places of groups at one position and at the next.
use Rattle.std.proofs.Common.{◌≡◌, ℕ, zero, suc, ◌+◌, ◌-◌, ◌*◌, ◌/◌, ◌%◌, ◌<◌, ◌≤◌, nat_lt, cond, true, false, List, [], ◌∷◌, ◌++◌, length, map, take, drop, set, get_or, Option, None, Some, refl, sym, ap, ap₂, ◌∙◌, arith, ⊎_elim, append_assoc}
use Rattle.std.proofs.Math.Nat.{add-mul, div-lt_iff_lt-mul, le-mul_of_pos_right, mul_assoc, mul_comm, mul-pos}
use Rattle.std.proofs.Math.Seq.{drop-cons, drop-length}
use Rattle.std.proofs.lemmas.Bool.{cases_lt}
use Rattle.std.proofs.lemmas.Bool.Decides.{nat_tests}
use Rattle.std.proofs.lemmas.List.{append-nil, drop-set-lt, length-map, length-take-le, map-append, set_split, take-append-drop, take_more_set}
use Rattle.std.proofs.lemmas.Nat.{div-add-mod', div-mul-add, mod-mul-add, mod_below}
use Rattle.fisca_writer.specs.Odometer.{AreSameFrom, IsNear, places_at, product_of}
use Rattle.fisca_writer.specs.Turning.{ArePlaces, IsTurn}

-- from the end of the list on all places are the same
pub all_same : (counts : List ℕ) (a b : ℕ) → AreSameFrom counts (length counts) a b
all_same [] a b = refl
all_same (count ∷ counts) a b = all_same counts (a / count) (b / count)

-- where all groups turn, it does not matter where the rows stand
pub near_all : (counts : List ℕ) (here : Option ℕ) (position : ℕ) → IsNear counts here position (length counts)
near_all counts None position = refl
near_all counts (Some here) position = all_same counts here position

-- the place of a first group that does not come to its end, and what is left for the others
turn_on : (q count : ℕ) → q % count + 1 < count → ((q + 1) % count ≡ q % count + 1) × ((q + 1) / count ≡ q / count)
turn_on q count less =
    let is : q + 1 ≡ q / count * count + (q % count + 1) = omega (arith, div-add-mod' q count) in
    (ap (λ n. n % count) is ∙ mod-mul-add (q / count) count (q % count + 1) less, ap (λ n. n / count) is ∙ div-mul-add (q / count) count (q % count + 1) less)

-- the same of a first group that does
turn_over : (q count : ℕ) → 0 < count → count ≤ q % count + 1 → ((q + 1) % count ≡ 0) × ((q + 1) / count ≡ q / count + 1)
turn_over q count some over =
    let whole : (q / count + 1) * count ≡ q / count * count + 1 * count = add-mul (q / count) 1 count in
    let is : q + 1 ≡ (q / count + 1) * count + 0 = omega (arith, div-add-mod' q count, mod_below q count some, whole) in
    (ap (λ n. n % count) is ∙ mod-mul-add (q / count + 1) count 0 some, ap (λ n. n / count) is ∙ div-mul-add (q / count + 1) count 0 some)

-- the lengths of groups with these last places
abbrev pub counts_to : List ℕ → List ℕ
counts_to lasts = map (λ last. last + 1) lasts

some_positions : (lasts : List ℕ) → 0 < product_of (counts_to lasts)
some_positions [] = omega arith
some_positions (last ∷ lasts) = mul-pos {m = last + 1} {n = product_of (counts_to lasts)} (omega arith) (some_positions lasts)

-- a group has no more places than all groups have positions
pub few_places : (lasts : List ℕ) (group : ℕ) → group < length lasts → get_or lasts group 0 + 1 ≤ product_of (counts_to lasts)
few_places [] group less = absurd (omega arith)
few_places (last ∷ lasts) zero less = le-mul_of_pos_right {m = product_of (counts_to lasts)} (last + 1) (some_positions lasts)
few_places (last ∷ lasts) (suc group) less =
    let rest = few_places lasts group (omega arith) in
    let whole = le-mul_of_pos_right {m = last + 1} (product_of (counts_to lasts)) (omega arith) in
    omega (arith, rest, whole, mul_comm (last + 1) (product_of (counts_to lasts)))

-- the places one position on, and how many groups turn
abbrev pub turned_places : List ℕ → List ℕ → List ℕ
turned_places [] places = places
turned_places (last ∷ lasts) [] = []
turned_places (last ∷ lasts) (place ∷ places) = cond (nat_lt place last) ((place + 1) ∷ places) (0 ∷ turned_places lasts places)

abbrev pub count_turned : List ℕ → List ℕ → ℕ
count_turned [] places = 0
count_turned (last ∷ lasts) [] = 0
count_turned (last ∷ lasts) (place ∷ places) = cond (nat_lt place last) 1 (suc (count_turned lasts places))

-- the first places of a list are those at a position
abbrev pub Show : List ℕ → List ℕ → ℕ → Type 0
Show lasts places q = take (length lasts) places ≡ places_at (counts_to lasts) q

head_of : (x y : ℕ) (xs ys : List ℕ) → x ∷ xs ≡ y ∷ ys → x ≡ y
head_of x y xs ys e = ap (λ zs. get_or zs 0 0) e

tail_of : (x y : ℕ) (xs ys : List ℕ) → x ∷ xs ≡ y ∷ ys → xs ≡ ys
tail_of x y xs ys e = ap (λ zs. drop 1 zs) e

is_less : (a b : ℕ) → a < b → nat_lt a b ≡ true
is_less a b less = grind (arith, nat_tests)

is_over : (a b : ℕ) → b ≤ a → nat_lt a b ≡ false
is_over a b over = grind (arith, nat_tests)

pub places_on : (lasts places : List ℕ) (q : ℕ) → Show lasts places q → Show lasts (turned_places lasts places) (q + 1)
places_on [] places q e = refl
places_on (last ∷ lasts) [] q e = absurd (cc)
places_on (last ∷ lasts) (place ∷ places) q e =
    let here : place ≡ q % (last + 1) = head_of _ _ _ _ e in
    let rest : Show lasts places (q / (last + 1)) = tail_of _ _ _ _ e in
    ⊎_elim
    (λ (less : place < last).
    let on = turn_on q (last + 1) (omega (arith, here)) in
    rw (is_less place last less) (ap₂ (λ (p : ℕ) (ps : List ℕ). p ∷ ps) (ap (λ p. p + 1) here ∙ sym on.0) (rest ∙ ap (places_at (counts_to lasts)) (sym on.1))))
    (λ (over : last ≤ place).
    let on = turn_over q (last + 1) (omega arith) (omega (arith, here)) in
    rw (is_over place last over) (ap₂ (λ (p : ℕ) (ps : List ℕ). p ∷ ps) (sym on.0) (places_on lasts places (q / (last + 1)) rest ∙ ap (places_at (counts_to lasts)) (sym on.1))))
    (cases_lt place last)

pub same_on : (lasts places : List ℕ) (q : ℕ) → Show lasts places q → AreSameFrom (counts_to lasts) (count_turned lasts places) q (q + 1)
same_on [] places q e = refl
same_on (last ∷ lasts) [] q e = absurd (cc)
same_on (last ∷ lasts) (place ∷ places) q e =
    let here : place ≡ q % (last + 1) = head_of _ _ _ _ e in
    let rest : Show lasts places (q / (last + 1)) = tail_of _ _ _ _ e in
    ⊎_elim
    (λ (less : place < last).
    let on = turn_on q (last + 1) (omega (arith, here)) in
    rw (is_less place last less) (ap (places_at (counts_to lasts)) (sym on.1)))
    (λ (over : last ≤ place).
    let on = turn_over q (last + 1) (omega arith) (omega (arith, here)) in
    rw (is_over place last over) (same_on lasts places (q / (last + 1)) rest ∙ ap (λ turns. drop (count_turned lasts places) (places_at (counts_to lasts) turns)) (sym on.1)))
    (cases_lt place last)

some_turned : (lasts places : List ℕ) (q : ℕ) → Show lasts places q → q + 1 < product_of (counts_to lasts) → 0 < count_turned lasts places
some_turned [] places q e less = absurd (omega arith)
some_turned (last ∷ lasts) [] q e less = absurd (cc)
some_turned (last ∷ lasts) (place ∷ places) q e less = ⊎_elim
    (λ (below : place < last). rw (is_less place last below) (omega arith))
    (λ (over : last ≤ place). rw (is_over place last over) (omega arith))
    (cases_lt place last)

-- what is left for the other groups is below their product
further : (q count whole : ℕ) → 0 < count → q + 1 < count * whole → (q + 1) / count < whole
further q count whole some less = (div-lt_iff_lt-mul {k = count} {x = q + 1} {y = whole} some).1 (omega (arith, mul_comm count whole, less))

pub least_on : (lasts places : List ℕ) (q group : ℕ) → Show lasts places q → q + 1 < product_of (counts_to lasts) → AreSameFrom (counts_to lasts) group q (q + 1) → count_turned lasts places ≤ group
least_on [] places q group e less same = omega arith
least_on (last ∷ lasts) [] q group e less same = absurd (cc)
least_on (last ∷ lasts) (place ∷ places) q zero e less same =
    let here : place ≡ q % (last + 1) = head_of _ _ _ _ e in
    let rest : Show lasts places (q / (last + 1)) = tail_of _ _ _ _ e in
    let first : q % (last + 1) ≡ (q + 1) % (last + 1) = head_of _ _ _ _ same in
    let others : places_at (counts_to lasts) (q / (last + 1)) ≡ places_at (counts_to lasts) ((q + 1) / (last + 1)) = tail_of _ _ _ _ same in
    ⊎_elim
    (λ (below : place < last).
    let on = turn_on q (last + 1) (omega (arith, here)) in
    absurd (omega (arith, first, on.0)))
    (λ (over : last ≤ place).
    let on = turn_over q (last + 1) (omega arith) (omega (arith, here)) in
    let left : q / (last + 1) + 1 < product_of (counts_to lasts) = omega (arith, on.1, further q (last + 1) (product_of (counts_to lasts)) (omega arith) less) in
    let none = least_on lasts places (q / (last + 1)) 0 rest left (others ∙ ap (places_at (counts_to lasts)) on.1) in
    absurd (omega (arith, none, some_turned lasts places (q / (last + 1)) rest left)))
    (cases_lt place last)
least_on (last ∷ lasts) (place ∷ places) q (suc group) e less same =
    let here : place ≡ q % (last + 1) = head_of _ _ _ _ e in
    let rest : Show lasts places (q / (last + 1)) = tail_of _ _ _ _ e in
    ⊎_elim
    (λ (below : place < last). rw (is_less place last below) (omega arith))
    (λ (over : last ≤ place).
    let on = turn_over q (last + 1) (omega arith) (omega (arith, here)) in
    let left : q / (last + 1) + 1 < product_of (counts_to lasts) = omega (arith, on.1, further q (last + 1) (product_of (counts_to lasts)) (omega arith) less) in
    let fewer = least_on lasts places (q / (last + 1)) group rest left (same ∙ ap (λ turns. drop group (places_at (counts_to lasts) turns)) on.1) in
    rw (is_over place last over) (omega (arith, fewer)))
    (cases_lt place last)

-- turned places are those at the next position
pub is_turn : (lasts before new : List ℕ) (turned : ℕ) → (new ≡ turned_places lasts before) × (turned ≡ count_turned lasts before) → IsTurn (counts_to lasts) before new turned
is_turn lasts before new turned is =
    let many : length (counts_to lasts) ≡ length lasts = length-map lasts (λ last. last + 1) in
    record {
      places = λ position shown. ap (λ n. take n new) many ∙ ap (λ xs. take (length lasts) xs) is.0 ∙ places_on lasts before position (ap (λ n. take n before) (sym many) ∙ shown);
      same = λ position shown. rw is.1 (same_on lasts before position (ap (λ n. take n before) (sym many) ∙ shown));
      least = λ position group shown less same. rw is.1 (least_on lasts before position group (ap (λ n. take n before) (sym many) ∙ shown) less same);
    }

-- The loop that turns places, group by group.

-- the groups so far have turned over, and the others are to be turned
pub record AreTurned (lasts before now : List ℕ) (group : ℕ) : Type 0 where
  pub places : take group now ++ turned_places (drop group lasts) (drop group now) ≡ turned_places lasts before
  pub counted : group + count_turned (drop group lasts) (drop group now) ≡ count_turned lasts before

pub turned_none : (lasts places : List ℕ) → AreTurned lasts places places 0
turned_none lasts places = record { places = refl; counted = omega arith }

drop_more : (xs : List ℕ) (group : ℕ) → group < length xs → drop group xs ≡ get_or xs group 0 ∷ drop (group + 1) xs
drop_more xs group inside = let e : suc group ≡ group + 1 = omega arith in drop-cons xs group 0 inside ∙ ap (λ n. get_or xs group 0 ∷ drop n xs) e

module _ (lasts before now : List ℕ) (group : ℕ) (inside : group < length lasts) (held : group < length now) (turned : AreTurned lasts before now group) where
  -- the group comes to its end
  pub turned_over : get_or lasts group 0 ≤ get_or now group 0 → AreTurned lasts before (set now group 0) (group + 1)
  turned_over over =
      let front : take (group + 1) (set now group 0) ≡ take group now ++ 0 ∷ [] = take_more_set now group 0 held in
      let back : drop (group + 1) (set now group 0) ≡ drop (group + 1) now = drop-set-lt (group + 1) now group 0 (omega arith) in
      let fails = is_over (get_or now group 0) (get_or lasts group 0) over in
      let others = turned_places (drop (group + 1) lasts) (drop (group + 1) now) in
      let places : turned_places (drop group lasts) (drop group now) ≡ 0 ∷ others =
      ap₂ turned_places (drop_more lasts group inside) (drop_more now group held) ∙ ap (λ b. cond b ((get_or now group 0 + 1) ∷ drop (group + 1) now) (0 ∷ others)) fails in
      let count : count_turned (drop group lasts) (drop group now) ≡ suc (count_turned (drop (group + 1) lasts) (drop (group + 1) now)) =
      ap₂ count_turned (drop_more lasts group inside) (drop_more now group held) ∙ ap (λ b. cond b 1 (suc (count_turned (drop (group + 1) lasts) (drop (group + 1) now)))) fails in
      record {
        places = ap₂ (λ (f b : List ℕ). f ++ turned_places (drop (group + 1) lasts) b) front back ∙ append_assoc (take group now) (0 ∷ []) others ∙ ap (λ xs. take group now ++ xs) (sym places) ∙ turned.places;
        counted = rw back (omega (arith, count, turned.counted));
      }

  -- it does not
  pub turned_here : get_or now group 0 < get_or lasts group 0 → (set now group (get_or now group 0 + 1) ≡ turned_places lasts before) × (group + 1 ≡ count_turned lasts before)
  turned_here less =
      let e : suc group ≡ group + 1 = omega arith in
      let passes = is_less (get_or now group 0) (get_or lasts group 0) less in
      let next = (get_or now group 0 + 1) ∷ drop (group + 1) now in
      let places : turned_places (drop group lasts) (drop group now) ≡ next =
      ap₂ turned_places (drop_more lasts group inside) (drop_more now group held) ∙ ap (λ b. cond b next (0 ∷ turned_places (drop (group + 1) lasts) (drop (group + 1) now))) passes in
      let count : count_turned (drop group lasts) (drop group now) ≡ 1 =
      ap₂ count_turned (drop_more lasts group inside) (drop_more now group held) ∙ ap (λ b. cond b 1 (suc (count_turned (drop (group + 1) lasts) (drop (group + 1) now)))) passes in (
        set_split now group (get_or now group 0 + 1) held ∙ ap (λ n. take group now ++ (get_or now group 0 + 1) ∷ drop n now) e ∙ ap (λ xs. take group now ++ xs) (sym places) ∙ turned.places,
        omega (arith, count, turned.counted),
      )

-- all groups come to their ends
pub turned_all : (lasts before now : List ℕ) (group : ℕ) → length lasts ≡ group → AreTurned lasts before now group → (now ≡ turned_places lasts before) × (group ≡ count_turned lasts before)
turned_all lasts before now group whole turned =
    let none : drop group lasts ≡ [] = ap (λ n. drop n lasts) (sym whole) ∙ drop-length lasts in
    let places : turned_places (drop group lasts) (drop group now) ≡ drop group now = ap (λ xs. turned_places xs (drop group now)) none in
    let count : count_turned (drop group lasts) (drop group now) ≡ 0 = ap (λ xs. count_turned xs (drop group now)) none in
    (sym (take-append-drop group now) ∙ ap (λ xs. take group now ++ xs) (sym places) ∙ turned.places, omega (arith, count, turned.counted))

-- The loop that sets places, group by group.

-- the places of the groups so far are set, and those of the others are what is left of the position
abbrev pub AreSet : List ℕ → List ℕ → ℕ → ℕ → ℕ → Type 0
AreSet lasts now position group turns = take group now ++ places_at (counts_to (drop group lasts)) turns ≡ places_at (counts_to lasts) position

pub set_more : (lasts now : List ℕ) (position group turns : ℕ) → group < length lasts → group < length now → AreSet lasts now position group turns
    → AreSet lasts (set now group (turns % (get_or lasts group 0 + 1))) position (group + 1) (turns / (get_or lasts group 0 + 1))
set_more lasts now position group turns inside held are =
    let count = get_or lasts group 0 + 1 in
    let others = places_at (counts_to (drop (group + 1) lasts)) (turns / count) in
    let first : places_at (counts_to (drop group lasts)) turns ≡ (turns % count) ∷ others = ap (λ xs. places_at (counts_to xs) turns) (drop_more lasts group inside) in
    ap (λ xs. xs ++ others) (take_more_set now group (turns % count) held) ∙ append_assoc (take group now) ((turns % count) ∷ []) others ∙ ap (λ xs. take group now ++ xs) (sym first) ∙ are

pub set_all : (lasts now : List ℕ) (position group turns : ℕ) → length lasts ≡ group → AreSet lasts now position group turns → ArePlaces (counts_to lasts) position now
set_all lasts now position group turns whole are =
    let none : drop group lasts ≡ [] = ap (λ n. drop n lasts) (sym whole) ∙ drop-length lasts in
    ap (λ n. take n now) (length-map lasts (λ last. last + 1) ∙ whole) ∙ sym (append-nil (take group now)) ∙ ap (λ xs. take group now ++ places_at (counts_to xs) turns) (sym none) ∙ are

-- One more group.

pub product_more : (counts : List ℕ) (count : ℕ) → product_of (counts ++ count ∷ []) ≡ product_of counts * count
product_more [] count = omega arith
product_more (first ∷ counts) count = ap (λ n. first * n) (product_more counts count) ∙ sym (mul_assoc first (product_of counts) count)

pub many_groups : (lasts : List ℕ) (group : ℕ) → group ≤ length lasts → length (counts_to (take group lasts)) ≡ group
many_groups lasts group within = length-map (take group lasts) (λ last. last + 1) ∙ length-take-le group lasts within

-- the groups of a list, and one more
pub counts_more : (lasts : List ℕ) (group count : ℕ) → group < length lasts → 0 < count → counts_to (take (group + 1) (set lasts group (count - 1))) ≡ counts_to (take group lasts) ++ count ∷ []
counts_more lasts group count inside some =
    let is : count - 1 + 1 ≡ count = omega arith in
    ap counts_to (take_more_set lasts group (count - 1) inside) ∙ map-append (λ last. last + 1) (take group lasts) ((count - 1) ∷ []) ∙ ap (λ n. counts_to (take group lasts) ++ n ∷ []) is
