-- Lanes that are chosen, taken out, put back, and over another denominator.
use Rattle.std.proofs.Common.{◌≡◌, ℕ, zero, suc, ◌*◌, ◌<◌, ◌≤◌, ◌^◌, ℤ, pos, ◌*ℤ◌, unsigned_abs, arith, ap, sym, ◌∙◌, refl, List, [], ◌∷◌, length, map, set, slice_index, cond, Bool, true, false}
use Rattle.std.specs.List.{All}
use Rattle.std.proofs.lemmas.Int.{unsigned_abs-mul}
use Rattle.std.proofs.lemmas.List.{get_or-map, length-map, map-set}
use Rattle.std.proofs.lemmas.List.Elements.{All-get_or}
use Rattle.fisca_vectors.specs.Vectors.{lane, flag, IsChosen, IsGathered}
use Rattle.fisca_vectors.specs.Numerators.{at, lane_of, lanes_of, IsVector, IsLevel}
use Rattle.fisca_vectors.specs.Moved.{IsMerged, merged_of, widened}
use Rattle.fisca_vectors.specs.Selected.{scattered}
use Rattle.fisca_vectors.proofs.Terms.{wider_lane, lane_at, count}
use Rattle.fisca_vectors.proofs.Laws.{level_positive, chosen, scaled_size}

-- the same numbers over a smaller denominator
pub narrower : (c by d : ℕ) (vs ns : List ℤ) → 0 < c → 0 < d → c * by ≡ d → length vs ≡ length ns → ((k : ℕ) → k < length ns → at vs k *ℤ pos by ≡ at ns k) → lanes_of c vs ≡ lanes_of d ns
narrower c by d [] [] p q e l h = refl
narrower c by d [] (n ∷ ns) p q e l h = absurd (omega arith)
narrower c by d (v ∷ vs) [] p q e l h = absurd (omega arith)
narrower c by d (v ∷ vs) (n ∷ ns) p q e l h =
    let first : lane_of c v ≡ lane_of d n = sym (wider_lane v c by d p q e) ∙ ap (lane_of d) (h 0 (omega arith)) in
    let rest : lanes_of c vs ≡ lanes_of d ns = narrower c by d vs ns p q e (omega arith) (λ k lt. h (suc k) (omega arith)) in
    ap (λ z. z ∷ lanes_of c vs) first ∙ ap (λ z. lane_of d n ∷ z) rest

-- what is taken out of a vector
pub record Gathers (places : List ℕ) (d b : ℕ) (ns cs : List ℤ) : Type 0 where
  pub vector : IsVector d b cs
  pub lanes : IsGathered places (lanes_of d ns) (lanes_of d cs)

pub gathers : (places : List ℕ) (d b : ℕ) (ns cs : List ℤ) → IsVector d b ns → All (λ p. p < length ns) places → cs ≡ map (λ p. at ns p) places → Gathers places d b ns cs
gathers places d b ns cs hn within is = record {
  vector = record { positive = hn.positive; below = hn.below; bound_below = hn.bound_below; bounded = λ k lt. rw (here k (omega (arith, same))) (hn.bounded (slice_index places k) (inside k (omega (arith, same)))) };
  lanes = record { lanes = count d cs ∙ same; each = each };
}
  where
    same : length cs ≡ length places
    same = ap length is ∙ length-map places (λ p. at ns p)

    here : (k : ℕ) → k < length places → at cs k ≡ at ns (slice_index places k)
    here k lt = ap (λ z. at z k) is ∙ get_or-map (λ p. at ns p) places k 0 (pos 0) lt

    inside : (k : ℕ) → k < length places → slice_index places k < length ns
    inside k lt = All-get_or (λ p. p < length ns) places k 0 lt within

    each : (k : ℕ) → k < length places → lane (lanes_of d cs) k ≡ lane (lanes_of d ns) (slice_index places k)
    each k lt = lane_at d cs k (omega (arith, same)) ∙ ap (lane_of d) (here k lt) ∙ sym (lane_at d ns (slice_index places k) (inside k lt))

cond_size : (b : Bool) (x y : ℤ) (c : ℕ) → unsigned_abs x ≤ c → unsigned_abs y ≤ c → unsigned_abs (cond b x y) ≤ c
cond_size true x y c p q = p
cond_size false x y c p q = q

size_within : (n : ℤ) (a f c : ℕ) → unsigned_abs n ≤ a → a * f ≤ c → unsigned_abs (n *ℤ pos f) ≤ c
size_within n a f c p q = omega (arith, unsigned_abs-mul n (pos f), scaled_size (unsigned_abs n) a f p)

-- what a mask chooses of vectors
pub record Chooses (flags : List Bool) (d e l b : ℕ) (ns ms cs : List ℤ) : Type 0 where
  pub vector : IsVector l b cs
  pub lanes : IsChosen flags (lanes_of d ns) (lanes_of e ms) (lanes_of l cs)

pub chooses : (flags : List Bool) (d e f g l a b c : ℕ) (ns ms cs : List ℤ) → IsVector d a ns → IsVector e b ms → IsLevel d e f g l → l < 2 ^ 63 → a * f ≤ c → b * g ≤ c → c < 2 ^ 63 → length ns ≡ length ms →
    IsMerged f g flags ns ms cs → Chooses flags d e l c ns ms cs
unfolding merged_of
chooses flags d e f g l a b c ns ms cs hn hm level below p q fits same made = record {
  vector = record { positive = some; below = below; bound_below = fits; bounded = λ k lt. sized k (omega (arith, made.lanes)) };
  lanes = record { lanes = count l cs ∙ made.lanes ∙ sym (count d ns); each = each };
}
  where
    some : 0 < l
    some = level_positive d e f g l hn.positive level

    is : (k : ℕ) → k < length ns → at cs k ≡ cond (flag flags k) (at ns k *ℤ pos f) (at ms k *ℤ pos g)
    is k lt = made.each k lt

    sized : (k : ℕ) → k < length ns → unsigned_abs (at cs k) ≤ c
    sized k lt = rw (is k lt) (cond_size (flag flags k) (at ns k *ℤ pos f) (at ms k *ℤ pos g) c (size_within (at ns k) a f c (hn.bounded k lt) p) (size_within (at ms k) b g c (hm.bounded k (omega arith)) q))

    here : (k : ℕ) → k < length ns → lane_of l (at cs k) ≡ cond (flag flags k) (lane_of d (at ns k)) (lane_of e (at ms k))
    here k lt = ap (lane_of l) (is k lt) ∙ sym (chosen (flag flags k) l (at ns k *ℤ pos f) (at ms k *ℤ pos g) (lane_of d (at ns k)) (lane_of e (at ms k)) (wider_lane (at ns k) d f l hn.positive some level.left_is) (wider_lane (at ms k) e g l hm.positive some level.right_is))

    each : (k : ℕ) → k < length (lanes_of d ns) → lane (lanes_of l cs) k ≡ cond (flag flags k) (lane (lanes_of d ns) k) (lane (lanes_of e ms) k)
    each k lt =
        let p : k < length ns = omega (arith, count d ns) in
        let q : k < length ms = omega arith in
        let r : k < length cs = omega (arith, made.lanes) in
        rw (lane_at d ns k p, lane_at e ms k q, lane_at l cs k r) (here k p)

-- the same numbers over a larger denominator
widened_lanes : (d f l : ℕ) (ns : List ℤ) → 0 < d → 0 < l → d * f ≡ l → lanes_of l (widened f ns) ≡ lanes_of d ns
widened_lanes d f l [] p q e = refl
widened_lanes d f l (n ∷ ns) p q e = ap (λ z. z ∷ lanes_of l (widened f ns)) (wider_lane n d f l p q e) ∙ ap (λ z. lane_of d n ∷ z) (widened_lanes d f l ns p q e)

map_scattered : {X Y : Type 0} (h : X → Y) (places : List ℕ) (xs b : List X) → map h (scattered places xs b) ≡ scattered places (map h xs) (map h b)
map_scattered h [] xs b = refl
map_scattered h (p ∷ ps) [] b = refl
map_scattered h (p ∷ ps) (x ∷ xs) b = map_scattered h ps xs (set b p x) ∙ ap (scattered ps (map h xs)) (map-set h b p x)

-- each numerator is within c, and what stands beyond the last lane is 0
abbrev Within : ℕ → List ℤ → Type 0
Within c ns = (k : ℕ) → unsigned_abs (at ns k) ≤ c

within_set : (c : ℕ) (b : List ℤ) (p : ℕ) (x : ℤ) → Within c b → unsigned_abs x ≤ c → Within c (set b p x)
within_set c [] p x h q k = h k
within_set c (y ∷ ys) zero x h q zero = q
within_set c (y ∷ ys) zero x h q (suc k) = h (suc k)
within_set c (y ∷ ys) (suc p) x h q zero = h zero
within_set c (y ∷ ys) (suc p) x h q (suc k) = within_set c ys p x (λ j. h (suc j)) q k

within_scattered : (c : ℕ) (places : List ℕ) (xs b : List ℤ) → Within c xs → Within c b → Within c (scattered places xs b)
within_scattered c [] xs b h q = q
within_scattered c (p ∷ ps) [] b h q = q
within_scattered c (p ∷ ps) (x ∷ xs) b h q = within_scattered c ps xs (set b p x) (λ j. h (suc j)) (within_set c b p x q (h zero))

within_widened : (a f c : ℕ) (ns : List ℤ) → ((k : ℕ) → k < length ns → unsigned_abs (at ns k) ≤ a) → a * f ≤ c → Within c (widened f ns)
within_widened a f c [] h q k = omega arith
within_widened a f c (n ∷ ns) h q zero = size_within n a f c (h 0 (omega arith)) q
within_widened a f c (n ∷ ns) h q (suc k) = within_widened a f c ns (λ j lt. h (suc j) (omega arith)) q k

-- what is put back into a vector
pub record Scatters (places : List ℕ) (d e l b : ℕ) (ns ms cs : List ℤ) : Type 0 where
  pub vector : IsVector l b cs
  pub lanes : lanes_of l cs ≡ scattered places (lanes_of d ns) (lanes_of e ms)

pub scatters : (places : List ℕ) (d e f g l a b c : ℕ) (ns ms cs : List ℤ) → IsVector d a ns → IsVector e b ms → IsLevel d e f g l → l < 2 ^ 63 → a * f ≤ c → b * g ≤ c → c < 2 ^ 63 →
    cs ≡ scattered places (widened f ns) (widened g ms) → Scatters places d e l c ns ms cs
scatters places d e f g l a b c ns ms cs hn hm level below p q fits is = record {
  vector = record { positive = some; below = below; bound_below = fits; bounded = λ k lt. rw is (within_scattered c places (widened f ns) (widened g ms) (within_widened a f c ns hn.bounded p) (within_widened b g c ms hm.bounded q) k) };
  lanes = ap (lanes_of l) is ∙ map_scattered (lane_of l) places (widened f ns) (widened g ms)
      ∙ ap (λ z. scattered places z (lanes_of l (widened g ms))) (widened_lanes d f l ns hn.positive some level.left_is)
      ∙ ap (λ z. scattered places (lanes_of d ns) z) (widened_lanes e g l ms hm.positive some level.right_is);
}
  where
    some : 0 < l
    some = level_positive d e f g l hn.positive level
