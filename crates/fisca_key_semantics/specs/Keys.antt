-- Keys are the same where all their parts are.
use Rattle.std.specs.Prelude.{◌≡◌, ◌⊎◌, Bool, false, true, ◌==◌, ◌&&◌, ◌||◌, List, [], ◌∷◌}
use Rattle.fisca_time.specs.Period.{Span, eternity, months, days}
use Rattle.fisca_time.specs.Unit.{rank}
use Rattle.fisca_model.specs.Values.{Key}

abbrev pub same_span : Span → Span → Bool
same_span eternity eternity = true
same_span (months u f n) (months v g m) = (rank u == rank v) && ((f == g) && (n == m))
same_span (days f n) (days g m) = (f == g) && (n == m)
same_span _ _ = false

abbrev pub same_key : Key → Key → Bool
same_key a b = (a.variable == b.variable) && ((a.member == b.member) && same_span a.period b.period)

-- the key stands in the list
abbrev pub In : Key → List Key → Type 0
In key [] = ⊥
In key (k ∷ ks) = (k ≡ key) ⊎ In key ks

abbrev pub has : List Key → Key → Bool
has [] key = false
has (k ∷ ks) key = same_key k key || has ks key
