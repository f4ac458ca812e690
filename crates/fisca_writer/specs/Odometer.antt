-- Groups of places of which the first turns fastest, as the wheels of an odometer do, and going over their positions.
use Rattle.std.specs.Prelude.{◌≡◌, ℕ, ◌+◌, ◌-◌, ◌*◌, ◌/◌, ◌%◌, ◌<◌, ◌≤◌, nat_lt, cond, List, [], ◌∷◌, length, drop, Option, Some, None}
use Rattle.fisca_writer.specs.Lines.{positions_from}

-- how many positions groups of so many places have
abbrev pub product_of : List ℕ → ℕ
product_of [] = 1
product_of (count ∷ counts) = count * product_of counts

-- the places of the groups at a position
abbrev pub places_at : List ℕ → ℕ → List ℕ
places_at [] position = []
places_at (count ∷ counts) position = (position % count) ∷ places_at counts (position / count)

-- from a group on, the places at two positions are the same
abbrev pub AreSameFrom : List ℕ → ℕ → ℕ → ℕ → Type 0
AreSameFrom counts group a b = drop group (places_at counts a) ≡ drop group (places_at counts b)

-- a cursor: the lengths of the groups, the position from which it goes on, and the one that it gives next
pub record Going : Type 0 where
  pub counts : List ℕ
  pub start : ℕ
  pub next : ℕ

-- the positions that it has left
abbrev pub left_of : Going → List ℕ
left_of going = positions_from (product_of going.counts) going.next

-- the cursor after it was asked for a position
abbrev pub after_next : Going → Going
after_next going = record { counts = going.counts; start = going.start; next = cond (nat_lt going.next (product_of going.counts)) (going.next + 1) going.next }

-- how many groups turned at the position that was given last: none where none was given, all at the first, then the fewest behind which all places are those of the position before
pub record HaveTurned (going : Going) (turned : ℕ) : Type 0 where
  pub none : going.next ≡ going.start → turned ≡ 0
  pub all : going.next ≡ going.start + 1 → turned ≡ length going.counts
  pub later : going.start + 1 < going.next → AreSameFrom going.counts turned (going.next - 2) (going.next - 1)
  pub least : going.start + 1 < going.next → (group : ℕ) → AreSameFrom going.counts group (going.next - 2) (going.next - 1) → turned ≤ group

-- behind so many groups the places at a position are those where the rows stand, and these are all groups where they stand nowhere
abbrev pub IsNear : List ℕ → Option ℕ → ℕ → ℕ → Type 0
IsNear counts None position turned = length counts ≡ turned
IsNear counts (Some here) position turned = AreSameFrom counts turned here position
