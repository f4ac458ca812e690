-- How an odometer is kept: the places of its groups begin a list.
use Rattle.std.specs.Prelude.{◌≡◌, ℕ, ◌+◌, ◌-◌, ◌<◌, ◌≤◌, max, List, length, take}
use Rattle.fisca_writer.specs.Odometer.{AreSameFrom, Going, HaveTurned, places_at, product_of}

-- a list begins with the places at a position
abbrev pub ArePlaces : List ℕ → ℕ → List ℕ → Type 0
ArePlaces counts position places = take (length counts) places ≡ places_at counts position

-- places are turned to those at the next position, by as many groups as have to turn
pub record IsTurn (counts old new : List ℕ) (turned : ℕ) : Type 0 where
  pub places : (position : ℕ) → ArePlaces counts position old → ArePlaces counts (position + 1) new
  pub same : (position : ℕ) → ArePlaces counts position old → AreSameFrom counts turned position (position + 1)
  pub least : (position group : ℕ) → ArePlaces counts position old → position + 1 < product_of counts → AreSameFrom counts group position (position + 1) → turned ≤ group

-- the places are those of the position that was given last, or of the start where none was given
pub record IsTurning (going : Going) (places : List ℕ) (turned : ℕ) : Type 0 where
  pub begun : going.start ≤ going.next
  pub shown : ArePlaces going.counts (max going.start (going.next - 1)) places
  pub counted : HaveTurned going turned
