-- How often 2 divides a number.
use Rattle.std.specs.Prelude.{◌≡◌, ℕ, ◌*◌, ◌/◌, ◌%◌, ◌^◌, ◌<◌}

pub record IsHalved (n k : ℕ) : Type 0 where
  pub whole : 2 ^ k * (n / 2 ^ k) ≡ n
  pub odd : n / 2 ^ k % 2 ≡ 1
  pub few : k < 64
