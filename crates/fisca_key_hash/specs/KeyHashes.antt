-- The hash of a key: of the numbers that it is fed by, the last one is added at the end, so that keys whose periods follow one another have
-- hashes that do, sixteen in a row.
use Rattle.std.specs.Prelude.{ℕ}
use Rattle.fisca_key_hash.specs.declared.hasher.KeyHasher.{KeyHasher}

abbrev pub multiplier : ℕ
multiplier = 0x9fb3_1c96_4a71_4ae3

abbrev pub initial : KeyHasher
initial = record { state = 0 }
