-- The steps of code behind `KeyHashes`:
-- The hash of a key: of the numbers that it is fed by, the last one is added at the end, so that keys whose periods follow one another have
-- hashes that do, sixteen in a row.
use Rattle.std.specs.Prelude.{ℕ, ◌+◌, ◌*◌, ◌/◌, ◌%◌, List, [], ◌∷◌}
use Rattle.std.specs.Int.{from_le_bytes, w32, w64}
use Rattle.fisca_key_hash.specs.declared.hasher.KeyHasher.{KeyHasher}
use Rattle.fisca_key_hash.specs.KeyHashes.{multiplier}

-- a number is spread and the next one added
abbrev pub with_next : ℕ → ℕ → ℕ
with_next state next = (state * multiplier % 18_446_744_073_709_551_616 + next) % 18_446_744_073_709_551_616

-- eight or four bytes are a number, the lowest first; others count as 0
abbrev pub word : List ℕ → ℕ
word (a ∷ b ∷ c ∷ d ∷ e ∷ f ∷ g ∷ h ∷ []) = from_le_bytes w64 (a ∷ b ∷ c ∷ d ∷ e ∷ f ∷ g ∷ h ∷ [])
word (a ∷ b ∷ c ∷ d ∷ []) = from_le_bytes w32 (a ∷ b ∷ c ∷ d ∷ [])
word bytes = 0

abbrev pub write : KeyHasher → List ℕ → KeyHasher
write h bytes = record { state = with_next h.state (word bytes) }

-- blocks of sixteen numbers leap, and the numbers of a block follow one another, with eight highest bits that differ
abbrev pub placed : ℕ → ℕ
placed n = (n / 16 * (0xb65_18d7 * 16) + n % 16 * 0x9d00_0001) % 4_294_967_296

abbrev pub finish : KeyHasher → ℕ
finish h = placed (h.state / 65_536 % 4_294_967_296)
