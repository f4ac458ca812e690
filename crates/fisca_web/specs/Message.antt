-- The message of a page: bytes, and where each of its parts ends. Its first parts are the words of a command line, the next is the text of the file that
-- the command names, and then follow the path and the text of each rule file.
use Rattle.std.specs.Prelude.{ℕ, zero, suc, ◌+◌, ◌-◌, ◌*◌, ◌/◌, List, [], ◌∷◌, ◌++◌, drop, take, length, slice_index_or}
use Rattle.fisca_params.specs.Source.{Source}

-- where a part begins: where the one before it ends
abbrev pub start_of : List ℕ → ℕ → ℕ
start_of ends zero = 0
start_of ends (suc i) = slice_index_or ends i 0

abbrev pub part_of : List ℕ → List ℕ → ℕ → List ℕ
part_of bytes ends i = drop (start_of ends i) (take (slice_index_or ends i 0) bytes)

-- the first parts, so many
abbrev pub first_parts : List ℕ → List ℕ → ℕ → List (List ℕ)
first_parts bytes ends zero = []
first_parts bytes ends (suc n) = first_parts bytes ends n ++ part_of bytes ends n ∷ []

-- the file whose path is this part, and whose text is the next
abbrev pub file_at : List ℕ → List ℕ → ℕ → Source
file_at bytes ends i = record { path = part_of bytes ends i; text = part_of bytes ends (i + 1) }

-- so many files, of which the first begins at this part
abbrev pub files_at : List ℕ → List ℕ → ℕ → ℕ → List Source
files_at bytes ends first zero = []
files_at bytes ends first (suc n) = files_at bytes ends first n ++ file_at bytes ends (first + 2 * n) ∷ []

-- how many files stand behind so many words and the text
abbrev pub file_count : List ℕ → ℕ → ℕ
file_count ends words = (length ends - (words + 1)) / 2

-- all files of a message with so many words
abbrev pub files_of : List ℕ → List ℕ → ℕ → List Source
files_of bytes ends words = files_at bytes ends (words + 1) (file_count ends words)
