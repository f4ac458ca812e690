-- Words that are no names.
use Rattle.std.specs.Prelude.{ℕ, List, Bool, ◌||◌, codes}
use Rattle.std.specs.Str.{bytes_eq}

abbrev pub is : List ℕ → List ℕ → Bool
is t word = bytes_eq t word

-- keywords of Python's forms that are left out
unfoldable pub is_left_out : List ℕ → Bool
is_left_out t = is t (codes "if") || (is t (codes "elif") || (is t (codes "else") || (is t (codes "for") || (is t (codes "while") || (is t (codes "and") || (is t (codes "or") || is t (codes "not")))))))
