-- The steps of code behind `Words`:
-- Words that are no names.
use Rattle.std.specs.Prelude.{ℕ, List, length, Bool, not, ◌||◌, ◌==◌, if◌then◌else◌, codes}
use Rattle.fisca_ast.specs.Words.{is}

-- the keywords of two letters, of three, and so on
abbrev pub of_two : List ℕ → Bool
of_two t = is t (codes "as") || (is t (codes "if") || (is t (codes "in") || (is t (codes "is") || is t (codes "or"))))

abbrev pub of_three : List ℕ → Bool
of_three t = is t (codes "and") || (is t (codes "def") || (is t (codes "del") || (is t (codes "for") || (is t (codes "not") || is t (codes "try")))))

abbrev pub of_four : List ℕ → Bool
of_four t = is t (codes "elif") || (is t (codes "else") || (is t (codes "from") || (is t (codes "pass") || (is t (codes "True") || is t (codes "with")))))

abbrev pub of_five : List ℕ → Bool
of_five t =
    is t (codes "async") || (is t (codes "await") || (is t (codes "break") || (is t (codes "class") || (is t (codes "False") || (is t (codes "raise") || (is t (codes "while") || is t (codes "yield")))))))

abbrev pub of_six : List ℕ → Bool
of_six t = is t (codes "assert") || (is t (codes "except") || (is t (codes "global") || (is t (codes "import") || (is t (codes "lambda") || is t (codes "return")))))

abbrev pub of_more : List ℕ → Bool
of_more t = is t (codes "finally") || (is t (codes "continue") || is t (codes "nonlocal"))

unfoldable pub is_keyword : List ℕ → Bool
is_keyword t =
    if length t == 2 then of_two t
    else (if length t == 3 then of_three t
    else (if length t == 4 then of_four t
    else (if length t == 5 then of_five t
    else (if length t == 6 then of_six t else of_more t))))

-- `None` counts as a name
abbrev pub is_name : List ℕ → Bool
is_name t = not (is_keyword t)

-- what stands for a value: a name, `True` or `False`
unfoldable pub is_atom : List ℕ → Bool
is_atom t = is_name t || (is t (codes "True") || is t (codes "False"))
