-- The names of the cells of a line.
use Rattle.std.proofs.Common.{◌≡◌, ℕ, zero, suc, ◌+◌, ◌<◌, ◌≤◌, length, drop, List, [], ◌∷◌, ◌++◌, map, None, Some, slice_get, refl, sym, ap, ◌∙◌, arith, append_assoc}
use Rattle.std.specs.Option.{option_map_or}
use Rattle.std.proofs.lemmas.List.{drop_all}
use Rattle.fisca_forms.specs.Forms.{closing, header_cell}
use Rattle.fisca_forms.specs.LineForms.{before_cell, name_at, names_from}
use Rattle.fisca_forms.specs.declared.form.Format.{Format}

-- the name at a place, where the texts of some things are the names
named : {X : Type 0} (text : X → List ℕ) (xs : List X) (place : ℕ) → name_at (map text xs) place ≡ option_map_or text (slice_get xs place) []
named text [] place = refl
named text (x ∷ xs) zero = refl
named text (x ∷ xs) (suc place) = named text xs place

pub name_there : {X : Type 0} (text : X → List ℕ) (xs : List X) (place : ℕ) (x : X) → slice_get xs place ≡ Some x → name_at (map text xs) place ≡ text x
name_there text xs place x there = named text xs place ∙ ap (λ o. option_map_or text o []) there

pub no_name : {X : Type 0} (text : X → List ℕ) (xs : List X) (place : ℕ) → slice_get xs place ≡ None → name_at (map text xs) place ≡ []
no_name text xs place none = named text xs place ∙ ap (λ o. option_map_or text o []) none

-- the line of the names from a place on
pub names_step : (format : Format) (names : List (List ℕ)) (at place : ℕ) → place < length names
    → names_from format at (drop place names) ≡ before_cell format at ++ (header_cell format (name_at names place) ++ names_from format (suc at) (drop (suc place) names))
names_step format [] at place within = absurd (omega (arith, within))
names_step format (name ∷ names) at zero within = refl
names_step format (name ∷ names) at (suc place) within = names_step format names at place (omega (arith, within))

pub names_end : (format : Format) (names : List (List ℕ)) (at place : ℕ) → length names ≤ place → names_from format at (drop place names) ≡ closing format
names_end format names at place over = ap (names_from format at) (drop_all place names over)

-- one more name is written
pub next_name : (format : Format) (names : List (List ℕ)) (place : ℕ) (old pushed new all : List ℕ) → place < length names
    → pushed ≡ old ++ before_cell format place → new ≡ pushed ++ header_cell format (name_at names place)
    → old ++ names_from format place (drop place names) ≡ all → new ++ names_from format (place + 1) (drop (place + 1) names) ≡ all
next_name format names place old pushed new all within first second so_far =
    let next : place + 1 ≡ suc place = omega arith in
    let before = before_cell format place in
    let name = header_cell format (name_at names place) in
    let rest = names_from format (suc place) (drop (suc place) names) in
    ap (λ n. new ++ names_from format n (drop n names)) next
    ∙ (ap (λ xs. xs ++ rest) (second ∙ ap (λ xs. xs ++ name) first)
    ∙ (append_assoc (old ++ before) name rest
    ∙ (append_assoc old before (name ++ rest)
    ∙ (ap (λ xs. old ++ xs) (sym (names_step format names place place within)) ∙ so_far))))
