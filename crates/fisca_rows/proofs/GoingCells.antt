-- Cells of a line that are written one behind another.
use Rattle.std.proofs.Common.{◌≡◌, ◌+◌, ◌<◌, ◌||◌, ℕ, zero, suc, Bool, true, false, is_err, List, [], ◌∷◌, ◌++◌, drop, length, map, slice_get, Option, Some, Result, Ok, Err, OnOk, refl, sym, ap, ◌∙◌, arith}
use Rattle.std.proofs.lemmas.List.{append-nil, length-map}
use Rattle.std.specs.List.{list_any}
use Rattle.fisca_columns.proofs.Cells.{cell_at, cells_append, one_more}
use Rattle.fisca_columns.specs.Formed.{value_cell}
use Rattle.fisca_forms.specs.Forms.{Cell, Places, cell_in, closing}
use Rattle.fisca_forms.specs.LineForms.{Form, before_cell, cells_from, name_at}
use Rattle.fisca_forms.specs.declared.form.Format.{Format}
use Rattle.fisca_inputs.specs.declared.given.Given.{Given}
use Rattle.fisca_model.specs.Tables.{Tables}
use Rattle.fisca_model.specs.declared.eval_fault.EvalFault.{EvalFault}
use Rattle.fisca_model.specs.declared.key.Key.{Key}
use Rattle.fisca_model.specs.declared.value.Value.{Value}
use Rattle.fisca_rows.specs.FormedLines.{front_cells}
use Rattle.fisca_rows.specs.Going.{told_cell, told_cells}

-- what is there at a place is the first of what is left
pub left_at : {X : Type 0} (xs : List X) (i : ℕ) (x : X) → slice_get xs i ≡ Some x → drop i xs ≡ x ∷ drop (suc i) xs
left_at [] i x at = cc
left_at (y ∷ ys) zero x at = let same : y ≡ x = cc in ap (λ z. z ∷ ys) same
left_at (y ∷ ys) (suc i) x at = left_at ys i x at

pub front_length : (c : Tables) (decimals : Option Places) (position : ℕ) (moved : List Given) → length (front_cells c decimals position moved) ≡ length moved + 1
front_length c decimals position moved = omega (arith, length-map moved (λ (g : Given). value_cell c decimals g.variable g.value))

module _ (format : Format) (names : List (List ℕ)) where
  -- the front of a line, others from the place behind it on, and the end
  pub line_whole : (front cells : List Cell) (first : ℕ) (old a b line : List ℕ) → old ≡ [] → first ≡ length front
      → a ≡ old ++ cells_from format names 0 front → b ≡ a ++ cells_from format names first cells → line ≡ b ++ closing format
      → line ≡ cells_from format names 0 (front ++ cells) ++ closing format
  line_whole front cells first old a b line none count front_is cells_is line_is =
      let place : first ≡ 0 + length front = omega (arith, count) in
      let at_front : a ≡ cells_from format names 0 front = front_is ∙ ap (λ xs. xs ++ cells_from format names 0 front) none in
      line_is
      ∙ ap (λ xs. xs ++ closing format)
      (cells_is ∙ (ap (λ xs. xs ++ cells_from format names first cells) at_front
      ∙ (ap (λ p. cells_from format names 0 front ++ cells_from format names p cells) place ∙ sym (cells_append format names 0 front cells))))

  -- nothing is left
  pub none_more : (place : ℕ) (cells : List Cell) (text : List ℕ) → cells ≡ [] → text ++ cells_from format names place cells ≡ text
  none_more place cells text none = ap (λ cs. text ++ cells_from format names place cs) none ∙ append-nil text

pub on_ok : {X E P Q : Type 0} (r : Result X E) → (P → Q) → OnOk r P → OnOk r Q
on_ok (Ok x) f h = f h
on_ok (Err e) f h = h

or_false : (b : Bool) → (b || false) ≡ b
or_false true = refl
or_false false = refl

or_assoc : (a b c : Bool) → (a || (b || c)) ≡ ((a || b) || c)
or_assoc true b c = refl
or_assoc false b c = refl

-- The values of columns, or the words of their faults

module _ (c : Tables) (form : Form) (answer : Key → Result Value EvalFault) where
  abbrev told_from : ℕ → List Key → List ℕ
  told_from place ks = cells_from form.format form.names place (told_cells c form.decimals answer ks)

  abbrev pub HasNone : Key → Bool
  HasNone k = is_err (answer k)

  pub told_more : (ks : List Key) (i first at : ℕ) (k : Key) (now : Key → Result Value EvalFault) (told : Result Value EvalFault) (old new : List ℕ)
      → slice_get ks i ≡ Some k → now ≡ answer → told ≡ now k → at ≡ first + i
      → new ≡ old ++ (before_cell form.format at ++ cell_in form.format (name_at form.names at) (told_cell c form.decimals k.variable told))
      → old ++ told_from (first + i) (drop i ks) ≡ new ++ told_from (first + suc i) (drop (suc i) ks)
  told_more ks i first at k now told old new there same is place written =
      let value : told ≡ answer k = is ∙ ap (λ a. a k) same in
      let cell : new ≡ old ++ cell_at form.format form.names (first + i) (told_cell c form.decimals k.variable (answer k)) =
      written ∙ (ap (λ p. old ++ cell_at form.format form.names p (told_cell c form.decimals k.variable told)) place
      ∙ ap (λ r. old ++ cell_at form.format form.names (first + i) (told_cell c form.decimals k.variable r)) value) in
      let next : first + suc i ≡ suc (first + i) = omega arith in
      ap (λ xs. old ++ told_from (first + i) xs) (left_at ks i k there)
      ∙ sym (one_more form.format form.names old new (first + i) (first + suc i) (told_cell c form.decimals k.variable (answer k)) (told_cells c form.decimals answer (drop (suc i) ks)) cell next)

  pub lacks_more : (ks : List Key) (i : ℕ) (k : Key) (now : Key → Result Value EvalFault) (old new : Bool) → slice_get ks i ≡ Some k → now ≡ answer → new ≡ (old || is_err (now k))
      → (old || list_any HasNone (drop i ks)) ≡ (new || list_any HasNone (drop (suc i) ks))
  lacks_more ks i k now old new there same is =
      let rest = list_any HasNone (drop (suc i) ks) in
      ap (λ xs. old || list_any HasNone xs) (left_at ks i k there)
      ∙ (or_assoc old (is_err (answer k)) rest ∙ ap (λ b. b || rest) (sym (is ∙ ap (λ a. old || is_err (a k)) same)))

  -- behind all of them
  pub lacks_all : (ks rest : List Key) (old new : Bool) → rest ≡ [] → (old || list_any HasNone ks) ≡ (new || list_any HasNone rest) → new ≡ (old || list_any HasNone ks)
  lacks_all ks rest old new none is = sym (is ∙ (ap (λ xs. new || list_any HasNone xs) none ∙ or_false new))
