-- The cells of the columns of a line, one behind another.
use Rattle.std.proofs.Common.{◌≡◌, ◌∙◌, ℕ, suc, ◌+◌, ◌<◌, ◌≤◌, List, [], ◌∷◌, ◌++◌, length, get_or, drop, Result, Ok, Err, ap, append_assoc, append-nil, length-append, arith, refl, sym}
use Rattle.std.proofs.lemmas.List.{drop_more, get_or_default, length-map}
use Rattle.std.specs.Prelude.{Option, false, is_err, map, OnOk}
use Rattle.fisca_model.specs.Tables.{Tables}
use Rattle.fisca_columns.specs.Formed.{value_cell}
use Rattle.fisca_rows.specs.FormedLines.{as_formed_row, column_cells, front_cells}
use Rattle.fisca_forms.specs.Forms.{Cell, Places, closing}
use Rattle.fisca_forms.specs.LineForms.{Form, cells_from}
use Rattle.fisca_writer.specs.Row.{Line}
use Rattle.fisca_num.specs.Results.{and_then}
use Rattle.fisca_inputs.specs.declared.given.Given.{Given}
use Rattle.fisca_model.specs.declared.key.Key.{Key}
use Rattle.fisca_model.specs.declared.value.Value.{Value}
use Rattle.fisca_columns.proofs.Cells.{cell_at, cells_append, one_more}

-- cells, and behind them those of the rest, where they come
abbrev pub behind_cells : {F : Type 0} → List Cell → Result (List Cell) F → Result (List Cell) F
behind_cells front (Ok cells) = Ok (front ++ cells)
behind_cells front (Err f) = Err f

behind-nil : {F : Type 0} (rest : Result (List Cell) F) → rest ≡ behind_cells [] rest
behind-nil (Ok cells) = refl
behind-nil (Err f) = refl

one_behind : {F : Type 0} (front : List Cell) (x : Cell) (rest : Result (List Cell) F) → behind_cells front (and_then rest (λ cells. Ok (x ∷ cells))) ≡ behind_cells (front ++ x ∷ []) rest
one_behind front x (Ok cells) = ap (λ cs. Ok cs) (sym (append_assoc front (x ∷ []) cells))
one_behind front x (Err f) = refl

-- what holds where a call is right, where it is
pub where_ok : {E P : Type 0} (r : Result (Unit {0}) E) → is_err r ≡ false → OnOk r P → P
where_ok (Ok x) not_err done = done
where_ok (Err e) not_err done = cc

-- what is read at a place, read again
pub again : {X : Type 0} (xs : List X) (i : ℕ) (d : X) → i < length xs → get_or xs i d ≡ get_or xs i (get_or xs i d)
again xs i d inside = get_or_default xs i d (get_or xs i d) inside

-- how many cells stand before those of the columns
pub count_front : (c : Tables) (decimals : Option Places) (position : ℕ) (moved : List Given) → length moved + 1 ≡ length (front_cells c decimals position moved)
count_front c decimals position moved =
    let same : length (map (λ (g : Given). value_cell c decimals g.variable g.value) moved) ≡ length moved = length-map moved (λ (g : Given). value_cell c decimals g.variable g.value) in
    omega (arith, same)

module _ {F : Type 0} (form : Form) (c : Tables) (answer : Key → Result Value F) (columns : List Key) where
  abbrev cells_of : List Key → Result (List Cell) F
  cells_of ks = column_cells c form.decimals answer ks

  -- the cells of the columns before a place stand behind what was in the buffer
  pub record AreThere (first place : ℕ) (old new : List ℕ) : Type 0 where
    pub cells : List Cell
    pub line : new ≡ old ++ cells_from form.format form.names first cells
    pub many : length cells ≡ place
    pub rest : column_cells c form.decimals answer columns ≡ behind_cells cells (column_cells c form.decimals answer (drop place columns))

  pub none_there : (first : ℕ) (old : List ℕ) → AreThere first 0 old old
  none_there first old = record { cells = []; line = sym (append-nil old); many = refl; rest = behind-nil (cells_of columns) }

  -- the column at a place is the first of what is left
  at_place : (place : ℕ) (k : Key) → k ≡ get_or columns place k → place < length columns → drop place columns ≡ k ∷ drop (place + 1) columns
  at_place place k at inside = drop_more columns place k inside ∙ ap (λ j. j ∷ drop (place + 1) columns) (sym at)

  abbrev with_answer : ℕ → Key → Result Value F → Result (List Cell) F
  with_answer place k r = and_then r (λ w. and_then (cells_of (drop (place + 1) columns)) (λ cells. Ok (value_cell c form.decimals k.variable w ∷ cells)))

  by_answer : (place : ℕ) (k : Key) (r : Result Value F) → k ≡ get_or columns place k → place < length columns → answer k ≡ r → cells_of (drop place columns) ≡ with_answer place k r
  by_answer place k r at inside is = ap cells_of (at_place place k at inside) ∙ ap (with_answer place k) is

  told : (now : Key → Result Value F) (k : Key) (r : Result Value F) → now ≡ answer → now k ≡ r → answer k ≡ r
  told now k r same is = sym (ap (λ a. a k) same) ∙ is

  -- one more
  one_there : (first place : ℕ) (k : Key) (w : Value) (old between new : List ℕ) → k ≡ get_or columns place k → place < length columns → answer k ≡ Ok w
      → AreThere first place old between
      → new ≡ between ++ cell_at form.format form.names (first + place) (value_cell c form.decimals k.variable w)
      → AreThere first (place + 1) old new
  one_there first place k w old between new at inside is so_far written =
      let x = value_cell c form.decimals k.variable w in
      let there : first + length so_far.cells ≡ first + place = omega (arith, so_far.many) in
      let more : length (so_far.cells ++ x ∷ []) ≡ place + 1 = length-append so_far.cells (x ∷ []) ∙ omega (arith, so_far.many) in
      let behind : new ++ [] ≡ between ++ cells_from form.format form.names (first + place) (x ∷ []) = one_more form.format form.names between new (first + place) (suc (first + place)) x [] written refl in
      let all : cells_from form.format form.names first (so_far.cells ++ x ∷ []) ≡ cells_from form.format form.names first so_far.cells ++ cells_from form.format form.names (first + place) (x ∷ []) =
      cells_append form.format form.names first so_far.cells (x ∷ []) ∙ ap (λ n. cells_from form.format form.names first so_far.cells ++ cells_from form.format form.names n (x ∷ [])) there in
      record {
        cells = so_far.cells ++ x ∷ [];
        line = sym (append-nil new) ∙ (behind ∙ (ap (λ t. t ++ cells_from form.format form.names (first + place) (x ∷ [])) so_far.line
            ∙ (append_assoc old (cells_from form.format form.names first so_far.cells) (cells_from form.format form.names (first + place) (x ∷ [])) ∙ ap (λ t. old ++ t) (sym all))));
        many = more;
        rest = so_far.rest ∙ (ap (behind_cells so_far.cells) (by_answer place k (Ok w) at inside is) ∙ one_behind so_far.cells x (cells_of (drop (place + 1) columns)));
      }

  -- the same by what a call answers
  pub written_there : {E : Type 0} (first place : ℕ) (k : Key) (w : Value) (now : Key → Result Value F) (old between new : List ℕ) (written : Result (Unit {0}) E)
      → k ≡ get_or columns place k → place < length columns → now ≡ answer → now k ≡ Ok w
      → AreThere first place old between
      → is_err written ≡ false
      → OnOk written (new ≡ between ++ cell_at form.format form.names (first + place) (value_cell c form.decimals k.variable w))
      → AreThere first (place + 1) old new
  written_there first place k w now old between new written at inside same is so_far not_err done =
      one_there first place k w old between new at inside (told now k (Ok w) same is) so_far (where_ok written not_err done)

  -- the whole line
  pub whole_line : (front : List Cell) (first : ℕ) (old begun written end : List ℕ) → old ≡ [] → begun ≡ old ++ cells_from form.format form.names 0 front → first ≡ length front
      → ((cells : List Cell) × (cells_of columns ≡ Ok cells) × (written ≡ begun ++ cells_from form.format form.names first cells))
      → end ≡ written ++ closing form.format
      → as_formed_row form front (cells_of columns) ≡ Line end
  whole_line front first old begun written end none front_is place told ended =
      let there : 0 + length front ≡ first = omega (arith, place) in
      let front_cells = cells_from form.format form.names 0 front in
      let all : cells_from form.format form.names 0 (front ++ told.0) ≡ front_cells ++ cells_from form.format form.names first told.0 =
      cells_append form.format form.names 0 front told.0 ∙ ap (λ n. front_cells ++ cells_from form.format form.names n told.0) there in
      let begun_is : begun ≡ front_cells = front_is ∙ ap (λ t. t ++ front_cells) none in
      let line : end ≡ cells_from form.format form.names 0 (front ++ told.0) ++ closing form.format =
      ended ∙ ap (λ t. t ++ closing form.format) (told.2 ∙ (ap (λ t. t ++ cells_from form.format form.names first told.0) begun_is ∙ sym all)) in
      ap (as_formed_row form front) told.1 ∙ ap (λ t. Line t) (sym line)
