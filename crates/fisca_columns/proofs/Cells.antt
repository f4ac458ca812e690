-- The cells of a line, one behind another.
use Rattle.std.proofs.Common.{◌≡◌, ◌∙◌, ℕ, suc, ◌+◌, List, [], ◌∷◌, ◌++◌, length, ap, append_assoc, append-nil, arith, sym}
use Rattle.fisca_forms.specs.Forms.{Cell, cell_in, closing}
use Rattle.fisca_forms.specs.LineForms.{before_cell, cells_from, name_at}
use Rattle.fisca_forms.specs.declared.form.Format.{Format}

module _ (format : Format) (names : List (List ℕ)) where
  -- one cell, with what stands before it
  abbrev pub cell_at : ℕ → Cell → List ℕ
  cell_at place cell = before_cell format place ++ cell_in format (name_at names place) cell

  -- a line with one more cell, and the cells behind it
  pub one_more : (line more : List ℕ) (place next : ℕ) (x : Cell) (xs : List Cell) → more ≡ line ++ cell_at place x → next ≡ suc place
      → more ++ cells_from format names next xs ≡ line ++ cells_from format names place (x ∷ xs)
  one_more line more place next x xs is after =
      let rest = cells_from format names (suc place) xs in
      let inner : (line ++ cell_at place x) ++ rest ≡ line ++ (before_cell format place ++ (cell_in format (name_at names place) x ++ rest)) = simp append_assoc in
      ap (λ m. m ++ cells_from format names next xs) is ∙ (ap (λ n. (line ++ cell_at place x) ++ cells_from format names n xs) after ∙ inner)

  -- cells, and others behind them
  pub cells_append : (place : ℕ) (xs ys : List Cell) → cells_from format names place (xs ++ ys) ≡ cells_from format names place xs ++ cells_from format names (place + length xs) ys
  cells_append place [] ys = let none : place ≡ place + 0 = omega arith in ap (λ n. cells_from format names n ys) none
  cells_append place (x ∷ xs) ys =
      let all : cells_from format names (suc place) (xs ++ ys) ≡ cells_from format names (suc place) xs ++ cells_from format names (suc place + length xs) ys = cells_append (suc place) xs ys in
      let there : suc place + length xs ≡ place + length (x ∷ xs) = omega arith in
      let rest = cells_from format names (place + length (x ∷ xs)) ys in
      let inner : before_cell format place ++ (cell_in format (name_at names place) x ++ (cells_from format names (suc place) xs ++ rest))
      ≡ (before_cell format place ++ (cell_in format (name_at names place) x ++ cells_from format names (suc place) xs)) ++ rest = simp append_assoc in
      ap (λ t. before_cell format place ++ (cell_in format (name_at names place) x ++ t)) (all ∙ ap (λ n. cells_from format names (suc place) xs ++ cells_from format names n ys) there) ∙ inner

  -- four cells behind some
  pub four_more : (line lead l1 l2 l3 l4 end : List ℕ) (front : List Cell) (first : ℕ) (a b c d : Cell)
      → lead ≡ line ++ cells_from format names 0 front → first ≡ length front
      → l1 ≡ lead ++ cell_at first a → l2 ≡ l1 ++ cell_at (first + 1) b → l3 ≡ l2 ++ cell_at (first + 2) c → l4 ≡ l3 ++ cell_at (first + 3) d → end ≡ l4 ++ closing format
      → end ≡ line ++ (cells_from format names 0 (front ++ (a ∷ b ∷ c ∷ d ∷ [])) ++ closing format)
  four_more line lead l1 l2 l3 l4 end front first a b c d begun place p1 p2 p3 p4 ended =
      let behind : l4 ++ [] ≡ lead ++ cells_from format names first (a ∷ b ∷ c ∷ d ∷ []) =
      one_more l3 l4 (first + 3) (first + 4) d [] p4 (omega arith)
      ∙ (one_more l2 l3 (first + 2) (first + 3) c (d ∷ []) p3 (omega arith)
      ∙ (one_more l1 l2 (first + 1) (first + 2) b (c ∷ d ∷ []) p2 (omega arith)
      ∙ one_more lead l1 first (first + 1) a (b ∷ c ∷ d ∷ []) p1 (omega arith))) in
      let there : 0 + length front ≡ first = omega arith in
      let all : cells_from format names 0 (front ++ (a ∷ b ∷ c ∷ d ∷ [])) ≡ cells_from format names 0 front ++ cells_from format names first (a ∷ b ∷ c ∷ d ∷ []) =
      cells_append 0 front (a ∷ b ∷ c ∷ d ∷ []) ∙ ap (λ n. cells_from format names 0 front ++ cells_from format names n (a ∷ b ∷ c ∷ d ∷ [])) there in
      let cells : l4 ≡ line ++ cells_from format names 0 (front ++ (a ∷ b ∷ c ∷ d ∷ [])) =
      sym (append-nil l4) ∙ (behind ∙ (ap (λ t. t ++ cells_from format names first (a ∷ b ∷ c ∷ d ∷ [])) begun
      ∙ (append_assoc line (cells_from format names 0 front) (cells_from format names first (a ∷ b ∷ c ∷ d ∷ [])) ∙ ap (λ t. line ++ t) (sym all)))) in
      ended ∙ (ap (λ t. t ++ closing format) cells ∙ append_assoc line (cells_from format names 0 (front ++ (a ∷ b ∷ c ∷ d ∷ []))) (closing format))
