-- The numbers of lines, and the lines of entries.
use Rattle.std.proofs.Common.{◌≡◌, ℕ, zero, suc, max, ◌+◌, ◌<◌, ◌≤◌, Bool, true, false, List, [], ◌∷◌, length, get_or, Option, Some, None, refl, sym, ap, subst, ◌∙◌, cond, eqb, arith}
use Rattle.std.proofs.lemmas.Bool.Decides.{nat_tests}
use Rattle.std.specs.Str.Lines.{lines}
use Rattle.fisca_yaml.specs.Node.{Node, Entries, no_entries, entry, AreNumbered, last_line}
use Rattle.fisca_yaml_scalars.specs.Rows.{Row, with_row, last_number}
use Rattle.fisca_yaml_scalars.specs.Steps.Rows.{is_empty_line, is_start, indented, row_of, rows, past_marker, text_rows}
use Rattle.fisca_yaml_scalars.specs.Deeper.{after}
use Rattle.fisca_yaml.specs.Views.{Seen_entry, Seen_item, seen_entry, tree_step, entry_step, item_step, entries_view, entries_before, AddsEntry}
use Rattle.fisca_yaml.specs.declared.tree.Entry.{Entry, fold_out-Entry}
use Rattle.fisca_yaml.proofs.Grown.{entries_before-no_entries}
use Rattle.fisca_yaml.proofs.Groups.{Takes}

pub last_after : (f : ℕ) (ls : List Row) → last_number (after f ls) ≤ last_number ls
last_after f [] = omega arith
last_after f (l ∷ ls) = let h = last_after f ls in grind (arith, nat_tests)

-- the lines that a call which takes the next deeper one leaves, with that one
pub last_taken : (f : ℕ) (old : List Row) (next : Option Row) (new : List Row) → Takes f old next new → last_number (with_row next new) ≤ last_number old
last_taken f old None new t = rw t.1 (last_after f old)
last_taken f old (Some l) new t = rw t.0 (omega arith)

indented-number : (n column : ℕ) (bs : List ℕ) (r : Row) → indented n column bs ≡ Some r → r.number ≡ n
indented-number n column [] r e = cc
indented-number n column (b ∷ bs) r e = by (eqb b 32) (indented n (column + 1) bs) (indented-number n (column + 1) bs r) e
  where
    by : (v : Bool) (o : Option Row) → (o ≡ Some r → r.number ≡ n) → cond v o (Some (record { number = n; indent = column; content = b ∷ bs })) ≡ Some r → r.number ≡ n
    by true o h e = h e
    by false o h e = let same : Some (record { number = n; indent = column; content = b ∷ bs }) ≡ Some r = e in cc

row_of-number : (n : ℕ) (line : List ℕ) (r : Row) → row_of n line ≡ Some r → r.number ≡ n
row_of-number n line r e = by (is_empty_line line) e
  where
    by : (v : Bool) → cond v None (indented n 0 line) ≡ Some r → r.number ≡ n
    by true e = cc
    by false e = indented-number n 0 line r e

with_last : (o : Option Row) (rs : List Row) (n m : ℕ) → ((r : Row) → o ≡ Some r → r.number ≡ n) → n < m → last_number rs < m → last_number (with_row o rs) < m
with_last None rs n m h p q = q
with_last (Some r) rs n m h p q = omega (arith, h r refl)

rows_last : (n : ℕ) (ls : List (List ℕ)) → 0 < n → last_number (rows n ls) < n + length ls
rows_last n [] p = omega arith
rows_last n (l ∷ ls) p =
    let rest = rows_last (n + 1) ls (omega arith) in
    with_last (row_of n l) (rows (n + 1) ls) n (n + suc (length ls)) (row_of-number n l) (omega arith) (omega (arith, rest))

marker_last : (rs : List Row) → last_number (past_marker rs) ≤ last_number rs
marker_last [] = omega arith
marker_last (r ∷ rs) = by (is_start r)
  where
    by : (v : Bool) → last_number (cond v rs (r ∷ rs)) ≤ last_number (r ∷ rs)
    by true = omega arith
    by false = omega arith

-- no line of a text stands behind its last one
pub text_last : (text : List ℕ) → last_number (text_rows text) ≤ length (lines text)
text_last text = omega (arith, marker_last (rows 1 (lines text)), rows_last 1 (lines text) (omega arith))

before_numbered : (es : List Entry) (rest : Entries) → AreNumbered (entries_view es) → AreNumbered rest → AreNumbered (entries_before es rest)
before_numbered [] rest h k = k
before_numbered (e ∷ es) rest h k = (h.0, before_numbered es rest h.1 k)

before_last : (es : List Entry) (rest : Entries) → last_line (entries_before es rest) ≡ max (last_line (entries_view es)) (last_line rest)
before_last [] rest = omega arith
before_last (e ∷ es) rest = let h = before_last es rest in omega arith

-- one more entry, whose line is counted from 1
pub more_numbered : (old new : List Entry) (k : List ℕ) (n : ℕ) (v : Node) → AddsEntry old new k n v → 0 < n → AreNumbered (entries_view old) → AreNumbered (entries_view new)
more_numbered old new k n v adds some h =
    subst AreNumbered (sym (adds no_entries) ∙ entries_before-no_entries new) (before_numbered old (entry k n v no_entries) h (some, tt))

pub more_last : (old new : List Entry) (k : List ℕ) (n : ℕ) (v : Node) → AddsEntry old new k n v → last_line (entries_view new) ≡ max (last_line (entries_view old)) n
more_last old new k n v adds =
    let e = ap last_line (sym (entries_before-no_entries new) ∙ adds no_entries) ∙ before_last old (entry k n v no_entries) in
    omega (arith, e)

line-is : (e : Entry) → (seen_entry e).line ≡ e.line
line-is e = ap (λ (s : Seen_entry). s.line) (fold_out-Entry Node Seen_entry Seen_item tree_step entry_step item_step e)

-- the line of an entry
pub line_of_entry : (es : List Entry) (i : ℕ) (d : Entry) → i < length es → AreNumbered (entries_view es) → (0 < (get_or es i d).line) × ((get_or es i d).line ≤ last_line (entries_view es))
line_of_entry [] i d p h = absurd (omega arith)
line_of_entry (e ∷ es) zero d p h = let q = line-is e in (omega (arith, h.0), omega arith)
line_of_entry (e ∷ es) (suc i) d p h = let q = line_of_entry es i d (omega arith) h.1 in (q.0, omega (arith, q.1))
