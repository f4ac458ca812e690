-- What a run over the beginning of a grid leaves of the whole one.
use Rattle.std.proofs.Common.{◌≡◌, ℕ, zero, suc, ◌+◌, ◌-◌, ◌<◌, ◌≤◌, List, ◌∷◌, ◌++◌, Option, Some, None, refl, sym, ap, ◌∙◌, arith, subst}
use Rattle.fisca_writer.specs.Row.{Row, Nothing, Line, Fault}
use Rattle.fisca_writer.specs.Lines.{lines, End, AtEnd, MoreFrom, FaultAt, run_end}
use Rattle.fisca_writer.proofs.Walk.{one_less, lines-dropped, lines-kept, lines-fault, lines-over, run_end-dropped, run_end-kept, run_end-fault, run_end-past, run_end-stopped}

-- the lines before a position and those from it on are those of the whole grid, whose end is that of its rest
pub record Goes {F : Type 0} (row : ℕ → Row F) (size stop from : ℕ) (limit : Option ℕ) (position : ℕ) : Type 0 where
  pub lines_follow : lines row size from None ≡ lines row stop from limit ++ lines row size position None
  pub same_end : run_end row size from None ≡ run_end row size position None
  pub behind : from ≤ position

-- What the end of a run that stops at `stop` says of the lines of a grid of `size` positions. Where no position is left before `stop`, the rest begins
-- at `rest`.
abbrev pub IsLeft : {F : Type 0} → (ℕ → Row F) → ℕ → ℕ → ℕ → ℕ → Option ℕ → End F → Type 0
IsLeft row size stop rest from limit AtEnd = Goes row size stop from limit rest
IsLeft row size stop rest from limit (MoreFrom position) = Goes row size stop from limit position × (position < stop)
IsLeft row size stop rest from limit (FaultAt position x) =
    (row position ≡ Fault x) × (lines row size from None ≡ lines row stop from limit) × (run_end row size from None ≡ FaultAt position x)

module _ {F : Type 0} (row : ℕ → Row F) (size stop rest from : ℕ) (limit : Option ℕ) (room : stop ≤ size) where
  -- nothing stands at the start
  goes_dropped : (position : ℕ) → from < stop → ¬ (limit ≡ Some 0) → row from ≡ Nothing → Goes row size stop (from + 1) limit position → Goes row size stop from limit position
  goes_dropped position within some is left =
      let inside : from < size = omega arith in
      let later = left.behind in
      record {
        lines_follow = lines-dropped row size from None inside is ∙ (left.lines_follow ∙ ap (λ xs. xs ++ lines row size position None) (sym (lines-dropped row stop from limit within is)));
        same_end = run_end-dropped row size from None inside (λ e. absurd (cc)) is ∙ left.same_end;
        behind = omega (arith, later);
      }

  after_dropped : (end : End F) → from < stop → ¬ (limit ≡ Some 0) → row from ≡ Nothing → IsLeft row size stop rest (from + 1) limit end → IsLeft row size stop rest from limit end
  after_dropped AtEnd within some is left = goes_dropped rest within some is left
  after_dropped (MoreFrom position) within some is left = (goes_dropped position within some is left.0, left.1)
  after_dropped (FaultAt position x) within some is left =
      let inside : from < size = omega arith in (
        left.0,
        lines-dropped row size from None inside is ∙ (left.1 ∙ sym (lines-dropped row stop from limit within is)),
        run_end-dropped row size from None inside (λ e. absurd (cc)) is ∙ left.2,
      )

  -- a line stands there
  goes_kept : (position : ℕ) (text : List ℕ) → from < stop → ¬ (limit ≡ Some 0) → row from ≡ Line text → Goes row size stop (from + 1) (one_less limit) position → Goes row size stop from limit position
  goes_kept position text within some is left =
      let inside : from < size = omega arith in
      let later = left.behind in
      record {
        lines_follow = lines-kept row size from None text inside (λ e. absurd (cc)) is
            ∙ (ap (λ xs. (from, text) ∷ xs) left.lines_follow ∙ ap (λ xs. xs ++ lines row size position None) (sym (lines-kept row stop from limit text within some is)));
        same_end = run_end-kept row size from None text inside (λ e. absurd (cc)) is ∙ left.same_end;
        behind = omega (arith, later);
      }

  after_kept : (end : End F) (text : List ℕ) → from < stop → ¬ (limit ≡ Some 0) → row from ≡ Line text → IsLeft row size stop rest (from + 1) (one_less limit) end → IsLeft row size stop rest from limit end
  after_kept AtEnd text within some is left = goes_kept rest text within some is left
  after_kept (MoreFrom position) text within some is left = (goes_kept position text within some is left.0, left.1)
  after_kept (FaultAt position x) text within some is left =
      let inside : from < size = omega arith in (
        left.0,
        lines-kept row size from None text inside (λ e. absurd (cc)) is ∙ (ap (λ xs. (from, text) ∷ xs) left.1 ∙ sym (lines-kept row stop from limit text within some is)),
        run_end-kept row size from None text inside (λ e. absurd (cc)) is ∙ left.2,
      )

  -- a fault stands there
  at_fault : (x : F) → from < stop → row from ≡ Fault x → IsLeft row size stop rest from limit (FaultAt from x)
  at_fault x within is =
      let inside : from < size = omega arith in (
        is,
        lines-fault row size from None x inside is ∙ sym (lines-fault row stop from limit x within is),
        run_end-fault row size from None x inside (λ e. absurd (cc)) is,
      )

  -- no position is left before the stop
  at_stop : stop ≤ from → rest ≡ from → IsLeft row size stop rest from limit AtEnd
  at_stop over here =
      let none : lines row stop from limit ++ lines row size rest None ≡ lines row size rest None = ap (λ xs. xs ++ lines row size rest None) (lines-over row stop from limit over) in
      record {
        lines_follow = sym (none ∙ ap (λ p. lines row size p None) here);
        same_end = ap (λ p. run_end row size p None) (sym here);
        behind = omega arith;
      }

-- the row at the start, before what is known from the next position on
left_some : {F : Type 0} (row : ℕ → Row F) (size stop rest from : ℕ) (limit : Option ℕ) (r : Row F) → stop ≤ size → row from ≡ r → from < stop → ¬ (limit ≡ Some 0)
    → ((limit : Option ℕ) → IsLeft row size stop rest (from + 1) limit (run_end row stop (from + 1) limit)) → IsLeft row size stop rest from limit (run_end row stop from limit)
left_some row size stop rest from limit Nothing room is within some later =
    subst (IsLeft row size stop rest from limit) (sym (run_end-dropped row stop from limit within some is)) (after_dropped row size stop rest from limit room _ within some is (later limit))
left_some row size stop rest from limit (Line text) room is within some later =
    subst (IsLeft row size stop rest from limit) (sym (run_end-kept row stop from limit text within some is)) (after_kept row size stop rest from limit room _ text within some is (later (one_less limit)))
left_some row size stop rest from limit (Fault x) room is within some later =
    subst (IsLeft row size stop rest from limit) (sym (run_end-fault row stop from limit x within some is)) (at_fault row size stop rest from limit room x within is)

left_row : {F : Type 0} (row : ℕ → Row F) (size stop rest from : ℕ) (limit : Option ℕ) → stop ≤ size → from < stop
    → ((limit : Option ℕ) → IsLeft row size stop rest (from + 1) limit (run_end row stop (from + 1) limit)) → IsLeft row size stop rest from limit (run_end row stop from limit)
left_row row size stop rest from None room within later = left_some row size stop rest from None (row from) room refl within (λ e. absurd (cc)) later
left_row row size stop rest from (Some zero) room within later =
    let there : Goes row size stop from (Some 0) from = record { lines_follow = refl; same_end = refl; behind = omega arith } in
    subst (IsLeft row size stop rest from (Some 0)) (sym (run_end-stopped row stop from within)) (there, within)
left_row row size stop rest from (Some (suc before)) room within later = left_some row size stop rest from (Some (suc before)) (row from) room refl within (λ e. absurd (cc)) later

pub left_past : {F : Type 0} (row : ℕ → Row F) (size stop rest from : ℕ) (limit : Option ℕ) → stop ≤ size → stop ≤ from → rest ≡ from → IsLeft row size stop rest from limit (run_end row stop from limit)
left_past row size stop rest from limit room over here =
    subst (IsLeft row size stop rest from limit) (sym (run_end-past row stop from limit over)) (at_stop row size stop rest from limit room over here)

pub left_from : {F : Type 0} (row : ℕ → Row F) (size stop from count : ℕ) (limit : Option ℕ) → stop ≤ size → count ≡ stop - from → from ≤ stop → IsLeft row size stop stop from limit (run_end row stop from limit)
left_from row size stop from zero limit room is within = left_past row size stop stop from limit room (omega arith) (omega arith)
left_from row size stop from (suc count) limit room is within =
    left_row row size stop stop from limit room (omega arith) (λ limit. left_from row size stop (from + 1) count limit room (omega arith) (omega arith))
