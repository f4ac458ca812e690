-- The shares of parts, and their lines.
use Rattle.std.proofs.Common.{◌≡◌, ℕ, zero, suc, ◌+◌, ◌-◌, ◌*◌, ◌/◌, ◌<◌, ◌≤◌, ◌++◌, Option, Some, None, refl, sym, ap, ◌∙◌, arith, subst}
use Rattle.std.proofs.lemmas.Nat.{div-add-mod', div-mul-add, le-div}
use Rattle.std.specs.Option.{option_map_or}
use Rattle.fisca_writer.specs.Lines.{End, lines, AtEnd, FaultAt, first_fault, run_end}
use Rattle.fisca_writer.specs.Parts.{share_of}
use Rattle.fisca_writer.specs.Ranges.{before, lines_of_parts, range_lines}
use Rattle.fisca_writer.specs.Row.{Row}
use Rattle.fisca_writer.proofs.Remaining.{Goes, IsLeft, left_from}
use Rattle.fisca_writer.proofs.Walk.{lines-over}

pub first_share : (size count : ℕ) → 0 < count → share_of size count 0 ≡ 0
first_share size count some = let none : size * 0 ≡ 0 * count + 0 = omega arith in ap (λ n. n / count) none ∙ div-mul-add 0 count 0 some

pub last_share : (size count : ℕ) → 0 < count → share_of size count count ≡ size
last_share size count some = let all : size * count ≡ size * count + 0 = omega arith in ap (λ n. n / count) all ∙ div-mul-add size count 0 some

more : (a b k : ℕ) → 0 < k → a ≤ b → a / k ≤ b / k
more a b k some less = let whole = div-add-mod' a k in le-div (a / k) b k some (omega (arith, whole))

pub rising_shares : (size count parts : ℕ) → 0 < count → share_of size count parts ≤ share_of size count (parts + 1)
rising_shares size count parts some = more (size * parts) (size * (parts + 1)) count some (omega arith)

times_less : (size a b : ℕ) → a ≤ b → size * a ≤ size * b
times_less size a b less = let rest : b ≡ a + (b - a) = omega arith in let all : size * b ≡ size * a + size * (b - a) = ap (λ n. size * n) rest ∙ (omega arith) in omega arith

-- a share is no more than the whole
pub share_within : (size count parts : ℕ) → 0 < count → parts ≤ count → share_of size count parts ≤ size
share_within size count parts some less =
    let all = last_share size count some in
    let part = more (size * parts) (size * count) count some (times_less size parts count less) in omega (arith, all, part)

-- the end of a run without a limit, by its first fault
abbrev end_of : {F : Type 0} → Option (ℕ × F) → End F
end_of o = option_map_or (λ fault. FaultAt fault.0 fault.1) o AtEnd

module _ {F : Type 0} (row : ℕ → Row F) (size : ℕ) (clear : run_end row size 0 None ≡ AtEnd) where
  clear_below : (stop : ℕ) (o : Option (ℕ × F)) → IsLeft row size stop stop 0 None (end_of o) → end_of o ≡ AtEnd
  clear_below stop None left = refl
  clear_below stop (Some fault) left = let is = sym clear ∙ left.2 in absurd (cc)

  -- no fault stands before a position, where none stands in the grid
  all_clear : (stop : ℕ) → stop ≤ size → run_end row stop 0 None ≡ AtEnd
  all_clear stop room = clear_below stop (first_fault row stop 0) (left_from row size stop 0 stop None room (omega arith) (omega arith))

  module _ (count : ℕ) (some : 0 < count) where
    next_part : (here there : ℕ) → here ≤ there → there ≤ size → lines row there 0 None ≡ lines row here 0 None ++ lines row there here None
    next_part here there less room =
        let left : Goes row there here 0 None here = subst (IsLeft row there here here 0 None) (all_clear here (omega arith)) (left_from row there here 0 here None less (omega arith) (omega arith)) in
        left.lines_follow

    some_parts : (parts : ℕ) → parts ≤ count → lines_of_parts row size count parts ≡ lines row (share_of size count parts) 0 None
    some_parts zero less = let none = first_share size count some in sym (lines-over row (share_of size count 0) 0 None (omega (arith, none)))
    some_parts (suc parts) less =
        let rising : share_of size count parts ≤ share_of size count (suc parts) = more (size * parts) (size * suc parts) count some (times_less size parts (suc parts) (omega arith)) in
        let room = share_within size count (suc parts) some less in
        ap (λ xs. xs ++ range_lines row size (share_of size count parts) (before (share_of size count (suc parts)))) (some_parts parts (omega arith))
        ∙ sym (next_part (share_of size count parts) (share_of size count (suc parts)) (omega (arith, rising)) room)

    pub all_parts : lines_of_parts row size count count ≡ lines row size 0 None
    all_parts = some_parts count (omega arith) ∙ ap (λ n. lines row n 0 None) (last_share size count some)

pub parts_law : {F : Type 0} (row : ℕ → Row F) (size count : ℕ) → 0 < count → run_end row size 0 None ≡ AtEnd → lines_of_parts row size count count ≡ lines row size 0 None
parts_law row size count some clear = all_parts row size clear count some
