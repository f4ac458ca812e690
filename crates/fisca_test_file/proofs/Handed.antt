-- What a sink has of a text that is handed over in parts.
use Rattle.std.proofs.Common.{◌≡◌, ◌∙◌, ℕ, ◌+◌, ◌<◌, List, [], ◌++◌, Option, length, take, drop, ap, refl, sym, arith, append_assoc, take-append-drop}
use Rattle.std.proofs.KnownBytes.{Appends-nil, Appends-trans}
use Rattle.std.proofs.Math.Seq.{take-append-add, take-append_seam}
use Rattle.std.proofs.lemmas.List.{length-append}
use Rattle.std.specs.Io.KnownBytes.{Appends}
use Rattle.fisca_writer.specs.Run.{AppendsPart, IsProperPrefix}
use Rattle.fisca_test_file.specs.Handing.{AppendsSome}

pub none_yet : (text : List ℕ) (old : Option (List ℕ)) → AppendsSome text old old
none_yet text old = ([], text, refl, Appends-nil old)

pub from_part : (text : List ℕ) (old new : Option (List ℕ)) → AppendsPart text old new → AppendsSome text old new
from_part text old new p =
    let split : text ≡ p.0 ++ drop (length p.0) text = sym (take-append-drop (length p.0) text) ∙ ap (λ x. x ++ drop (length p.0) text) (sym p.1.beginning) in
    (p.0, drop (length p.0) text, split, p.2)

pub in_front : (a b : List ℕ) (old new : Option (List ℕ)) → AppendsSome a old new → AppendsSome (a ++ b) old new
in_front a b old new p = (p.0, p.1 ++ b, ap (λ x. x ++ b) p.2 ∙ append_assoc p.0 p.1 b, p.3)

pub behind : (a b : List ℕ) (old mid new : Option (List ℕ)) → Appends old mid a → AppendsSome b mid new → AppendsSome (a ++ b) old new
behind a b old mid new first p = (a ++ p.0, p.1, ap (λ x. a ++ x) p.2 ∙ sym (append_assoc a p.0 p.1), Appends-trans old mid new a p.0 first p.3)

-- a text is not all there before one that is not empty
pub not_all : (a b : List ℕ) (old new : Option (List ℕ)) → 0 < length b → AppendsSome a old new → AppendsPart (a ++ b) old new
not_all a b old new some p =
    let whole : a ++ b ≡ p.0 ++ (p.1 ++ b) = ap (λ x. x ++ b) p.2 ∙ append_assoc p.0 p.1 b in
    let count : length (a ++ b) ≡ length p.0 + length (p.1 ++ b) = ap length whole ∙ length-append p.0 (p.1 ++ b) in
    let rest : length (p.1 ++ b) ≡ length p.1 + length b = length-append p.1 b in
    let beginning : p.0 ≡ take (length p.0) (a ++ b) = sym (ap (take (length p.0)) whole ∙ take-append_seam p.0 (p.1 ++ b)) in
    (p.0, record { beginning = beginning; shorter = omega (arith, some, count, rest) }, p.3)

pub part_behind : (a b : List ℕ) (old mid new : Option (List ℕ)) → Appends old mid a → AppendsPart b mid new → AppendsPart (a ++ b) old new
part_behind a b old mid new first p =
    let whole : length (a ++ b) ≡ length a + length b = length-append a b in
    let front : length (a ++ p.0) ≡ length a + length p.0 = length-append a p.0 in
    let is : IsProperPrefix (a ++ p.0) (a ++ b) = record {
      beginning = ap (λ z. a ++ z) p.1.beginning ∙ sym (take-append-add a b (length p.0)) ∙ ap (λ n. take n (a ++ b)) (sym front);
      shorter = omega (arith, p.1.shorter, whole, front);
    } in
    (a ++ p.0, is, Appends-trans old mid new a p.0 first p.2)
