-- What a sink has of a text that is handed over in two parts.
use Rattle.std.proofs.Common.{OnErr, Result, Ok, Err, ◌≡◌, ℕ, ◌+◌, List, ◌++◌, length, take, sym, ◌∙◌, ap, arith}
use Rattle.std.proofs.lemmas.List.{take-append-le, length-append}
use Rattle.std.proofs.Math.Seq.{take-append-add}
use Rattle.fisca_writer.specs.Run.{IsProperPrefix}

-- a beginning of the first part
pub of_first : (part xs ys : List ℕ) → IsProperPrefix part xs → IsProperPrefix part (xs ++ ys)
of_first part xs ys p =
    let whole : length (xs ++ ys) ≡ length xs + length ys = length-append xs ys in
    record {
      beginning = p.beginning ∙ sym (take-append-le (length part) xs ys (omega (arith, p.shorter)));
      shorter = omega (arith, p.shorter, whole);
    }

-- the first part, and a beginning of the second
pub of_second : (part xs ys : List ℕ) → IsProperPrefix part ys → IsProperPrefix (xs ++ part) (xs ++ ys)
of_second part xs ys p =
    let whole : length (xs ++ ys) ≡ length xs + length ys = length-append xs ys in
    let front : length (xs ++ part) ≡ length xs + length part = length-append xs part in
    record {
      beginning = ap (λ z. xs ++ z) p.beginning ∙ sym (take-append-add xs ys (length part)) ∙ ap (λ n. take n (xs ++ ys)) (sym front);
      shorter = omega (arith, p.shorter, whole, front);
    }

pub on_err : {X E P Q : Type 0} (r : Result X E) → (P → Q) → OnErr r P → OnErr r Q
on_err (Ok x) f h = h
on_err (Err e) f h = f h
