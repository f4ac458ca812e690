-- What a sink has taken of a piece that is handed over part by part.
use Rattle.std.proofs.Common.{Result, Ok, Err, ◌≡◌, ℕ, ◌++◌, ◌-◌, ◌≤◌, List, length, take, drop, Option, Some, None, ◌∙◌, ap, arith, append_assoc}
use Rattle.std.specs.Io.KnownBytes.{Appends, Keeps}
use Rattle.std.proofs.lemmas.Grind.{common_steps}
use Rattle.std.proofs.lemmas.Bool.Decides.{nat_tests}
use Rattle.fisca_writer.specs.Sink.{failures_after}

-- known bytes that grow twice
pub trans : (a b c : Option (List ℕ)) (xs ys : List ℕ) → Appends a b xs → Appends b c ys → Appends a c (xs ++ ys)
trans None b c xs ys p q = tt
trans (Some a) None c xs ys p q = absurd p
trans (Some a) (Some b) None xs ys p q = absurd q
trans (Some a) (Some b) (Some c) xs ys p q = q ∙ ap (λ z. z ++ ys) p ∙ append_assoc a xs ys

-- known bytes that stay, and then stay or grow
pub kept_then_kept : (a b c : Option (List ℕ)) → Keeps a b → Keeps b c → Keeps a c
kept_then_kept None b c p q = tt
kept_then_kept (Some a) None c p q = absurd p
kept_then_kept (Some a) (Some b) None p q = absurd q
kept_then_kept (Some a) (Some b) (Some c) p q = q ∙ p

pub kept_then_grown : (a b c : Option (List ℕ)) (xs : List ℕ) → Keeps a b → Appends b c xs → Appends a c xs
kept_then_grown None b c xs p q = tt
kept_then_grown (Some a) None c xs p q = absurd p
kept_then_grown (Some a) (Some b) None xs p q = absurd q
kept_then_grown (Some a) (Some b) (Some c) xs p q = q ∙ ap (λ z. z ++ xs) p

-- known bytes that grow, and then stay
pub grown_then_kept : (a b c : Option (List ℕ)) (xs : List ℕ) → Appends a b xs → Keeps b c → Appends a c xs
grown_then_kept None b c xs p q = tt
grown_then_kept (Some a) None c xs p q = absurd p
grown_then_kept (Some a) (Some b) None xs p q = absurd q
grown_then_kept (Some a) (Some b) (Some c) xs p q = q ∙ p

-- of `all`, `taken` is in the sink and `rest` is left
pub record IsTaken (all rest : List ℕ) (old new : Option (List ℕ)) : Type 0 where
  pub taken : List ℕ
  pub parts : taken ++ rest ≡ all
  pub written : Appends old new taken

regroup : (taken rest all : List ℕ) (n : ℕ) → n ≤ length rest → taken ++ rest ≡ all → (taken ++ take n rest) ++ take (length rest - n) (drop n rest) ≡ all
regroup taken rest all n within parts = grind (arith, common_steps)

-- n more bytes are taken
pub grown : (all rest : List ℕ) (old mid new : Option (List ℕ)) (n : ℕ) → IsTaken all rest old mid → n ≤ length rest → Appends mid new (take n rest) → IsTaken all (take (length rest - n) (drop n rest)) old new
grown all rest old mid new n split within more =
    let parts : (split.taken ++ take n rest) ++ take (length rest - n) (drop n rest) ≡ all = regroup split.taken rest all n within split.parts in
    record { taken = split.taken ++ take n rest; parts = parts; written = trans old mid new split.taken (take n rest) split.written more }

-- to take something is no failure
pub failures_after-some : {E : Type 0} (failures n : ℕ) (answer : Result ℕ E) (piece : List ℕ) → answer ≡ Ok n → ¬ (n ≡ 0) → failures_after failures answer piece ≡ failures
failures_after-some failures n (Ok m) piece is some = let same : m ≡ n = cc in grind (arith, nat_tests)
failures_after-some failures n (Err e) piece is some = absurd (cc)
