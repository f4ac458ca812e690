-- Blocks, a turn at a time.
use Rattle.std.proofs.Common.{◌≡◌, ℕ, zero, suc, ◌-◌, ◌<◌, List, [], ◌∷◌, ◌++◌, refl, sym, ap, ◌∙◌, arith, append_assoc, append-nil}
use Rattle.std.specs.Prelude.{Option, Some, None, Ok, Err, map, option_map}
use Rattle.std.specs.Option.{option_to_list}
use Rattle.std.proofs.lemmas.List.{map-append}
use Rattle.fisca_ast.specs.declared.fault.FormulaFault.{FormulaFault}
use Rattle.fisca_parser.specs.Lines.{Line}
use Rattle.fisca_ast.specs.Modules.{Assigned, Answer, Step, local, result}
use Rattle.fisca_parser.specs.Reading.{Outcome, Reader, and_then, pure, put, turn, after_turn, block, step_at, step_at, after_step, body, missing}

-- so many turns are left, these were read before
abbrev pub Going : {A : Type 0} → ℕ → (Line → Reader (Option A)) → Outcome (List A) → List A → ℕ → List Line → Type 0
Going i one whole ys n ls = whole ≡ and_then (block i one n ls) (λ xs. pure (ys ++ xs))

deeper : {A : Type 0} (i : ℕ) (one : Line → Reader (Option A)) (n : ℕ) (ls : List Line) → 0 < n → block i one n ls ≡ and_then (turn i one ls) (after_turn (block i one (n - 1)))
unfolding block
deeper i one zero ls some = absurd (omega arith)
deeper i one (suc n) ls some = let e : n ≡ suc n - 1 = omega arith in ap (λ k. and_then (turn i one ls) (after_turn (block i one k))) e

pub ends : {A : Type 0} (i : ℕ) (one : Line → Reader (Option A)) (whole : Outcome (List A)) (ys : List A) (n : ℕ) (ls rest : List Line) → Going i one whole ys n ls → 0 < n → turn i one ls ≡ Ok (None, rest) → whole ≡ Ok (ys, rest)
ends i one whole ys n ls rest going some e =
    going ∙ ap (λ o. and_then o (λ xs. pure (ys ++ xs))) (deeper i one n ls some ∙ ap (λ o. and_then o (after_turn (block i one (n - 1)))) e) ∙ ap (λ xs. Ok (xs, rest)) (append-nil ys)

pub fails : {A : Type 0} (i : ℕ) (one : Line → Reader (Option A)) (whole : Outcome (List A)) (ys : List A) (n : ℕ) (ls : List Line) (f : FormulaFault) → Going i one whole ys n ls → 0 < n → turn i one ls ≡ Err f → whole ≡ Err f
fails i one whole ys n ls f going some e = going ∙ ap (λ o. and_then o (λ xs. pure (ys ++ xs))) (deeper i one n ls some ∙ ap (λ o. and_then o (after_turn (block i one (n - 1)))) e)

put_more : {A : Type 0} (ys : List A) (x : Option A) (xs : List A) → ys ++ put x xs ≡ (ys ++ option_to_list x) ++ xs
put_more ys None xs = ap (λ zs. zs ++ xs) (sym (append-nil ys))
put_more ys (Some x) xs = sym (append_assoc ys (x ∷ []) xs)

behind : {A : Type 0} (ys : List A) (x : Option A) (o : Outcome (List A)) → and_then (and_then o (λ xs. pure (put x xs))) (λ xs. pure (ys ++ xs)) ≡ and_then o (λ xs. pure ((ys ++ option_to_list x) ++ xs))
behind ys x (Ok p) = ap (λ zs. Ok (zs, p.1)) (put_more ys x p.0)
behind ys x (Err f) = refl

pub goes : {A : Type 0} (i : ℕ) (one : Line → Reader (Option A)) (whole : Outcome (List A)) (ys zs : List A) (n m : ℕ) (ls rest : List Line) (x : Option A) → Going i one whole ys n ls → 0 < n → turn i one ls ≡ Ok (Some x, rest) → zs ≡ ys ++ option_to_list x → m ≡ n - 1 → Going i one whole zs m rest
goes i one whole ys zs n m ls rest x going some e z fewer =
    going ∙ ap (λ o. and_then o (λ xs. pure (ys ++ xs))) (deeper i one n ls some ∙ ap (λ o. and_then o (after_turn (block i one (n - 1)))) e)
    ∙ behind ys x (block i one (n - 1) rest)
    ∙ ap (λ k. and_then (block i one k rest) (λ xs. pure ((ys ++ option_to_list x) ++ xs))) (sym fewer)
    ∙ ap (λ vs. and_then (block i one m rest) (λ xs. pure (vs ++ xs))) (sym z)

pub stops : {A : Type 0} (i : ℕ) (one : Line → Reader (Option A)) (whole : Outcome (List A)) (ys : List A) (n : ℕ) (ls : List Line) → Going i one whole ys n ls → n ≡ 0 → whole ≡ Ok (ys, ls)
unfolding block
stops i one whole ys n ls going none = going ∙ ap (λ k. and_then (block i one k ls) (λ xs. pure (ys ++ xs))) none ∙ ap (λ xs. Ok (xs, ls)) (append-nil ys)

-- the same of a formula's body
abbrev Body : Type 0
Body = List Assigned × Answer

abbrev pub Behind : List ℕ → ℕ → ℕ → Outcome (List Assigned × Answer) → List Assigned → ℕ → List Line → Type 0
Behind source end i whole ys n ls = whole ≡ and_then (body source end i n ls) (λ b. pure (ys ++ b.0, b.1))

body_deeper : (source : List ℕ) (end i n : ℕ) (ls : List Line) → 0 < n → body source end i n ls ≡ and_then (step_at source end i ls) (after_step (body source end i (n - 1)))
unfolding body
body_deeper source end i zero ls some = absurd (omega arith)
body_deeper source end i (suc n) ls some = let e : n ≡ suc n - 1 = omega arith in ap (λ k. and_then (step_at source end i ls) (after_step (body source end i k))) e

stepped : (source : List ℕ) (end i : ℕ) (whole : Outcome Body) (ys : List Assigned) (n : ℕ) (ls : List Line) (o : Outcome Step) → Behind source end i whole ys n ls → 0 < n → step_at source end i ls ≡ o → whole ≡ and_then (and_then o (after_step (body source end i (n - 1)))) (λ b. pure (ys ++ b.0, b.1))
stepped source end i whole ys n ls o going some e = going ∙ ap (λ o. and_then o (λ b. pure (ys ++ b.0, b.1))) (body_deeper source end i n ls some ∙ ap (λ o. and_then o (after_step (body source end i (n - 1)))) e)

pub body_fails : (source : List ℕ) (end i : ℕ) (whole : Outcome Body) (ys : List Assigned) (n : ℕ) (ls : List Line) (f : FormulaFault) → Behind source end i whole ys n ls → 0 < n → step_at source end i ls ≡ Err f → whole ≡ Err f
body_fails source end i whole ys n ls f going some e = stepped source end i whole ys n ls (Err f) going some e

pub body_ends : (source : List ℕ) (end i : ℕ) (whole : Outcome Body) (ys : List Assigned) (n : ℕ) (ls rest : List Line) (r : Answer) → Behind source end i whole ys n ls → 0 < n → step_at source end i ls ≡ Ok (result r, rest) → whole ≡ Ok ((ys, r), rest)
body_ends source end i whole ys n ls rest r going some e = stepped source end i whole ys n ls (Ok (result r, rest)) going some e ∙ ap (λ xs. Ok ((xs, r), rest)) (append-nil ys)

abbrev put_local : Assigned → Body → Reader Body
put_local a b = pure (a ∷ b.0, b.1)

abbrev put_all : List Assigned → Body → Reader Body
put_all ys b = pure (ys ++ b.0, b.1)

one_local : (ys : List Assigned) (a : Assigned) (o : Outcome Body) → and_then (and_then o (put_local a)) (put_all ys) ≡ and_then o (put_all (ys ++ a ∷ []))
one_local ys a (Ok p) = ap (λ xs. Ok ((xs, p.0.1), p.1)) (sym (append_assoc ys (a ∷ []) p.0.0))
one_local ys a (Err f) = refl

pub body_goes : (source : List ℕ) (end i : ℕ) (whole : Outcome Body) (ys zs : List Assigned) (n m : ℕ) (ls rest : List Line) (a : Assigned) → Behind source end i whole ys n ls → 0 < n → step_at source end i ls ≡ Ok (local a, rest) → zs ≡ ys ++ a ∷ [] → m ≡ n - 1 → Behind source end i whole zs m rest
body_goes source end i whole ys zs n m ls rest a going some e z fewer =
    stepped source end i whole ys n ls (Ok (local a, rest)) going some e
    ∙ one_local ys a (body source end i (n - 1) rest)
    ∙ ap (λ k. and_then (body source end i k rest) (λ b. pure ((ys ++ a ∷ []) ++ b.0, b.1))) (sym fewer)
    ∙ ap (λ vs. and_then (body source end i m rest) (λ b. pure (vs ++ b.0, b.1))) (sym z)

pub body_stops : (source : List ℕ) (end i : ℕ) (whole : Outcome Body) (ys : List Assigned) (n : ℕ) (ls : List Line) → Behind source end i whole ys n ls → n ≡ 0 → whole ≡ missing end ls
unfolding body
body_stops source end i whole ys n ls going none = going ∙ ap (λ k. and_then (body source end i k ls) (λ b. pure (ys ++ b.0, b.1))) none

-- lists that are seen by a view, one more
pub kept : {A B : Type 0} (view : A → B) (old new : List A) (x : Option A) → new ≡ old ++ option_to_list x → map view new ≡ map view old ++ option_to_list (option_map view x)
kept view old new None e = ap (map view) e ∙ map-append view old []
kept view old new (Some x) e = ap (map view) e ∙ map-append view old (x ∷ [])

pub pushed : {A B : Type 0} (view : A → B) (old new : List A) (x : A) → new ≡ old ++ x ∷ [] → map view new ≡ map view old ++ view x ∷ []
pushed view old new x e = ap (map view) e ∙ map-append view old (x ∷ [])
