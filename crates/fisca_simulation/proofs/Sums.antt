-- Sums over the parts of a period, step by step, and what nothing is noted of.
use Rattle.std.proofs.Common.{◌≡◌, ℕ, List, ◌∷◌, ◌++◌, Option, Result, Ok, Err, true, false, refl, sym, ap, ◌∙◌, subst}
use Rattle.fisca_num.specs.Number.{Number, one_number, zero_number}
use Rattle.fisca_num.specs.Operations.{sum_of}
use Rattle.fisca_num.specs.declared.faults.NumFault.{NumFault}
use Rattle.fisca_model.specs.Values.{Value, Key, number, bool, member}
use Rattle.fisca_typing.specs.Answers.{arithmetic_of}
use Rattle.fisca_typing.specs.Questions.{ask_all, key}
use Rattle.fisca_key_semantics.specs.Dialogues.{Dialogue, ◌>>=◌, computed, fault_of}
use Rattle.fisca_key_semantics.specs.Dialogues as plain
use Rattle.fisca_time.specs.Period.{Span}
use Rattle.fisca_typing.specs.declared.operations.Arithmetic.TheVariants as arith
use Rattle.fisca_simulation.specs.NotedFormulas.{with_number}
use Rattle.fisca_simulation.specs.Noted.{Noted, asks, behind, unread}
use Rattle.fisca_simulation.specs.Played.{fault, nowhere, played, value}
use Rattle.fisca_simulation.specs.declared.note.Note.{Note}
use Rattle.fisca_simulation.proofs.Playing.{Leads}
use Rattle.fisca_simulation.proofs.Turns.{turn}

abbrev same_after : {f g : Value → Noted} → ((v : Value) → f v ≡ g v) → f ≡ g
same_after h = λ i v. h v i

pub unread_behind : (d : Dialogue) (f : Value → Dialogue) → unread (d >>= f) ≡ behind (unread d) (λ v. unread (f v))
unread_behind (plain.gives v) f = refl
unread_behind (plain.fails e) f = refl
unread_behind plain.stuck f = refl
unread_behind (plain.asks k g) f = ap (asks k) (same_after (λ v. unread_behind (g v) f))

unread_number : (x : Value) (f : Number → Dialogue) → unread (plain.with_number x f) ≡ with_number x (λ n. unread (f n))
unread_number (number n) f = refl
unread_number (bool true) f = refl
unread_number (bool false) f = refl
unread_number (member i) f = refl

-- the parts behind one more
abbrev pub more : ℕ → ℕ → List Span → Value → Noted
more v m ps y = with_number y (λ t. unread (ask_all v m ps t))

step_of : (v m : ℕ) (ps : List Span) (s : Number) (x : Value)
    → unread (plain.with_number x (λ n. computed (sum_of s n) >>= λ y. plain.with_number y (λ t. ask_all v m ps t))) ≡ behind (unread (arithmetic_of arith.Add (number s) x)) (more v m ps)
step_of v m ps s (number n) = unread_behind (computed (sum_of s n)) _ ∙ ap (behind (unread (computed (sum_of s n)))) (same_after (λ y. unread_number y _))
step_of v m ps s (bool true) = unread_behind (computed (sum_of s _)) _ ∙ ap (behind (unread (computed (sum_of s _)))) (same_after (λ y. unread_number y _))
step_of v m ps s (bool false) = unread_behind (computed (sum_of s _)) _ ∙ ap (behind (unread (computed (sum_of s _)))) (same_after (λ y. unread_number y _))
step_of v m ps s (member i) = refl

pub all_step : (v m : ℕ) (p : Span) (ps : List Span) (s : Number)
    → unread (ask_all v m (p ∷ ps) s) ≡ behind (unread (plain.asks (key v m p) plain.gives)) (λ x. behind (unread (arithmetic_of arith.Add (number s) x)) (more v m ps))
all_step v m p ps s = ap (asks (key v m p)) (same_after (λ x. step_of v m ps s x))

-- a number that is worked out
computed_number : (W : Key → Option Value) (r : Result Number NumFault) (v : Value) → (played W (unread (computed r))).end ≡ value v → (t : Number) × (v ≡ number t)
computed_number W (Ok t) v e = let h : value (number t) ≡ value v = e in let same : v ≡ number t = cc in (t, same)
computed_number W (Err f) v e = let h : fault (fault_of f) ≡ value v = e in absurd cc

sum_number : (W : Key → Option Value) (s : Number) (x v : Value) → (played W (unread (arithmetic_of arith.Add (number s) x))).end ≡ value v → (t : Number) × (v ≡ number t)
sum_number W s (number n) v e = computed_number W (sum_of s n) v e
sum_number W s (bool true) v e = computed_number W (sum_of s one_number) v e
sum_number W s (bool false) v e = computed_number W (sum_of s zero_number) v e
sum_number W s (member i) v e = let h : nowhere ≡ value v = e in absurd cc

-- the first of the parts that are left, with the sum so far
pub part_is : (v m : ℕ) (p : Span) (ps left : List Span) (s : Number) (sum : Value) → left ≡ p ∷ ps → sum ≡ number s
    → unread (ask_all v m left s) ≡ turn (unread (plain.asks (key v m p) plain.gives)) (arithmetic_of arith.Add sum) (more v m ps)
part_is v m p ps left s sum is seen =
    ap (λ qs. unread (ask_all v m qs s)) is ∙ all_step v m p ps s ∙ ap (λ z. turn (unread (plain.asks (key v m p) plain.gives)) (arithmetic_of arith.Add z) (more v m ps)) (sym seen)

-- with it, the rest is left
pub part_next : (W : Key → Option Value) (v m : ℕ) (ps : List Span) (s : Number) (whole : Noted) (sum x y : Value) (first mid : List Note) → sum ≡ number s → (played W (unread (arithmetic_of arith.Add sum x))).end ≡ value y
    → (now : List Note) × (mid ≡ first ++ now) × Leads W whole now (more v m ps y) → (now : List Note) × (t : Number) × (mid ≡ first ++ now) × (y ≡ number t) × Leads W whole now (unread (ask_all v m ps t))
part_next W v m ps s whole sum x y first mid seen e next =
    let found = sum_number W s x y (subst (λ z. (played W (unread (arithmetic_of arith.Add z x))).end ≡ value y) seen e) in
    (next.0, found.0, next.1, found.1, subst (λ z. Leads W whole next.0 (more v m ps z)) found.1 next.2)
