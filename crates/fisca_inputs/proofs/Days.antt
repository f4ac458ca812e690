-- Periods that share a day.
use Rattle.std.proofs.Common.{◌≡◌, ◌↔◌, ◌<◌, ◌≤◌, inl, inr, ℕ, Bool, true, false, ◌&&◌, IsTrue, arith, refl, sym}
use Rattle.std.specs.Prelude.{nat_lt}
use Rattle.std.proofs.lemmas.Bool.{and_parts, cases_lt, lt-ltb, ltb-true}
use Rattle.fisca_time.specs.Period.{Span, eternity, months, days, start_day, stop_day, Overlaps}
use Rattle.fisca_inputs.specs.Overlaps.{shares_day}

-- two rows of numbers, each from a first one to before an end, have one in common
row_met : (a b c d : ℕ) → ((nat_lt a b && nat_lt c d) && (nat_lt a d && nat_lt c b)) ≡ true ↔ ((day : ℕ) × ((a ≤ day) × (day < b)) × ((c ≤ day) × (day < d)))
row_met a b c d = (to, from)
  where
    to : ((nat_lt a b && nat_lt c d) && (nat_lt a d && nat_lt c b)) ≡ true → (day : ℕ) × ((a ≤ day) × (day < b)) × ((c ≤ day) × (day < d))
    to t =
        let halves = and_parts (nat_lt a b && nat_lt c d) (nat_lt a d && nat_lt c b) t in
        let own = and_parts (nat_lt a b) (nat_lt c d) halves.0 in
        let other = and_parts (nat_lt a d) (nat_lt c b) halves.1 in
        let ab : a < b = ltb-true a b own.0 in
        let cd : c < d = ltb-true c d own.1 in
        let ad : a < d = ltb-true a d other.0 in
        let cb : c < b = ltb-true c b other.1 in
        elim (cases_lt a c) [
          | inl lt ↦ (c, (omega arith, cb), (omega arith, cd))
          | inr le ↦ (a, (omega arith, ab), (le, ad))
        ]

    from : ((day : ℕ) × ((a ≤ day) × (day < b)) × ((c ≤ day) × (day < d))) → ((nat_lt a b && nat_lt c d) && (nat_lt a d && nat_lt c b)) ≡ true
    from met =
        let ours = met.1 in
        let theirs = met.2 in
        let ab : a < b = omega arith in
        let cd : c < d = omega arith in
        let ad : a < d = omega arith in
        let cb : c < b = omega arith in
        rw (lt-ltb a b ab, lt-ltb c d cd, lt-ltb a d ad, lt-ltb c b cb) refl

row_some : (a b : ℕ) → nat_lt a b ≡ true ↔ ((day : ℕ) × (a ≤ day) × (day < b))
row_some a b = (λ t. let ab : a < b = ltb-true a b t in (a, omega arith, ab), λ met. let low = met.1 in let high = met.2 in lt-ltb a b (omega arith))

and_true : (x : Bool) → (x && true) ≡ true ↔ x ≡ true
and_true true = (λ e. e, λ e. e)
and_true false = (λ e. e, λ e. e)

met : (p q : Span) → IsTrue (shares_day p q) ↔ Overlaps p q
met eternity eternity = (λ _. (0, tt, tt), λ _. refl)
met eternity (months u m s) =
    let row = row_some (start_day (months u m s)) (stop_day (months u m s)) in
    (λ t. let day = row.0 ((and_true _).0 t) in (day.0, tt, (day.1, day.2)), λ o. (and_true _).1 (row.1 (o.0, o.2.0, o.2.1)))
met eternity (days d s) =
    let row = row_some (start_day (days d s)) (stop_day (days d s)) in
    (λ t. let day = row.0 ((and_true _).0 t) in (day.0, tt, (day.1, day.2)), λ o. (and_true _).1 (row.1 (o.0, o.2.0, o.2.1)))
met (months u m s) eternity =
    let row = row_some (start_day (months u m s)) (stop_day (months u m s)) in
    (λ t. let day = row.0 ((and_true _).0 ((and_true _).0 t)) in (day.0, (day.1, day.2), tt), λ o. (and_true _).1 ((and_true _).1 (row.1 (o.0, o.1.0, o.1.1))))
met (days d s) eternity =
    let row = row_some (start_day (days d s)) (stop_day (days d s)) in
    (λ t. let day = row.0 ((and_true _).0 ((and_true _).0 t)) in (day.0, (day.1, day.2), tt), λ o. (and_true _).1 ((and_true _).1 (row.1 (o.0, o.1.0, o.1.1))))
met (months u m s) (months v n r) = row_met (start_day (months u m s)) (stop_day (months u m s)) (start_day (months v n r)) (stop_day (months v n r))
met (months u m s) (days e r) = row_met (start_day (months u m s)) (stop_day (months u m s)) (start_day (days e r)) (stop_day (days e r))
met (days d s) (months v n r) = row_met (start_day (days d s)) (stop_day (days d s)) (start_day (months v n r)) (stop_day (months v n r))
met (days d s) (days e r) = row_met (start_day (days d s)) (stop_day (days d s)) (start_day (days e r)) (stop_day (days e r))

same_truth : (a b : Bool) → a ≡ true ↔ b ≡ true → a ≡ b
same_truth true true h = refl
same_truth true false h = sym (h.0 refl)
same_truth false true h = h.1 refl
same_truth false false h = refl

pub shares_is : (p q : Span) (b : Bool) → IsTrue b ↔ Overlaps p q → b ≡ shares_day p q
shares_is p q b h = let same = met p q in same_truth b (shares_day p q) (λ t. same.1 (h.0 t), λ t. h.1 (same.0 t))
