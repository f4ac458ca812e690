-- A turned wheel: what does not read it stays true, and what stays holds the work of each of its keys.
use Rattle.std.proofs.Common.{◌≡◌, inl, inr, ℕ, zero, suc, ◌+◌, ◌<◌, ◌≤◌, Bool, true, false, Option, None, Some, Ok, if◌then◌else◌, refl, sym, ap, subst, ◌∙◌, arith, ⊎_elim}
use Rattle.std.proofs.lemmas.Bool.{cases_lt, false≢true}
use Rattle.fisca_model.specs.Values.{Value, Key}
use Rattle.fisca_key_semantics.specs.Answers.{Source, Sources, refused, known, formula, outcome, at_once, value_within}
use Rattle.fisca_key_semantics.specs.Chains.{IsDefinite, asked}
use Rattle.fisca_key_semantics.specs.Inquiry.{Inquiry}
use Rattle.fisca_key_semantics.specs.Keys.{In}
use Rattle.fisca_key_semantics.proofs.Runs.{ends_same, ends_stays, asked_definite, asked_stays}
use Rattle.fisca_key_semantics.proofs.Fuel.{within_zero, at_formula, through_definite, stays, definite_stays}
use Rattle.fisca_memo_theory.specs.Entries.{Entry, Entries, Remembered}
use Rattle.fisca_memo_theory.specs.Memory.{IsKnown, IsTrueEntry, IsTrueMemory}
use Rattle.fisca_memo_theory.specs.Reads.{reads_wheel, Moves, ReadsAt, AreReads, unless_moved}
use Rattle.fisca_memo_theory.specs.Work.{IsWork, Covered}
use Rattle.fisca_memo_theory.proofs.Kept.{answer_kept, reads_kept, reads_grow, entry_kept, other_reads_kept}

formula_same : (d e : Inquiry) → formula d ≡ formula e → d ≡ e
formula_same d e h = cc

none_here : (s : Source) (key : Key) → IsDefinite (at_once s key) → (d : Inquiry) → s ≡ formula d → ⊥
none_here refused key h d e = cc
none_here (known v) key h d e = h
none_here (formula g) key h d e = h

-- What is read with more fuel than is needed is read with what is needed.
pub reads_back : (moves : Key → Type 0) (src : Sources) (n m : ℕ) (key : Key) → n ≤ m → IsDefinite (value_within src n key) → ReadsAt moves src m key → ReadsAt moves src n key
unfolding ReadsAt
reads_back moves src zero zero key le def r = r
reads_back moves src zero (suc m) key le def (inl r) = r
reads_back moves src zero (suc m) key le def (inr r) = absurd (none_here (src key) key (subst IsDefinite (within_zero src key) def) r.0 r.1)
reads_back moves src (suc n) zero key le def r = absurd (omega arith)
reads_back moves src (suc n) (suc m) key le def (inl r) = inl r
reads_back moves src (suc n) (suc m) key le def (inr r) =
    let less : n ≤ m = omega arith in
    let run : IsDefinite (outcome (value_within src n) r.0) = through_definite key _ (subst IsDefinite (at_formula src n key r.0 r.1) def) in
    let same = (ends_stays (value_within src n) (value_within src m) (stays src n m less) r.0 run).1 in
    let asks : In r.2 (asked (value_within src n) r.0) = subst (In r.2) same r.3 in
    inr (r.0, r.1, r.2, asks, reads_back moves src n m r.2 less (asked_definite (value_within src n) r.0 run r.2 asks) r.4)

-- With any two fuels that give an answer the same is read.
pub reads_same : (moves : Key → Type 0) (src : Sources) (n m : ℕ) (key : Key) → IsDefinite (value_within src n key) → ReadsAt moves src m key → ReadsAt moves src n key
reads_same moves src n m key def r = ⊎_elim
    (λ (lt : n < m). reads_back moves src n m key (omega arith) def r)
    (λ (ge : m ≤ n). reads_grow moves src m n key ge r)
    (cases_lt n m)

pub moved_reads : (moves : Key → Type 0) (src : Sources) (n : ℕ) (key : Key) → moves key → ReadsAt moves src n key
unfolding ReadsAt
moved_reads moves src zero key m = m
moved_reads moves src (suc n) key m = inl m

-- What is read by the work of a key is read by the key.
pub work_reads : (moves : Key → Type 0) (src : Sources) (n m : ℕ) (key k : Key) → IsWork src n key k → ReadsAt moves src m k → ReadsAt moves src (n + m) key
unfolding IsWork ReadsAt
work_reads moves src zero m key k w r = absurd w
work_reads moves src (suc n) m key k w r =
    let more : suc n + m ≡ suc (n + m) = omega arith in
    rw more (⊎_elim
    (λ (a : (j : Key) × In j (asked (value_within src n) w.0) × IsWork src n j k). inr (w.0, w.1, a.0, asked_stays (value_within src n) (value_within src (n + m)) (stays src n (n + m) (omega arith)) w.0 a.0 a.1, work_reads moves src n m a.0 k a.2 r))
    (λ (b : (k ≡ key) × ((v : Value) × (value_within src (suc n) key ≡ Ok v))). reads_grow moves src m (suc (n + m)) key (omega arith) (subst (ReadsAt moves src m) b.0 r))
    w.2)

-- With more fuel there is no less work.
pub work_grow : (src : Sources) (n m : ℕ) (key k : Key) → n ≤ m → IsWork src n key k → IsWork src m key k
unfolding IsWork
work_grow src zero m key k le w = absurd w
work_grow src (suc n) zero key k le w = absurd (omega arith)
work_grow src (suc n) (suc m) key k le w =
    let less : n ≤ m = omega arith in (
      w.0,
      w.1,
      ⊎_elim
          (λ (a : (j : Key) × In j (asked (value_within src n) w.0) × IsWork src n j k). inl (a.0, asked_stays (value_within src n) (value_within src m) (stays src n m less) w.0 a.0 a.1, work_grow src n m a.0 k less a.2))
          (λ (b : (k ≡ key) × ((v : Value) × (value_within src (suc n) key ≡ Ok v))). inr (b.0, (b.1.0, stays src (suc n) (suc m) le key (rw b.1.1 tt) ∙ b.1.1)))
          w.2,
    )

module _ (moves : Key → Type 0) (src src' : Sources) (same : (k : Key) → (moves k → ⊥) → src' k ≡ src k) where
  -- The work of a key that doesn't read what moved stays.
  pub work_kept : (n : ℕ) (key k : Key) → IsDefinite (value_within src n key) → (ReadsAt moves src n key → ⊥) → IsWork src' n key k → IsWork src n key k
  unfolding IsWork ReadsAt
  work_kept zero key k def free w = w
  work_kept (suc n) key k def free w =
      let e : src key ≡ formula w.0 = sym (same key (λ m. free (inl m))) ∙ w.1 in
      let run : IsDefinite (outcome (value_within src n) w.0) = through_definite key _ (subst IsDefinite (at_formula src n key w.0 e) def) in
      let one = ends_same (value_within src n) (value_within src' n) w.0 (λ j i. answer_kept moves src src' same n j (asked_definite (value_within src n) w.0 run j i) (λ q. free (inr (w.0, e, j, i, q)))) in (
        w.0,
        e,
        ⊎_elim
            (λ (a : (j : Key) × In j (asked (value_within src' n) w.0) × IsWork src' n j k).
            let asks : In a.0 (asked (value_within src n) w.0) = subst (In a.0) one.1 a.1 in
            inl (a.0, asks, work_kept n a.0 k (asked_definite (value_within src n) w.0 run a.0 asks) (λ q. free (inr (w.0, e, a.0, asks, q))) a.2))
            (λ (b : (k ≡ key) × ((v : Value) × (value_within src' (suc n) key ≡ Ok v))). inr (b.0, (b.1.0, sym (answer_kept moves src src' same (suc n) key def free) ∙ b.1.1)))
            w.2,
      )

abbrev bit_of : ℕ → Option Entry → Bool
bit_of wheel None = false
bit_of wheel (Some e) = reads_wheel e.reads wheel

-- what is left was there, and does not read the wheel
pub still_there : (wheel : ℕ) (o : Option Entry) (e : Entry) → unless_moved wheel o ≡ Some e → (o ≡ Some e) × (reads_wheel e.reads wheel ≡ false)
still_there wheel None e h = cc
still_there wheel (Some x) e h = by_bit (reads_wheel x.reads wheel) refl h
  where
    by_bit : (b : Bool) → reads_wheel x.reads wheel ≡ b → (if b then None else Some x) ≡ Some e → (Some x ≡ Some e) × (reads_wheel e.reads wheel ≡ false)
    by_bit true f h = cc
    by_bit false f h = (h, ap (bit_of wheel) (sym h) ∙ f)

pub still_here : (wheel : ℕ) (o : Option Entry) (e : Entry) → o ≡ Some e → reads_wheel e.reads wheel ≡ false → unless_moved wheel o ≡ Some e
still_here wheel o e h f = rw (h, f) refl

-- The wheel turns: what is remembered afterwards is true of what stands there then.
module _ (marks : Key → ℕ) (wheel : ℕ) (src src' : Sources) (same : (k : Key) → (Moves marks wheel k → ⊥) → src' k ≡ src k)
    (m m' : Entries) (dropped : (k : Key) → m' k ≡ unless_moved wheel (m k)) (t : IsTrueMemory src m) (r : AreReads marks src m) where
  was_known : (key : Key) (e : Entry) → m key ≡ Some e → IsKnown src e.height key e.value e.height
  was_known key e h = subst (IsTrueEntry src key) h (t.each key)

  free : (key : Key) (e : Entry) → m key ≡ Some e → reads_wheel e.reads wheel ≡ false → ReadsAt (Moves marks wheel) src e.height key → ⊥
  free key e h f reads = false≢true (sym f ∙ (r key e h e.height (was_known key e h).height_is.enough wheel).1 reads)

  pub turned_known : (key : Key) (e : Entry) → m' key ≡ Some e → IsKnown src' e.height key e.value e.height
  turned_known key e h =
      let was = still_there wheel (m key) e (sym (dropped key) ∙ h) in
      entry_kept (Moves marks wheel) src src' same key e.value e.height (was_known key e was.0) (free key e was.0 was.1)

  pub turned_reads : AreReads marks src' m'
  turned_reads key e h n def other =
      let was = still_there wheel (m key) e (sym (dropped key) ∙ h) in
      let is = was_known key e was.0 in
      let none = free key e was.0 was.1 in
      let def_h = is.height_is.enough in
      let none' = reads_kept (Moves marks wheel) src src' same e.height key def_h none in
      let def_h' = (turned_known key e h).height_is.enough in
      let old = r key e was.0 e.height def_h other in (
        λ bit. reads_same (Moves marks other) src' n e.height key def (other_reads_kept (Moves marks wheel) src src' same (Moves marks other) e.height key def_h none (old.0 bit)),
        λ reads. old.1 (other_reads_kept (Moves marks wheel) src' src (λ k f. sym (same k f)) (Moves marks other) e.height key def_h' none' (reads_same (Moves marks other) src' e.height n key def_h' reads)),
      )

  turned_entry : (key : Key) (o : Option Entry) → m' key ≡ o → IsTrueEntry src' key o
  turned_entry key None h = tt
  turned_entry key (Some e) h = turned_known key e h

  turned_closed : (key : Key) → Remembered m' key → Covered src' (Remembered m') key
  turned_closed key e n k w =
      let was = still_there wheel (m key) e.0 (sym (dropped key) ∙ e.1) in
      let is = was_known key e.0 was.0 in
      let none = free key e.0 was.0 was.1 in
      let far = n + e.0.height in
      let def : IsDefinite (value_within src far key) = definite_stays src e.0.height far (omega arith) key is.height_is.enough in
      let none_far : ReadsAt (Moves marks wheel) src far key → ⊥ = λ q. none (reads_same (Moves marks wheel) src e.0.height far key is.height_is.enough q) in
      let work : IsWork src far key k = work_kept (Moves marks wheel) src src' same far key k def none_far (work_grow src' n far key k (omega arith) w) in
      let there : Remembered m k = t.closed key (e.0, was.0) far k work in
      by_bit k there work none is (reads_wheel there.0.reads wheel) refl
    where
      by_bit : (k : Key) (there : Remembered m k) → IsWork src (n + e.0.height) key k → (ReadsAt (Moves marks wheel) src e.0.height key → ⊥) → IsKnown src e.0.height key e.0.value e.0.height → (b : Bool) → reads_wheel there.0.reads wheel ≡ b → Remembered m' k
      by_bit k there work none is false f = (there.0, dropped k ∙ still_here wheel (m k) there.0 there.1 f)
      by_bit k there work none is true f =
          let reads : ReadsAt (Moves marks wheel) src there.0.height k = (r k there.0 there.1 there.0.height (was_known k there.0 there.1).height_is.enough wheel).0 f in
          let up = work_reads (Moves marks wheel) src (n + e.0.height) there.0.height key k work reads in
          absurd (none (reads_same (Moves marks wheel) src e.0.height _ key is.height_is.enough up))

  pub turned_true : IsTrueMemory src' m'
  turned_true = record {
    each = λ key. turned_entry key (m' key) refl;
    formulas = λ key e.
        let was = still_there wheel (m key) e.0 (sym (dropped key) ∙ e.1) in
        let f = t.formulas key (e.0, was.0) in
        (f.0, same key (λ moved. free key e.0 was.0 was.1 (moved_reads (Moves marks wheel) src e.0.height key moved)) ∙ f.1);
    closed = turned_closed;
  }
