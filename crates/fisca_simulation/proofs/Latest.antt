-- The formula in force is one that starts by the day, and none that does so starts after it.
use Rattle.std.proofs.Common.{◌≡◌, ◌⊎◌, inl, inr, ap, sym, ◌∙◌, List, [], ◌∷◌, Bool, true, false, Option, Some, None, refl}
use Rattle.std.proofs.lemmas.Bool.{false≢true}
use Rattle.std.proofs.lemmas.Cmp.{upto, tied_itself}
use Rattle.std.specs.Ordering.{is_gt, ordering_reverse}
use Rattle.std.specs.declared.cmp.Ordering.{Ordering}
use Rattle.std.specs.declared.cmp.Ordering.TheVariants.{Less, Equal, Greater}
use Rattle.fisca_scales.proofs.Latest.{date_total}
use Rattle.fisca_rules.specs.Rules.{DatedFormula}
use Rattle.fisca_time.specs.Instant.{CivilDate, date_cmp}
use Rattle.fisca_simulation.specs.InForce.{IsAmong, IsLast, IsInForce}
use Rattle.fisca_rules.specs.Steps.InForce.{has_started, latest_of, in_force}

not_back : (a b : CivilDate) → is_gt (date_cmp a b) ≡ true → is_gt (date_cmp b a) ≡ false
not_back a b h = ap is_gt (date_total.antisymm b a) ∙ by (date_cmp a b) h
  where
    by : (o : Ordering) → is_gt o ≡ true → is_gt (ordering_reverse o) ≡ false
    by Less h' = cc
    by Equal h' = cc
    by Greater h' = refl

-- what is found among these formulas and one before them
record Found (day : CivilDate) (e : DatedFormula) (ds : List DatedFormula) : Type 0 where
  formula : DatedFormula
  is : latest_of day (Some e) ds ≡ Some formula
  among : (e ≡ formula) ⊎ IsAmong formula ds
  started : has_started day formula ≡ true
  last : IsLast day formula ds
  best : is_gt (date_cmp e.start formula.start) ≡ false

found_on : (day : CivilDate) (e : DatedFormula) (ds : List DatedFormula) → has_started day e ≡ true → Found day e ds
found_on day e [] h = record { formula = e; is = refl; among = inl refl; started = h; last = tt; best = ap is_gt (tied_itself date_total e.start) }
found_on day e (x ∷ xs) h = by (λ s. found_on day x xs s) (found_on day e xs h) (has_started day x) refl (is_gt (date_cmp x.start e.start)) refl
  where
    deeper : {d : DatedFormula} → (e ≡ d) ⊎ IsAmong d xs → (e ≡ d) ⊎ ((x ≡ d) ⊎ IsAmong d xs)
    deeper (inl a) = inl a
    deeper (inr a) = inr (inr a)

    by : (has_started day x ≡ true → Found day x xs) → Found day e xs → (b : Bool) → has_started day x ≡ b → (g : Bool) → is_gt (date_cmp x.start e.start) ≡ g → Found day e (x ∷ xs)
    by after r' true s true g =
        let r = after s in
        record {
          formula = r.formula;
          is = rw (s, g) r.is;
          among = inr r.among;
          started = r.started;
          last = (λ t. r.best, r.last);
          best = upto date_total e.start x.start r.formula.start (not_back x.start e.start g) r.best;
        }
    by after r true s false g =
        record {
          formula = r.formula;
          is = rw (s, g) r.is;
          among = deeper r.among;
          started = r.started;
          last = (λ t. upto date_total x.start e.start r.formula.start g r.best, r.last);
          best = r.best;
        }
    by after r false s g' g =
        record {
          formula = r.formula;
          is = rw s r.is;
          among = deeper r.among;
          started = r.started;
          last = (λ t. absurd (false≢true (sym s ∙ t)), r.last);
          best = r.best;
        }

pub is_in_force : (day : CivilDate) (ds : List DatedFormula) → IsInForce day ds (in_force day ds)
is_in_force day [] = tt
is_in_force day (x ∷ xs) = by (is_in_force day xs) (has_started day x) refl
  where
    by_rest : has_started day x ≡ false → (o : Option DatedFormula) → IsInForce day xs o → IsInForce day (x ∷ xs) o
    by_rest s None h = (s, h)
    by_rest s (Some d) h = (inr h.0, h.1, (λ t. absurd (false≢true (sym s ∙ t)), h.2))

    by : IsInForce day xs (in_force day xs) → (b : Bool) → has_started day x ≡ b → IsInForce day (x ∷ xs) (in_force day (x ∷ xs))
    by h true s =
        let r = found_on day x xs s in
        rw (s, r.is) (r.among, r.started, (λ t. r.best, r.last))
    by h false s = rw s (by_rest s (in_force day xs) h)
