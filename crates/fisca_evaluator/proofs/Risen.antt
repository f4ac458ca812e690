-- Counts rise by what is added.
use Rattle.std.proofs.Common.{◌≡◌, ℕ, zero, suc, ◌+◌, ◌<◌, ◌^◌, ◌==◌, Bool, true, false, if◌then◌else◌, refl, ap, subst, ◌∙◌, arith}
use Rattle.fisca_model.specs.Values.{Key}
use Rattle.fisca_memo_theory.specs.Added.{AreAdded}
use Rattle.fisca_memo_theory.specs.Entries.{Entry, Entries, Remembered, with_entry}
use Rattle.fisca_memo_theory.proofs.Adding.{added_none, added_entry, added_on}
use Rattle.fisca_evaluator.specs.Counted.{one_more, with_kept}
use Rattle.fisca_evaluator.specs.declared.counts.Counts.{Counts}
use Rattle.fisca_evaluator.specs.Counting.{raised, IsCounted}

pub raised_on : (count m n : ℕ) → raised (raised count m) n ≡ raised count (m + n)
raised_on count m zero = let e : m ≡ m + zero = omega arith in ap (raised count) e
raised_on count m (suc n) = let e : suc (m + n) ≡ m + suc n = omega arith in ap one_more (raised_on count m n) ∙ ap (raised count) e

pub counted_none : (m : Entries) (c : Counts) → IsCounted m m c c
counted_none m c = record { more_free = 0; more_bound = 0; added = added_none m; free = refl; bound = refl }

pub counted_entry : (m : Entries) (key : Key) (e : Entry) (c : Counts) → (Remembered m key → ⊥) → IsCounted m (with_entry m key e) c (with_kept e.reads c)
counted_entry m key e c none = by (e.reads == 0)
  where
    by : (b : Bool) → IsCounted m (with_entry m key e) c (record { free = if b then one_more c.free else c.free; bound = if b then c.bound else one_more c.bound; lost = c.lost })
    by true = record { more_free = 1; more_bound = 0; added = added_entry m key e none; free = refl; bound = refl }
    by false = record { more_free = 0; more_bound = 1; added = added_entry m key e none; free = refl; bound = refl }

pub counted_on : (a b c : Entries) (x y z : Counts) → IsCounted a b x y → IsCounted b c y z → IsCounted a c x z
counted_on a b c x y z f s =
    let sum : (f.more_free + f.more_bound) + (s.more_free + s.more_bound) ≡ (f.more_free + s.more_free) + (f.more_bound + s.more_bound) = omega arith in
    record {
      more_free = f.more_free + s.more_free;
      more_bound = f.more_bound + s.more_bound;
      added = subst (AreAdded a c) sum (added_on a b c (f.more_free + f.more_bound) (s.more_free + s.more_bound) f.added s.added);
      free = s.free ∙ ap (λ n. raised n s.more_free) f.free ∙ raised_on x.free f.more_free s.more_free;
      bound = s.bound ∙ ap (λ n. raised n s.more_bound) f.bound ∙ raised_on x.bound f.more_bound s.more_bound;
    }

-- counts that do not stop
raised_below : (count more : ℕ) → count + more < 2 ^ 64 → raised count more ≡ count + more
raised_below count zero h = omega arith
raised_below count (suc more) h =
    let before : raised count more ≡ count + more = raised_below count more (omega arith) in
    ap one_more before ∙ omega (arith, h)

pub counts_rise : (old new : Entries) (before after : Counts) (c : IsCounted old new before after) → before.free + c.more_free < 2 ^ 64 → before.bound + c.more_bound < 2 ^ 64
    → after.free + after.bound ≡ before.free + before.bound + (c.more_free + c.more_bound)
counts_rise old new before after c h k =
    let free : after.free ≡ before.free + c.more_free = c.free ∙ raised_below before.free c.more_free h in
    let bound : after.bound ≡ before.bound + c.more_bound = c.bound ∙ raised_below before.bound c.more_bound k in
    omega (arith, free, bound)

-- Nothing is lost
