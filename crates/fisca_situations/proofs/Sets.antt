-- Keys that are set one after another.
use Rattle.std.proofs.Common.{◌≡◌, ℕ, List, [], ◌∷◌, map, Bool, true, false, refl, sym, ap, ap₂, ◌∙◌, if◌then◌else◌, ◌||◌}
use Rattle.std.specs.Prelude.{Ok, Err}
use Rattle.std.specs.List.{list_any}
use Rattle.fisca_inputs.specs.Anew.{set_keys}
use Rattle.fisca_inputs.specs.Entries.{Entries, key, same_key}
use Rattle.fisca_model.specs.declared.value.Value.{Value}
use Rattle.fisca_model.specs.declared.value.Value.TheVariants.{Number as number}
use Rattle.fisca_model.specs.declared.key.Key.{Key}
use Rattle.fisca_num.specs.Number.{Number}
use Rattle.fisca_num.specs.declared.faults.NumFault.{NumFault}
use Rattle.fisca_situations.specs.Sets.{set_each}
use Rattle.fisca_situations.specs.Slots.{Slot}
use Rattle.fisca_situations.specs.Steps.Slots.{keys_of, set_share, share_in, turned}
use Rattle.fisca_time.specs.Period.{Span}

pub set_none : (es : Entries) → map (λ e. (e.0, e.1)) es ≡ es
set_none [] = refl
set_none (e ∷ es) = ap (λ fs. e ∷ fs) (set_none es)

pub set_more : (k : Key) (ks : List Key) (x : Value) (es : Entries) → set_keys (k ∷ ks) x es ≡ set_keys ks x (set_keys (k ∷ []) x es)
set_more k ks x [] = refl
set_more k ks x (e ∷ es) = ap₂ (λ w fs. (e.0, w) ∷ fs) (by (same_key e.0 k) (list_any (same_key e.0) ks)) (set_more k ks x es)
  where
    by : (a b : Bool) → (if a || b then x else e.1) ≡ (if b then x else (if a || false then x else e.1))
    by true true = refl
    by true false = refl
    by false true = refl
    by false false = refl

pub each_is : (x m : ℕ) (ps : List Span) (w : Value) (es : Entries) → set_each x m ps w es ≡ set_keys (map (λ p. key x m p) ps) w es
each_is x m [] w es = sym (set_none es)
each_is x m (p ∷ ps) w es =
    each_is x m ps w (set_keys (key x m p ∷ []) w es) ∙ sym (set_more (key x m p) (map (λ p. key x m p) ps) w es)

-- what is set where a share is told
pub set_told : (s : Slot) (v share : Number) (new old : Entries) → Ok share ≡ share_in s v → new ≡ set_each s.variable s.member s.periods (number share) old
    → new ≡ turned s v old
set_told s v share new old told is =
    is ∙ (each_is s.variable s.member s.periods (number share) old ∙ ap (λ r. set_share (keys_of s) r old) told)

pub set_untold : (s : Slot) (v : Number) (f : NumFault) (new old : Entries) → Err f ≡ share_in s v → new ≡ old → new ≡ turned s v old
set_untold s v f new old told is = is ∙ ap (λ r. set_share (keys_of s) r old) told
