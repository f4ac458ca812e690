-- The keys that are noted of a formula, and its end.
use Rattle.std.proofs.Common.{◌≡◌, ◌∷◌, Result, Ok, Err, refl, ap}
use Rattle.fisca_model.specs.Values.{Value, Key}
use Rattle.fisca_num.specs.Results.{and_then}
use Rattle.fisca_key_semantics.specs.Answers.{Halt, Oracle, outcome}
use Rattle.fisca_key_semantics.specs.Chains.{asked, on_value}
use Rattle.fisca_key_semantics.specs.Inquiry.{of_key}
use Rattle.fisca_simulation.specs.Followed.{IsEnd, keys_noted, value_or_none, values_of}
use Rattle.fisca_simulation.specs.Noted.{Noted, gives, fails, stuck, asks, reads, erased}
use Rattle.fisca_simulation.specs.Played.{on_answer, played}

module _ (W : Oracle) (key : Key) where
  pub keys_same : (d : Noted) → keys_noted (played (values_of W) d).notes ≡ asked W (of_key key (erased d))
  keys_same (gives v) = refl
  keys_same (fails e) = refl
  keys_same stuck = refl
  keys_same (asks k go) = ap (λ ks. k ∷ ks) (by (λ v. keys_same (go v)) (W k))
    where
      by : ((v : Value) → keys_noted (played (values_of W) (go v)).notes ≡ asked W (of_key key (erased (go v)))) → (r : Result Value Halt) → keys_noted (on_answer (value_or_none r) (λ v. played (values_of W) (go v))).notes ≡ on_value r (λ v. asked W (of_key key (erased (go v))))
      by ih (Ok v) = ih v
      by ih (Err h) = refl
  keys_same (reads r d) = keys_same d

  pub ends_same : (d : Noted) → IsEnd key (played (values_of W) d).end (outcome W (of_key key (erased d)))
  ends_same (gives v) = refl
  ends_same (fails e) = refl
  ends_same stuck = refl
  ends_same (asks k go) = by (λ v. ends_same (go v)) (W k)
    where
      by : ((v : Value) → IsEnd key (played (values_of W) (go v)).end (outcome W (of_key key (erased (go v))))) → (r : Result Value Halt) → IsEnd key (on_answer (value_or_none r) (λ v. played (values_of W) (go v))).end (and_then r (λ v. outcome W (of_key key (erased (go v)))))
      by ih (Ok v) = ih v
      by ih (Err h) = tt
  ends_same (reads r d) = ends_same d
