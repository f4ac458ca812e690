-- A noted dialogue is played alike where the keys that it asks for are answered alike, and notes are told alike where the keys in them are.
use Rattle.std.proofs.Common.{◌≡◌, ◌∙◌, inl, inr, ℕ, List, [], ◌∷◌, Option, Some, None, refl, sym, ap, subst}
use Rattle.fisca_key_semantics.specs.Keys.{In}
use Rattle.fisca_model.specs.Seen.{key_of, key_seen}
use Rattle.fisca_model.specs.Values.{Key, Value}
use Rattle.fisca_simulation.specs.Followed.{keys_noted}
use Rattle.fisca_simulation.specs.Noted.{Noted, asks, fails, gives, reads, stuck}
use Rattle.fisca_simulation.specs.Played.{after, on_answer, played}
use Rattle.fisca_simulation.specs.declared.note.Note.{Note}
use Rattle.fisca_simulation.specs.declared.note.Note.TheVariants as note
use Rattle.fisca_explain.specs.Explained.{Told, behind, notes_in_turn, of_reading, over}

module _ (W V : Key → Option Value) where
  pub played_alike : (d : Noted) → ((k : Key) → In k (keys_noted (played V d).notes) → W k ≡ V k) → played W d ≡ played V d
  played_alike (gives v) h = refl
  played_alike (fails e) h = refl
  played_alike stuck h = refl
  played_alike (asks k go) h =
      ap (after (note.Asked (key_of k))) (ap (λ o. on_answer o (λ v. played W (go v))) (h k (inl refl)) ∙ by (λ v. played_alike (go v)) (V k) (λ j i. h j (inr i)))
    where
      by : ((v : Value) → ((j : Key) → In j (keys_noted (played V (go v)).notes) → W j ≡ V j) → played W (go v) ≡ played V (go v)) → (o : Option Value)
          → ((j : Key) → In j (keys_noted (on_answer o (λ v. played V (go v))).notes) → W j ≡ V j) → on_answer o (λ v. played W (go v)) ≡ on_answer o (λ v. played V (go v))
      by ih None more = refl
      by ih (Some v) more = ih v more
  played_alike (reads r d) h = ap (after (note.Read r)) (played_alike d h)

module _ (tell say : List Key → Key → Told) (depth : ℕ) where
  pub told_alike : (before : List Key) (ns : List Note) → ((b : List Key) (k : Key) → In k (keys_noted ns) → tell b k ≡ say b k)
      → notes_in_turn tell depth before ns ≡ notes_in_turn say depth before ns
  told_alike before [] h = refl
  told_alike before (note.Asked k ∷ ns) h =
      ap (λ t. behind t (notes_in_turn tell depth t.followed ns)) (h before (key_seen k) (inl refl))
      ∙ ap (behind (say before (key_seen k))) (told_alike (say before (key_seen k)).followed ns (λ b j i. h b j (inr i)))
  told_alike before (note.Read r ∷ ns) h = ap (over (of_reading depth r)) (told_alike before ns h)
