-- What is told of keys and of what their formulas need, case by case.
use Rattle.std.proofs.Common.{◌≡◌, ◌∙◌, ◌++◌, ◌∷◌, [], ℕ, zero, suc, List, Option, Bool, true, false, if◌then◌else◌, ap, append-nil, append_assoc, refl, sym}
use Rattle.fisca_explanation.specs.Explanations.{Reason, above, at_hand, beyond, unfit, worked}
use Rattle.fisca_key_semantics.specs.Answers.{Sources, formula, known, refused}
use Rattle.fisca_key_semantics.specs.Inquiry.{Inquiry}
use Rattle.fisca_key_semantics.specs.Keys.{has}
use Rattle.fisca_model.specs.Seen.{key_seen}
use Rattle.fisca_model.specs.Values.{Key, Value}
use Rattle.fisca_model.specs.declared.key.Key.{Key as Held}
use Rattle.fisca_simulation.specs.declared.note.Note.{Note}
use Rattle.fisca_simulation.specs.declared.note.Note.TheVariants as note
use Rattle.fisca_simulation.specs.declared.note.Reading.{Reading}
use Rattle.fisca_explain.specs.Explained.{Entry, Told, alone, explained, notes_in_turn, of_key, of_reading, over, reason_at, told_at_end, told_from}

-- a key, by where its value comes from
module _ (src : Sources) (W : ℕ → Key → Option Value) (N : ℕ → Key → List Note) (depth : ℕ) (before : List Key) (key : Key) where
  pub told_refused : (levels : ℕ) → src key ≡ refused → explained src W N levels depth before key ≡ alone (of_key depth key (W depth key) unfit) before
  unfolding explained
  told_refused zero e = ap (told_at_end src W N depth before key) e
  told_refused (suc n) e = ap (told_from src W N (explained src W N n (suc depth)) depth before key) e

  abbrev reason_known : ℕ → Reason
  reason_known zero = reason_at (W depth key)
  reason_known (suc n) = at_hand

  pub told_known : (levels : ℕ) (v : Value) → src key ≡ known v → explained src W N levels depth before key ≡ alone (of_key depth key (W depth key) (reason_known levels)) before
  unfolding explained
  told_known zero v e = ap (told_at_end src W N depth before key) e
  told_known (suc n) v e = ap (told_from src W N (explained src W N n (suc depth)) depth before key) e

  pub told_above : (levels : ℕ) (d : Inquiry) → src key ≡ formula d → has before key ≡ true → explained src W N levels depth before key ≡ alone (of_key depth key (W depth key) above) before
  unfolding explained
  told_above zero d e h = ap (told_at_end src W N depth before key) e ∙ ap (λ b. alone (of_key depth key (W depth key) (if b then above else beyond)) before) h
  told_above (suc n) d e h =
      ap (told_from src W N (explained src W N n (suc depth)) depth before key) e
      ∙ ap (λ b. if b then alone (of_key depth key (W depth key) above) before
      else over (of_key depth key (W depth key) worked) (notes_in_turn (explained src W N n (suc depth)) (suc depth) (before ++ key ∷ []) (N depth key))) h

  pub told_cut : (d : Inquiry) → src key ≡ formula d → has before key ≡ false → explained src W N zero depth before key ≡ alone (of_key depth key (W depth key) beyond) before
  unfolding explained
  told_cut d e h = ap (told_at_end src W N depth before key) e ∙ ap (λ b. alone (of_key depth key (W depth key) (if b then above else beyond)) before) h

  pub told_worked : (n : ℕ) (d : Inquiry) → src key ≡ formula d → has before key ≡ false
      → explained src W N (suc n) depth before key ≡ over (of_key depth key (W depth key) worked) (notes_in_turn (explained src W N n (suc depth)) (suc depth) (before ++ key ∷ []) (N depth key))
  unfolding explained
  told_worked n d e h =
      ap (told_from src W N (explained src W N n (suc depth)) depth before key) e
      ∙ ap (λ b. if b then alone (of_key depth key (W depth key) above) before
      else over (of_key depth key (W depth key) worked) (notes_in_turn (explained src W N n (suc depth)) (suc depth) (before ++ key ∷ []) (N depth key))) h

-- what a formula needs, note by note: `done` of the whole is told, and what is left comes behind
module _ (tell : List Key → Key → Told) (depth : ℕ) (whole : Told) (done : List Entry) (now : List Key) (left : List Note)
    (entries : whole.entries ≡ done ++ (notes_in_turn tell depth now left).entries) (followed : whole.followed ≡ (notes_in_turn tell depth now left).followed) where
  pub asked_entries : (k : Held) (rest : List Note) → left ≡ note.Asked k ∷ rest
      → whole.entries ≡ (done ++ (tell now (key_seen k)).entries) ++ (notes_in_turn tell depth (tell now (key_seen k)).followed rest).entries
  asked_entries k rest is =
      entries ∙ ap (λ ns. done ++ (notes_in_turn tell depth now ns).entries) is
      ∙ sym (append_assoc done (tell now (key_seen k)).entries (notes_in_turn tell depth (tell now (key_seen k)).followed rest).entries)

  pub asked_followed : (k : Held) (rest : List Note) → left ≡ note.Asked k ∷ rest → whole.followed ≡ (notes_in_turn tell depth (tell now (key_seen k)).followed rest).followed
  asked_followed k rest is = followed ∙ ap (λ ns. (notes_in_turn tell depth now ns).followed) is

  pub read_entries : (r : Reading) (rest : List Note) → left ≡ note.Read r ∷ rest → whole.entries ≡ (done ++ of_reading depth r ∷ []) ++ (notes_in_turn tell depth now rest).entries
  read_entries r rest is =
      entries ∙ ap (λ ns. done ++ (notes_in_turn tell depth now ns).entries) is ∙ sym (append_assoc done (of_reading depth r ∷ []) (notes_in_turn tell depth now rest).entries)

  pub read_followed : (r : Reading) (rest : List Note) → left ≡ note.Read r ∷ rest → whole.followed ≡ (notes_in_turn tell depth now rest).followed
  read_followed r rest is = followed ∙ ap (λ ns. (notes_in_turn tell depth now ns).followed) is

  pub all_entries : left ≡ [] → whole.entries ≡ done
  all_entries is = entries ∙ ap (λ ns. done ++ (notes_in_turn tell depth now ns).entries) is ∙ append-nil done

  pub all_followed : left ≡ [] → whole.followed ≡ now
  all_followed is = followed ∙ ap (λ ns. (notes_in_turn tell depth now ns).followed) is
