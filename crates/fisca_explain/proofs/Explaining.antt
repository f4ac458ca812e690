-- What a walk tells of a key stands in the sink, case by case.
use Rattle.std.proofs.Common.{◌≡◌, ◌∙◌, ◌++◌, ◌∷◌, ◌-◌, ◌==◌, [], ℕ, zero, suc, List, Option, Some, None, Bool, true, false, ap, refl, sym, subst, arith}
use Rattle.std.proofs.lemmas.Bool.Decides.{nat_tests}
use Rattle.std.specs.Io.KnownBytes.{Appends}
use Rattle.fisca_explanation.specs.Explanations.{Reason, above, at_hand, beyond, unfit, worked}
use Rattle.fisca_forms.specs.LineForms.{Form}
use Rattle.fisca_key_semantics.specs.Answers.{Sources, formula, known, refused}
use Rattle.fisca_key_semantics.specs.Inquiry.{Inquiry}
use Rattle.fisca_key_semantics.specs.Keys.{has}
use Rattle.fisca_model.specs.Values.{Key, Value}
use Rattle.fisca_simulation.specs.declared.note.Note.{Note}
use Rattle.fisca_explain.specs.Explained.{Entry, Told, alone, explained, notes_in_turn, of_key, over, reason_at}
use Rattle.fisca_explain.specs.Followed.{HasJust}
use Rattle.fisca_explain.specs.Says.{AreLines, Names}
use Rattle.fisca_explain.specs.declared.keys.Followed.{Followed}
use Rattle.fisca_explain.proofs.Telling.{told_above, told_cut, told_known, told_refused, told_worked}
use Rattle.fisca_explain.proofs.Written.{written_more}

pub beyond_not_above : beyond ≡ above → ⊥
beyond_not_above is = cc

pub worked_not_above : worked ≡ above → ⊥
worked_not_above is = cc

-- its value is known, or it has none, and that is not since it was explained above
pub record IsPlain (src : Sources) (W : ℕ → Key → Option Value) (N : ℕ → Key → List Note) (levels depth : ℕ) (key : Key) : Type 0 where
  pub reason : Reason
  pub elsewhere : reason ≡ above → ⊥
  pub told : (before : List Key) → explained src W N levels depth before key ≡ alone (of_key depth key (W depth key) reason) before

module _ (src : Sources) (W : ℕ → Key → Option Value) (N : ℕ → Key → List Note) (depth : ℕ) (key : Key) where
  pub plain_refused : (levels : ℕ) → src key ≡ refused → IsPlain src W N levels depth key
  plain_refused levels e = record { reason = unfit; elsewhere = λ is. cc; told = λ before. told_refused src W N depth before key levels e }

  fit_of : (o : Option Value) → reason_at o ≡ above → ⊥
  fit_of None is = cc
  fit_of (Some v) is = cc

  pub plain_known : (levels : ℕ) (v : Value) → src key ≡ known v → IsPlain src W N levels depth key
  plain_known zero v e = record { reason = reason_at (W depth key); elsewhere = fit_of (W depth key); told = λ before. told_known src W N depth before key zero v e }
  plain_known (suc n) v e = record { reason = at_hand; elsewhere = λ is. cc; told = λ before. told_known src W N depth before key (suc n) v e }

-- these entries stand in the sink, and just these formulas were followed
abbrev pub IsDone : Names → Option Form → Told → Option (List ℕ) → Option (List ℕ) → Followed → Type 0
IsDone n form told old new f = ((text : List ℕ) × AreLines n form told.entries text × Appends old new text) × HasJust told.followed f

module _ (n : Names) (form : Option Form) (src : Sources) (W : ℕ → Key → Option Value) (N : ℕ → Key → List Note) (levels depth : ℕ) (before : List Key) (key : Key) (o : Option Value) (value : o ≡ W depth key) where
  abbrev whole : Told
  whole = explained src W N (levels - depth) depth before key

  -- the key alone
  abbrev pub IsLine : Reason → Option (List ℕ) → Option (List ℕ) → Type 0
  IsLine reason old new = (text : List ℕ) × AreLines n form (of_key depth key o reason ∷ []) text × Appends old new text

  pub alone_done : (reason : Reason) → whole ≡ alone (of_key depth key (W depth key) reason) before → (old new : Option (List ℕ)) (f : Followed) → IsLine reason old new → HasJust before f → IsDone n form whole old new f
  alone_done reason is old new f line just =
      subst (λ t. IsDone n form t old new f) (sym is) (subst (λ w. (text : List ℕ) × AreLines n form (of_key depth key w reason ∷ []) text × Appends old new text) value line, just)

  pub above_done : (d : Inquiry) → src key ≡ formula d → has before key ≡ true → (old new : Option (List ℕ)) (f : Followed) → IsLine above old new → HasJust before f → IsDone n form whole old new f
  above_done d e h = alone_done above (told_above src W N depth before key (levels - depth) d e h)

  pub cut_done : (d : Inquiry) → src key ≡ formula d → has before key ≡ false → (levels - depth == 0) ≡ true → (old new : Option (List ℕ)) (f : Followed) → IsLine beyond old new → HasJust before f
      → IsDone n form whole old new f
  cut_done d e h cut = alone_done beyond (ap (λ l. explained src W N l depth before key) none ∙ told_cut src W N depth before key d e h)
    where
      none : levels - depth ≡ zero
      none = grind (arith, nat_tests, cut)

  abbrev turn : ℕ → List Note → Told
  turn deeper ns = notes_in_turn (explained src W N (levels - deeper) deeper) deeper (before ++ key ∷ []) ns

  -- and what its formula needs behind it
  pub worked_done : (d : Inquiry) → src key ≡ formula d → has before key ≡ false → (levels - depth == 0) ≡ false → (deeper : ℕ) → deeper ≡ suc depth → (ns : List Note) → ns ≡ N depth key
      → (old mid new : Option (List ℕ)) (f : Followed) → IsLine worked old mid → IsDone n form (turn deeper ns) mid new f → IsDone n form whole old new f
  worked_done d e h uncut deeper one_deeper ns are old mid new f line rest =
      subst (λ t. IsDone n form t old new f) (sym same)
      (written_more n form (of_key depth key (W depth key) worked ∷ []) (turn deeper ns).entries old mid new (subst (λ w. (text : List ℕ) × AreLines n form (of_key depth key w worked ∷ []) text × Appends old mid text) value line) rest.0, rest.1)
    where
      left : levels - depth ≡ suc (levels - suc depth)
      left = grind (arith, nat_tests, uncut)

      same : whole ≡ over (of_key depth key (W depth key) worked) (turn deeper ns)
      same =
          ap (λ l. explained src W N l depth before key) left ∙ told_worked src W N depth before key (levels - suc depth) d e h
          ∙ ap (λ l. over (of_key depth key (W depth key) worked) (notes_in_turn (explained src W N (levels - l) l) l (before ++ key ∷ []) (N depth key))) (sym one_deeper)
          ∙ ap (λ xs. over (of_key depth key (W depth key) worked) (turn deeper xs)) (sym are)
