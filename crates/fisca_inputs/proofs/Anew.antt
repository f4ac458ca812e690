-- A value that is set anew in the entries of a map.
use Rattle.std.proofs.Common.{◌≡◌, [], ◌∷◌, Bool, true, false, cond, Some, None, refl, sym, ap, ◌∙◌, if◌then◌else◌, ◌||◌}
use Rattle.std.specs.List.{AllByRecursion, IsDistinct}
use Rattle.std.specs.Map.{keys_of, lookup, set_value}
use Rattle.std.proofs.lemmas.Map.Keys.{IsDistinct-head, IsDistinct-tail}
use Rattle.fisca_inputs.specs.Anew.{set_keys}
use Rattle.fisca_inputs.specs.Entries.{Entries, same_key}
use Rattle.fisca_model.specs.contracts.key.KeyEq.TheImpl.Laws.{laws-law}
use Rattle.fisca_model.specs.declared.key.Key.{Key}
use Rattle.fisca_model.specs.declared.value.Value.{Value}

-- a value at no key is nowhere
module _ (k : Key) (x : Value) where
  untouched : (j : Key) → same_key k j ≡ true → (es : Entries) → AllByRecursion (λ y. same_key j y ≡ false) (keys_of es) → set_keys (k ∷ []) x es ≡ es
  untouched j same [] others = refl
  untouched j same (e ∷ es) others =
      let other : same_key e.0 k ≡ false = laws-law.symm e.0 k ∙ (laws-law.congr k j e.0 same ∙ others.0) in
      ap (λ b. (e.0, if b || false then x else e.1) ∷ set_keys (k ∷ []) x es) other ∙ ap (λ fs. e ∷ fs) (untouched j same es others.1)

  pub set_once : (es : Entries) → IsDistinct same_key (keys_of es) → set_value (same_key k) es x ≡ set_keys (k ∷ []) x es
  set_once [] distinct = refl
  set_once (e ∷ es) distinct = by (same_key k e.0) refl (set_once es (IsDistinct-tail same_key e.0 (keys_of es) distinct))
    where
      by : (b : Bool) → same_key k e.0 ≡ b → set_value (same_key k) es x ≡ set_keys (k ∷ []) x es
          → cond b ((e.0, x) ∷ es) (e ∷ set_value (same_key k) es x) ≡ (e.0, if same_key e.0 k || false then x else e.1) ∷ set_keys (k ∷ []) x es
      by true same later =
          ap (λ fs. (e.0, x) ∷ fs) (sym (untouched e.0 same es (IsDistinct-head same_key e.0 (keys_of es) distinct)))
          ∙ ap (λ b. (e.0, if b || false then x else e.1) ∷ set_keys (k ∷ []) x es) (sym (laws-law.symm e.0 k ∙ same))
      by false other later =
          ap (λ fs. e ∷ fs) later
          ∙ ap (λ b. (e.0, if b || false then x else e.1) ∷ set_keys (k ∷ []) x es) (sym (laws-law.symm e.0 k ∙ other))

  -- where nothing is found, nothing is set
  pub set_nowhere : (es : Entries) → lookup (same_key k) es ≡ None → set_keys (k ∷ []) x es ≡ es
  set_nowhere [] none = refl
  set_nowhere (e ∷ es) none = by (same_key k e.0) refl none (set_nowhere es)
    where
      by : (b : Bool) → same_key k e.0 ≡ b → cond b (Some e.1) (lookup (same_key k) es) ≡ None → (lookup (same_key k) es ≡ None → set_keys (k ∷ []) x es ≡ es)
          → (e.0, if same_key e.0 k || false then x else e.1) ∷ set_keys (k ∷ []) x es ≡ e ∷ es
      by true same h later = cc
      by false other h later =
          ap (λ b. (e.0, if b || false then x else e.1) ∷ set_keys (k ∷ []) x es) (laws-law.symm e.0 k ∙ other) ∙ ap (λ fs. e ∷ fs) (later h)
