-- What tables of keys and plurals hold, within one entity.
use Rattle.std.specs.Prelude.{◌≡◌, ℕ, List, [], ◌∷◌, ◌++◌, map, Bool, false, ◌||◌, None}
use Rattle.std.specs.List.{list_any}
use Rattle.std.specs.Str.{bytes_eq}
use Rattle.indexmap.specs.IndexSet.{contains}
use Rattle.fisca_symbols.specs.declared.role.Role.{Role}
use Rattle.fisca_model.specs.Tables.{capitals}
use Rattle.fisca_rules.specs.Clashes.{Titled, among, texts_of}
use Rattle.fisca_rules.specs.Steps.Clashes.{are_confused}
use Rattle.fisca_rules.specs.declared.titles.Titles.{Titles}

-- a table of keys was added to: what it had, and these
abbrev pub Adds : {K : Type 0} → (K → K → Bool) → (K → Bool) → (K → Bool) → List K → Type 0
Adds eq old new ks = (k : _) → new k ≡ (list_any (λ u. eq u k) ks || old k)

abbrev pub subrole : List ℕ → Titled
subrole key = record { key = key; plural = None }

abbrev pub whole : Role → Titled
whole r = record { key = r.key; plural = r.plural }

-- a role and its subroles
abbrev pub titles_of : Role → List Titled
titles_of r = whole r ∷ map subrole r.subroles

-- one of these is confused with an earlier one, or with one before it
abbrev pub again : List Titled → List Titled → Bool
again earlier [] = false
again earlier (t ∷ ts) = list_any (λ e. are_confused e t) earlier || again (earlier ++ t ∷ []) ts

abbrev pub has_capitals : Titles → List ℕ → Bool
has_capitals s = contains bytes_eq s.capitals

abbrev pub has_text : Titles → List ℕ → Bool
has_text s = contains bytes_eq s.texts

-- the tables hold these keys and plurals
pub record Holds (s : Titles) (earlier : List Titled) : Type 0 where
  pub capital : (t : List ℕ) → has_capitals s t ≡ list_any (λ e. bytes_eq (capitals e.key) t) earlier
  pub text : (t : List ℕ) → has_text s t ≡ list_any (λ e. among (texts_of e) t) earlier

-- one was noted; or it is confused with what they held
pub record NotesOne (old new : Titles) (t : Titled) (is_confused : Bool) : Type 0 where
  pub told : is_confused ≡ (has_capitals old (capitals t.key) || list_any (has_text old) (texts_of t))
  pub capital : is_confused ≡ false → Adds bytes_eq (has_capitals old) (has_capitals new) (capitals t.key ∷ [])
  pub text : is_confused ≡ false → Adds bytes_eq (has_text old) (has_text new) (texts_of t)

-- some were noted; or one of them is confused with what they held, or with another
pub record Notes (old new : Titles) (ts : List Titled) (is_confused : Bool) : Type 0 where
  pub told : (earlier : List Titled) → Holds old earlier → is_confused ≡ again earlier ts
  pub noted : is_confused ≡ false → (earlier : List Titled) → Holds old earlier → Holds new (earlier ++ ts)
