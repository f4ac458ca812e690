-- Keys and plurals of one entity, noted one after another.
use Rattle.std.proofs.Common.{◌≡◌, List, [], ◌∷◌, ◌++◌, Bool, true, false, true≢false, ◌||◌, refl, sym, ap, subst, ◌∙◌, append_assoc, append-nil}
use Rattle.std.proofs.lemmas.List.Folds.{list_any-append}
use Rattle.std.specs.List.{list_any}
use Rattle.std.specs.Str.{bytes_eq}
use Rattle.fisca_model.specs.Tables.{capitals}
use Rattle.fisca_rules.specs.Clashes.{Titled, among, texts_of}
use Rattle.fisca_rules.specs.Steps.Clashes.{are_confused, titles_clash}
use Rattle.fisca_rules.specs.Titles.{again, has_capitals, has_text, Holds, Notes, NotesOne}
use Rattle.fisca_rules.specs.declared.titles.Titles.{Titles}
use Rattle.fisca_rules.proofs.Some.{or_none, or_later, some_none, some_or, some_pair, one_more}

told_of : (s : Titles) (earlier : List Titled) (t : Titled) → Holds s earlier
    → (has_capitals s (capitals t.key) || list_any (has_text s) (texts_of t)) ≡ list_any (λ e. are_confused e t) earlier
told_of s earlier t h =
    (λ i. h.capital (capitals t.key) i || list_any (λ u. h.text u i) (texts_of t))
    ∙ ap (λ b. list_any (λ e. bytes_eq (capitals e.key) (capitals t.key)) earlier || b) (sym (some_pair (λ e u. among (texts_of e) u) earlier (texts_of t)))
    ∙ sym (some_or (λ e. bytes_eq (capitals e.key) (capitals t.key)) (λ e. list_any (λ u. among (texts_of e) u) (texts_of t)) earlier)

pub notes_one : (old new : Titles) (t : Titled) (b : Bool) → NotesOne old new t b → Notes old new (t ∷ []) b
notes_one old new t b n = record {
  told = λ earlier h. n.told ∙ told_of old earlier t h ∙ sym (or_none (list_any (λ e. are_confused e t) earlier));
  noted = λ e earlier h. record {
    capital = λ u. one_more (λ (x : Titled). bytes_eq (capitals x.key) u) earlier t _ _ _ (n.capital e u) (h.capital u) (or_none (bytes_eq (capitals t.key) u));
    text = λ u. one_more (λ (x : Titled). among (texts_of x) u) earlier t _ _ _ (n.text e u) (h.text u) refl;
  };
}

pub notes_none : (s : Titles) → Notes s s [] false
notes_none s = record {
  told = λ earlier h. refl;
  noted = λ e earlier h. subst (Holds s) (sym (append-nil earlier)) h;
}

again_behind : (earlier xs ys : List Titled) → again earlier (xs ++ ys) ≡ (again earlier xs || again (earlier ++ xs) ys)
again_behind earlier [] ys = ap (λ es. again es ys) (sym (append-nil earlier))
again_behind earlier (x ∷ xs) ys =
    ap (λ b. list_any (λ e. are_confused e x) earlier || b) (again_behind (earlier ++ x ∷ []) xs ys ∙ ap (λ es. again (earlier ++ x ∷ []) xs || again es ys) (append_assoc earlier (x ∷ []) xs))
    ∙ sym (or_later (list_any (λ e. are_confused e x) earlier) (again (earlier ++ x ∷ []) xs) (again (earlier ++ x ∷ xs) ys))

-- these first, and then those
pub notes_then : (old mid new : Titles) (xs ys : List Titled) (b : Bool) → Notes old mid xs false → Notes mid new ys b → Notes old new (xs ++ ys) b
notes_then old mid new xs ys b first later = record {
  told = λ earlier h.
      later.told (earlier ++ xs) (first.noted refl earlier h)
      ∙ ap (λ c. c || again (earlier ++ xs) ys) (first.told earlier h)
      ∙ sym (again_behind earlier xs ys);
  noted = λ e earlier h. subst (Holds new) (append_assoc earlier xs ys) (later.noted e (earlier ++ xs) (first.noted refl earlier h));
}

-- one of these is confused, whatever follows
pub notes_stop : (old mid new : Titles) (xs ys : List Titled) → Notes old mid xs true → Notes old new (xs ++ ys) true
notes_stop old mid new xs ys first = record {
  told = λ earlier h. ap (λ c. c || again (earlier ++ xs) ys) (first.told earlier h) ∙ sym (again_behind earlier xs ys);
  noted = λ e earlier h. absurd (true≢false e);
}

-- the next one is not confused
pub notes_next : (old mid new : Titles) (t u : Titled) (us : List Titled) (b c : Bool) → NotesOne old mid t c → t ≡ u → c ≡ false → Notes mid new us b → Notes old new (u ∷ us) b
notes_next old mid new t u us b c one same not_one later =
    notes_then old mid new (u ∷ []) us b (subst (λ d. Notes old mid (u ∷ []) d) not_one (subst (λ v. Notes old mid (v ∷ []) c) same (notes_one old mid t c one))) later

-- it is
pub notes_here : (old mid new : Titles) (t u : Titled) (us : List Titled) (c : Bool) → NotesOne old mid t c → t ≡ u → c ≡ true → Notes old new (u ∷ us) true
notes_here old mid new t u us c one same here =
    notes_stop old mid new (u ∷ []) us (subst (λ d. Notes old mid (u ∷ []) d) here (subst (λ v. Notes old mid (v ∷ []) c) same (notes_one old mid t c one)))

again_from : (earlier ts : List Titled) → again earlier ts ≡ (list_any (λ e. list_any (are_confused e) ts) earlier || titles_clash ts)
again_from earlier [] = sym (ap (λ b. b || false) (some_none earlier))
again_from earlier (t ∷ ts) =
    ap (λ b. list_any (λ e. are_confused e t) earlier || b)
    (again_from (earlier ++ t ∷ []) ts ∙ ap (λ b. b || titles_clash ts) (list_any-append (λ e. list_any (are_confused e) ts) earlier (t ∷ [])))
    ∙ by (list_any (λ e. are_confused e t) earlier) (list_any (λ e. list_any (are_confused e) ts) earlier) (list_any (are_confused t) ts) (titles_clash ts)
    ∙ ap (λ b. b || (list_any (are_confused t) ts || titles_clash ts)) (sym (some_or (λ e. are_confused e t) (λ e. list_any (are_confused e) ts) earlier))
  where
    by : (a b c d : Bool) → (a || ((b || (c || false)) || d)) ≡ ((a || b) || (c || d))
    by true b c d = refl
    by false true c d = refl
    by false false true d = refl
    by false false false d = refl

-- all of one entity, one after another
pub again_clash : (ts : List Titled) → again [] ts ≡ titles_clash ts
again_clash ts = again_from [] ts
