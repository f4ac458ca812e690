-- The keys that words name, one after another.
use Rattle.std.proofs.Common.{◌≡◌, ◌<◌, ◌+◌, ℕ, List, [], ◌∷◌, ◌++◌, length, map, get_or, take, drop, Option, Some, None, refl, ap, sym, ◌∙◌}
use Rattle.std.proofs.lemmas.List.{drop_more, map-append, take-append-drop, take_more}
use Rattle.fisca_model.specs.declared.key.Key.{Key}
use Rattle.fisca_columns.specs.Columns.{column_of}
use Rattle.fisca_symbols.specs.Known.{tables as known}
use Rattle.fisca_time.specs.Period.{Span}
use Rattle.fisca_commands.specs.Calc.{Calculation}
use Rattle.fisca_commands.specs.Explain.{chosen, joined, keys_named, picked}

module _ (key_of : List ℕ → Option Key) where
  joined_more : (key : Option Key) (keys : Option (List Key)) (ks : List Key) (k : Key) → joined key keys ≡ Some ks
      → (more : Option (List Key)) → ((js : List Key) → keys ≡ Some js → more ≡ Some (js ++ k ∷ [])) → joined key more ≡ Some (ks ++ k ∷ [])
  joined_more None keys ks k e more h = cc
  joined_more (Some j) None ks k e more h = cc
  joined_more (Some j) (Some js) ks k e more h = ap (joined (Some j)) (h js refl) ∙ ap (λ ls. Some (ls ++ k ∷ [])) (parts e)
    where
      parts : Some (j ∷ js) ≡ Some ks → j ∷ js ≡ ks
      parts x = cc

  pub named_more : (xs : List (List ℕ)) (word : List ℕ) (ks : List Key) (k : Key) → keys_named key_of xs ≡ Some ks → key_of word ≡ Some k → keys_named key_of (xs ++ word ∷ []) ≡ Some (ks ++ k ∷ [])
  named_more [] word ks k e is = ap (λ o. joined o (Some [])) is ∙ ap (λ ls. Some (ls ++ k ∷ [])) (empty e)
    where
      empty : Some [] ≡ Some ks → [] ≡ ks
      empty x = cc
  named_more (x ∷ xs) word ks k e is = joined_more (key_of x) (keys_named key_of xs) ks k e (keys_named key_of (xs ++ word ∷ [])) (λ js there. named_more xs word js k there is)

  none_joined : (key : Option Key) → joined key None ≡ None
  none_joined None = refl
  none_joined (Some k) = refl

  pub named_none : (xs : List (List ℕ)) (word : List ℕ) (ys : List (List ℕ)) → key_of word ≡ None → keys_named key_of (xs ++ word ∷ ys) ≡ None
  named_none [] word ys is = ap (λ o. joined o (keys_named key_of ys)) is
  named_none (x ∷ xs) word ys is = ap (joined (key_of x)) (named_none xs word ys is) ∙ none_joined (key_of x)

  -- the same of the words of a list, each a text, where a word stands at a place
  module _ {X : Type 0} (text : X → List ℕ) (words : List X) (i : ℕ) (word : X) (inside : i < length words) (here : word ≡ get_or words i word) where
    pub named_next : (ks : List Key) (k : Key) → keys_named key_of (map text (take i words)) ≡ Some ks → key_of (text word) ≡ Some k
        → keys_named key_of (map text (take (i + 1) words)) ≡ Some (ks ++ k ∷ [])
    named_next ks k e is =
        let cut : take (i + 1) words ≡ take i words ++ word ∷ [] = take_more words i word inside ∙ ap (λ x. take i words ++ x ∷ []) (sym here) in
        let texts : map text (take (i + 1) words) ≡ map text (take i words) ++ text word ∷ [] = ap (map text) cut ∙ map-append text (take i words) (word ∷ []) in
        ap (keys_named key_of) texts ∙ named_more (map text (take i words)) (text word) ks k e is

    pub named_nowhere : key_of (text word) ≡ None → keys_named key_of (map text words) ≡ None
    named_nowhere is =
        let rest : drop i words ≡ word ∷ drop (i + 1) words = drop_more words i word inside ∙ ap (λ x. x ∷ drop (i + 1) words) (sym here) in
        let cut : words ≡ take i words ++ word ∷ drop (i + 1) words = sym (take-append-drop i words) ∙ ap (λ xs. take i words ++ xs) rest in
        let texts : map text words ≡ map text (take i words) ++ text word ∷ map text (drop (i + 1) words) = ap (map text) cut ∙ map-append text (take i words) (word ∷ drop (i + 1) words) in
        ap (keys_named key_of) texts ∙ named_none (map text (take i words)) (text word) (map text (drop (i + 1) words)) is

  joined_some : (key : Option Key) (keys : Option (List Key)) (columns ks : List Key) → joined key keys ≡ Some ks → Some (picked columns ks) ≡ Some ks
  joined_some None keys columns ks e = cc
  joined_some (Some k) None columns ks e = cc
  joined_some (Some k) (Some js) columns ks e = ap (λ ls. Some (picked columns ls)) (sym (parts e)) ∙ e
    where
      parts : Some (k ∷ js) ≡ Some ks → k ∷ js ≡ ks
      parts x = cc

-- what is chosen are the columns of the file, or the keys that are named
pub chosen_picked : (c : Calculation) (default : Option Span) (words : List (List ℕ)) (ks : List Key)
    → keys_named (column_of (known c.rules.tables) c.asked.situation.members default) words ≡ Some ks → chosen c default words ≡ Some (picked c.asked.columns ks)
chosen_picked c default [] ks e = ap (λ ls. Some (picked c.asked.columns ls)) (empty e)
  where
    empty : Some [] ≡ Some ks → [] ≡ ks
    empty x = cc
chosen_picked c default (word ∷ words) ks e =
    e ∙ sym (joined_some (column_of (known c.rules.tables) c.asked.situation.members default) (column_of (known c.rules.tables) c.asked.situation.members default word)
    (keys_named (column_of (known c.rules.tables) c.asked.situation.members default) words) c.asked.columns ks e)

-- where words name none, none is chosen
pub chosen_none : (c : Calculation) (default : Option Span) (words : List (List ℕ))
    → keys_named (column_of (known c.rules.tables) c.asked.situation.members default) words ≡ None → chosen c default words ≡ None
chosen_none c default [] e = cc
chosen_none c default (word ∷ words) e = e
