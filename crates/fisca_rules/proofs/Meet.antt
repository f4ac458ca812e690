-- Keys and plurals of roles beside the variables of their entity, one after another.
use Rattle.std.proofs.Common.{◌≡◌, List, [], ◌++◌, Bool, true, false, true≢false, ◌||◌, refl, sym, ap, ◌∙◌}
use Rattle.std.proofs.lemmas.List.Folds.{list_any-append}
use Rattle.std.specs.List.{list_any}
use Rattle.fisca_rules.specs.Seen.{NotesTitles, same_within}
use Rattle.fisca_rules.specs.declared.within.Within.{Within}

module _ (variables : Within → Bool) where
  pub met_none : (s : Within → Bool) → NotesTitles variables s s [] false
  met_none s = record { told = refl; noted = λ e w. refl }

  -- one of these meets a variable, whatever follows
  pub met_stop : (old mid new : Within → Bool) (xs ys : List Within) → NotesTitles variables old mid xs true → NotesTitles variables old new (xs ++ ys) true
  met_stop old mid new xs ys first = record {
    told = ap (λ b. b || list_any variables ys) first.told ∙ sym (list_any-append variables xs ys);
    noted = λ e. absurd (true≢false e);
  }

  -- these first, and then those
  pub met_then : (old mid new : Within → Bool) (xs ys : List Within) (b : Bool) → NotesTitles variables old mid xs false → NotesTitles variables mid new ys b → NotesTitles variables old new (xs ++ ys) b
  met_then old mid new xs ys b first later = record {
    told = later.told ∙ ap (λ c. c || list_any variables ys) first.told ∙ sym (list_any-append variables xs ys);
    noted = λ e w.
        later.noted e w
        ∙ ap (λ c. list_any (λ u. same_within u w) ys || c) (first.noted refl w)
        ∙ by (list_any (λ u. same_within u w) xs) (list_any (λ u. same_within u w) ys) (old w)
        ∙ ap (λ c. c || old w) (sym (list_any-append (λ u. same_within u w) xs ys));
  }
    where
      by : (a b c : Bool) → (b || (a || c)) ≡ ((a || b) || c)
      by true true c = refl
      by true false c = refl
      by false b c = refl
