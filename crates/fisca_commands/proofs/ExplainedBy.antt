-- What explains the columns that words name, or those of a file.
use Rattle.std.proofs.Common.{◌≡◌, ◌∙◌, ℕ, List, Option, Some, None, Result, Err, ap, sym, subst}
use Rattle.std.specs.Io.KnownBytes.{Keeps}
use Rattle.fisca_columns.specs.Columns.{column_of}
use Rattle.fisca_explain.specs.Columns.{Explaining}
use Rattle.fisca_forms.specs.LineForms.{Form}
use Rattle.fisca_forms.specs.declared.form.Format.{Format}
use Rattle.fisca_model.specs.declared.key.Key.{Key}
use Rattle.fisca_rule_files.specs.declared.refusal.Refusal.{Refusal}
use Rattle.fisca_rule_files.specs.declared.refusal.Refusal.TheVariants.{BadWord}
use Rattle.fisca_symbols.specs.Known.{tables as known}
use Rattle.fisca_time.specs.Period.{Span}
use Rattle.fisca_commands.specs.Calc.{Calculation, simulation_of}
use Rattle.fisca_commands.specs.Explain.{IsExplainedBy, IsExplainedIn, chosen, form_in, keys_named, picked}
use Rattle.fisca_commands.proofs.NamedKeys.{chosen_none, chosen_picked}

-- the keys that words name of a calculation, in this period where they tell none
abbrev named_in : Calculation → List (List ℕ) → Option Span → Option (List Key)
named_in c words default = keys_named (column_of (known c.rules.tables) c.asked.situation.members default) words

-- a calculation, in a form of lines
abbrev told_as : Calculation → Option ℕ → Option Form → Explaining
told_as c depth form = record { tables = known c.rules.tables; simulation = simulation_of c; depth = depth; form = form }

module _ (c : Calculation) (default read : Option Span) (words : List (List ℕ)) where
  -- where a word names no column
  pub unnamed : (depth : Option ℕ) (format : Option Format) (old new : Option (List ℕ)) (answer : Result Unit Refusal) → read ≡ default
      → named_in c words read ≡ None → answer ≡ Err BadWord → Keeps old new → IsExplainedBy c (chosen c default words) depth format old new answer
  unnamed depth format old new answer same none told keeps =
      let chooses = chosen_none c default words (ap (named_in c words) (sym same) ∙ none) in
      subst (λ o. IsExplainedBy c o depth format old new answer) (sym chooses) (told, keeps)

  -- where each names one, or there is none
  pub explained_by : (keys slice : List Key) (depth : Option ℕ) (format : Option Format) (form : Option Form) (old new : Option (List ℕ)) (answer : Result Unit Refusal) → read ≡ default
      → named_in c words read ≡ Some keys → slice ≡ keys → form ≡ form_in format
      → IsExplainedIn c (told_as c depth form) (picked c.asked.columns slice) old new answer → IsExplainedBy c (chosen c default words) depth format old new answer
  explained_by keys slice depth format form old new answer same some all formed told =
      let chooses = chosen_picked c default words keys (ap (named_in c words) (sym same) ∙ some) in
      let over = subst (λ ks. IsExplainedIn c (told_as c depth form) (picked c.asked.columns ks) old new answer) all told in
      let as_asked = subst (λ f. IsExplainedIn c (told_as c depth f) (picked c.asked.columns keys) old new answer) formed over in
      subst (λ o. IsExplainedBy c o depth format old new answer) (sym chooses) as_asked
