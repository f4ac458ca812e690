-- What the writing of a listing answers is what is said of its lines.
use Rattle.std.proofs.Common.{◌≡◌, ◌∙◌, ◌<◌, ◌⊎◌, inl, inr, ap, ℕ, List, length, Option, Result, Ok, Err, refl, sym, subst, arith}
use Rattle.std.specs.Io.KnownBytes.{Appends}
use Rattle.std.specs.declared.convert.Infallible.{Infallible}
use Rattle.fisca_forms.specs.LineForms.{Form}
use Rattle.fisca_rule_files.specs.Listing.{list_names, listed_row, listing}
use Rattle.fisca_params.specs.Source.{Source}
use Rattle.fisca_rule_files.specs.Refusal.{of_axes}
use Rattle.fisca_rule_files.specs.declared.refusal.Refusal.{Refusal}
use Rattle.fisca_rules.specs.Rules.{Rules}
use Rattle.fisca_writer.specs.Continued.{lines_before}
use Rattle.fisca_writer.specs.Ranges.{no_limit, range_lines}
use Rattle.fisca_writer.specs.Run.{IsBrokenOff, IsRun, texts}
use Rattle.fisca_writer.specs.declared.fault.RunEnd.{RunEnd}
use Rattle.fisca_writer.specs.declared.fault.RunFault.{RunFault}
use Rattle.fisca_writer.specs.declared.fault.RunFault.TheVariants as run
use Rattle.fisca_grid_run.specs.Forms.{header_of, line_form_of}
use Rattle.fisca_commands.specs.Listed.{AreListed, IsListedIn}
use Rattle.fisca_command_line.specs.declared.options.TableForm.{TableForm}

module _ (form : Form) (modules : List Source) (r : Rules) (lines : range_lines (listed_row form modules r) (length r.variables) 0 no_limit ≡ listing form modules r) (old new : Option (List ℕ)) where
  pub all_listed : (end : RunEnd) → IsRun (listed_row form modules r) (length r.variables) 0 no_limit old new (Ok end) → Appends old new (texts (listing form modules r))
  all_listed end is = subst (λ ls. Appends old new (texts ls)) lines is.2

  pub some_listed : (fault : RunFault Infallible) → IsRun (listed_row form modules r) (length r.variables) 0 no_limit old new (Err fault) → AreListed (listing form modules r) old new (Err (of_axes fault))
  some_listed run.BadPosition is = absurd (never is.0)
    where
      never : (length r.variables < 0) ⊎ (length r.variables < length r.variables) → ⊥
      never (inl less) = omega (arith, less)
      never (inr less) = omega (arith, less)
  some_listed (run.Eval position fault) is = elim fault [ ]
  some_listed (run.Write position) is = inl (position, refl, subst (λ ls. IsBrokenOff position ls old new) lines is)
  some_listed (run.Memory position) is =
      let before = lines_before position (range_lines (listed_row form modules r) (length r.variables) 0 no_limit) in
      inr (position, refl, (before, (_, sym lines ∙ is.0.lines_follow), is.1))

-- the lines come behind the line of the names
pub listed_in : (modules : List Source) (r : Rules) (form : TableForm) (made : Form) (names : List (List ℕ)) (old between new : Option (List ℕ)) (answer : Result Unit Refusal) → names ≡ list_names
    → (made ≡ line_form_of form names) × Appends old between (header_of form names) → AreListed (listing made modules r) between new answer → IsListedIn modules r form old new answer
listed_in modules r form made names old between new answer named begun is = inr (
  between,
  subst (λ ns. Appends old between (header_of form ns)) named begun.1,
  subst (λ (f : Form). AreListed (listing f modules r) between new answer) (begun.0 ∙ ap (line_form_of form) named) is,
)
