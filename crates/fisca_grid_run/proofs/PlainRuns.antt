-- What is known of a run whose options ask for no form and do not keep it going: its lines are the plain ones, and they stand alone.
use Rattle.std.proofs.Common.{◌≡◌, ◌∙◌, ◌&&◌, ℕ, Bool, true, false, not, is_some, if◌then◌else◌, List, [], Option, None, Result, Ok, Err, refl, sym, ap, ap₂, subst}
use Rattle.std.proofs.lemmas.Bool.{true≢false}
use Rattle.std.specs.Io.KnownBytes.{Appends}
use Rattle.std.specs.Option.{unwrap_or}
use Rattle.fisca_forms.specs.Forms.{Places}
use Rattle.fisca_forms.specs.LineForms.{is_plain, is_tsv, names_line}
use Rattle.fisca_forms.specs.declared.form.Format.{Format}
use Rattle.fisca_forms.specs.declared.form.Format.TheVariants.{Tsv}
use Rattle.fisca_params.specs.Source.{Source}
use Rattle.fisca_rule_files.specs.declared.refusal.Refusal.TheVariants.{Run}
use Rattle.fisca_rule_files.specs.declared.refusal.Unanswered.{Unanswered}
use Rattle.fisca_writer.proofs.Grown.{trans}
use Rattle.fisca_writer.specs.declared.fault.RunEnd.{RunEnd}
use Rattle.fisca_writer.specs.declared.fault.RunFault.TheVariants as run
use Rattle.fisca_writer.specs.declared.limit.Limit.{Limit}
use Rattle.fisca_grid_run.proofs.Headline.{Continues, Ends, Faults, WroteToFault, WroteWhole, faulted, whole}
use Rattle.fisca_grid_run.specs.Forms.{header_of, line_form_of}
use Rattle.fisca_grid_run.specs.Headline.{ArePlain, IsFaulted, IsWhole}
use Rattle.fisca_grid_run.specs.Run.{IsRunAnswer, IsRunning, IsStyleIn, IsStyleOf, Running, limit_of, start_of}
use Rattle.fisca_command_line.specs.declared.options.RunOptions.{RunOptions}
use Rattle.fisca_rows.specs.declared.style.RowStyle.{RowStyle}
use Rattle.fisca_rows.specs.declared.style.RowStyle.TheVariants.{Plain, Formed, Going}

module _ (options : RunOptions) (plain : ArePlain options) (names : List (List ℕ)) where
  form_plain : is_plain (line_form_of options.form names) ≡ true
  form_plain = ap₂ (λ (format : Option Format) (decimals : Option Places). is_tsv (unwrap_or format Tsv) && not (is_some decimals)) plain.format plain.decimals

  style_plain : (style : RowStyle) → IsStyleOf (line_form_of options.form names) options.keeps_going style → style ≡ Plain
  style_plain Plain is = refl
  style_plain (Formed shown) is = absurd (true≢false (sym form_plain ∙ is.1))
  style_plain (Going shown) is = absurd (true≢false (sym is.0 ∙ plain.stops))

  no_header : header_of options.form names ≡ []
  no_header = ap (λ b. if b then names_line (unwrap_or options.form.format Tsv) names else []) plain.header

  -- nothing is written before
  alone : (old between new : Option (List ℕ)) (text : List ℕ) → Appends old between (header_of options.form names) → Appends between new text → Appends old new text
  alone old between new text first rest = trans old between new [] text (subst (λ header. Appends old between header) no_header first) rest

module _ (r : Running) (options : RunOptions) (plain : ArePlain options) (old new : Option (List ℕ)) where
  plain_whole : (end : RunEnd) → WroteWhole r options old new end → IsWhole r Plain (start_of r options) (limit_of r options) old new end
  plain_whole end (style, styled, (between, begun, is)) =
      let same = style_plain options plain r.names style styled in
      let w = subst (λ s. IsWhole r s (start_of r options) (limit_of r options) between new end) same is in
      record { inside = w.inside; written = alone options plain r.names old between new _ begun w.written; continues = w.continues; ended = w.ended }

  plain_faulted : (position : ℕ) (u : Unanswered) → WroteToFault r options old new position u → IsFaulted r Plain (start_of r options) (limit_of r options) old new position u
  plain_faulted position u (style, styled, (between, begun, is)) =
      let same = style_plain options plain r.names style styled in
      let w = subst (λ s. IsFaulted r s (start_of r options) (limit_of r options) between new position u) same is in
      record {
        behind = w.behind;
        within = w.within;
        there = w.there;
        first = w.first;
        stops = w.stops;
        key = w.key;
        written = alone options plain r.names old between new _ begun w.written;
        none_left = w.none_left;
      }

pub whole_plainly : Continues → Ends → (files : List Source) (text : List ℕ) (options : RunOptions) (old new : Option (List ℕ)) (end : RunEnd) → ArePlain options
    → IsRunAnswer files text options old new (Ok end) → (r : Running) × IsRunning files text options.form r × IsWhole r Plain (start_of r options) (limit_of r options) old new end
whole_plainly continues ends files text options old new end plain is =
    let w = whole continues ends files text options old new end is in (w.0, w.1, plain_whole w.0 options plain old new end w.2)

pub faulted_plainly : Faults → (files : List Source) (text : List ℕ) (options : RunOptions) (old new : Option (List ℕ)) (position : ℕ) (u : Unanswered) → ArePlain options
    → IsRunAnswer files text options old new (Err (Run (run.Eval position u)))
    → (r : Running) × IsRunning files text options.form r × IsFaulted r Plain (start_of r options) (limit_of r options) old new position u
faulted_plainly faults files text options old new position u plain is =
    let f = faulted faults files text options old new position u is in (f.0, f.1, plain_faulted f.0 options plain old new position u f.2)
