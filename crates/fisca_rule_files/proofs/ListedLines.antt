-- Each variable of a rule set has its line, and none is a fault.
use Rattle.std.proofs.Common.{◌≡◌, ◌∙◌, ℕ, suc, ◌+◌, ◌-◌, ◌<◌, nat_lt, max, cond, true, false, List, [], ◌∷◌, length, slice_get, Option, Some, None, Result, Ok, Err, option_map, refl, sym, ap, ap₂, subst, inl, inr, arith, ⊎_elim}
use Rattle.std.proofs.lemmas.Bool.Decides.{nat_tests}
use Rattle.std.specs.List.{filter_map, range_with_len, cons_option}
use Rattle.std.specs.Option.{option_map_or}
use Rattle.std.specs.declared.convert.Infallible.{Infallible}
use Rattle.fisca_forms.specs.LineForms.{Form}
use Rattle.fisca_params.specs.Source.{Source}
use Rattle.fisca_rules.specs.Rules.{Rules}
use Rattle.fisca_symbols.specs.declared.variable.Variable.{Variable}
use Rattle.fisca_writer.specs.Lines.{AtEnd, FaultAt, MoreFrom, continued_from, fault_at, first_fault, line_at, positions_from}
use Rattle.fisca_writer.specs.Ranges.{end_within, no_limit, range_end, range_lines}
use Rattle.fisca_writer.specs.Row.{Row, fault_of, text_of}
use Rattle.fisca_rule_files.specs.Listing.{lines_from, listed_row, listing, row_by}

module _ (form : Form) (modules : List Source) (r : Rules) where
  faultless : (o : Option Variable) (place : ℕ) → fault_of (row_by form modules r place o) ≡ None
  faultless None place = refl
  faultless (Some v) place = refl

  no_faults : (places : List ℕ) → filter_map (fault_at (listed_row form modules r)) places ≡ []
  no_faults [] = refl
  no_faults (place ∷ places) =
      ap₂ (λ o fs. cons_option (option_map (λ fault. (place, fault)) o) fs) (faultless (slice_get r.variables place) place) (no_faults places)

  no_fault : (size from : ℕ) → first_fault (listed_row form modules r) size from ≡ None
  no_fault size from = ap (λ fs. slice_get fs 0) (no_faults (positions_from size from))

  -- the lines of the variables from a place on
  lines_there : (place : ℕ) (vs : List Variable) → ((i : ℕ) → slice_get r.variables (place + i) ≡ slice_get vs i)
      → filter_map (line_at (listed_row form modules r)) (range_with_len place (length vs)) ≡ lines_from form modules r place vs
  lines_there place [] is = refl
  lines_there place (v ∷ vs) is =
      let first : place ≡ place + 0 = omega arith in
      let here : slice_get r.variables place ≡ Some v = ap (slice_get r.variables) first ∙ is 0 in
      let behind : (i : ℕ) → place + 1 + i ≡ place + suc i = λ i. omega arith in
      let rest = lines_there (place + 1) vs (λ i. ap (slice_get r.variables) (behind i) ∙ is (suc i)) in
      ap₂ (λ o ls. cons_option (option_map (λ text. (place, text)) (text_of (row_by form modules r place o))) ls) here rest

  pub all_listed : range_lines (listed_row form modules r) (length r.variables) 0 no_limit ≡ listing form modules r
  all_listed =
      let row = listed_row form modules r in
      let size = length r.variables in
      let whole : size - 0 ≡ size = omega arith in
      ap (λ fault. filter_map (line_at row) (positions_from (option_map_or (λ fault. fault.0) fault size) 0)) (no_fault size 0)
      ∙ (ap (λ n. filter_map (line_at row) (range_with_len 0 n)) whole ∙ lines_there 0 r.variables (λ i. ap (slice_get r.variables) (omega arith)))

  pub ends : range_end (listed_row form modules r) (length r.variables) 0 no_limit ≡ AtEnd
  ends =
      let size = length r.variables in
      let over : nat_lt (max 0 size) size ≡ false = grind (arith, nat_tests) in
      ap (λ fault. end_within size (max 0 size) (option_map_or (λ fault. FaultAt fault.0 fault.1) fault AtEnd)) (no_fault size 0)
      ∙ ap (λ below. cond below (MoreFrom (max 0 size)) AtEnd) over
