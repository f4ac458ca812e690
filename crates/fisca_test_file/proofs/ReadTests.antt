-- The situation of a test was read.
use Rattle.std.proofs.Common.{◌≡◌, ◌∙◌, ℕ, ap, subst, sym}
use Rattle.std.specs.Option.{unwrap_or}
use Rattle.std.specs.Prelude.{codes, Result, Ok, Err}
use Rattle.fisca_columns.specs.Steps.Calc.{default_in}
use Rattle.fisca_inputs.proofs.Typed.{then_ok}
use Rattle.fisca_inputs.specs.declared.fault.SituationFault.{SituationFault}
use Rattle.fisca_num.specs.Results.{and_then}
use Rattle.fisca_situations.specs.Situations.{Situation}
use Rattle.fisca_symbols.specs.declared.tables.Tables.{Tables}
use Rattle.fisca_yaml.specs.Find.{line_at}
use Rattle.fisca_yaml.specs.Steps.Find.{get}
use Rattle.fisca_yaml.specs.Node.{Node, null}
use Rattle.fisca_test_file.specs.Faults.{situation_told}
use Rattle.fisca_test_file.specs.Read.{IsRead}
use Rattle.fisca_test_file.specs.Tests.{Test}
use Rattle.fisca_test_file.specs.Steps.Tests.{first_line, margins_in, name_in, outputs_in, shape_checked, situation_in, test_by, test_of, tested_outputs}

told_ok : {X : Type 0} (r : Result X SituationFault) (x : X) → situation_told r ≡ Ok x → r ≡ Ok x
told_ok (Ok y) x h = let same : y ≡ x = cc in ap Ok same
told_ok (Err e) x h = cc

situation_read : (c : Tables) (line : ℕ) (n : Node) (s : Situation) → situation_in c line n ≡ Ok s → IsRead c s
situation_read c line n s h = record {
  default = default_in n;
  line = line_at (codes "input") (first_line line n) n;
  input = unwrap_or (get (codes "input") n) null;
  is = told_ok _ s h;
}

same_situation : (c : Tables) (line : ℕ) (n : Node) (s : Situation) (t : Test) → test_by c line n s ≡ Ok t → s ≡ t.situation
unfolding test_by
same_situation c line n s t h =
    let step = then_ok (outputs_in c s.members line n) (λ os. Ok (record { name = name_in n; situation = s; margins = margins_in n; outputs = tested_outputs c n os })) t h in
    let same : record { name = name_in n; situation = s; margins = margins_in n; outputs = tested_outputs c n step.0 } ≡ t = cc in
    ap (λ (x : Test). x.situation) same

pub test_read : (c : Tables) (line : ℕ) (n : Node) (t : Test) → test_of c line n ≡ Ok t → IsRead c t.situation
unfolding test_of
test_read c line n t h =
    let shape = then_ok (shape_checked line n) (λ u. and_then (situation_in c line n) (test_by c line n)) t h in
    let step = then_ok (situation_in c line n) (test_by c line n) t shape.2 in
    subst (IsRead c) (same_situation c line n step.0 t step.2) (situation_read c line n step.0 step.1)

-- the situation that is read from the test's item is the test's
pub situation_of_test : (c : Tables) (line : ℕ) (n : Node) (t : Test) (s : Situation) → test_of c line n ≡ Ok t → situation_in c line n ≡ Ok s → t.situation ≡ s
unfolding test_of
situation_of_test c line n t s h is =
    let shape = then_ok (shape_checked line n) (λ u. and_then (situation_in c line n) (test_by c line n)) t h in
    let step = then_ok (situation_in c line n) (test_by c line n) t shape.2 in
    let own : step.0 ≡ t.situation = same_situation c line n step.0 t step.2 in
    let read : situation_in c line n ≡ Ok step.0 = step.1 in
    let same : step.0 ≡ s = cc in
    sym own ∙ same
