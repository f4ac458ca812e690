-- The inputs of a file of `fisca calc` are of the types of their variables.
use Rattle.std.proofs.Common.{◌≡◌, Result, Ok, Err, codes, ap, subst}
use Rattle.std.specs.Option.{unwrap_or}
use Rattle.fisca_columns.specs.Calc.{Calc, calc_by, calc_of, file_checked}
use Rattle.fisca_columns.specs.Steps.Calc.{columns_in, default_in, situation_in}
use Rattle.fisca_columns.specs.Faults.{told}
use Rattle.fisca_inputs.proofs.Typed.{then_ok}
use Rattle.fisca_inputs.specs.declared.fault.SituationFault.{SituationFault}
use Rattle.fisca_num.specs.Results.{and_then}
use Rattle.fisca_rules.specs.Views.{rule_set}
use Rattle.fisca_rules.specs.declared.rule_set.RuleSet.{RuleSet}
use Rattle.fisca_situations.specs.Steps.Situations.{situation_of}
use Rattle.fisca_simulation.specs.Sound.{InputsFit, IsSafeRules}
use Rattle.fisca_yaml.specs.Find.{line_at}
use Rattle.fisca_yaml.specs.Steps.Find.{get}
use Rattle.fisca_yaml.specs.Node.{Node, null}
use Rattle.fisca_simulation.proofs.Fitting.{read_fits}

told_ok : {X : Type 0} (r : Result X SituationFault) (x : X) → told r ≡ Ok x → r ≡ Ok x
told_ok (Ok y) x h = let same : y ≡ x = cc in ap Ok same
told_ok (Err f) x h = cc

pub calc_fits : (rules : RuleSet) → IsSafeRules (rule_set rules) → (n : Node) (c : Calc) → calc_of rules.tables n ≡ Ok c → InputsFit (rule_set rules) c.situation
unfolding calc_of calc_by
calc_fits rules safe n c h =
    let t = rules.tables in
    let checked = then_ok (file_checked n) (λ _. and_then (situation_in t n) (calc_by t n)) c h in
    let read = then_ok (situation_in t n) (calc_by t n) c checked.2 in
    let found = then_ok (columns_in t read.0.members n) (λ ks. Ok (record { situation = read.0; columns = ks })) c read.2 in
    let same : record { situation = read.0; columns = found.0 } ≡ c = cc in
    let line = line_at (codes "input") 1 n in
    let input = unwrap_or (get (codes "input") n) null in
    subst (λ (x : Calc). InputsFit (rule_set rules) x.situation) same
    (read_fits rules safe (default_in n) line input read.0 (told_ok (situation_of t (default_in n) line input) read.0 read.1))
