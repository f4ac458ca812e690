-- Files make one rule set, and a text says one file under it; what is accepted is refused for want of memory alone.
use Rattle.std.proofs.Common.{◌≡◌, ℕ, Bool, true, false, List, Option, Some, Result, Ok, Err, sym, ap, subst, ◌∙◌, inl, inr, arith}
use Rattle.fisca_columns.specs.Calc.{Calc, calc_of}
use Rattle.fisca_commands.specs.Calc.{IsAsked, RefusesText}
use Rattle.fisca_grid_run.specs.Forms.{is_asked}
use Rattle.fisca_grid_run.specs.Run.{IsNamedFor, IsNamedIf, IsRunning, RefusesRunText, RefusesRunTree, RefusesRunning, Running, SaysRun}
use Rattle.fisca_commands.specs.Test.{RefusesTests, RefusesTree, SaysTests}
use Rattle.fisca_grid_run.specs.Yaml.{IsYamlRefused}
use Rattle.fisca_command_line.specs.declared.options.TableForm.{TableForm}
use Rattle.fisca_params.specs.Answers.{Refuses}
use Rattle.fisca_params.specs.Source.{Source}
use Rattle.fisca_params.specs.Steps.Files.{tree_of}
use Rattle.fisca_params.specs.Tree.{TreeNode}
use Rattle.fisca_scales.specs.declared.fault.ParamFault.{ParamFault}
use Rattle.fisca_scales.specs.declared.fault.ParamFault.TheVariants as params
use Rattle.fisca_api.proofs.Alike.{same_calc, same_run, same_tests}
use Rattle.fisca_api.specs.Alike.{AreAlike}
use Rattle.fisca_rule_files.specs.Modules.{FileFault, IsRefusalOf, rules_by}
use Rattle.fisca_rule_files.specs.RuleFiles.{IsAccepted, IsToldOf, RefusesFiles}
use Rattle.fisca_rule_files.specs.declared.refusal.Refusal.{Refusal}
use Rattle.fisca_rule_files.specs.declared.refusal.Refusal.TheVariants.{Memory}
use Rattle.fisca_rules.specs.Rules.{Rules}
use Rattle.fisca_rules.specs.Views.{rule_set}
use Rattle.fisca_rules.specs.declared.rule_set.RuleSet.{RuleSet}
use Rattle.fisca_run.specs.Named.{named}
use Rattle.fisca_run_file.specs.RunFiles.{RunFile, run_file_of}
use Rattle.fisca_test_file.specs.Steps.Tests.{tests_of}
use Rattle.fisca_test_file.specs.Tests.{Test}
use Rattle.fisca_yaml.specs.Grouping.{document}
use Rattle.fisca_yaml.specs.Node.{Node}

pub ok_same : {X E : Type 0} (x y : X) → ◌≡◌ {A = Result X E} (Ok x) (Ok y) → x ≡ y
ok_same x y e = cc

pub ok_err : {X E : Type 0} (x : X) (e : E) → ◌≡◌ {A = Result X E} (Ok x) (Err e) → ⊥
ok_err x e h = cc

pub some_same : {X : Type 0} (x y : X) → Some x ≡ Some y → x ≡ y
some_same x y e = cc

-- One rule set

pub accepted_once : (files : List Source) (u v : Rules) → IsAccepted files u → IsAccepted files v → u ≡ v
accepted_once files u v one two =
    let tree : one.0 ≡ two.0 = ok_same one.0 two.0 (sym one.1.1 ∙ two.1.1) in
    ok_same u v (sym one.2 ∙ (ap (λ t. rules_by t files) tree ∙ two.2))

-- One file under rule sets that say the same

module _ (a b : RuleSet) (alike : AreAlike a b) (text : List ℕ) where
  pub run_once : (f g : RunFile) → SaysRun a text f → SaysRun b text g → f ≡ g
  run_once f g one two =
      let tree : one.0 ≡ two.0 = some_same one.0 two.0 (sym one.1 ∙ two.1) in
      ok_same f g (sym one.2 ∙ (same_run a b alike one.0 ∙ (ap (run_file_of b.tables) tree ∙ two.2)))

  pub calc_once : (x y : Calc) → IsAsked a text x → IsAsked b text y → x ≡ y
  calc_once x y one two =
      let tree : one.0 ≡ two.0 = some_same one.0 two.0 (sym one.1 ∙ two.1) in
      ok_same x y (sym one.2 ∙ (same_calc a b alike one.0 ∙ (ap (calc_of b.tables) tree ∙ two.2)))

  pub tests_once : (name : Option (List ℕ)) (ts us : List Test) → SaysTests a text name ts → SaysTests b text name us → ts ≡ us
  tests_once name ts us one two =
      let tree : one.0 ≡ two.0 = some_same one.0 two.0 (sym one.1 ∙ two.1) in
      ok_same ts us (sym one.2 ∙ (same_tests a b alike (named name one.0) ∙ (ap (λ n. tests_of b.tables (named name n)) tree ∙ two.2)))

named_if_once : (is : Bool) (n : Node) (xs ys : List (List ℕ)) → IsNamedIf is n xs → IsNamedIf is n ys → xs ≡ ys
named_if_once true n xs ys one two = ok_same xs ys (sym one ∙ two)
named_if_once false n xs ys one two = one ∙ sym two

named_once : (form : TableForm) (m n : Node) (xs ys : List (List ℕ)) → m ≡ n → IsNamedFor form m xs → IsNamedFor form n ys → xs ≡ ys
named_once form m n xs ys same one two = named_if_once (is_asked form) n xs ys (subst (λ k. IsNamedFor form k xs) same one) two

-- one running: of a rule set, of a run file, and of the names of its cells
pub running_once : (files : List Source) (text : List ℕ) (form : TableForm) (r q : Running) → IsRunning files text form r → IsRunning files text form q
    → AreAlike r.rules q.rules × (r.run ≡ q.run) × (r.names ≡ q.names)
running_once files text form r q one two =
    let alike = accepted_once files (rule_set r.rules) (rule_set q.rules) one.0 two.0 in
    let tree : one.2.0 ≡ two.2.0 = some_same one.2.0 two.2.0 (sym one.2.1 ∙ two.2.1) in
    (alike, run_once r.rules q.rules alike text r.run q.run one.1 two.1, named_once form one.2.0 two.2.0 r.names q.names tree one.2.2 two.2.2)

-- Refusals

memory_of_tree : (files : List Source) (tree : List TreeNode) (refusal : Refusal) (fault : ParamFault) → tree_of files ≡ Ok tree → Refuses fault (tree_of files)
    → IsToldOf files fault refusal → refusal ≡ Memory
memory_of_tree files tree refusal (params.Yaml file fault) is refuses told = absurd (ok_err tree _ (sym is ∙ refuses.1))
memory_of_tree files tree refusal (params.BadParameter file line) is refuses told = absurd (ok_err tree _ (sym is ∙ refuses))
memory_of_tree files tree refusal (params.DuplicateName file line) is refuses told = absurd (ok_err tree _ (sym is ∙ refuses))
memory_of_tree files tree refusal params.BadScale is refuses told = absurd refuses
memory_of_tree files tree refusal params.Undefined is refuses told = absurd refuses
memory_of_tree files tree refusal (params.Number fault) is refuses told = absurd refuses
memory_of_tree files tree refusal params.Memory is refuses (inl e) = e
memory_of_tree files tree refusal params.Memory is refuses (inr told) = absurd told.3

memory_of_rules : (o : Result Rules FileFault) (u : Rules) (refusal : Refusal) → o ≡ Ok u → IsRefusalOf o refusal → refusal ≡ Memory
memory_of_rules (Ok v) u refusal is told = told
memory_of_rules (Err e) u refusal is told = cc

-- files that make a rule set are refused for want of memory alone
pub memory_of_files : (files : List Source) (u : Rules) (refusal : Refusal) → IsAccepted files u → RefusesFiles files refusal → refusal ≡ Memory
memory_of_files files u refusal accepted (inl many) = let few = accepted.1.0 in let more = many.1 in absurd (omega (arith, few, more))
memory_of_files files u refusal accepted (inr (inl tree)) = memory_of_tree files accepted.0 refusal tree.1.0 accepted.1.1 tree.1.1 tree.1.2
memory_of_files files u refusal accepted (inr (inr rules)) =
    let tree : accepted.0 ≡ rules.0 = ok_same accepted.0 rules.0 (sym accepted.1.1 ∙ rules.1.1) in
    memory_of_rules (rules_by rules.0 files) u refusal (ap (λ t. rules_by t files) (sym tree) ∙ accepted.2) rules.2

memory_of_yaml : (text : List ℕ) (n : Node) (refusal : Refusal) → document text ≡ Some n → IsYamlRefused text refusal → refusal ≡ Memory
memory_of_yaml text n refusal is (inl e) = e
memory_of_yaml text n refusal is (inr told) = let none = told.2.none in cc

-- so are texts that say a file, under rule sets that say the same
module _ (a b : RuleSet) (alike : AreAlike a b) (text : List ℕ) (refusal : Refusal) where
  run_tree : (f : RunFile) (m n : Node) → m ≡ n → run_file_of b.tables n ≡ Ok f → RefusesRunTree a m refusal → refusal ≡ Memory
  run_tree f m n same read (inl e) = e
  run_tree f m n same read (inr told) = absurd (ok_err f told.0 (sym (same_run a b alike m ∙ (ap (run_file_of b.tables) same ∙ read)) ∙ told.3))

  pub memory_of_run_text : (f : RunFile) → SaysRun b text f → RefusesRunText a text refusal → refusal ≡ Memory
  memory_of_run_text f says (inl yaml) = memory_of_yaml text says.0 refusal says.1 yaml
  memory_of_run_text f says (inr told) = run_tree f told.0 says.0 (some_same told.0 says.0 (sym told.1 ∙ says.1)) says.2 told.2

  pub memory_of_text : (x : Calc) → IsAsked b text x → RefusesText a text refusal → refusal ≡ Memory
  memory_of_text x asked (inl yaml) = memory_of_yaml text asked.0 refusal asked.1 yaml
  memory_of_text x asked (inr told) =
      let same : told.0 ≡ asked.0 = some_same told.0 asked.0 (sym told.4 ∙ asked.1) in
      absurd (ok_err x told.1 (sym (same_calc a b alike told.0 ∙ (ap (calc_of b.tables) same ∙ asked.2)) ∙ told.5))

  test_tree : (ts : List Test) (m n : Node) → m ≡ n → tests_of b.tables n ≡ Ok ts → RefusesTree a m refusal → refusal ≡ Memory
  test_tree ts m n same read (inl e) = e
  test_tree ts m n same read (inr told) = absurd (ok_err ts told.0 (sym (same_tests a b alike m ∙ (ap (tests_of b.tables) same ∙ read)) ∙ told.3))

  pub memory_of_tests_text : (name : Option (List ℕ)) (ts : List Test) → SaysTests b text name ts → RefusesTests a text name refusal → refusal ≡ Memory
  memory_of_tests_text name ts says (inl yaml) = memory_of_yaml text says.0 refusal says.1 yaml
  memory_of_tests_text name ts says (inr told) =
      test_tree ts (named name told.0) (named name says.0) (ap (named name) (some_same told.0 says.0 (sym told.1 ∙ says.1))) says.2 told.2

pub memory_of_run : (files : List Source) (text : List ℕ) (rules : RuleSet) (f : RunFile) (refusal : Refusal) → IsAccepted files (rule_set rules) → SaysRun rules text f
    → RefusesRunning files text refusal → refusal ≡ Memory
memory_of_run files text rules f refusal accepted says (inl refused) = memory_of_files files (rule_set rules) refusal accepted refused
memory_of_run files text rules f refusal accepted says (inr refused) =
    memory_of_run_text refused.0 rules (accepted_once files (rule_set refused.0) (rule_set rules) refused.1 accepted) text refusal f says refused.2
