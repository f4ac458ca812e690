-- The tests of several files, one after another.
use Rattle.std.proofs.Common.{◌≡◌, ℕ, List, [], ◌∷◌, Option, Result, Ok, Err, Some, inl, inr, refl}
use Rattle.std.proofs.KnownBytes.{Keeps-refl}
use Rattle.fisca_folder.specs.Layers.{Told}
use Rattle.fisca_params.specs.Source.{Source}
use Rattle.fisca_rule_files.specs.Ending.{TaskOutcome, IsTold}
use Rattle.fisca_rule_files.specs.Refusal.{paths_of}
use Rattle.fisca_rule_files.specs.RuleFiles.{IsAccepted}
use Rattle.fisca_rule_files.specs.declared.refusal.Refusal.{Refusal}
use Rattle.fisca_rules.specs.Views.{rule_set}
use Rattle.fisca_rules.specs.declared.rule_set.RuleSet.{RuleSet}
use Rattle.fisca_run.specs.Counted.{added, no_tests}
use Rattle.fisca_run.specs.Named.{named}
use Rattle.fisca_test_file.specs.declared.all.Verdict.{Verdict}
use Rattle.fisca_yaml.specs.Grouping.{document}
use Rattle.fisca_yaml.specs.Node.{Node}
use Rattle.fisca_commands.specs.ManyTests.{AreFilesTested, IsFileTested, IsTextTested}
use Rattle.fisca_commands.specs.Test.{IsTest, IsTreeTested}

-- what was answered for the tree is answered for the text
pub tree_tested : (rules : RuleSet) (text : List ℕ) (name : Option (List ℕ)) (n : Node) (old new : Option (List ℕ)) (answer : Result Verdict Refusal)
    → document text ≡ Some n → IsTreeTested rules (named name n) old new answer → IsTextTested rules text name old new answer
tree_tested rules text name n old new answer tree (inl is) = inl (is.0, is.1, inr (n, tree, is.2), is.3)
tree_tested rules text name n old new answer tree (inr is) = inr (is.0, (n, tree, is.1), is.2)

-- what is answered for a text under the rule set of files is answered for the files
pub text_tested : (files : List Source) (text : List ℕ) (name : Option (List ℕ)) (rules : RuleSet) (old new : Option (List ℕ)) (answer : Result Verdict Refusal)
    → IsAccepted files (rule_set rules) → IsTextTested rules text name old new answer → IsTest files text name old new answer
text_tested files text name rules old new answer accepted (inl is) = inl (is.0, is.1, inr (rules, accepted, is.2), is.3)
text_tested files text name rules old new answer accepted (inr is) = inr (record { rules = rules; tests = is.0 }, (accepted, is.1), is.2)

module _ (rules : RuleSet) (told : List Told) (name : Option (List ℕ)) (all : List Source) (old : Option (List ℕ)) where
  -- what the files that are left answer is what all answer
  abbrev pub IsUnderWay : List Source → Verdict → Option (List ℕ) → Type 0
  IsUnderWay left total now =
      (new : Option (List ℕ)) (answer : Result Verdict TaskOutcome) → AreFilesTested rules told name left total now new answer → AreFilesTested rules told name all no_tests old new answer

  pub further : (file : Source) (left : List Source) (total verdict : Verdict) (now new : Option (List ℕ))
      → IsUnderWay (file ∷ left) total now → IsFileTested rules name file now new (Ok verdict) → IsUnderWay left (added total verdict) new
  further file left total verdict now new way tested end answer rest = way end answer (new, Ok verdict, tested, rest)

  pub stopped : (file : Source) (left : List Source) (total : Verdict) (now new : Option (List ℕ)) (refusal : Refusal) (outcome : TaskOutcome)
      → IsUnderWay (file ∷ left) total now → IsFileTested rules name file now new (Err refusal) → IsTold (paths_of file.path told) refusal outcome
      → AreFilesTested rules told name all no_tests old new (Err outcome)
  stopped file left total now new refusal outcome way tested is = way new (Err outcome) (new, Err refusal, tested, (outcome, refl, is, Keeps-refl new))

  pub ended : (total : Verdict) (now : Option (List ℕ)) → IsUnderWay [] total now → AreFilesTested rules told name all no_tests old now (Ok total)
  ended total now way = way now (Ok total) (refl, Keeps-refl now)
