-- What is told of a test: its first line, and the lines of its outputs.
use Rattle.std.proofs.Common.{◌≡◌, ◌∙◌, ℕ, ap, sym, subst, Bool, true, List, ◌++◌, append-nil}
use Rattle.std.specs.Prelude.{Option}
use Rattle.std.specs.Io.KnownBytes.{Appends}
use Rattle.std.proofs.KnownBytes.{Appends-trans}
use Rattle.fisca_expected.specs.Outputs.{Output}
use Rattle.fisca_test_file.proofs.Handed.{behind, in_front}
use Rattle.fisca_test_file.proofs.OutputLines.{none_failed}
use Rattle.fisca_test_file.specs.Handing.{AppendsSome}
use Rattle.fisca_test_file.specs.Report.{TestContext, head_line, output_lines, passes, verdict_text}
use Rattle.fisca_test_file.specs.declared.margins.Margins.{Margins}

module _ {F : Type 0} (s : TestContext F) (number : ℕ) (name : Option (List ℕ)) (m : Margins) (os : List Output) (passed : Bool) (is : passed ≡ passes s m os) where
  pub head_broken : (old new : Option (List ℕ)) → AppendsSome (head_line passed number name) old new → AppendsSome (verdict_text s number name m os) old new
  head_broken old new part =
      in_front (head_line (passes s m os) number name) (output_lines s m os) old new (subst (λ b. AppendsSome (head_line b number name) old new) is part)

  pub lines_broken : (old mid new : Option (List ℕ)) → Appends old mid (head_line passed number name) → AppendsSome (output_lines s m os) mid new → AppendsSome (verdict_text s number name m os) old new
  lines_broken old mid new head part =
      behind (head_line (passes s m os) number name) (output_lines s m os) old mid new (subst (λ b. Appends old mid (head_line b number name)) is head) part

  pub all_passed : (old new : Option (List ℕ)) → passed ≡ true → Appends old new (head_line passed number name) → Appends old new (verdict_text s number name m os)
  all_passed old new all head =
      let none = none_failed s m os (sym is ∙ all) in
      let whole : head_line passed number name ≡ verdict_text s number name m os =
      ap (λ b. head_line b number name) is ∙ sym (append-nil (head_line (passes s m os) number name)) ∙ ap (λ x. head_line (passes s m os) number name ++ x) (sym none) in
      subst (Appends old new) whole head
