use Rattle.std.proofs.Common.{◌≡◌, ◌∷◌, List, true, false, ℕ, ◌≤◌, Result, Ok, Err, IfErr, sym, ap, ◌∙◌, arith, subst, rules}
use Rattle.fisca_yaml_scalars.specs.Rows.{Row, last_number}
use Rattle.fisca_yaml_scalars.specs.Steps.Rows.{text_rows, past_marker, is_marker}
use Rattle.fisca_yaml_scalars.specs.Lines.{row}
use Rattle.fisca_yaml.specs.Views.{node}
use Rattle.fisca_yaml.specs.Answers.{Gives, IsTold}
use Rattle.fisca_yaml.specs.declared.fault.YamlFault.{YamlFault}
use Rattle.fisca_yaml.proofs.Numbers.{text_last}
use Rattle.fisca_yaml.specs.Grouping.{tree, value_of, block, alone, on_line}
use Rattle.fisca_yaml_scalars.specs.Deeper.{front}
use Rattle.fisca_yaml_scalars.specs.Steps.Openings.{opens}
use Rattle.fisca_yaml.proofs.Groups.{front_all}
use Rattle.fisca_yaml.proofs.Blocks.{value-opens, value-alone}
use Rattle.fisca_yaml.proofs.reader.read_tree.Goals as goal

pub returns-then-branch-clause-value : goal.returns-then-branch-clause-value
returns-then-branch-clause-value c =
    let head = row c.in-Some.head in
    let rest : List Row = c.next_deeper.new.self in
    let rows_are : text_rows c.args.text.now ≡ head ∷ rest = ap past_marker (sym c.new-lines.ensures) ∙ sym c.skip_start.ensures ∙ c.in-Some.ensures.some.0 in
    let unmarked : is_marker head ≡ false = grind arith in
    let opened : opens head ≡ true = sym c.in_ok-opens-in-Some.ensures ∙ c.if-branch.true in
    let whole : tree 16 c.args.text.now ≡ block 16 (head ∷ front 0 rest) =
    ap (value_of 16) rows_are ∙ value-opens 16 head rest unmarked opened ∙ ap (λ (ls : List Row). block 16 (head ∷ ls)) (sym (front_all rest)) in
    subst (Gives node c.read_block.result) (sym whole) c.read_block.ensures.value

pub returns-else-branch-clause-value : goal.returns-else-branch-clause-value
returns-else-branch-clause-value c =
    let head = row c.in-Some.head in
    let rest : List Row = c.next_deeper.new.self in
    let rows_are : text_rows c.args.text.now ≡ head ∷ rest = ap past_marker (sym c.new-lines.ensures) ∙ sym c.skip_start.ensures ∙ c.in-Some.ensures.some.0 in
    let unmarked : is_marker head ≡ false = grind arith in
    let closed : opens head ≡ false = sym c.in_ok-opens-in-Some.ensures ∙ c.if-branch.false in
    let whole : tree 16 c.args.text.now ≡ alone (front 0 rest) (on_line 16 head) =
    ap (value_of 16) rows_are ∙ value-alone 16 head rest unmarked closed ∙ ap (λ (ls : List Row). alone ls (on_line 16 head)) (sym (front_all rest)) in
    subst (Gives node c.read_alone.result) (sym whole) c.read_alone.ensures.value

pub returns-then-is_marker-clause-told : goal.returns-then-is_marker-clause-told
returns-then-is_marker-clause-told c =
    let rows_are = ap last_number (ap past_marker (sym c.new-lines.ensures) ∙ sym c.skip_start.ensures ∙ c.in-Some.ensures.some.0) in
    (omega (arith, text_last c.args.text.now, rows_are), search rules)

told-up : {X : Type 0} (m n : ℕ) (r : Result X YamlFault) → m ≤ n → IfErr r (IsTold m) → IfErr r (IsTold n)
told-up m n (Ok x) p h = tt
told-up m n (Err f) p h = (omega (arith, h.0), h.1)

pub returns-then-branch-clause-told : goal.returns-then-branch-clause-told
returns-then-branch-clause-told c =
    let rows_are = ap last_number (ap past_marker (sym c.new-lines.ensures) ∙ sym c.skip_start.ensures ∙ c.in-Some.ensures.some.0) in
    told-up _ _ c.read_block.result (omega (arith, text_last c.args.text.now, rows_are)) c.read_block.ensures.told

pub returns-else-branch-clause-told : goal.returns-else-branch-clause-told
returns-else-branch-clause-told c =
    let rows_are = ap last_number (ap past_marker (sym c.new-lines.ensures) ∙ sym c.skip_start.ensures ∙ c.in-Some.ensures.some.0) in
    told-up _ _ c.read_alone.result (omega (arith, text_last c.args.text.now, rows_are)) c.read_alone.ensures.told
