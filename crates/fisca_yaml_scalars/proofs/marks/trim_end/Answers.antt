use Rattle.std.proofs.Common.{◌≡◌, ◌+◌, ◌-◌, ◌<◌, arith, ◌∙◌, true, false, get_or, take, sym, ap}
use Rattle.std.proofs.lemmas.Grind.{common_steps}
use Rattle.fisca_yaml_scalars.specs.Steps.Rows.{is_blank}
use Rattle.fisca_yaml_scalars.specs.Steps.Scalars.{trim_end}
use Rattle.fisca_yaml_scalars.proofs.Steps.{trim_less, trim_done, blank_ascii}
use Rattle.fisca_yaml_scalars.proofs.marks.trim_end.Goals as goal
use Rattle.fisca_yaml_scalars.proofs.marks.trim_end.Goals.{then-blanks-test+else-is_blank, else-blanks-test}

pub blanks-preserved : goal.blanks-preserved
blanks-preserved c =
    let i = c.blanks.invariant in
    let bs = c.as_bytes-bytes.result.now in
    let n = c.blanks.end in
    let blank : is_blank (get_or bs (n - 1) 0) ≡ true = sym c.is_blank.ensures ∙ c.if-is_blank.true in
    let small : get_or bs (n - 1) 0 < 128 = blank_ascii (get_or bs (n - 1) 0) blank in
    let same : n - 1 + 1 ≡ n = omega arith in
    (omega arith, (omega arith, λ k h. absurd (omega arith)), i.2 ∙ ap (λ k. trim_end (take k bs)) (sym same) ∙ trim_less bs (n - 1) (omega arith) blank)

pub returns : goal.returns
returns c =
    let i = c.blanks.invariant in
    let bs = c.as_bytes-bytes.result.now in
    let n = c.blanks.end in
    let kept : trim_end (take n bs) ≡ take n bs = elim c.blanks-test.branch [
      | then-blanks-test+else-is_blank w ↦
          let full : is_blank (get_or bs (n - 1) 0) ≡ false = sym w.is_blank.ensures ∙ w.if-is_blank.false in
          let same : n - 1 + 1 ≡ n = omega (arith, w.blanks-test.true) in
          ap (λ k. trim_end (take k bs)) (sym same) ∙ trim_done bs (n - 1) (omega (arith, w.blanks-test.true)) full ∙ ap (λ k. take k bs) same
      | else-blanks-test w ↦ let zero : n ≡ 0 = omega (arith, w.blanks-test.false) in ap (λ k. trim_end (take k bs)) zero ∙ ap (λ k. take k bs) (sym zero)
    ] in
    let text : c.args.text.now ≡ bs = sym c.as_bytes-bytes.ensures.value in
    let whole : trim_end c.args.text.now ≡ take n c.args.text.now = ap trim_end text ∙ i.2 ∙ kept ∙ ap (take n) (sym text) in
    let cut : c.range.result.now ≡ take n c.args.text.now = grind (arith, common_steps) in
    cut ∙ sym whole
