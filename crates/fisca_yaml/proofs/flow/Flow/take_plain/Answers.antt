use Rattle.std.proofs.Common.{◌≡◌, ℕ, List, length, take, drop, true, false, sym, ap, ◌∙◌, arith}
use Rattle.fisca_yaml_scalars.specs.Steps.Scalars.{may_begin, trim_end}
use Rattle.fisca_yaml.specs.Flow.{plain_flow}
use Rattle.fisca_yaml_scalars.specs.Scalars.{word, past_word}
use Rattle.fisca_yaml.proofs.Steps.{plain_some}
use Rattle.fisca_yaml.proofs.flow.Flow.take_plain.Goals as goal

pub returns-clause-value : goal.returns-clause-value
returns-clause-value c =
    let bs : List ℕ = c.self.inside.rest.now in
    let text : c.as_bytes-bytes.result.now ≡ bs = c.as_bytes-bytes.ensures.value in
    let n = c.word_len-length.result in
    let front : c.split_at.result.0.now ≡ take n bs = c.split_at.ensures.front in
    let back : c.split_at.result.1.now ≡ drop n bs = c.split_at.ensures.back in
    let allowed : may_begin bs ≡ true = grind arith in
    let word_is : word false bs ≡ take n bs = ap (word false) (sym text) ∙ c.word_len-length.ensures.word ∙ ap (take n) text in
    let rest_is : past_word false bs ≡ drop n bs = ap (past_word false) (sym text) ∙ c.word_len-length.ensures.rest ∙ ap (drop n) text in
    let whole = plain_some bs c.trim_end.result.now c.split_at.result.1.now n (omega arith) (omega (arith, c.word_len-length.ensures.within, ap length text)) allowed word_is rest_is (c.trim_end.ensures ∙ ap trim_end front) back in
    ap plain_flow (sym c.self.view_is) ∙ whole
