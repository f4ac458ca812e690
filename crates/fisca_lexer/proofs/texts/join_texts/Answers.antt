use Rattle.std.proofs.Common.{rules}
use Rattle.fisca_lexer.proofs.Beside.{joins_all}
use Rattle.fisca_lexer.proofs.texts.join_texts.Goals as goal

pub returns : goal.returns
returns c = joins_all _ (λ f u t b g u' t' k. search rules) (λ f u t b g u' t' k. search rules) (λ f u t b g u' t' k. search rules) _ _ _ c.dedup_by.ensures.filtered
