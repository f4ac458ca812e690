use Rattle.fisca_lexer.proofs.Cut.{all_cut}
use Rattle.fisca_lexer.proofs.law.tokens_stand_between_characters.Goals as goal

pub returns : goal.returns
returns c = all_cut
