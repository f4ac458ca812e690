-- The steps of code behind `Parts`:
-- What is asked for of a yearly variable for a part of its year.
use Rattle.fisca_num.specs.Number.{Number}
use Rattle.fisca_num.specs.Operations.{quotient_of}
use Rattle.fisca_model.specs.Values.{number}
use Rattle.fisca_key_semantics.specs.Dialogues.{Dialogue, gives, computed}
use Rattle.fisca_typing.specs.Questions.{twelve}
use Rattle.fisca_ops.specs.declared.questions.Share.{Share}
use Rattle.fisca_ops.specs.declared.questions.Share.TheVariants as share

-- what falls to the period of the year's value
abbrev pub share_of : Share → Number → Dialogue
share_of share.Twelfth n = computed (quotient_of n twelve)
share_of share.Whole n = gives (number n)
