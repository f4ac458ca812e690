use Rattle.std.proofs.Common.{◌∙◌, ap, is_some, sym}
use Rattle.fisca_model.specs.Seen.{key_seen}
use Rattle.fisca_explain.proofs.Having.{some_mapped}
use Rattle.fisca_explain.proofs.keys.Followed.has.Goals as goal

pub returns : goal.returns
returns c before just = c.is_some.ensures ∙ sym (some_mapped _ c.look.result) ∙ ap is_some c.look.ensures ∙ just (key_seen c.args.key.now)
