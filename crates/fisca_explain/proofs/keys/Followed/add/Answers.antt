use Rattle.std.proofs.Common.{◌∙◌, ◌||◌, ap, is_some, sym}
use Rattle.std.proofs.lemmas.Result.{on_ok_weaker}
use Rattle.fisca_key_semantics.specs.Keys.{same_key}
use Rattle.fisca_model.specs.Seen.{key_seen}
use Rattle.fisca_explain.proofs.Having.{has_more, some_more}
use Rattle.fisca_explain.proofs.keys.Followed.add.Goals as goal

pub returns : goal.returns
returns c =
    on_ok_weaker c.keep.result (λ kept before just k.
    ap is_some (kept k) ∙ some_more (same_key (key_seen c.args.key) k) _ _ ∙ ap (λ b. same_key (key_seen c.args.key) k || b) (just k)
    ∙ sym (has_more before (key_seen c.args.key) k)) c.keep.ensures.ok
