use Rattle.std.proofs.Common.{ap, ◌∙◌, map, string_bytes, [], ◌∷◌, ◌++◌}
use Rattle.std.proofs.lemmas.List.{map-append}
use native.Mathlib.Numerals.{unary_clauses}
use Rattle.fisca_web.specs.Message.{first_parts}
use Rattle.fisca_web.proofs.message.words_in.Goals as goal

-- one word more: the words before are the first parts, and it is the next part
pub loop-i-preserved : goal.loop-i-preserved
loop-i-preserved c =
    simp unary_clauses (
    ap (map (λ word. string_bytes word)) c.in_ok-push.ensures.items
    ∙ map-append (λ word. string_bytes word) c.loop-i.found.items (c.in_ok-copied.field-0 ∷ [])
    ∙ ap (λ words. words ++ string_bytes c.in_ok-copied.field-0 ∷ []) c.loop-i.invariant
    ∙ ap (λ word. first_parts c.args.bytes.now c.args.ends.now c.loop-i.i ++ word ∷ []) c.in_ok-copied.ensures
    )
