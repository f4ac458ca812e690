use Rattle.std.proofs.Common.{◌++◌, flat_map, string_bytes, sym, ap, ◌∙◌, map-id}
use Rattle.std.proofs.lemmas.Iterator.{YieldsList-from_chars}
use Rattle.std.proofs.lemmas.Iterator.Consumers.{YieldsList-end}
use Rattle.std.proofs.lemmas.List.{flat_map_more}
use Rattle.fisca_forms.specs.Forms.{json_character}
use Rattle.fisca_forms.proofs.texts.write_escaped.Goals as goal

pub loop-c-preserved : goal.loop-c-preserved
loop-c-preserved c =
    c.in_ok-write_character.ensures
    ∙ ap (λ l. l ++ json_character c.in-Some.c) c.loop-c.invariant
    ∙ flat_map_more json_character (string_bytes c.args.line.now) c.loop-c.yielded c.in-Some.c

pub returns : goal.returns
returns c =
    let end = YieldsList-end (YieldsList-from_chars c.args.text.now c.utf8.text cc) c.loop-c.yielded _ c.loop-c.yielded_by _ _ c.in-None.is c.next.ensures.steps in
    c.loop-c.invariant ∙ ap (λ cs. string_bytes c.args.line.now ++ flat_map json_character cs) (sym (map-id c.loop-c.yielded) ∙ end.0)
