use Rattle.std.proofs.Common.{◌++◌, flat_map, string_bytes, sym, ap, ◌∙◌, map-id}
use Rattle.std.proofs.lemmas.Iterator.{YieldsList-from_chars}
use Rattle.std.proofs.lemmas.Iterator.Consumers.{YieldsList-end}
use Rattle.std.proofs.lemmas.List.{flat_map_more}
use Rattle.fisca_folder.specs.Shown.{shown_char}
use Rattle.fisca_folder.proofs.PlainTexts.{plain_appended}
use Rattle.fisca_folder.proofs.shown.write_shown.Goals as goal

pub loop-c-preserved : goal.loop-c-preserved
loop-c-preserved c =
    c.in_ok-write_char.ensures
    ∙ ap (λ l. l ++ shown_char c.in-Some.c) c.loop-c.invariant
    ∙ flat_map_more shown_char (string_bytes c.args.line.now) c.loop-c.yielded c.in-Some.c

pub returns : goal.returns
returns c =
    let end = YieldsList-end (YieldsList-from_chars c.args.text.now c.utf8.text cc) c.loop-c.yielded _ c.loop-c.yielded_by _ _ c.in-None.is c.next.ensures.steps in
    c.loop-c.invariant ∙ ap (λ cs. string_bytes c.args.line.now ++ flat_map shown_char cs) (sym (map-id c.loop-c.yielded) ∙ end.0)

pub returns-then-is_plain : goal.returns-then-is_plain
returns-then-is_plain c =
    plain_appended c.push_str.result (string_bytes c.args.line.now) c.args.text.now (string_bytes c.push_str.new.self) (sym c.is_plain.ensures ∙ c.if-is_plain.true) c.push_str.ensures.bytes
