use Rattle.std.proofs.Common.{◌≡◌, List, ◌∙◌, ap, drop, take, map, string_bytes}
use Rattle.std.proofs.lemmas.List.{take_rest}
use Rattle.fisca_params.specs.Source.{Source}
use Rattle.fisca_web.specs.Message.{files_of, first_parts, part_of}
use Rattle.fisca_web.proofs.Told.{answered}
use Rattle.fisca_web.proofs.answer_message.Goals as goal

pub returns : goal.returns
returns c done =
    let all : c.as_slice-files.result.now ≡ files_of c.args.bytes.now c.args.ends.now c.args.words = c.as_slice-files.ensures.value ∙ c.in-Ok.ensures.files in
    answered _ (first_parts c.args.bytes.now c.args.ends.now c.args.words) _ (drop c.args.tests (files_of c.args.bytes.now c.args.ends.now c.args.words))
    _ (take c.args.tests (files_of c.args.bytes.now c.args.ends.now c.args.words)) c.in-Some.text.now (part_of c.args.bytes.now c.args.ends.now c.args.words) c.answer_words.new.out c.answer_words.new.reply
    (ap (map (λ word. string_bytes word)) c.as_slice.ensures.value ∙ c.in-Ok.ensures.words)
    (take_rest c.as_slice-files.result.now c.args.tests ∙ ap (λ (files : List Source). drop c.args.tests files) all)
    (ap (λ (files : List Source). take c.args.tests files) all)
    c.in-Some.ensures
    (c.answer_words.ensures done)
