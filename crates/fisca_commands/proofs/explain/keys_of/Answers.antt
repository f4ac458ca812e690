use Rattle.std.proofs.Common.{◌≡◌, ◌∙◌, ◌<◌, List, ◌∷◌, [], ◌++◌, inr, length, string_bytes, refl, ap, sym, subst, None, Some, arith}
use Rattle.fisca_columns.specs.Columns.{column_of}
use Rattle.fisca_model.specs.declared.key.Key.{Key}
use Rattle.fisca_situations.specs.Steps.Views.{situation as view}
use Rattle.fisca_symbols.specs.Known.{tables as known}
use Rattle.fisca_commands.specs.Explain.{named}
use Rattle.fisca_commands.proofs.NamedKeys.{named_next, named_nowhere}
use Rattle.fisca_commands.proofs.explain.keys_of.Goals as goal

pub returns-in-None-clause-err : goal.returns-in-None-clause-err
returns-in-None-clause-err c =
    let items = c.args.words.now in
    let inside : c.words.word-index < length items = omega (arith, c.words-test.true, c.words.auto.word-index-end) in
    let key_of = column_of (known c.args.rules.now.tables) (view c.args.situation.now).members c.args.default.now in
    let is : key_of (string_bytes c.word-item.result) ≡ None = ap key_of (sym c.as_str.ensures.value) ∙ sym c.read_column.ensures ∙ c.in-None.is in
    inr (refl, named_nowhere key_of (λ word. string_bytes word) items c.words.word-index c.word-item.result inside c.word-item.is is)

pub words-preserved : goal.words-preserved
words-preserved c =
    let items = c.args.words.now in
    let inside : c.words.word-index < length items = omega (arith, c.words-test.true, c.words.auto.word-index-end) in
    let key_of = column_of (known c.args.rules.now.tables) (view c.args.situation.now).members c.args.default.now in
    let is : key_of (string_bytes c.word-item.result) ≡ Some c.in-Some.key = ap key_of (sym c.as_str.ensures.value) ∙ sym c.read_column.ensures ∙ c.in-Some.is in
    let pushed : c.push.new.self.items ≡ c.words.keys.items ++ c.in-Some.key ∷ [] = c.in_ok-push-in-Some.ensures.items in
    named_next key_of (λ word. string_bytes word) items c.words.word-index c.word-item.result inside c.word-item.is c.words.keys.items c.in-Some.key c.words.invariant is ∙ ap Some (sym pushed)
