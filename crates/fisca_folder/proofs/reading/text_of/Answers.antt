use Rattle.std.proofs.Common.{◌≡◌, rules, string_bytes, subst}
use Rattle.std.specs.Str.{IsUtf8}
use Rattle.std.proofs.lemmas.Str.{IsUtf8-string_bytes}
use Rattle.fisca_folder.proofs.reading.text_of.Goals as goal

pub returns-in-Ok : goal.returns-in-Ok
returns-in-Ok c =
    let same : string_bytes c.in-Ok.text ≡ c.args.bytes.items = search rules in
    (same, subst IsUtf8 same (IsUtf8-string_bytes c.in-Ok.text))
