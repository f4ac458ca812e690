use Rattle.std.proofs.Common.{◌≡◌, inr, refl, rules, string_bytes}
use Rattle.fisca_rule_files.proofs.rule_files.tell.Goals as goal

pub returns-in-Ok : goal.returns-in-Ok
returns-in-Ok c = let same : string_bytes c.in-Ok.path ≡ c.args.path.now = search rules in inr (c.in-Ok.path, refl, same)
