use Rattle.std.proofs.Common.{is_some, ◌∙◌, ap}
use Rattle.std.specs.Str.{bytes_eq}
use Rattle.fisca_symbols.proofs.Places.{place_there}
use Rattle.fisca_symbols.proofs.names.Names.contains.Goals as goal

pub returns : goal.returns
returns c = c.is_some.ensures ∙ ap is_some c.place_of.ensures ∙ place_there (λ k. bytes_eq k c.args.name.now) 0 c.args.self.now
