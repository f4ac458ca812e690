use Rattle.std.proofs.Common.{◌≡◌, Option, Some, None, false, sym, ◌∙◌}
use Rattle.std.specs.Prelude.{MatchOption, ℕ}
use Rattle.std.specs.Option.{is_some}
use Rattle.fisca_inputs.specs.Steps.Entries.{has}
use Rattle.fisca_inputs.specs.Places.{StandsAt}
use Rattle.fisca_inputs.proofs.Numbered.{has_stands}
use Rattle.fisca_inputs.proofs.table.Table.has.Goals as goal

pub returns : goal.returns
returns c = c.is_some.ensures ∙ by c.place.result c.place.ensures
  where
    by : (o : Option ℕ) → MatchOption o (has c.args.self.now.entries.items c.args.key.now ≡ false) (StandsAt c.args.self.now.entries.items c.args.key.now) → is_some o ≡ has c.args.self.now.entries.items c.args.key.now
    by None free = sym free
    by (Some i) stands = sym (has_stands c.args.self.now.entries.items c.args.key.now i stands)
