use Rattle.std.proofs.Common.{◌≡◌, Bool, true, false, sym, arith}
use Rattle.std.specs.Bool.{OnTrue}
use Rattle.fisca_inputs.specs.Entries.{same_key}
use Rattle.fisca_inputs.specs.Places.{StandsAt}
use Rattle.fisca_inputs.proofs.Numbered.{stands_here}
use Rattle.fisca_inputs.proofs.table.stands_at.Goals as goal

pub returns-in-Some : goal.returns-in-Some
returns-in-Some c = on c.eq.result c.eq.ensures
  where
    on : (b : Bool) → b ≡ same_key c.args.key.now c.in-Some.entry.now.0 → OnTrue b (StandsAt c.args.entries.now c.args.key.now c.args.place)
    on true e = let found = c.in-Some.ensures.lookup in stands_here c.args.entries.now c.args.key.now c.args.place c.in-Some.entry.now (omega arith) found.1 (sym e)
    on false e = tt
