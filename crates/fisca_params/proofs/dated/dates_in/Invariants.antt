use Rattle.std.proofs.Common.{◌≡◌, drop, map}
use Rattle.fisca_params.specs.Steps.Content.{read_all}
use Rattle.fisca_params.specs.Written.{seen}
use Rattle.fisca_params.proofs.Walks.{after}
use Rattle.fisca_params.proofs.dated.dates_in.Given as goal

-- what is read, before what is left, is the whole
abbrev pub invariant-loop-one : goal.invariant-loop-one
invariant-loop-one g l = read_all g.V.DatedValue.reads (map seen l.written) ≡ after l.items.items (read_all g.V.DatedValue.reads (map seen (drop l.one-index l.written)))
