use Rattle.std.proofs.Common.{◌≡◌, drop, map}
use Rattle.std.specs.List.{position_from}
use Rattle.std.specs.Str.{bytes_eq}
use Rattle.fisca_symbols.specs.KnownEntities.{entities}
use Rattle.fisca_model.specs.Tables.{place_in}
use Rattle.fisca_members.specs.Naming.{name_by}
use Rattle.fisca_members.proofs.titles.place_among.Given as goal

abbrev pub invariant-loop-place : goal.invariant-loop-place
invariant-loop-place l =
    position_from (λ k. bytes_eq k l.name) l.place (map (name_by l.naming) (entities (drop l.place l.entities)))
    ≡ place_in (λ k. bytes_eq k l.name) (map (name_by l.naming) (entities l.entities))
