use Rattle.std.proofs.Common.{◌≡◌, ◌-◌, ◌++◌, length, string_bytes}
use Rattle.fisca_ast.specs.Steps.Contents.{said_within, IsEnd}
use Rattle.fisca_ast.proofs.contents.content.Given as goal

abbrev pub invariant-loop-turn : goal.invariant-loop-turn
invariant-loop-turn l = (said_within (length l.source) l.source ≡ string_bytes l.said ++ said_within (l._turn-end - l._turn) l.rest) × IsEnd l.rest
