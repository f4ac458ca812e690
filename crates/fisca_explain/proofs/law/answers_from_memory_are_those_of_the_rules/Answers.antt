use Rattle.fisca_explain.proofs.FromMemory.{from_memory}
use Rattle.fisca_explain.proofs.law.answers_from_memory_are_those_of_the_rules.Goals as goal

pub returns : goal.returns
returns c src entries truth left k there = from_memory src entries truth left k there
