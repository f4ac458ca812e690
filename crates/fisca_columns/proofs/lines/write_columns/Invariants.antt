use Rattle.fisca_columns.proofs.lines.write_columns.Given as goal

-- the members are those at the call
abbrev pub ghosts-write_rows : goal.ghosts-write_rows
ghosts-write_rows g a = record { members = g.A.Answers.members a.answers }
