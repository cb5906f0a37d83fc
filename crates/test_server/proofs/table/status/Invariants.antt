use Rattle.test_server.proofs.table.status.Given as goal

-- nothing is counted
abbrev pub ghosts-counted : goal.ghosts-counted
ghosts-counted g a = record { name = a.blank.name; parts = a.blank.parts }
