use Rattle.test_session.proofs.scripts.told.Given as goal

-- nothing is counted
abbrev pub ghosts-counted : goal.ghosts-counted
ghosts-counted g a = record { name = a.blank.name; parts = a.blank.parts }
