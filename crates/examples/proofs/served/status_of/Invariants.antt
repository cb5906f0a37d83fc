use Rattle.examples.proofs.served.status_of.Given as goal

-- nothing is counted
abbrev pub ghosts-status : goal.ghosts-status
ghosts-status g a = record { name = a.blank.name; parts = a.blank.parts }
