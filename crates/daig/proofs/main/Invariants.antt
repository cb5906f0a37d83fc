use Rattle.daig.proofs.main.Given as goal

-- nothing is counted
abbrev pub ghosts-serve_real : goal.ghosts-serve_real
ghosts-serve_real a = record { name = a.blank.name; parts = a.blank.parts }
