use Rattle.std.proofs.Common.{◌≡◌, ◌++◌, map, take, drop}
use Rattle.daig_tickets.specs.Tickets.{anew}
use Rattle.daig_tickets.proofs.tickets.begin_all.Given as goal

-- the tickets so far begin anew
abbrev pub invariant-loop-place : goal.invariant-loop-place
invariant-loop-place g l = l.open_ones ≡ map anew (take l.place l.initial.open_ones) ++ drop l.place l.initial.open_ones
