use Rattle.std.proofs.Common.{◌≡◌, ◌≢◌, ℕ, ◌<◌, Some, slice_get}
use Rattle.daig_tickets.specs.declared.tickets.OpenTicket.{OpenTicket}
use Rattle.daig_tickets.proofs.tickets.place_in.Given as goal

-- no ticket so far has the number
abbrev pub invariant-loop-place : goal.invariant-loop-place
invariant-loop-place g l = (i : ℕ) (o : OpenTicket g.row.G.Denot) → i < l.place → slice_get l.open_ones i ≡ Some o → o.number ≢ l.number
