use Rattle.std.proofs.Common.{◌≤◌, vec_len}
use Rattle.io_edge.proofs.adapters.read_within.Given as goal

-- what was read is within the limit
abbrev pub invariant-loop : goal.invariant-loop
invariant-loop g l = vec_len l.bytes ≤ l.limit
