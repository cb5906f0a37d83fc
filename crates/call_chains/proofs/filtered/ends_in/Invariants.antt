use Rattle.std.proofs.Common.{◌≡◌, drop}
use Rattle.imp_chains.specs.Chains.{ends_in}
use Rattle.call_chains.proofs.filtered.ends_in.Given as goal

abbrev pub invariant-loop-i : goal.invariant-loop-i
invariant-loop-i l = ends_in (drop l.i l.calls) (drop l.i l.chain) ≡ ends_in l.calls l.chain
