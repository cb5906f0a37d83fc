use Rattle.std.proofs.Common.{◌≡◌, ◌^◌, ◌-◌, ◌≤◌, drop}
use Rattle.imp_check.specs.Chains.{chains_through}
use Rattle.imp_check.specs.Tallies.{tally_of, tally_sum, tallies_of}
use Rattle.imp_check.proofs.chains.through.Given as goal

abbrev pub invariant-loop-i : goal.invariant-loop-i
invariant-loop-i l = record {
  known : l.tallies ≡ tallies_of l.later;
  few : l.total.count ≤ 2 ^ 32 - 1;
  told : tally_sum l.total (tally_of (chains_through l.name (drop l.i l.later))) ≡ tally_of (chains_through l.name l.later);
}
