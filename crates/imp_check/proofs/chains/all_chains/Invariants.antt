use Rattle.std.proofs.Common.{◌≡◌, ◌^◌, ◌-◌, ◌≤◌, drop}
use Rattle.imp_check.specs.Chains.{all_chains}
use Rattle.imp_check.specs.Tallies.{tally_of, tally_sum, tallies_of}
use Rattle.imp_check.proofs.chains.all_chains.Given as goal

abbrev pub invariant-loop-tally : goal.invariant-loop-tally
invariant-loop-tally l = record {
  known : l.tally-items ≡ tallies_of l.procs;
  few : l.total.count ≤ 2 ^ 32 - 1;
  told : tally_sum l.total (tally_of (all_chains (drop l.tally-index l.procs))) ≡ tally_of (all_chains l.procs);
}
