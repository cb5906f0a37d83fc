use Rattle.std.proofs.Common.{ℕ, ◌≡◌, drop, nat_eq, true}
use Rattle.std.specs.HashSet.{contains}
use Rattle.imp_check.specs.Programs.{has, all_once}
use Rattle.imp_check.proofs.numbered.all_once.Given as goal

abbrev pub invariant-loop-i : goal.invariant-loop-i
invariant-loop-i l = record {
  seen : (q : ℕ) → contains nat_eq l.seen q ≡ has (drop l.i l.numbers) q;
  told : all_once (drop l.i l.numbers) ≡ true;
}
