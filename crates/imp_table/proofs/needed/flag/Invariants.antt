use Rattle.std.proofs.Common.{ℕ, ◌-◌, ◌+◌, length}
use Rattle.imp_table.specs.Pages.{IsNeeded}
use Rattle.imp_table.proofs.needed.flag.Given as goal

abbrev pub invariant-loop-flags : goal.invariant-loop-flags
invariant-loop-flags l = (n : ℕ) → IsNeeded l.initial.flags.items n → IsNeeded l.flags.items n

abbrev pub decreases-loop-flags : goal.decreases-loop-flags
decreases-loop-flags l = l.page + 1 - length l.flags.items
