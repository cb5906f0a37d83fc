use Rattle.std.proofs.Common.{◌≡◌, ◌++◌, drop}
use Rattle.imp_table.specs.Pages.{entry_at}
use Rattle.imp_check.specs.Rebuilt.{program_from}
use Rattle.imp_table.proofs.rebuilt.procedures_from.Given as goal

abbrev pub invariant-loop-head : goal.invariant-loop-head
invariant-loop-head l = l.procs ++ program_from (entry_at l.pages) l.most (drop l.head-index l.heads) ≡ program_from (entry_at l.pages) l.most l.heads
