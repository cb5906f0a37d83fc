use Rattle.std.proofs.Common.{◌≡◌, drop}
use Rattle.imp_check.specs.Entries.{is_headed}
use Rattle.imp_check.proofs.heads.is_headed.Given as goal

-- what is left has the answer
abbrev pub invariant-loop-head : goal.invariant-loop-head
invariant-loop-head l = is_headed (drop l.head-index l.heads) l.name ≡ is_headed l.heads l.name
