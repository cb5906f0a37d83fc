use Rattle.std.proofs.Common.{◌≡◌, ◌++◌, ◌-◌}
use Rattle.daig_gen.specs.Script.{turns}
use Rattle.daig_gen.proofs.generate.put_turns.Given as goal

-- what is written and what is left make the whole
abbrev pub invariant-loop : goal.invariant-loop
invariant-loop l = l.lines.items ++ turns l.statements (l.size - l.counter) l.draws ≡ l.fn.lines.items ++ turns l.fn.statements l.size l.fn.draws
