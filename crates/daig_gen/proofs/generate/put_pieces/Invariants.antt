use Rattle.std.proofs.Common.{◌≡◌, ◌++◌, ◌+◌, ◌-◌, ◌*◌, ◌≤◌}
use Rattle.daig_gen.specs.Source.{pieces}
use Rattle.daig_gen.proofs.generate.put_pieces.Given as goal

-- what is written and what is left make the whole
abbrev pub invariant-loop : goal.invariant-loop
invariant-loop l = record {
  added : l.text.items ++ (pieces (l.size - l.counter) l.draws).bytes ≡ l.fn.text.items ++ (pieces l.size l.fn.draws).bytes;
  count : l.statements + (pieces (l.size - l.counter) l.draws).statements ≡ (pieces l.size l.fn.draws).statements;
  state : (pieces (l.size - l.counter) l.draws).state ≡ (pieces l.size l.fn.draws).state;
  enough : l.counter ≤ l.statements;
  few : l.statements ≤ 3 * l.counter;
}
