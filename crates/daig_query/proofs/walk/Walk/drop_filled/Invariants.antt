use Rattle.std.proofs.Common.{◌≡◌, take, length}
use Rattle.daig_query.proofs.walk.Walk.drop_filled.Given as goal

abbrev pub invariant-stack : goal.invariant-stack
invariant-stack l = record {
  target : l.self.target ≡ l.fn.self.target;
  step : l.self.step ≡ l.fn.self.step;
  path : l.self.path ≡ l.fn.self.path;
  found : l.self.found.items ≡ l.fn.self.found.items;
  front : l.self.stack.items ≡ take (length l.self.stack.items) l.fn.self.stack.items;
}

abbrev pub decreases-stack : goal.decreases-stack
decreases-stack l = length l.self.stack.items
