use Rattle.std.proofs.Common.{◌≡◌, ◌≤◌, ◌++◌, ◌∷◌, ◌-◌, take, drop, length}
use Rattle.dom_listseg_meaning.specs.Sets as sets
use Rattle.dom_listseg_sets.proofs.set.place_of.Given as goal

-- the graph goes at the lower place or after it, and at the upper place or before it
abbrev pub invariant-loop-low : goal.invariant-loop-low
invariant-loop-low l = record {
  in_order : l.low ≤ l.high;
  inside : l.high ≤ length l.graphs;
  behind_low : sets.put l.graph l.graphs ≡ take l.low l.graphs ++ sets.put l.graph (drop l.low l.graphs);
  before_high : sets.put l.graph (drop l.high l.graphs) ≡ l.graph ∷ drop l.high l.graphs;
}

abbrev pub decreases-loop-low : goal.decreases-loop-low
decreases-loop-low l = l.high - l.low
