use Rattle.std.proofs.Common.{◌+◌, ◌-◌, ◌/◌, sym, ◌∙◌, arith}
use Rattle.dom_listseg_sets.proofs.Halves.{behind_one, before_one, one_there}
use Rattle.dom_listseg_sets.proofs.set.place_of.Goals as goal

pub returns-in-Equal-clause-there : goal.returns-in-Equal-clause-there
returns-in-Equal-clause-there c =
    one_there c.args.graph.now c.args.graphs.now (c.loop-low.low + (c.loop-low.high - c.loop-low.low) / 2) c.index-graphs-middle.result (omega arith) c.index-graphs-middle.is
    c.requires.rises (sym c.cmp.ensures ∙ c.in-Equal.is)

pub loop-low-preserved : goal.loop-low-preserved
loop-low-preserved c = record {
  in_order = omega arith;
  inside = c.loop-low.invariant.inside;
  behind_low = behind_one c.args.graph.now c.args.graphs.now (c.loop-low.low + (c.loop-low.high - c.loop-low.low) / 2) c.index-graphs-middle.result (omega arith) c.index-graphs-middle.is
      c.requires.rises (sym c.cmp.ensures ∙ c.in-Greater.is);
  before_high = c.loop-low.invariant.before_high;
}

pub loop-low-preserved-in-Less : goal.loop-low-preserved-in-Less
loop-low-preserved-in-Less c = record {
  in_order = omega arith;
  inside = omega arith;
  behind_low = c.loop-low.invariant.behind_low;
  before_high = before_one c.args.graph.now c.args.graphs.now (c.loop-low.low + (c.loop-low.high - c.loop-low.low) / 2) c.index-graphs-middle.result (omega arith) c.index-graphs-middle.is
      (sym c.cmp.ensures ∙ c.in-Less.is);
}
