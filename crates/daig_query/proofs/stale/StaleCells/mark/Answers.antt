use Rattle.std.proofs.Common.{◌∙◌, ◌<◌, arith, get_or, length}
use Rattle.std.proofs.lemmas.Option.{slice_get-get_or, slice_get_within}
use Rattle.daig_query.proofs.StaleLists.{planned_on, untouched_on}
use Rattle.daig_query.proofs.stale.StaleCells.mark.Goals as goal

pub loop-cell-preserved : goal.loop-cell-preserved
loop-cell-preserved c =
    let order = c.args.order.now in
    let i = c.loop-cell.cell-index in
    record {
      stale = planned_on c.args.graph.now.cells order c.loop-cell.self.cells c.put.new.self.cells i (get_or order i 0) c.read_by.result c.put.ensures.puts c.read_by.ensures.is (slice_get-get_or order i 0 (omega arith)) c.loop-cell.invariant.stale;
      count = c.put.ensures.count ∙ c.loop-cell.invariant.count;
    }

pub loop-cell-2-init : goal.loop-cell-2-init
loop-cell-2-init c = record {
  stale = λ n s e. let p = c.loop-cell.invariant.stale n s e in (p.0, p.1, λ k below there. absurd (omega (arith, below)));
  count = c.loop-cell.invariant.count;
}

pub loop-cell-2-preserved : goal.loop-cell-2-preserved
loop-cell-2-preserved c =
    let touched = c.args.touched.now in
    let i = c.loop-cell-2.cell-index in
    record {
      stale = untouched_on c.args.graph.now.cells c.args.order.now c.loop-cell-2.self.cells c.put-in-loop-cell-2.new.self.cells touched i (get_or touched i 0) c.put-in-loop-cell-2.ensures.puts (slice_get-get_or touched i 0 (omega arith)) c.loop-cell-2.invariant.stale;
      count = c.put-in-loop-cell-2.ensures.count ∙ c.loop-cell-2.invariant.count;
    }

pub returns-clause-stale : goal.returns-clause-stale
returns-clause-stale c n s e =
    let p = c.loop-cell-2.invariant.stale n s e in
    let touched = c.args.touched.now in
    (p.0, p.1, λ h. p.2 h.0 (let w : h.0 < length touched = slice_get_within touched h.0 n h.1 in omega (arith, w)) h.1)
