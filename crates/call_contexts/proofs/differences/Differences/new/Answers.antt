use Rattle.imp_check.specs.Entries.{entries_of, entry_of}
use Rattle.call_contexts.proofs.Differing.{differ_none, differ_more, differ_all}
use Rattle.call_contexts.proofs.differences.Differences.new.Goals as goal

pub loop-put-init : goal.loop-put-init
loop-put-init c = differ_none (entry_of (entries_of c.args.old.now)) c.args.puts.now c.args.proc _ _ c.none-found.ensures.lost c.none-found.ensures.gained

pub loop-put-preserved : goal.loop-put-preserved
loop-put-preserved c = differ_more (entry_of (entries_of c.args.old.now)) c.args.puts.now c.args.proc c.loop-put.put-index c.put-item.result _ _ _ _ c.loop-put-test.true c.put-item.is c.loop-put.invariant c.in_ok-add_put.ensures.more

pub returns : goal.returns
returns c = record { are = differ_all (entry_of (entries_of c.args.old.now)) c.args.puts.now c.args.proc c.loop-put.put-index _ _ c.loop-put-test.false c.loop-put.invariant }
