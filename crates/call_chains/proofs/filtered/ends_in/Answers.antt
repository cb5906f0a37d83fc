use Rattle.std.proofs.Common.{sym, ◌∙◌}
use Rattle.call_chains.proofs.Filtering.{ends_short}
use Rattle.call_chains.proofs.filtered.ends_in.Goals as goal

pub returns-in-None : goal.returns-in-None
returns-in-None c =
    record { is = sym (ends_short c.args.calls.now c.args.chain.now c.loop-i.i c.loop-i-test.true c.in-None.ensures.lookup.3) ∙ c.loop-i.invariant }
