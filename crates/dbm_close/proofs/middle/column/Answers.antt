use Rattle.std.proofs.Common.{arith, refl, ◌∙◌, length-set}
use Rattle.dbm_close.proofs.MiddleLemmas.{beyond-set, done-set, none-anywhere}
use Rattle.dbm_close.proofs.middle.column.Goals as goal

pub loop-i-preserved : goal.loop-i-preserved
loop-i-preserved g c = record {
  size = length-set c.loop-i.bounds c.loop-i.i c.bound.result ∙ c.loop-i.invariant.size;
  done = done-set (λ k x. goal.F-post g c.args.bound k x) c.loop-i.bounds c.loop-i.i c.bound.result (omega arith) c.loop-i.invariant.done c.bound.ensures;
  beyond = beyond-set c.loop-i.bounds c.loop-i.i c.bound.result c.loop-i.invariant.beyond;
}

pub loop-i-init : goal.loop-i-init
loop-i-init g c = record {
  size = refl;
  done = λ k l. absurd (omega arith);
  beyond = λ k l. none-anywhere 32 k;
}
