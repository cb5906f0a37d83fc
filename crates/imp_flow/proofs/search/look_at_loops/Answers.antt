use Rattle.std.proofs.Common.{ℕ, subst}
use Rattle.imp_flow.specs.Searches.{AreLoopsLooked}
use Rattle.imp_flow.proofs.ChangedSet.{goes_both, loops_looked_more, one_further}
use Rattle.imp_flow.proofs.search.look_at_loops.Goals as goal

pub loop-place-preserved : goal.loop-place-preserved
loop-place-preserved c =
    let old = c.args.old.now in
    let new = c.args.new.now in
    let s = c.loop-place.search in
    let t = c.look_at_loops_of.new.search in
    let g = c.in_ok-look_at_loops_of.ensures.on in
    record {
      on = goes_both old new c.args.search.now s t c.loop-place.invariant.on g;
      looked = one_further (λ (k : ℕ). AreLoopsLooked old new t k) c.loop-place.place (λ k l. loops_looked_more old new s t g k (c.loop-place.invariant.looked k l)) (subst (λ (k : ℕ). AreLoopsLooked old new t k) c.new.ensures.is c.in_ok-look_at_loops_of.ensures.looked);
    }
