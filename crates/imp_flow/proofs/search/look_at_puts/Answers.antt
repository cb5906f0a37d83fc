use Rattle.std.proofs.Common.{◌<◌, length, Some, sym, ap, ◌∙◌, arith}
use Rattle.std.proofs.lemmas.Option.{slice_get-get_or, slice_get_within}
use Rattle.imp_flow.proofs.ChangedSet.{IsPutLooked, goes_both, put_looked_more, one_more}
use Rattle.imp_flow.proofs.search.look_at_puts.Goals as goal

pub loop-put-preserved : goal.loop-put-preserved
loop-put-preserved c =
    let old = c.args.old.now in
    let new = c.args.new.now in
    let s = c.loop-put.search in
    let t = c.look_at_put.new.search in
    let puts = c.args.puts.now in
    let i = c.loop-put.put-index in
    let p = c.put-item.result in
    let g = c.in_ok-look_at_put.ensures.on in
    record {
      on = goes_both old new c.args.search.now s t c.loop-put.invariant.on g;
      looked = one_more puts (IsPutLooked old new t) i p (λ k q l e. put_looked_more old new s t g q (c.loop-put.invariant.looked k q l e)) (slice_get-get_or puts i p c.loop-put-test.true ∙ ap Some (sym c.put-item.is)) (record { at = c.in_ok-look_at_put.ensures.looked; left = c.in_ok-look_at_put.ensures.left });
    }

pub returns-clause-looked : goal.returns-clause-looked
returns-clause-looked c = record {
  at = λ i p e. let l : i < length c.args.puts.now = slice_get_within c.args.puts.now i p e in (c.loop-put.invariant.looked i p (omega (arith, l, c.loop-put-test.false)) e).at;
  left = λ i p n e f. let l : i < length c.args.puts.now = slice_get_within c.args.puts.now i p e in (c.loop-put.invariant.looked i p (omega (arith, l, c.loop-put-test.false)) e).left n f;
}
