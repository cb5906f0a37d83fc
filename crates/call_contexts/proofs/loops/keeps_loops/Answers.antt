use Rattle.std.proofs.Common.{ℕ, ◌≡◌, ◌+◌, Bool, take, subst}
use Rattle.imp_check.specs.Entries.{entries_of, entry_of}
use Rattle.call_contexts.specs.Loops.{loop_in, put_numbers}
use Rattle.call_contexts.proofs.Looped.{put_step, same_one}
use Rattle.call_contexts.proofs.loops.keeps_loops.Goals as goal

pub loop-put-preserved : goal.loop-put-preserved
loop-put-preserved c =
    let puts = c.args.puts.now in
    let i = c.loop-put.put-index in
    let p = c.put-item.result in
    let was : ℕ → Bool = λ n. loop_in c.args.proc (entry_of (entries_of c.args.old.now) n) in
    let is : ℕ → Bool = λ n. loop_in c.args.proc (entry_of (entries_of c.args.new.now) n) in
    let alike : was c.new.result ≡ is c.new.result = c.if-not-is_alike.ensures.alike in
    record {
      same = same_one was is (put_numbers (take i puts)) (put_numbers (take (i + 1) puts)) p.number c.loop-put.invariant.same (put_step puts i p c.loop-put-test.true c.put-item.is) (subst (λ (j : ℕ). was j ≡ is j) c.new.ensures.is alike);
    }
