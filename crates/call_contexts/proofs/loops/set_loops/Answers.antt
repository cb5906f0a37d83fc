use Rattle.std.proofs.lemmas.List.{take_all}
use Rattle.std.proofs.Common.{ℕ, ◌≡◌, ◌+◌, ◌==◌, Bool, List, take, ap, ◌∙◌}
use Rattle.std.specs.Prelude.{if◌then◌else◌}
use Rattle.imp_check.specs.Entries.{entries_of, entry_of}
use Rattle.imp_table.specs.declared.change.Put.{Put}
use Rattle.imp_chains.specs.Chains.{has}
use Rattle.call_contexts.specs.Loops.{loop_in, put_numbers}
use Rattle.call_contexts.proofs.Looped.{sets_none, sets_one, put_step, take_none}
use Rattle.call_contexts.proofs.loops.set_loops.Goals as goal

pub loop-put-init : goal.loop-put-init
loop-put-init c = record {
  rising = c.requires.rising;
  set = sets_none c.args.stmts.now.items (put_numbers (take 0 c.args.puts.now)) (λ n. loop_in c.args.proc (entry_of (entries_of c.args.prog.now) n)) (ap put_numbers (take_none c.args.puts.now));
}

pub loop-put-preserved : goal.loop-put-preserved
loop-put-preserved c =
    let k = c.args.proc in
    let puts = c.args.puts.now in
    let i = c.loop-put.put-index in
    let p = c.put-item.result in
    let is : ℕ → Bool = λ n. loop_in k (entry_of (entries_of c.args.prog.now) n) in
    let number : c.new-stmt.result ≡ p.number = c.new-stmt.ensures.is in
    let told : c.is_loop_of-is_loop.result ≡ is p.number = c.is_loop_of-is_loop.ensures.is ∙ ap (loop_in k) c.entry.ensures.is ∙ ap is number in
    record {
      rising = c.in_ok-set_loop.ensures.rising;
      set =
          sets_one c.args.stmts.now.items c.loop-put.stmts.items c.set_loop.new.stmts.items (put_numbers (take i puts)) (put_numbers (take (i + 1) puts)) is p.number
          c.loop-put.invariant.set (put_step puts i p c.loop-put-test.true c.put-item.is) (λ n. c.in_ok-set_loop.ensures.set n ∙ (λ j. if n == number j then told j else has n c.loop-put.stmts.items));
    }

pub returns : goal.returns
returns c =
    let initial = c.args.stmts.now.items in
    let is : ℕ → Bool = λ n. loop_in c.args.proc (entry_of (entries_of c.args.prog.now) n) in
    record {
      rising = c.loop-put.invariant.rising;
      set = λ n. c.loop-put.invariant.set n ∙ ap (λ (ps : List Put). if has n (put_numbers ps) then is n else has n initial) (take_all c.loop-put.put-index c.args.puts.now c.loop-put-test.false);
    }
