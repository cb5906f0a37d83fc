use Rattle.std.proofs.lemmas.List.{take_all}
use Rattle.std.proofs.Common.{ℕ, ◌+◌, ◌||◌, ◌&&◌, List, take, ap, ◌∙◌}
use Rattle.std.specs.BTreeSet.{contains}
use Rattle.std.specs.Ordering.{nat_cmp}
use Rattle.imp_check.specs.Entries.{entries_of, entry_of}
use Rattle.imp_chains.specs.Chains.{has}
use Rattle.call_contexts.specs.Loops.{loop_in}
use Rattle.call_contexts.proofs.Looped.{adds_none, adds_one, take_none}
use Rattle.call_contexts.proofs.loops.add_loops.Goals as goal
use Rattle.base_values.proofs.Lists.{take_item}

pub loop-stmt-init : goal.loop-stmt-init
loop-stmt-init c = record { added = adds_none (contains nat_cmp c.args.found.now) (λ n. loop_in c.args.proc (entry_of (entries_of c.args.prog.now) n)) (take 0 c.args.stmts.now) (take_none c.args.stmts.now) }

pub loop-stmt-preserved : goal.loop-stmt-preserved
loop-stmt-preserved c =
    let stmts = c.args.stmts.now in
    let i = c.loop-stmt.stmt-index in
    let m = c.stmt-item.result in
    record {
      added =
          adds_one (contains nat_cmp c.args.found.now) (contains nat_cmp c.loop-stmt.found) (contains nat_cmp c.add_loop.new.found) (take i stmts) (take (i + 1) stmts) (λ n. loop_in c.args.proc (entry_of (entries_of c.args.prog.now) n)) m
          c.loop-stmt.invariant.added (take_item stmts i m c.loop-stmt-test.true c.stmt-item.is) c.in_ok-add_loop.ensures.added;
    }

pub returns : goal.returns
returns c =
    record {
      added = λ n.
          c.loop-stmt.invariant.added n
          ∙ ap (λ (ns : List ℕ). contains nat_cmp c.args.found.now n || (has n ns && loop_in c.args.proc (entry_of (entries_of c.args.prog.now) n))) (take_all c.loop-stmt.stmt-index c.args.stmts.now c.loop-stmt-test.false);
    }
