use Rattle.std.proofs.Common.{rules, ◌+◌, take}
use Rattle.imp_check.specs.Entries.{entries_of, entry_of}
use Rattle.call_contexts.specs.Differences.{lists_by}
use Rattle.call_contexts.specs.Tallies.{times}
use Rattle.call_contexts.proofs.Counted.{more_none, more_then, more_all, by_first, by_step, by_whole}
use Rattle.call_contexts.proofs.tallying.count_statements.Goals as goal

pub loop-stmt-init : goal.loop-stmt-init
loop-stmt-init c = record { more = more_none _ (λ n. times n (lists_by (entry_of (entries_of c.args.prog.now)) (take 0 c.args.stmts.now))) (λ n. by_first (entry_of (entries_of c.args.prog.now)) n c.args.stmts.now) }

pub loop-stmt-preserved : goal.loop-stmt-preserved
loop-stmt-preserved c =
    record {
      more = more_then _ _ _ (λ n. times n (lists_by (entry_of (entries_of c.args.prog.now)) (take c.loop-stmt.stmt-index c.args.stmts.now))) _ (λ n. times n (lists_by (entry_of (entries_of c.args.prog.now)) (take (c.loop-stmt.stmt-index + 1) c.args.stmts.now))) (λ n. by_step (entry_of (entries_of c.args.prog.now)) n c.args.stmts.now c.loop-stmt.stmt-index _ c.loop-stmt-test.true (search rules)) c.loop-stmt.invariant.more c.in_ok-count_statement.ensures.more;
    }

pub returns : goal.returns
returns c = record { more = more_all _ _ (λ n. times n (lists_by (entry_of (entries_of c.args.prog.now)) (take c.loop-stmt.stmt-index c.args.stmts.now))) (λ n. times n (lists_by (entry_of (entries_of c.args.prog.now)) c.args.stmts.now)) (λ n. by_whole (entry_of (entries_of c.args.prog.now)) n c.args.stmts.now c.loop-stmt.stmt-index c.loop-stmt-test.false) c.loop-stmt.invariant.more }
