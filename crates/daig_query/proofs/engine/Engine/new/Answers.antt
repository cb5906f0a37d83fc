use Rattle.std.proofs.Common.{ap}
use Rattle.daig_query.specs.declared.store.Store.{Store}
use Rattle.daig_query.proofs.Beginning.{none_kept, new_right}
use Rattle.daig_query.proofs.Sweeps.{empty-bounded}
use Rattle.daig_query.proofs.engine.Engine.new.Goals as goal

pub returns-clause-bounded : goal.returns-clause-bounded
returns-clause-bounded g c =
    let store : Store g.row.D-State.Denot = record { graph = c.new-4.result; names = c.new-5.result; states = c.new-6.result; operations = c.in_ok-operations.operations; memo = c.in_ok-memo.memo; recent = c.in_ok-recent.recent; stale = c.new-7.result } in
    empty-bounded c.saturating_add-spare.result store c.new-6.ensures.empty c.in_ok-operations.ensures.empty

pub returns-clause-empty : goal.returns-clause-empty
returns-clause-empty g c = λ x.
    let store : Store g.row.D-State.Denot = record { graph = c.new-4.result; names = c.new-5.result; states = c.new-6.result; operations = c.in_ok-operations.operations; memo = c.in_ok-memo.memo; recent = c.in_ok-recent.recent; stale = c.new-7.result } in
    none_kept store c.new-5.ensures.names x

pub returns-clause-right : goal.returns-clause-right
returns-clause-right g c = λ plan checked.
    let dom = g.D.Domain.operations c.args.domain in
    let store : Store g.row.D-State.Denot = record { graph = c.new-4.result; names = c.new-5.result; states = c.new-6.result; operations = c.in_ok-operations.operations; memo = c.in_ok-memo.memo; recent = c.in_ok-recent.recent; stale = c.new-7.result } in
    new_right store dom plan checked c.new-4.ensures.empty c.new-5.ensures.paths c.new-5.ensures.names c.new-6.ensures.empty (ap (λ m. m.entries) c.in_ok-memo.ensures.empty) c.in_ok-recent.ensures.empty c.new-7.ensures.fresh
