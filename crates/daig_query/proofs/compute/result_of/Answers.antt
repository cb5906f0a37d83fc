use Rattle.std.proofs.Common.{ℕ, ◌+◌, ◌≤◌, length, refl, arith}
use Rattle.memo_table.specs.declared.memo.Key.{Key}
use Rattle.memo_table.proofs.Entries.{results-stay}
use Rattle.daig_query.proofs.Growing.{keeps_refl}
use Rattle.daig_query.proofs.Remembered.{result_is, makes_result, results_kept, state_grows, right_more}
use Rattle.daig_query.proofs.Recalls.{not_remembered}
use Rattle.daig_query.proofs.compute.result_of.Goals as goal

as_many : (n : ℕ) → n ≤ n + 1
as_many n = omega arith

pub returns-in_err-operation-clause-computes : goal.returns-in_err-operation-clause-computes
returns-in_err-operation-clause-computes g c =
    let dom = g.D.Domain.operations c.args.dom.now in
    let old = c.args.store.now in
    let operations = c.number_of.new.self in
    let results = results-stay g.row.D-State.Denot dom old.operations operations old.states old.states old.memo.entries c.number_of.ensures.kept (keeps_refl old.states) c.requires.right.results in
    let recent = results-stay g.row.D-State.Denot dom old.operations operations old.states old.states old.recent.entries c.number_of.ensures.kept (keeps_refl old.states) c.requires.right.recent in
    right_more dom c.args.flow.now old (record old { operations = operations }) c.requires.right refl refl (keeps_refl old.states) c.requires.right.single results recent (λ n. refl) (record { states = as_many (length old.states); operations = c.number_of.ensures.few; stale = refl })

pub returns-in-Some-clause-is : goal.returns-in-Some-clause-is
returns-in-Some-clause-is g c =
    let dom = g.D.Domain.operations c.args.dom.now in
    let old = c.args.store.now in
    let operations = c.number_of.new.self in
    let recent = results-stay g.row.D-State.Denot dom old.operations operations old.states old.states old.recent.entries c.number_of.ensures.kept (keeps_refl old.states) c.requires.right.recent in
    let op = c.in_ok-operation.ensures.is in
    let key : Key = record { operation = c.in_ok-operation.operation; left = c.args.left; right = c.args.right } in
    result_is dom operations old.states key c.in-Some.state c.args.row.now op.0 op.2 op.1 (recent key c.in-Some.state c.in-Some.ensures.kept)

pub returns-in-Some-clause-computes : goal.returns-in-Some-clause-computes
returns-in-Some-clause-computes g c =
    let dom = g.D.Domain.operations c.args.dom.now in
    let old = c.args.store.now in
    let operations = c.number_of.new.self in
    let results = results-stay g.row.D-State.Denot dom old.operations operations old.states old.states old.memo.entries c.number_of.ensures.kept (keeps_refl old.states) c.requires.right.results in
    let recent = results-stay g.row.D-State.Denot dom old.operations operations old.states old.states old.recent.entries c.number_of.ensures.kept (keeps_refl old.states) c.requires.right.recent in
    right_more dom c.args.flow.now old (record old { operations = operations }) c.requires.right refl refl (keeps_refl old.states) c.requires.right.single results recent (λ n. refl) (record { states = as_many (length old.states); operations = c.number_of.ensures.few; stale = refl })

pub returns-in-Some-get-clause-is : goal.returns-in-Some-get-clause-is
returns-in-Some-get-clause-is g c =
    let dom = g.D.Domain.operations c.args.dom.now in
    let old = c.args.store.now in
    let operations = c.number_of.new.self in
    let results = results-stay g.row.D-State.Denot dom old.operations operations old.states old.states old.memo.entries c.number_of.ensures.kept (keeps_refl old.states) c.requires.right.results in
    let op = c.in_ok-operation.ensures.is in
    let key : Key = record { operation = c.in_ok-operation.operation; left = c.args.left; right = c.args.right } in
    result_is dom operations old.states key c.in-Some-get.state c.args.row.now op.0 op.2 op.1 (c.in-Some-get.ensures.found dom operations old.states results)

pub returns-in-Some-get-clause-computes : goal.returns-in-Some-get-clause-computes
returns-in-Some-get-clause-computes g c =
    let dom = g.D.Domain.operations c.args.dom.now in
    let old = c.args.store.now in
    let operations = c.number_of.new.self in
    let results = results-stay g.row.D-State.Denot dom old.operations operations old.states old.states old.memo.entries c.number_of.ensures.kept (keeps_refl old.states) c.requires.right.results in
    let recent = results-stay g.row.D-State.Denot dom old.operations operations old.states old.states old.recent.entries c.number_of.ensures.kept (keeps_refl old.states) c.requires.right.recent in
    let op = c.in_ok-operation.ensures.is in
    let key : Key = record { operation = c.in_ok-operation.operation; left = c.args.left; right = c.args.right } in
    let kept = results_kept dom operations old.states old.recent.entries c.keep.new.self.entries key c.in-Some-get.state c.keep.ensures.others recent (c.in-Some-get.ensures.found dom operations old.states results) in
    right_more dom c.args.flow.now old _ c.requires.right refl refl (keeps_refl old.states) c.requires.right.single (c.get-2.ensures.results dom operations old.states results) kept (λ n. refl) (record { states = as_many (length old.states); operations = c.number_of.ensures.few; stale = refl })

pub returns-in_err-number-clause-computes : goal.returns-in_err-number-clause-computes
returns-in_err-number-clause-computes g c =
    let dom = g.D.Domain.operations c.args.dom.now in
    let old = c.args.store.now in
    let operations = c.number_of.new.self in
    let results = results-stay g.row.D-State.Denot dom old.operations operations old.states old.states old.memo.entries c.number_of.ensures.kept (keeps_refl old.states) c.requires.right.results in
    let recent = results-stay g.row.D-State.Denot dom old.operations operations old.states old.states old.recent.entries c.number_of.ensures.kept (keeps_refl old.states) c.requires.right.recent in
    let states = c.make_state.new.states in
    let later = results-stay g.row.D-State.Denot dom operations operations old.states states c.get-2.new.self.entries (keeps_refl operations) c.make_state.ensures.kept (c.get-2.ensures.results dom operations old.states results) in
    let recent_later = results-stay g.row.D-State.Denot dom operations operations old.states states old.recent.entries (keeps_refl operations) c.make_state.ensures.kept recent in
    right_more dom c.args.flow.now old _ c.requires.right refl refl c.make_state.ensures.kept (c.make_state.ensures.once c.requires.right.single) later recent_later (λ n. refl) (record { states = c.make_state.ensures.few; operations = c.number_of.ensures.few; stale = refl })

pub returns-clause-computes : goal.returns-clause-computes
returns-clause-computes g c =
    let dom = g.D.Domain.operations c.args.dom.now in
    let old = c.args.store.now in
    let operations = c.number_of.new.self in
    let results = results-stay g.row.D-State.Denot dom old.operations operations old.states old.states old.memo.entries c.number_of.ensures.kept (keeps_refl old.states) c.requires.right.results in
    let recent = results-stay g.row.D-State.Denot dom old.operations operations old.states old.states old.recent.entries c.number_of.ensures.kept (keeps_refl old.states) c.requires.right.recent in
    let states = c.make_state.new.states in
    let later = results-stay g.row.D-State.Denot dom operations operations old.states states c.get-2.new.self.entries (keeps_refl operations) c.make_state.ensures.kept (c.get-2.ensures.results dom operations old.states results) in
    let recent_later = results-stay g.row.D-State.Denot dom operations operations old.states states old.recent.entries (keeps_refl operations) c.make_state.ensures.kept recent in
    let op = c.in_ok-operation.ensures.is in
    let key : Key = record { operation = c.in_ok-operation.operation; left = c.args.left; right = c.args.right } in
    let stays = state_grows dom old.states states c.make_state.ensures.kept in
    let is = makes_result dom operations old.states states key c.in_ok-number.number c.args.row.now op.0 op.2 op.1 (stays c.args.left c.requires.left) (stays c.args.right c.requires.known) c.requires.there c.in_ok-number.ensures.is in
    let kept = results_kept dom operations states old.recent.entries c.keep-2.new.self.entries key c.in_ok-number.number c.keep-2.ensures.others recent_later is in
    right_more dom c.args.flow.now old _ c.requires.right refl refl c.make_state.ensures.kept (c.make_state.ensures.once c.requires.right.single) (c.keep-3.ensures.results dom operations states later is) kept (λ n. refl) (record { states = c.make_state.ensures.few; operations = c.number_of.ensures.few; stale = refl })

pub returns-in_err-number-clause-remembered : goal.returns-in_err-number-clause-remembered
returns-in_err-number-clause-remembered g c =
    λ r.
    let op = c.in_ok-operation.ensures.is in
    absurd (not_remembered c.args.store.now c.number_of.new.self c.args.row.now op.0 c.in_ok-operation.operation c.args.left c.args.right op.1 op.2 c.in_ok-operation.ensures.once c.number_of.ensures.kept c.in_default-get.ensures.value r)

pub returns-clause-remembered : goal.returns-clause-remembered
returns-clause-remembered g c =
    λ r.
    let op = c.in_ok-operation.ensures.is in
    absurd (not_remembered c.args.store.now c.number_of.new.self c.args.row.now op.0 c.in_ok-operation.operation c.args.left c.args.right op.1 op.2 c.in_ok-operation.ensures.once c.number_of.ensures.kept c.in_default-get.ensures.value r)
