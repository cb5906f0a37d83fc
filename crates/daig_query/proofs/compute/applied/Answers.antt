use Rattle.std.proofs.Common.{ℕ, ◌<◌, length, IsSome, sym, ap₂, subst, ◌∙◌}
use Rattle.std.specs.Prelude.{IfSome}
use Rattle.daig_graph.specs.declared.value.Value.TheVariants.{State}
use Rattle.daig_query.specs.declared.held.Held.{Held}
use Rattle.daig_query.specs.Kept.{IsValue}
use Rattle.daig_query.specs.Made.{row_result, number, state_at}
use Rattle.daig_query.specs.Right.{found}
use Rattle.daig_query.specs.Opened.{name_of}
use Rattle.daig_query.proofs.Applied.{known_left, known_right, there, alone_value, result_value}
use Rattle.daig_query.proofs.compute.applied.Goals as goal

pub result_of-requires-clause-there : goal.result_of-requires-clause-there
result_of-requires-clause-there g c =
    let dom = g.D.Domain.operations c.args.dom.now in
    let store = c.args.store.now in
    let row = c.args.row.now in
    subst (λ n. IsSome (row_result dom row (state_at store.states n) (state_at store.states c.number-2.result))) (sym c.number.ensures.is) (
    subst (λ n. IsSome (row_result dom row (state_at store.states (number c.args.left)) (state_at store.states n))) (sym c.number-2.ensures.is) (
    there dom c.args.flow.now store row c.args.entry.now c.requires.ready c.requires.states c.requires.plain c.args.left c.args.right c.requires.left c.requires.right (sym c.alone.ensures.is ∙ c.in_default.is)
    )
    )

pub result_of-requires-clause-left : goal.result_of-requires-clause-left
result_of-requires-clause-left g c =
    let dom = g.D.Domain.operations c.args.dom.now in
    let store = c.args.store.now in
    subst (λ n. IfSome n (λ m. m < length store.states)) (sym c.number.ensures.is) (
    known_left dom c.args.flow.now store c.args.row.now c.args.entry.now c.requires.ready c.requires.states c.requires.plain c.args.left c.args.right c.requires.left c.requires.right
    )

pub result_of-requires-clause-known : goal.result_of-requires-clause-known
result_of-requires-clause-known g c =
    let dom = g.D.Domain.operations c.args.dom.now in
    let store = c.args.store.now in
    subst (λ n. IfSome n (λ m. m < length store.states)) (sym c.number-2.ensures.is) (
    known_right dom c.args.flow.now store c.args.row.now c.args.entry.now c.requires.ready c.requires.states c.requires.plain c.args.left c.args.right c.requires.left c.requires.right
    )

pub returns-in-Some-clause-value : goal.returns-in-Some-clause-value
returns-in-Some-clause-value g c =
    let dom = g.D.Domain.operations c.args.dom.now in
    let store = c.args.store.now in
    let value = found dom c.args.flow.now (name_of store c.args.entry.now) in
    let held : ℕ → Held = λ i. record { state = c.in-Some.held.state; index = i } in
    subst (λ i. IsValue store.states (State (held i)) value) (sym c.index_of-index.ensures.is) (
    alone_value dom c.args.flow.now store c.args.row.now c.args.entry.now c.requires.ready c.requires.states c.requires.plain c.args.left c.args.right c.requires.left c.requires.right c.in-Some.held (sym c.alone.ensures.is ∙ c.in-Some.is)
    )

pub returns-clause-value : goal.returns-clause-value
returns-clause-value g c =
    let dom = g.D.Domain.operations c.args.dom.now in
    let store = c.args.store.now in
    let row = c.args.row.now in
    let value = found dom c.args.flow.now (name_of store c.args.entry.now) in
    let later = c.result_of.new.store.states in
    let held : ℕ → Held = λ i. record { state = c.in_ok-state.state; index = i } in
    let made = c.in_ok-state.ensures.is ∙ ap₂ (λ a b. row_result dom row (state_at store.states a) (state_at store.states b)) c.number.ensures.is c.number-2.ensures.is in
    subst (λ i. IsValue later (State (held i)) value) (sym c.index_of-index.ensures.is) (
    result_value dom c.args.flow.now store row c.args.entry.now c.requires.ready c.requires.states c.requires.plain c.args.left c.args.right c.requires.left c.requires.right (sym c.alone.ensures.is ∙ c.in_default.is) later c.in_ok-state.state made
    )
