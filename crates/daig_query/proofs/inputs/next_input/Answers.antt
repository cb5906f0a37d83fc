use Rattle.std.proofs.Common.{◌≡◌, None, length, sym, subst, ap, ◌∙◌, option_map}
use Rattle.loop_unroll.specs.Iterates.{iterate_of, GoesOnTo, StopsWithin}
use Rattle.imp_flow_rows.specs.Near.{input_name}
use Rattle.imp_flow_rows.specs.Inputs.{iterate_of as iterate_in}
use Rattle.daig_query.specs.Asked.{by_count, joined_next}
use Rattle.daig_query.specs.Opened.{name_of}
use Rattle.daig_query.proofs.Asked.{asked_operation, asked_joined, X, r}
use Rattle.daig_query.proofs.Iterates.{going, next_is}
use Rattle.daig_query.proofs.inputs.next_input.Goals as goal

pub next_iterate-requires-clause-earlier : goal.next_iterate-requires-clause-earlier
next_iterate-requires-clause-earlier g c =
    let dom = g.D.Domain.operations c.args.dom.now in
    let plan = c.args.flow.now in
    let store = c.args.store.now in
    subst (λ b. GoesOnTo b (iterate_of store.graph.cells c.as_slice-found.result.now) (length c.as_slice-found.result.now)) (sym c.budget.ensures.is) (
    subst (λ xs. GoesOnTo plan.engine.budget (iterate_of store.graph.cells xs) (length xs)) (sym c.as_slice-found.ensures.same) (
    going dom plan store c.args.row.now c.args.entry.now c.requires.at (g.met.D.Domain.laws c.args.dom.now).same c.in-Fixed.field-0 c.in-Fixed.field-1 c.in-Fixed.is
    )
    )

pub returns-in-Fixed : goal.returns-in-Fixed
returns-in-Fixed g c =
    let dom = g.D.Domain.operations c.args.dom.now in
    let plan = c.args.flow.now in
    let store = c.args.store.now in
    let cells = store.graph.cells in
    let xs = c.as_slice-found.result.now in
    let path = (name_of store c.args.entry.now).path in
    let row = r dom plan store c.args.row.now c.args.entry.now c.requires.at in
    let answer = c.next_iterate.result in
    let stops : StopsWithin plan.engine.budget (iterate_of cells c.args.entry.now.inputs) (length c.args.entry.now.inputs) → answer ≡ None =
    subst (λ ys. StopsWithin plan.engine.budget (iterate_of cells ys) (length ys) → answer ≡ None) c.as_slice-found.ensures.same (
    subst (λ b. StopsWithin b (iterate_of cells xs) (length xs) → answer ≡ None) c.budget.ensures.is c.next_iterate.ensures.stops
    )
    in
    let goes : (StopsWithin plan.engine.budget (iterate_of cells c.args.entry.now.inputs) (length c.args.entry.now.inputs) → ⊥) → option_map (input_name path) answer ≡ iterate_in (length c.args.entry.now.inputs) row =
    subst (λ ys. (StopsWithin plan.engine.budget (iterate_of cells ys) (length ys) → ⊥) → option_map (input_name path) answer ≡ iterate_in (length ys) row) c.as_slice-found.ensures.same (
    subst (λ b. (StopsWithin b (iterate_of cells xs) (length xs) → ⊥) → option_map (input_name path) answer ≡ iterate_in (length xs) row) c.budget.ensures.is (λ h. c.next_iterate.ensures.goes h path)
    )
    in
    record { next = next_is dom plan store c.args.row.now c.args.entry.now c.requires.at (g.met.D.Domain.laws c.args.dom.now).same c.in-Fixed.field-0 c.in-Fixed.field-1 c.in-Fixed.is answer stops goes }

pub returns-in-Joins : goal.returns-in-Joins
returns-in-Joins g c =
    let dom = g.D.Domain.operations c.args.dom.now in
    let plan = c.args.flow.now in
    let store = c.args.store.now in
    record {
      next =
          c.next_joined.ensures.is (X dom plan store c.args.row.now c.args.entry.now c.requires.at).path
          ∙ ap (λ b. joined_next b store.graph.cells c.as_slice-found.result.now (r dom plan store c.args.row.now c.args.entry.now c.requires.at)) c.budget-in-Joins.ensures.is
          ∙ ap (λ xs. joined_next plan.engine.budget store.graph.cells xs (r dom plan store c.args.row.now c.args.entry.now c.requires.at)) c.as_slice-found.ensures.same
          ∙ asked_joined dom plan store c.args.row.now c.args.entry.now c.requires.at c.in-Joins.field-0 c.in-Joins.field-1 c.in-Joins.field-2 c.in-Joins.field-3 c.in-Joins.is;
    }

pub returns-in_default : goal.returns-in_default
returns-in_default g c =
    let dom = g.D.Domain.operations c.args.dom.now in
    let plan = c.args.flow.now in
    let store = c.args.store.now in
    let row = r dom plan store c.args.row.now c.args.entry.now c.requires.at in
    record {
      next =
          c.next_of_operation.ensures.is (name_of store c.args.entry.now).path
          ∙ ap (λ xs. by_count (length xs) row) c.as_slice-found.ensures.same
          ∙ asked_operation dom plan store c.args.row.now c.args.entry.now c.requires.at c.in_default.not-Fixed c.in_default.not-Joins;
    }
