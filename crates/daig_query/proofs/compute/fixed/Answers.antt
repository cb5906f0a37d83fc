use Rattle.std.proofs.Common.{◌≡◌, ◌-◌, suc, ◌<◌, ◌≤◌, true, false, length, sym, subst, ap, ◌∙◌, arith, reverse}
use Rattle.std.specs.Prelude.{IfSome}
use Rattle.batch_meaning.specs.Values as batch
use Rattle.loop_unroll.specs.Iterates.{iterate_of, state_in, GoesOnTo, ConvergesWithin, IsEqual}
use Rattle.daig_query.specs.Right.{found}
use Rattle.daig_query.specs.Opened.{name_of}
use Rattle.daig_query.proofs.Iterates.{going, many_inputs}
use Rattle.daig_query.proofs.Fixes.{converges, settled_is, spends}
use Rattle.daig_query.proofs.compute.fixed.Goals as goal

pub converged-requires-clause-earlier : goal.converged-requires-clause-earlier
converged-requires-clause-earlier g c =
    let dom = g.D.Domain.operations c.args.dom.now in
    let plan = c.args.flow.now in
    let store = c.args.store.now in
    subst (λ b. GoesOnTo b (iterate_of store.graph.cells c.as_slice-cells.result.now) (length c.as_slice-cells.result.now)) (sym c.budget.ensures.is) (
    subst (λ xs. GoesOnTo plan.engine.budget (iterate_of store.graph.cells xs) (length xs)) (sym c.as_slice-cells.ensures.same) (
    going dom plan store c.args.row.now c.args.entry.now c.requires.ready.at (g.met.D.Domain.laws c.args.dom.now).same c.args.head c.requires.fixed.0 c.requires.fixed.1
    )
    )

pub settled-requires-clause-equal : goal.settled-requires-clause-equal
settled-requires-clause-equal g c =
    let dom = g.D.Domain.operations c.args.dom.now in
    let plan = c.args.flow.now in
    let store = c.args.store.now in
    let cells = store.graph.cells in
    let done : ConvergesWithin (iterate_of cells c.as_slice-cells.result.now) (length c.as_slice-cells.result.now) = c.converged.ensures.is.0 c.if-converged.true in
    subst (λ xs. IsEqual (iterate_of cells xs) (length xs - 1)) (sym c.as_slice-cells.ensures.same) (
    converges dom plan store c.args.row.now c.args.entry.now c.requires.ready (g.met.D.Domain.laws c.args.dom.now).same c.args.head c.requires.fixed.0 c.requires.fixed.1 (
    subst (λ xs. ConvergesWithin (iterate_of cells xs) (length xs)) c.as_slice-cells.ensures.same done
    )
    )

pub settled-requires-clause-small : goal.settled-requires-clause-small
settled-requires-clause-small g c =
    let dom = g.D.Domain.operations c.args.dom.now in
    let plan = c.args.flow.now in
    let store = c.args.store.now in
    let many : length c.args.entry.now.inputs ≤ suc plan.engine.budget = many_inputs dom plan store c.args.row.now c.args.entry.now c.requires.ready.at (g.met.D.Domain.laws c.args.dom.now).same c.args.head c.requires.fixed.0 c.requires.fixed.1 in
    let same : length c.as_slice-cells.result.now ≡ length c.args.entry.now.inputs = ap length c.as_slice-cells.ensures.same in
    let low : c.budget.result < 4294967296 = c.budget.type_inv in
    let is : c.budget.result ≡ plan.engine.budget = c.budget.ensures.is in
    omega arith

pub returns-then-converged : goal.returns-then-converged
returns-then-converged g c =
    let dom = g.D.Domain.operations c.args.dom.now in
    let plan = c.args.flow.now in
    let store = c.args.store.now in
    let cells = store.graph.cells in
    let xs = c.args.entry.now.inputs in
    let done : ConvergesWithin (iterate_of cells c.as_slice-cells.result.now) (length c.as_slice-cells.result.now) = c.converged.ensures.is.0 c.if-converged.true in
    let equal = converges dom plan store c.args.row.now c.args.entry.now c.requires.ready (g.met.D.Domain.laws c.args.dom.now).same c.args.head c.requires.fixed.0 c.requires.fixed.1 (
    subst (λ ys. ConvergesWithin (iterate_of cells ys) (length ys)) c.as_slice-cells.ensures.same done
    ) in
    record {
      value = settled_is dom plan store c.args.row.now c.args.entry.now c.requires.ready (g.met.D.Domain.laws c.args.dom.now).same c.args.head c.requires.fixed.0 c.requires.fixed.1 equal c.settled.result (
          subst (λ ys. IfSome (state_in (iterate_of cells ys (length ys - 2))) (λ s. c.settled.result ≡ record { state = s.state; index = length ys - 2 })) c.as_slice-cells.ensures.same c.settled.ensures.is
          );
    }

pub returns-in_ok-chain : goal.returns-in_ok-chain
returns-in_ok-chain g c =
    let dom = g.D.Domain.operations c.args.dom.now in
    let plan = c.args.flow.now in
    let store = c.args.store.now in
    let cells = store.graph.cells in
    let value = (found dom plan (name_of store c.args.entry.now)).value in
    let apart : ConvergesWithin (iterate_of cells c.as_slice-cells.result.now) (length c.as_slice-cells.result.now) → ⊥ = λ h. let q : true ≡ false = sym (c.converged.ensures.is.1 h) ∙ c.if-converged.false in cc in
    record {
      value = subst (λ chain. value ≡ batch.Over c.args.head (reverse chain)) (sym c.in_ok-chain.ensures.is) (
          spends dom plan store c.args.row.now c.args.entry.now c.requires.ready (g.met.D.Domain.laws c.args.dom.now).same c.args.head c.requires.fixed.0 c.requires.fixed.1 c.requires.states (
          subst (λ ys. ConvergesWithin (iterate_of cells ys) (length ys) → ⊥) c.as_slice-cells.ensures.same apart
          )
          );
    }
