use Rattle.std.proofs.Common.{◌≡◌, length, Some, option_map, get_or, sym, ap, subst, ◌∙◌, arith}
use Rattle.std.specs.Prelude.{option_copied, reverse}
use Rattle.std.proofs.lemmas.Option.{slice_get_within}
use Rattle.batch_meaning.specs.Values as plain
use Rattle.batch_meaning.specs.Answers.{Answers, summed}
use Rattle.daig_graph.specs.declared.value.Value.TheVariants.{State, Over}
use Rattle.loop_unroll.specs.Iterates.{value_at}
use Rattle.daig_query.specs.Answered.{Says}
use Rattle.daig_query.proofs.Reading.{cell_there, state_known, joined_more, joined_says, over_says, ticks_next, ticks_within, ticks_failed}
use Rattle.daig_query.proofs.answer.read_cells.Goals as goal

pub returns-in-Some-Over-clause-says : goal.returns-in-Some-Over-clause-says
returns-in-Some-Over-clause-says g c = λ engine vs holds.
    let dom = g.D.Domain.operations c.args.dom.now in
    let n = get_or c.args.cells.now c.cells.cell-index 0 in
    let at : value_at c.args.store.now.graph.cells n ≡ Some (Over c.in-Some-Over.head c.in-Some-Over.chain) = sym c.value.ensures.value ∙ (ap option_copied c.in-Some-Over.is ∙ ap Some c.in-Some-Over.field-0-is) in
    subst (λ z. summed dom engine vs ≡ Answers (plain.Over c.in-Some-Over.head (reverse z))) (sym c.in_ok-chain-in-Some-Over.ensures.cases) (
    over_says dom c.args.store.now c.args.cells.now vs holds engine c.cells.cell-index c.in-Some-Over.head c.in-Some-Over.chain c.cells.so_far c.cells-test.true at (c.cells.invariant.joined vs holds)
    )

pub get-state-requires : goal.get-state-requires
get-state-requires g c =
    let dom = g.D.Domain.operations c.args.dom.now in
    let n = get_or c.args.cells.now c.cells.cell-index 0 in
    let at : value_at c.args.store.now.graph.cells n ≡ Some (State c.in-Some-State.held) = sym c.value.ensures.value ∙ (ap option_copied c.in-Some-State.is ∙ ap Some c.in-Some-State.field-0-is) in
    let p = state_known dom c.args.store.now c.args.cells.now c.requires.there.0 c.requires.there.1 c.cells.cell-index c.in-Some-State.held c.cells-test.true at in
    slice_get_within c.args.store.now.states c.in-Some-State.held.state p.0 p.1

pub returns-in_err-joined-in-Some-State-clause-most : goal.returns-in_err-joined-in-Some-State-clause-most
returns-in_err-joined-in-Some-State-clause-most g c =
    let each = g.D.Domain.counted c.args.dom.now in
    ticks_within c.args.steps.now c.joined.new.steps each c.cells.cell-index (length c.args.cells.now) c.cells-test.true (
    ticks_failed c.args.steps.now c.cells.steps c.joined.new.steps each c.cells.cell-index c.cells.so_far c.cells.invariant.most c.in_err-joined-in-Some-State.ensures.no_memory
    )

pub unreachable-requires : goal.unreachable-requires
unreachable-requires g c =
    let dom = g.D.Domain.operations c.args.dom.now in
    cell_there dom c.args.store.now c.args.cells.now c.requires.there.0 c.requires.there.1 c.cells.cell-index c.cells-test.true (sym c.value.ensures.value ∙ ap option_copied c.in-None.is)

pub cells-preserved : goal.cells-preserved
cells-preserved g c =
    let dom = g.D.Domain.operations c.args.dom.now in
    let each = g.D.Domain.counted c.args.dom.now in
    let n = get_or c.args.cells.now c.cells.cell-index 0 in
    let at : value_at c.args.store.now.graph.cells n ≡ Some (State c.in-Some-State.held) = sym c.value.ensures.value ∙ (ap option_copied c.in-Some-State.is ∙ ap Some c.in-Some-State.field-0-is) in
    record {
      joined = λ vs holds. joined_more dom c.args.store.now c.args.cells.now vs holds c.cells.cell-index c.in-Some-State.held c.get-state.result.now c.in_ok-joined-in-Some-State.field-0 c.cells.so_far c.cells-test.true at c.get-state.ensures.state c.in_ok-joined-in-Some-State.ensures.value (c.cells.invariant.joined vs holds);
      least = omega (arith, c.cells.invariant.least, c.in_ok-joined-in-Some-State.ensures.ticked);
      most = ticks_next c.args.steps.now c.cells.steps c.joined.new.steps each c.cells.cell-index c.cells.so_far c.cells.invariant.most c.in_ok-joined-in-Some-State.ensures.ticked;
    }

pub returns-in-None-so_far-clause-says : goal.returns-in-None-so_far-clause-says
returns-in-None-so_far-clause-says g c = λ engine vs holds.
    let dom = g.D.Domain.operations c.args.dom.now in
    subst (λ o. Says (summed dom engine vs) (option_map State o)) c.in-None-so_far.is (
    joined_says dom c.args.store.now c.args.cells.now vs holds engine c.cells.cell-index c.cells.so_far c.cells.auto.cell-index-end c.cells-test.false (c.cells.invariant.joined vs holds)
    )

pub returns-in-Some-clause-says : goal.returns-in-Some-clause-says
returns-in-Some-clause-says g c = λ engine vs holds.
    let dom = g.D.Domain.operations c.args.dom.now in
    subst (λ o. Says (summed dom engine vs) (option_map State o)) c.in-Some.is (
    joined_says dom c.args.store.now c.args.cells.now vs holds engine c.cells.cell-index c.cells.so_far c.cells.auto.cell-index-end c.cells-test.false (c.cells.invariant.joined vs holds)
    )
