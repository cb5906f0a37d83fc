use Rattle.std.proofs.Common.{subst}
use Rattle.daig_query.specs.Right.{found}
use Rattle.daig_query.specs.Opened.{name_of}
use Rattle.daig_query.specs.Overs.{HasNoOver}
use Rattle.daig_query.proofs.Overs.{over_value, over_passed, first_along, none_of_all}
use Rattle.daig_query.proofs.compute.compute.Goals as goal

pub returns-in-Some-clause-value : goal.returns-in-Some-clause-value
returns-in-Some-clause-value g c =
    let dom = g.D.Domain.operations c.args.dom.now in
    let plan = c.args.flow.now in
    let store = c.args.store.now in
    let over = c.in-Some.over in
    over_passed store.states c.passed_on.result over.0 over.1.now (found dom plan (name_of store c.args.entry.now)) c.passed_on.ensures.is (
    over_value dom plan store c.args.row.now c.args.entry.now c.requires.ready (g.met.D.Domain.laws c.args.dom.now).same over.0 over.1.now (first_along c.as_slice.ensures.same c.in-Some.ensures.is)
    )

pub returns-in-Err-clause-value : goal.returns-in-Err-clause-value
returns-in-Err-clause-value g c =
    let dom = g.D.Domain.operations c.args.dom.now in
    let plan = c.args.flow.now in
    let store = c.args.store.now in
    let over = c.in-Err.over in
    over_passed store.states c.passed_on-in-Err.result over.0 over.1.now (found dom plan (name_of store c.args.entry.now)) c.passed_on-in-Err.ensures.is (
    over_value dom plan store c.args.row.now c.args.entry.now c.requires.ready (g.met.D.Domain.laws c.args.dom.now).same over.0 over.1.now (first_along c.as_slice-in_default.ensures.same c.in-Err.ensures.err)
    )

pub applied-requires-clause-states : goal.applied-requires-clause-states
applied-requires-clause-states g c =
    let dom = g.D.Domain.operations c.args.dom.now in
    let store = c.args.store.now in
    none_of_all dom c.args.flow.now store c.args.row.now c.args.entry.now c.requires.ready c.in_default.not-Fixed (subst (λ xs. HasNoOver store.graph.cells xs 2) c.as_slice-in_default.ensures.same c.in-Ok.ensures.none)

pub returns-in-Ok-clause-over : goal.returns-in-Ok-clause-over
returns-in-Ok-clause-over g c =
    let dom = g.D.Domain.operations c.args.dom.now in
    let store = c.args.store.now in
    let none =
    none_of_all dom c.args.flow.now store c.args.row.now c.args.entry.now c.requires.ready c.in_default.not-Fixed (subst (λ xs. HasNoOver store.graph.cells xs 2) c.as_slice-in_default.ensures.same c.in-Ok.ensures.none)
    in
    λ h. absurd (none h.place h.loop h.chain h.within h.here)
