use Rattle.std.proofs.Common.{Some, refl, sym, subst, ◌∙◌}
use Rattle.std.specs.FinMap.{get}
use Rattle.base_values.proofs.Cases.{none_of}
use Rattle.cell_names.specs.Paths.{name_in}
use Rattle.daig_query.specs.Opened.{unfound, IsNext}
use Rattle.daig_query.proofs.Firsts.{first_found, first_taken, named_beside, stays_named}
use Rattle.daig_query.proofs.Looking.{later}
use Rattle.daig_query.proofs.opening.first_absent.Goals as goal

pub returns-then-not-there-clause-right : goal.returns-then-not-there-clause-right
returns-then-not-there-clause-right g c =
    let dom = g.D.Domain.operations c.args.dom.now in
    let old = c.args.store.now in
    let new = record old { names = c.add_input.new.self } in
    let named = named_beside dom c.args.flow.now old c.add_input.new.self c.in-Some.name c.in_ok-cell-in-Some.cell c.requires.right c.args.entry.now c.requires.entry c.in-Some.ensures.path c.in_ok-cell-in-Some.ensures.name c.add_input.ensures.paths in
    later dom c.args.flow.now old new c.requires.right (name_in old.names.paths c.in-Some.name) c.in-Some.name c.in_ok-cell-in-Some.cell named

pub returns-then-not-there-clause-stays : goal.returns-then-not-there-clause-stays
returns-then-not-there-clause-stays g c =
    let dom = g.D.Domain.operations c.args.dom.now in
    let old = c.args.store.now in
    let new = record old { names = c.add_input.new.self } in
    let named = named_beside dom c.args.flow.now old c.add_input.new.self c.in-Some.name c.in_ok-cell-in-Some.cell c.requires.right c.args.entry.now c.requires.entry c.in-Some.ensures.path c.in_ok-cell-in-Some.ensures.name c.add_input.ensures.paths in
    stays_named dom c.args.flow.now old new named.names c.args.entry.now c.requires.entry c.args.entry.now.inputs refl

pub returns-then-not-there-clause-next : goal.returns-then-not-there-clause-next
returns-then-not-there-clause-next g c =
    let dom = g.D.Domain.operations c.args.dom.now in
    let plan = c.args.flow.now in
    let old = c.args.store.now in
    let new = record old { names = c.add_input.new.self } in
    let named = named_beside dom c.args.flow.now old c.add_input.new.self c.in-Some.name c.in_ok-cell-in-Some.cell c.requires.right c.args.entry.now c.requires.entry c.in-Some.ensures.path c.in_ok-cell-in-Some.ensures.name c.add_input.ensures.paths in
    subst (λ u. IsNext dom plan new c.args.entry.now (Some (unfound u))) (sym c.without_cell.ensures.is) (
    first_found dom plan old new c.requires.right (name_in old.names.paths c.in-Some.name) c.in-Some.name c.in_ok-cell-in-Some.cell named c.args.entry.now c.requires.entry c.in-Some.ensures.next (none_of (get old.graph.cells c.in_ok-cell-in-Some.cell) (sym c.has_cell-there.ensures.is ∙ c.if-not-there.true))
    )

pub returns-in_err-push-in-Some-clause-names : goal.returns-in_err-push-in-Some-clause-names
returns-in_err-push-in-Some-clause-names g c =
    let old = c.args.store.now in
    (named_beside (g.D.Domain.operations c.args.dom.now) c.args.flow.now old c.add_input.new.self c.in-Some.name c.in_ok-cell-in-Some.cell c.requires.right c.args.entry.now c.requires.entry c.in-Some.ensures.path c.in_ok-cell-in-Some.ensures.name c.add_input.ensures.paths).names

pub returns-in_err-push-in-Some-clause-right : goal.returns-in_err-push-in-Some-clause-right
returns-in_err-push-in-Some-clause-right g c =
    let dom = g.D.Domain.operations c.args.dom.now in
    let old = c.args.store.now in
    let new = record old { names = c.add_input.new.self } in
    let named = named_beside dom c.args.flow.now old c.add_input.new.self c.in-Some.name c.in_ok-cell-in-Some.cell c.requires.right c.args.entry.now c.requires.entry c.in-Some.ensures.path c.in_ok-cell-in-Some.ensures.name c.add_input.ensures.paths in
    later dom c.args.flow.now old new c.requires.right (name_in old.names.paths c.in-Some.name) c.in-Some.name c.in_ok-cell-in-Some.cell named

pub returns-in_err-push-in-Some-clause-stays : goal.returns-in_err-push-in-Some-clause-stays
returns-in_err-push-in-Some-clause-stays g c =
    let dom = g.D.Domain.operations c.args.dom.now in
    let old = c.args.store.now in
    let new = record old { names = c.add_input.new.self } in
    let named = named_beside dom c.args.flow.now old c.add_input.new.self c.in-Some.name c.in_ok-cell-in-Some.cell c.requires.right c.args.entry.now c.requires.entry c.in-Some.ensures.path c.in_ok-cell-in-Some.ensures.name c.add_input.ensures.paths in
    stays_named dom c.args.flow.now old new named.names c.args.entry.now c.requires.entry c.push.new.self c.in_err-push-in-Some.ensures.err

pub returns-in_ok-push-in-Some-clause-names : goal.returns-in_ok-push-in-Some-clause-names
returns-in_ok-push-in-Some-clause-names g c =
    let old = c.args.store.now in
    (named_beside (g.D.Domain.operations c.args.dom.now) c.args.flow.now old c.add_input.new.self c.in-Some.name c.in_ok-cell-in-Some.cell c.requires.right c.args.entry.now c.requires.entry c.in-Some.ensures.path c.in_ok-cell-in-Some.ensures.name c.add_input.ensures.paths).names

pub returns-in_ok-push-in-Some-clause-right : goal.returns-in_ok-push-in-Some-clause-right
returns-in_ok-push-in-Some-clause-right g c =
    let dom = g.D.Domain.operations c.args.dom.now in
    let old = c.args.store.now in
    let new = record old { names = c.add_input.new.self } in
    let named = named_beside dom c.args.flow.now old c.add_input.new.self c.in-Some.name c.in_ok-cell-in-Some.cell c.requires.right c.args.entry.now c.requires.entry c.in-Some.ensures.path c.in_ok-cell-in-Some.ensures.name c.add_input.ensures.paths in
    later dom c.args.flow.now old new c.requires.right (name_in old.names.paths c.in-Some.name) c.in-Some.name c.in_ok-cell-in-Some.cell named

pub returns-in_ok-push-in-Some-clause-stays : goal.returns-in_ok-push-in-Some-clause-stays
returns-in_ok-push-in-Some-clause-stays g c =
    let dom = g.D.Domain.operations c.args.dom.now in
    let old = c.args.store.now in
    let new = record old { names = c.add_input.new.self } in
    let named = named_beside dom c.args.flow.now old c.add_input.new.self c.in-Some.name c.in_ok-cell-in-Some.cell c.requires.right c.args.entry.now c.requires.entry c.in-Some.ensures.path c.in_ok-cell-in-Some.ensures.name c.add_input.ensures.paths in
    first_taken dom c.args.flow.now old new c.requires.right (name_in old.names.paths c.in-Some.name) c.in-Some.name c.in_ok-cell-in-Some.cell named c.args.entry.now c.requires.entry c.in-Some.ensures.next c.push.new.self c.in_ok-push-in-Some.ensures.added (sym c.has_cell-there.ensures.is ∙ c.if-not-there.false)
