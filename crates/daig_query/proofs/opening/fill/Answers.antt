use Rattle.std.proofs.Common.{slice_get, arith, refl, sym, ap, subst, ◌∙◌}
use Rattle.std.specs.FinMap.{get}
use Rattle.daig_graph.specs.Cells.{AreCells, Filled}
use Rattle.daig_query.specs.declared.held.Held.{Held}
use Rattle.cell_graph.specs.Named.{AreNumbers}
use Rattle.cell_graph.specs.Asked.{inputs}
use Rattle.daig_query.specs.Right.{IsCellOf}
use Rattle.daig_query.specs.Opened.{name_of}
use Rattle.daig_query.proofs.Growing.{few_more, few_same, few_trans, keeps_refl}
use Rattle.daig_query.proofs.Remembered.{right_more}
use Rattle.daig_query.proofs.Filling.{absent_get, ready_numbers, puts, err_always, on_ok, on_err}
use Rattle.daig_query.proofs.opening.fill.Goals as goal

pub fill-requires-clause-absent : goal.fill-requires-clause-absent
fill-requires-clause-absent g c =
    let dom = g.D.Domain.operations c.args.dom.now in
    let store = c.args.store.now in
    ap (λ m. get m c.args.entry.cell) c.compute.ensures.computes.cells ∙ absent_get dom c.args.flow.now store c.requires.ready.at.right c.args.entry.cell (name_of store c.args.entry) c.requires.ready.at.entry.number c.requires.absent

pub returns-clause-puts : goal.returns-clause-puts
returns-clause-puts g c =
    let dom = g.D.Domain.operations c.args.dom.now in
    let plan = c.args.flow.now in
    let old = c.args.store.now in
    let mid = c.compute.new.store in
    let entry = c.args.entry in
    let x = name_of old entry in
    let computes = c.compute.ensures.computes in
    let ready = c.requires.ready in
    let f : Filled Held = record { owner = c.owner-owner.result; value = c.in_ok-value.value; inputs = entry.inputs } in
    let is : IsCellOf dom plan mid x f = record {
      value = c.in_ok-value.ensures.value;
      inputs = subst (λ k. AreNumbers k.names entry.inputs (inputs dom plan x)) (sym computes.names) (ready_numbers dom plan old c.args.row.now entry ready);
      owned = c.owner-owner.ensures.is;
    } in
    on_ok c.fill.result c.fill.ensures.fills (λ e.
    puts dom plan mid _ computes.right entry.cell x f
    (ap (λ k. slice_get k.names entry.cell) computes.names ∙ ready.at.entry.number)
    (ap (λ m. get m entry.cell) computes.cells ∙ absent_get dom plan old ready.at.right entry.cell x ready.at.entry.number c.requires.absent)
    ready.at.entry.named is
    (subst (λ m. AreCells m entry.inputs) (sym computes.cells) ready.at.entry.cells)
    refl refl refl refl refl c.make_place.ensures.same c.make_place.ensures.count e old computes)

pub returns-clause-err : goal.returns-clause-err
returns-clause-err g c =
    let dom = g.D.Domain.operations c.args.dom.now in
    let plan = c.args.flow.now in
    let old = c.args.store.now in
    let mid = c.compute.new.store in
    let computes = c.compute.ensures.computes in
    on_err c.fill.result c.fill.ensures.err (λ e.
    record {
      cells = e ∙ computes.cells;
      names = computes.names;
      states = computes.states;
      right = (right_more dom plan mid _ computes.right e refl (keeps_refl mid.states) computes.right.single computes.right.results computes.right.recent c.make_place.ensures.same (few_more mid _ 0 1 (omega arith) (few_same mid _ refl refl c.make_place.ensures.count))).right;
      few = few_trans old mid _ 1 0 computes.few (few_same mid _ refl refl c.make_place.ensures.count);
    })

pub returns-in_err-make_place-clause-err : goal.returns-in_err-make_place-clause-err
returns-in_err-make_place-clause-err g c =
    let dom = g.D.Domain.operations c.args.dom.now in
    let plan = c.args.flow.now in
    let old = c.args.store.now in
    let mid = c.compute.new.store in
    let new = record mid { stale = c.make_place.new.self } in
    let computes = c.compute.ensures.computes in
    err_always c.from_residual-in_err-make_place.result (record {
      cells = computes.cells;
      names = computes.names;
      states = computes.states;
      right = (right_more dom plan mid new computes.right refl refl (keeps_refl mid.states) computes.right.single computes.right.results computes.right.recent c.make_place.ensures.same (few_more mid new 0 1 (omega arith) (few_same mid new refl refl c.make_place.ensures.count))).right;
      few = few_trans old mid new 1 0 computes.few (few_same mid new refl refl c.make_place.ensures.count);
    })
