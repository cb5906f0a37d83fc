use Rattle.std.proofs.Common.{refl}
use Rattle.daig_graph.specs.Cells.{Filled}
use Rattle.daig_graph.specs.declared.value.Value.TheVariants.{State}
use Rattle.daig_query.specs.declared.held.Held.{Held}
use Rattle.daig_query.specs.Opened.{name_of}
use Rattle.daig_query.specs.Right.{IsCellOf}
use Rattle.daig_query.proofs.Filling.{absent_get, complete_numbers, computes_refl, on_ok, puts}
use Rattle.daig_query.proofs.revalidation.keep_again.Goals as goal

pub fill-requires-clause-absent : goal.fill-requires-clause-absent
fill-requires-clause-absent g c =
    let store = c.args.store.now in
    let entry = c.args.entry in
    absent_get (g.D.Domain.operations c.args.dom.now) c.args.flow.now store c.requires.right entry.cell (name_of store entry) c.requires.entry.number c.requires.absent

pub returns-clause-puts : goal.returns-clause-puts
returns-clause-puts g c =
    let dom = g.D.Domain.operations c.args.dom.now in
    let plan = c.args.flow.now in
    let store = c.args.store.now in
    let entry = c.args.entry in
    let opened = c.requires.entry in
    let x = name_of store entry in
    let f : Filled Held = record { owner = c.owner-owner.result; value = State c.args.held; inputs = entry.inputs } in
    let is : IsCellOf dom plan store x f = record {
      value = c.requires.valid.value;
      inputs = complete_numbers dom plan store entry opened c.requires.valid.complete;
      owned = c.owner-owner.ensures.is;
    } in
    on_ok c.fill.result c.fill.ensures.fills (λ e.
    puts dom plan store _ c.requires.right entry.cell x f opened.number
    (absent_get dom plan store c.requires.right entry.cell x opened.number c.requires.absent)
    opened.named is opened.cells
    refl refl refl refl refl (λ q. refl) refl e store (computes_refl dom plan store c.requires.right))
