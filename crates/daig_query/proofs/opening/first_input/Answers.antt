use Rattle.std.proofs.Common.{◌≡◌, length, arith, sym}
use Rattle.cell_names.specs.Paths.{path_at}
use Rattle.cell_rows.specs.Names.{name}
use Rattle.daig_query.proofs.Firsts.{first_next}
use Rattle.daig_query.proofs.opening.first_input.Goals as goal

pub returns-in-Some-clause-next : goal.returns-in-Some-clause-next
returns-in-Some-clause-next g c =
    let dom = g.D.Domain.operations c.args.dom.now in
    let store = c.args.store.now in
    let entry = c.args.entry.now in
    let none : length entry.inputs ≡ 0 = omega (arith, sym c.len.ensures.count, c.if-len-gt0.false) in
    let path = path_at store.names.paths entry.name.path in
    first_next dom c.args.flow.now store c.requires.right entry c.requires.entry none (name path c.in-Some.point) (c.in-Some.ensures.first path)
