use Rattle.std.proofs.Common.{arith}
use Rattle.why_cells.proofs.Gathers.{no_cells}
use Rattle.why_cells.proofs.Walking.{next_there, walked_done, walked_first, walked_left, walked_next}
use Rattle.why_cells.proofs.gathering.all_hung.Goals as goal

pub add_all-requires : goal.add_all-requires
add_all-requires g c = record { set = no_cells c.new-cells.result.items c.new-seen.result c.new-cells.ensures.items c.new-seen.ensures.empty }

pub cells-init : goal.cells-init
cells-init g c =
    walked_first (g.D.Domain.operations c.args.engine.now.domain) c.args.flow.now c.args.engine.now.store c.args.seeds.now c.new-cells.result.items c.add_all.new.cells.items c.add_all.new.seen c.new-told.result c.new-cells.ensures.items c.requires.cells
    c.in_ok-add_all.ensures.set c.in_ok-add_all.ensures.joins c.new-told.ensures.empty

pub look-requires-clause-there : goal.look-requires-clause-there
look-requires-clause-there g c =
    next_there (g.D.Domain.operations c.args.engine.now.domain) c.args.flow.now c.args.engine.now.store c.args.seeds.now c.cells.next c.len.result c.index-cell.result.now c.cells.cells.items c.cells.seen c.cells.told c.cells.invariant
    (omega (arith, c.len.ensures, c.cells.cells.ok.0)) c.cells-test.true c.index-cell.ensures

pub look-requires-clause-set : goal.look-requires-clause-set
look-requires-clause-set g c = c.cells.invariant.set

pub cells-smaller : goal.cells-smaller
cells-smaller g c =
    walked_left (g.D.Domain.operations c.args.engine.now.domain) c.args.flow.now c.args.engine.now.store c.args.seeds.now c.cells.next c.len.result c.index-cell.result.now c.cells.cells.items c.cells.seen c.cells.told c.cells.invariant
    (omega (arith, c.len.ensures, c.cells.cells.ok.0)) c.cells-test.true c.index-cell.ensures

pub cells-preserved : goal.cells-preserved
cells-preserved g c =
    walked_next (g.D.Domain.operations c.args.engine.now.domain) c.args.flow.now c.args.engine.now.store c.args.seeds.now c.cells.next c.len.result c.index-cell.result.now c.cells.cells.items c.cells.seen c.cells.told c.cells.invariant
    (omega (arith, c.len.ensures, c.cells.cells.ok.0)) c.cells-test.true c.index-cell.ensures c.look.new.cells.items c.look.new.seen c.look.new.told c.in_ok-look.ensures.set c.in_ok-look.ensures.joins c.look.ensures.inputs c.in_ok-look.ensures.tells

pub returns : goal.returns
returns g c = record {
  are = walked_done (g.D.Domain.operations c.args.engine.now.domain) c.args.flow.now c.args.engine.now.store c.args.seeds.now c.cells.next c.len.result c.cells.cells.items c.cells.seen c.cells.told c.cells.invariant
      (omega (arith, c.len.ensures, c.cells.cells.ok.0)) (omega (arith, c.cells-test.false));
}
