use Rattle.std.proofs.Common.{◌<◌, length, reverse, sym, ap, subst, ◌∙◌, option_map, ◌≡◌}
use Rattle.cell_names.specs.Known.{Known}
use Rattle.cell_names.specs.Paths.{name_in, path_at}
use Rattle.cell_rows.specs.Flat.{flat_row}
use Rattle.imp_flow_rows.specs.Near.{row_in}
use Rattle.why_cells.proofs.Hung.{hangs_front, hangs_none, hangs_some}
use Rattle.why_cells.proofs.hanging.hangs.Goals as goal

pub returns-then-is_live_in_front : goal.returns-then-is_live_in_front
returns-then-is_live_in_front g c =
    let plan = c.args.flow.now in
    let store = c.args.engine.now.store in
    let y = name_in store.names.paths c.args.name.now in
    record {
      is = hangs_front (g.D.Domain.operations c.args.engine.now.domain) plan store c.requires.right y c.is_live_in_front.result c.if-is_live_in_front.true
          (λ r row effect. c.is_live_in_front.ensures.is plan c.requires.there.0 y r c.requires.right c.requires.there.1 row effect) (λ none. c.is_live_in_front.ensures.row plan c.requires.there.0 y c.requires.right c.requires.there.1 none);
    }

pub row_of-requires : goal.row_of-requires
row_of-requires g c = record { there = subst (λ (k : Known). c.args.name.now.path < length k.paths) (sym c.names.ensures.is) c.requires.path }

pub returns-in-None : goal.returns-in-None
returns-in-None g c =
    let plan = c.args.flow.now in
    let name = c.args.name.now in
    let store = c.args.engine.now.store in
    let y = name_in store.names.paths name in
    let rows = subst (λ (k : Known). option_map (row_in (path_at k.paths name.path)) c.row_of.result ≡ flat_row plan.engine (reverse plan.program) (path_at k.paths name.path) name.point) c.names.ensures.is c.row_of.ensures.is in
    record { is = hangs_none (g.D.Domain.operations c.args.engine.now.domain) plan store c.requires.right y (sym (ap (option_map (row_in y.path)) c.in-None.is) ∙ rows) }

pub returns-in-Some : goal.returns-in-Some
returns-in-Some g c =
    let plan = c.args.flow.now in
    let name = c.args.name.now in
    let store = c.args.engine.now.store in
    let y = name_in store.names.paths name in
    let rows = subst (λ (k : Known). option_map (row_in (path_at k.paths name.path)) c.row_of.result ≡ flat_row plan.engine (reverse plan.program) (path_at k.paths name.path) name.point) c.names.ensures.is c.row_of.ensures.is in
    let row = sym rows ∙ ap (option_map (row_in y.path)) c.in-Some.is in
    let r = row_in y.path c.in-Some.row in
    record {
      is = hangs_some (g.D.Domain.operations c.args.engine.now.domain) plan store c.requires.right y r c.is_live_in_front.result c.is_effect.result row c.if-is_live_in_front.false
          (λ effect. c.is_live_in_front.ensures.is plan c.requires.there.0 y r c.requires.right c.requires.there.1 row effect) (c.is_effect.ensures.is y.path);
    }
