use Rattle.std.proofs.Common.{◌-◌, option_map, refl, sym, ap, subst, ◌∙◌, arith}
use Rattle.std.proofs.lemmas.Result.{err_from_is_err_and}
use Rattle.imp_flow_rows.specs.Near.{row_in}
use Rattle.daig_query.specs.Opened.{name_of, IsReady, IsRowOf}
use Rattle.daig_query.proofs.Lists.{ends_with, same_last}
use Rattle.daig_query.proofs.Tops.{lacks_row}
use Rattle.daig_query.proofs.TopTurns.{looked, looked_absent, looked_fails, looked_fills, looked_pushes, looked_some, looked_unfills, looked_waits, next_found, open_further, top_opened}
use Rattle.daig_query.proofs.turning.turn_by_row.Goals as goal

pub row_of-found-requires : goal.row_of-found-requires
row_of-found-requires g c =
    let p = ends_with c.args.walk.now.stack.items (c.len.result - 1) (omega (arith, c.args.walk.now.stack.ok, c.len.ensures, c.requires.some)) c.index-top.result.now c.index-top.ensures in
    record { there = (top_opened c.requires.walk p.0 c.index-top.result.now p.1).path }

pub unreachable-requires : goal.unreachable-requires
unreachable-requires g c =
    let top = c.index-top.result.now in
    let p = ends_with c.args.walk.now.stack.items (c.len.result - 1) (omega (arith, c.args.walk.now.stack.ok, c.len.ensures, c.requires.some)) top c.index-top.ensures in
    lacks_row _ c.args.flow.now c.args.store.now top c.requires.right (top_opened c.requires.walk p.0 top p.1) (sym c.row_of-found.ensures.is ∙ ap (option_map (row_in (name_of c.args.store.now top).path)) c.in_default.is)

pub look_at_top-requires-clause-top : goal.look_at_top-requires-clause-top
look_at_top-requires-clause-top g c rest u e =
    let top = c.index-top.result.now in
    let p = ends_with c.args.walk.now.stack.items (c.len.result - 1) (omega (arith, c.args.walk.now.stack.ok, c.len.ensures, c.requires.some)) top c.index-top.ensures in
    let is_row : IsRowOf c.args.flow.now (name_of c.args.store.now top) c.in-Some.row = sym c.row_of-found.ensures.is ∙ ap (option_map (row_in (name_of c.args.store.now top).path)) c.in-Some.is in
    record {
      right = c.requires.right;
      entry = top_opened c.requires.walk rest u e;
      its_row = subst (λ o. IsRowOf c.args.flow.now (name_of c.args.store.now o) c.in-Some.row) (same_last p.0 rest top u (sym p.1 ∙ e)).1 is_row;
    }

pub returns-in_err-absent : goal.returns-in_err-absent
returns-in_err-absent g c =
    let l = looked c.requires.right c.requires.walk c.look_at_top.ensures.right c.look_at_top.ensures.names (open_further c.in_err-absent.ensures.err) in
    let e = err_from_is_err_and c.from_residual.result c.from_residual.ensures.1 in
    record { turn = looked_fails l (record c.args.walk.now { stack = c.look_at_top.new.stack }) refl refl e.0 e.1 }

pub returns-in_err-push : goal.returns-in_err-push
returns-in_err-push g c =
    let l = looked c.requires.right c.requires.walk c.look_at_top.ensures.right c.look_at_top.ensures.names (open_further c.in_ok-absent.ensures.looks.stack) in
    let e = err_from_is_err_and c.from_residual-in_err-push.result c.from_residual-in_err-push.ensures.1 in
    record { turn = looked_fails l (record c.args.walk.now { stack = c.push.new.self }) refl c.in_err-push.ensures.items e.0 e.1 }

pub returns-in-Some-2 : goal.returns-in-Some-2
returns-in-Some-2 g c =
    let l = looked c.requires.right c.requires.walk c.look_at_top.ensures.right c.look_at_top.ensures.names (open_further c.in_ok-absent.ensures.looks.stack) in
    record { turn = looked_pushes l (record c.args.walk.now { stack = c.push.new.self }) refl c.in_ok-push.ensures.items c.opened.ensures.is (next_found c.in_ok-absent.ensures.looks c.in-Some-2.is) }

pub returns-then-spent : goal.returns-then-spent
returns-then-spent g c =
    let l = looked c.requires.right c.requires.walk c.look_at_top.ensures.right c.look_at_top.ensures.names (open_further c.in_ok-absent.ensures.looks.stack) in
    record { turn = looked_waits l (record c.args.walk.now { stack = c.look_at_top.new.stack }) refl refl (next_found c.in_ok-absent.ensures.looks c.in_default-2.is) c.if-spent.true }

pub take_top-entry-requires : goal.take_top-entry-requires
take_top-entry-requires g c =
    let l = looked c.requires.right c.requires.walk c.look_at_top.ensures.right c.look_at_top.ensures.names (open_further c.in_ok-absent.ensures.looks.stack) in
    record { some = omega (arith, c.look_at_top.new.stack.ok, looked_some l) }

pub fill-requires : goal.fill-requires
fill-requires g c =
    let l = looked c.requires.right c.requires.walk c.look_at_top.ensures.right c.look_at_top.ensures.names (open_further c.in_ok-absent.ensures.looks.stack) in
    let looks = c.in_ok-absent.ensures.looks in
    let takes = c.take_top-entry.ensures.top in
    let same = same_last looks.stack.rest c.take_top-entry.new.stack.items looks.stack.entry c.take_top-entry.result (sym looks.stack.after ∙ takes) in
    record {
      ready = subst (IsReady (g.D.Domain.operations c.args.dom.now) c.args.flow.now c.look_at_top.new.store c.in-Some.row) same.1 (record { at = looks.stack.further.at; complete = next_found looks c.in_default-2.is });
      absent = looked_absent l c.requires.absent c.take_top-entry.new.stack.items c.take_top-entry.result takes;
    }

pub returns-in_err-fill : goal.returns-in_err-fill
returns-in_err-fill g c =
    let l = looked c.requires.right c.requires.walk c.look_at_top.ensures.right c.look_at_top.ensures.names (open_further c.in_ok-absent.ensures.looks.stack) in
    let e = err_from_is_err_and c.from_residual-in_err-fill.result c.from_residual-in_err-fill.ensures.1 in
    record { turn = looked_unfills l (record c.args.walk.now { stack = c.take_top-entry.new.stack }) refl _ _ c.take_top-entry.ensures.top c.fill.ensures.least c.fill.ensures.most refl c.in_err-fill.ensures.err e.0 e.1 }

pub returns : goal.returns
returns g c =
    let l = looked c.requires.right c.requires.walk c.look_at_top.ensures.right c.look_at_top.ensures.names (open_further c.in_ok-absent.ensures.looks.stack) in
    record { turn = looked_fills l (record c.args.walk.now { stack = c.hand_down.new.stack }) refl _ _ c.take_top-entry.ensures.top c.fill.ensures.least c.fill.ensures.most c.hand_down.ensures.hands (next_found c.in_ok-absent.ensures.looks c.in_default-2.is) c.in_ok-fill.ensures.puts c.if-spent.false }
