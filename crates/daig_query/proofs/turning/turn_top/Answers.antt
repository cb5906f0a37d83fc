use Rattle.std.proofs.Common.{refl, arith}
use Rattle.std.proofs.lemmas.Result.{err_from_is_err_and}
use Rattle.daig_query.proofs.TopTurns.{first_found, looked, looked_absent, looked_fails, looked_good, looked_pushes, looked_some, looked_turns, top_opened}
use Rattle.daig_query.proofs.turning.turn_top.Goals as goal

pub first_of_top-requires-clause-top : goal.first_of_top-requires-clause-top
first_of_top-requires-clause-top g c = top_opened c.requires.walk

pub returns-in_err-absent : goal.returns-in_err-absent
returns-in_err-absent g c =
    let l = looked c.requires.right c.requires.walk c.first_of_top.ensures.right c.first_of_top.ensures.names c.in_err-absent.ensures.err in
    let e = err_from_is_err_and c.from_residual.result c.from_residual.ensures.1 in
    record { turn = looked_fails l (record c.args.walk.now { stack = c.first_of_top.new.stack }) refl refl e.0 e.1 }

pub returns-in_err-push : goal.returns-in_err-push
returns-in_err-push g c =
    let l = looked c.requires.right c.requires.walk c.first_of_top.ensures.right c.first_of_top.ensures.names c.in_ok-absent.ensures.looks.stack in
    let e = err_from_is_err_and c.from_residual-in_err-push.result c.from_residual-in_err-push.ensures.1 in
    record { turn = looked_fails l (record c.args.walk.now { stack = c.push.new.self }) refl c.in_err-push.ensures.items e.0 e.1 }

pub returns-in-Some : goal.returns-in-Some
returns-in-Some g c =
    let l = looked c.requires.right c.requires.walk c.first_of_top.ensures.right c.first_of_top.ensures.names c.in_ok-absent.ensures.looks.stack in
    record { turn = looked_pushes l (record c.args.walk.now { stack = c.push.new.self }) refl c.in_ok-push.ensures.items c.opened.ensures.is (first_found c.in_ok-absent.ensures.looks c.in-Some.is) }

pub turn_by_row-requires : goal.turn_by_row-requires
turn_by_row-requires g c =
    let l = looked c.requires.right c.requires.walk c.first_of_top.ensures.right c.first_of_top.ensures.names c.in_ok-absent.ensures.looks.stack in
    record {
      right = l.later;
      walk = looked_good l (record c.args.walk.now { stack = c.first_of_top.new.stack }) refl refl;
      some = omega (arith, c.first_of_top.new.stack.ok, looked_some l);
      absent = looked_absent l c.requires.absent;
    }

pub returns : goal.returns
returns g c =
    let l = looked c.requires.right c.requires.walk c.first_of_top.ensures.right c.first_of_top.ensures.names c.in_ok-absent.ensures.looks.stack in
    record { turn = looked_turns l c.turn_by_row.ensures.turn }
