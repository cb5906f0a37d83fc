use Rattle.std.proofs.Common.{◌+◌, ◌≤◌, ◌<◌, length, refl, arith}
use Rattle.std.proofs.lemmas.Result.{err_from_is_err_and}
use Rattle.daig_query.proofs.Growing.{names_refl}
use Rattle.daig_query.proofs.TopTurns.{looked, looked_fills, looked_unfills, looked_waits, top_opened, top_there}
use Rattle.daig_query.proofs.turning.turn_valid.Goals as goal

pub returns-then-spent : goal.returns-then-spent
returns-then-spent g c =
    let w = c.args.walk.now in
    let some : 0 < length w.stack.items = omega (arith, w.stack.ok, c.requires.some) in
    let l = looked c.requires.right c.requires.walk c.requires.right (names_refl c.args.store.now) (top_there c.requires.walk some) in
    let valid = c.requires.valid l.look.rest l.look.entry l.look.after in
    record { turn = looked_waits l w refl refl valid.complete c.if-spent.true }

pub keep_again-requires : goal.keep_again-requires
keep_again-requires g c =
    let rest = c.take_top-entry.new.stack.items in
    let top = c.take_top-entry.result in
    let takes = c.take_top-entry.ensures.top in
    record {
      right = c.requires.right;
      entry = top_opened c.requires.walk rest top takes;
      valid = c.requires.valid rest top takes;
      absent = c.requires.absent rest top takes;
    }

pub returns-in_err-keep_again : goal.returns-in_err-keep_again
returns-in_err-keep_again g c =
    let w = c.args.walk.now in
    let some : 0 < length w.stack.items = omega (arith, w.stack.ok, c.requires.some) in
    let l = looked c.requires.right c.requires.walk c.requires.right (names_refl c.args.store.now) (top_there c.requires.walk some) in
    let ticks = c.args.steps.now in
    let each = g.D.Domain.counted c.args.dom.now in
    let least : ticks ≤ ticks = omega arith in
    let most : ticks ≤ ticks + each = omega arith in
    let e = err_from_is_err_and c.from_residual.result c.from_residual.ensures.1 in
    record { turn = looked_unfills l (record w { stack = c.take_top-entry.new.stack }) refl _ _ c.take_top-entry.ensures.top least most refl c.in_err-keep_again.ensures.err e.0 e.1 }

pub returns : goal.returns
returns g c =
    let w = c.args.walk.now in
    let some : 0 < length w.stack.items = omega (arith, w.stack.ok, c.requires.some) in
    let l = looked c.requires.right c.requires.walk c.requires.right (names_refl c.args.store.now) (top_there c.requires.walk some) in
    let ticks = c.args.steps.now in
    let each = g.D.Domain.counted c.args.dom.now in
    let least : ticks ≤ ticks = omega arith in
    let most : ticks ≤ ticks + each = omega arith in
    let valid = c.requires.valid l.look.rest l.look.entry l.look.after in
    record { turn = looked_fills l (record w { stack = c.hand_down.new.stack }) refl _ _ c.take_top-entry.ensures.top least most c.hand_down.ensures.hands valid.complete c.in_ok-keep_again.ensures.puts c.if-spent.false }
