use Rattle.std.proofs.Common.{◌≡◌, ℕ, suc, ◌+◌, ◌-◌, length, take, subst, arith}
use Rattle.std.proofs.lemmas.Option.{slice_get-get_or}
use Rattle.daig_graph.specs.Threads.{HasRoom, Threads}
use Rattle.daig_graph.proofs.ThreadingAll.{last-place, last-below, last-near, last-threads}
use Rattle.daig_graph.proofs.uses.unlink_all.Goals as goal

pub unlink_last-requires : goal.unlink_last-requires
unlink_last-requires c =
    let first = c.args.links.now.items in
    let now = c.loop-place.links.items in
    let cell = c.args.cell in
    let inputs = c.args.inputs.now in
    let place = c.loop-place.place - 1 in
    let Q : ℕ → Type 0 = λ n. Threads first now cell inputs (take n inputs) in
    let one : c.loop-place.place ≡ suc place = omega (arith, c.loop-place-test.true) in
    let threads = subst Q one c.loop-place.invariant.threads in
    let at = slice_get-get_or inputs place 0 (omega (arith, one, c.loop-place.invariant.within)) in
    record {
      place = last-place first now cell inputs place _ at c.requires.threaded threads;
      input = last-below first now cell inputs place _ at c.requires.threaded threads;
      neighbours = last-near first now cell inputs place _ at c.requires.threaded threads;
    }

pub loop-place-preserved : goal.loop-place-preserved
loop-place-preserved c =
    let first = c.args.links.now.items in
    let now = c.loop-place.links.items in
    let cell = c.args.cell in
    let inputs = c.args.inputs.now in
    let place = c.loop-place.place - 1 in
    let Q : ℕ → Type 0 = λ n. Threads first now cell inputs (take n inputs) in
    let one : c.loop-place.place ≡ suc place = omega (arith, c.loop-place-test.true) in
    let threads = subst Q one c.loop-place.invariant.threads in
    let at = slice_get-get_or inputs place 0 (omega (arith, one, c.loop-place.invariant.within)) in
    let R : ℕ → Type 0 = λ n. HasRoom c.unlink_last.new.links.items cell n in
    record {
      within = omega (arith, one, c.loop-place.invariant.within);
      threads = last-threads first now cell inputs place _ at c.requires.threaded threads c.unlink_last.new.links.items c.unlink_last.ensures.takes;
      room = λ count more e h.
          let on : suc (count + (more - 1)) ≡ count + more = omega (arith, e, one, c.loop-place.invariant.within) in
          let left : c.loop-place.place + (more - 1) ≡ length inputs = omega (arith, e, one, c.loop-place.invariant.within) in
          subst R on (c.unlink_last.ensures.room (count + (more - 1)) (c.loop-place.invariant.room count (more - 1) left h));
    }

pub returns-clause-room : goal.returns-clause-room
returns-clause-room c = λ count h. c.loop-place.invariant.room count (length c.args.inputs.now) (omega (arith, c.loop-place-test.false)) h
