use Rattle.std.proofs.Common.{◌≡◌, ℕ, suc, ◌+◌, ◌-◌, List, [], length, take, subst, arith}
use Rattle.std.proofs.lemmas.Option.{slice_get-get_or}
use Rattle.std.proofs.lemmas.List.{take_all}
use Rattle.daig_graph.specs.Threads.{HasRoom, Threads}
use Rattle.daig_graph.proofs.ThreadingAll.{threads-start, threads-first, threads-cell, threads-length, next-place, next-threads, room-less}
use Rattle.daig_graph.proofs.uses.link_all.Goals as goal

pub loop-place-init : goal.loop-place-init
loop-place-init c =
    let P : ℕ → Type 0 = λ n. HasRoom c.args.links.now.items c.args.cell n in
    record {
      threads = threads-start c.args.links.now.items c.args.cell [];
      room = λ more e. let same : length c.args.inputs.now ≡ more = omega (arith, e) in subst P same c.requires.room;
    }

pub link_one-requires : goal.link_one-requires
link_one-requires c =
    let first = c.args.links.now.items in
    let now = c.loop-place.links.items in
    let cell = c.args.cell in
    let inputs = c.args.inputs.now in
    let front = take c.loop-place.place inputs in
    let threads = c.loop-place.invariant.threads in
    let with = c.requires.threaded in
    let at = slice_get-get_or inputs c.loop-place.place 0 c.loop-place-test.true in
    let left : c.loop-place.place + (length inputs - c.loop-place.place) ≡ length inputs = omega (arith, c.loop-place-test.true) in
    record {
      cell = c.requires.cell;
      there = threads-cell first now cell [] front with threads;
      place = next-place first now cell inputs c.loop-place.place _ at with threads;
      input = let below = c.requires.inputs c.loop-place.place _ at in omega (arith, below, threads-length first now cell [] front with threads);
      room = room-less now cell 1 (length inputs - c.loop-place.place) (omega (arith, c.loop-place-test.true)) (c.loop-place.invariant.room (length inputs - c.loop-place.place) left);
      first = threads-first first now cell [] front with threads _;
    }

pub loop-place-preserved : goal.loop-place-preserved
loop-place-preserved c =
    let first = c.args.links.now.items in
    let now = c.loop-place.links.items in
    let cell = c.args.cell in
    let inputs = c.args.inputs.now in
    let front = take c.loop-place.place inputs in
    let threads = c.loop-place.invariant.threads in
    let with = c.requires.threaded in
    let at = slice_get-get_or inputs c.loop-place.place 0 c.loop-place-test.true in
    let below = c.requires.inputs c.loop-place.place _ at in
    record {
      threads = next-threads first now cell inputs c.loop-place.place _ at with threads c.link_one.new.links.items (omega (arith, below, threads-length first now cell [] front with threads)) c.link_one.ensures.puts;
      room = λ more e. c.link_one.ensures.room more (c.loop-place.invariant.room (suc more) (omega (arith, e)));
    }

pub returns : goal.returns
returns c =
    let first = c.args.links.now.items in
    let now = c.loop-place.links.items in
    let cell = c.args.cell in
    let inputs = c.args.inputs.now in
    let Q : List ℕ → Type 0 = λ ys. Threads first now cell [] ys in
    record { threads = subst Q (take_all c.loop-place.place inputs c.loop-place-test.false) c.loop-place.invariant.threads }
