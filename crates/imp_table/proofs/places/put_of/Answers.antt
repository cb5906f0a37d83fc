use Rattle.std.proofs.Common.{ℕ, ◌<◌, ◌+◌, ◌-◌, ◌/◌, length, arith}
use Rattle.imp_table.proofs.FallingLemmas.{overlay_gone, less_more}
use Rattle.imp_table.proofs.places.put_of.Goals as goal

pub loop-low-preserved : goal.loop-low-preserved
loop-low-preserved c =
    let low = c.loop-low.low in
    let high = c.loop-low.high in
    let middle : ℕ = low + (high - low) / 2 in
    let p = c.index-puts-middle.result in
    let inv = c.loop-low.invariant in
    let m : middle < high = omega (arith, c.loop-low-test.true) in
    let l : middle < length c.args.puts.now = omega (arith, m, inv.within) in
    let g : p.number < c.args.number = omega (arith, c.if-put-number.false, c.if-number-put.false) in
    record {
      order = omega arith;
      within = omega (arith, l);
      greater = inv.greater;
      less = less_more c.args.puts.now c.args.number middle p c.requires.falling l c.index-puts-middle.is g;
    }

pub returns : goal.returns
returns c = record { is = overlay_gone c.args.puts.now c.args.number c.loop-low.low c.loop-low.high c.loop-low.invariant.greater c.loop-low.invariant.less c.loop-low-test.false }
