use Rattle.std.proofs.Common.{◌≡◌, ◌-◌, suc, length, get_or, ap, ◌∙◌, arith}
use Rattle.batch_interp.specs.declared.frames.CallFrame.{CallFrame}
use Rattle.base_values.proofs.Lists.{get_there}
use Rattle.cert_check.proofs.FollowLemmas.{main_ends}
use Rattle.cert_check.proofs.following.follow_main.Goals as goal

pub returns : goal.returns
returns g c =
    let dom = g.D.Domain.operations c.args.dom.now in
    let program = c.args.routines.now in
    let last = length program - 1 in
    let some = c.requires.some in
    let count : length program ≡ suc last = omega (arith, some) in
    let place : c.main-frame.result.place ≡ last = ap (λ (f : CallFrame). f.place) c.main-frame.ensures.is in
    let main = c.index-routines-frame.result in
    let there = get_there program last main (omega (arith, some)) (c.index-routines-frame.is ∙ ap (λ k. get_or program k main) place) in
    record {
      is = main_ends dom (g.D.Portable.port c.args.dom.now).leq c.args.written.now program c.follow_block.result c.new-leaving.result c.follow_block.new.leaving last main c.body.result.now c.main-frame.result c.in_ok-first.first count there c.main-frame.ensures.is c.body.ensures.same (c.in_ok-first.ensures.value ∙ ap dom.init c.layout.ensures.same) c.new-leaving.ensures.empty c.follow_block.ensures.is;
    }
