use Rattle.std.proofs.Common.{◌+◌, sym, ap, ◌∙◌, drop, map, reverse}
use Rattle.batch_interp.specs.Heads.{head_told}
use Rattle.cert_write.specs.Writing.{behind, bytes_in, lines_under, or_over}
use Rattle.cert_write.proofs.Behind.{lines_step, lines_end}
use Rattle.cert_write.proofs.lines.add_lines.Goals as goal

pub returns-in-Some : goal.returns-in-Some
returns-in-Some g c =
    let dom = g.D.Domain.operations c.args.dom.now in
    let port = g.D.Portable.port c.args.dom.now in
    let z = reverse c.args.chain.now in
    record {
      added = λ engine program more.
          let rest = lines_under dom port engine program z (map head_told (drop (c.loop-head.head-index + 1) c.args.heads.now)) more in
          sym (c.loop-head.invariant engine program more)
          ∙ ap (behind c.loop-head.text.items) (lines_step dom port engine program z c.args.heads.now c.loop-head.head-index c.head-item.result more c.loop-head-test.true c.head-item.is)
          ∙ c.in_ok-line.ensures.added engine program rest
          ∙ ap (λ o. or_over (bytes_in o) (behind c.add_line.new.text.items rest)) c.in-Some.is;
    }

pub loop-head-preserved : goal.loop-head-preserved
loop-head-preserved g c =
    let dom = g.D.Domain.operations c.args.dom.now in
    let port = g.D.Portable.port c.args.dom.now in
    let z = reverse c.args.chain.now in
    λ engine program more.
    let rest = lines_under dom port engine program z (map head_told (drop (c.loop-head.head-index + 1) c.args.heads.now)) more in
    sym (ap (λ o. or_over (bytes_in o) (behind c.add_line.new.text.items rest)) c.in-None.is)
    ∙ sym (c.in_ok-line.ensures.added engine program rest)
    ∙ sym (ap (behind c.loop-head.text.items) (lines_step dom port engine program z c.args.heads.now c.loop-head.head-index c.head-item.result more c.loop-head-test.true c.head-item.is))
    ∙ c.loop-head.invariant engine program more

pub returns : goal.returns
returns g c =
    let dom = g.D.Domain.operations c.args.dom.now in
    let port = g.D.Portable.port c.args.dom.now in
    let z = reverse c.args.chain.now in
    record {
      added = λ engine program more.
          sym (c.loop-head.invariant engine program more)
          ∙ ap (behind c.loop-head.text.items) (lines_end dom port engine program z c.args.heads.now c.loop-head.head-index more c.loop-head-test.false);
    }
