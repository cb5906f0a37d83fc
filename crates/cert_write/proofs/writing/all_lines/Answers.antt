use Rattle.std.proofs.Common.{◌≡◌, ◌+◌, [], sym, ap, ◌∙◌, append-nil, drop, map, reverse}
use Rattle.batch_interp.specs.Heads.{head_told, under_told}
use Rattle.cert_lines.specs.Certificate.{Lines}
use Rattle.cert_write.specs.Writing.{behind, bytes_in, lines_under, all_lines, or_over}
use Rattle.cert_write.proofs.Behind.{chain_step, chain_end}
use Rattle.cert_write.proofs.writing.all_lines.Goals as goal

pub returns-in-Some : goal.returns-in-Some
returns-in-Some g c =
    let dom = g.D.Domain.operations c.args.dom.now in
    let port = g.D.Portable.port c.args.dom.now in
    let us = c.args.loops.now in
    let i = c.loop-under.under-index in
    let u = c.under-item.result in
    record {
      text = λ engine program.
          let rest = all_lines dom port engine program (map under_told (drop (i + 1) us)) (Lines []) in
          sym (ap (λ o. or_over (bytes_in o) (behind c.add_lines.new.text.items rest)) c.in-Some.is)
          ∙ sym (c.in_ok-line.ensures.added engine program rest)
          ∙ ap (λ hs. behind c.loop-under.text.items (lines_under dom port engine program (reverse u.chain) (map head_told hs) rest)) c.as_slice.ensures.same
          ∙ sym (ap (behind c.loop-under.text.items) (chain_step dom port engine program us i u (Lines []) c.loop-under-test.true c.under-item.is))
          ∙ c.loop-under.invariant engine program;
    }

pub loop-under-preserved : goal.loop-under-preserved
loop-under-preserved g c =
    let dom = g.D.Domain.operations c.args.dom.now in
    let port = g.D.Portable.port c.args.dom.now in
    let us = c.args.loops.now in
    let i = c.loop-under.under-index in
    let u = c.under-item.result in
    λ engine program.
    let rest = all_lines dom port engine program (map under_told (drop (i + 1) us)) (Lines []) in
    sym (ap (λ o. or_over (bytes_in o) (behind c.add_lines.new.text.items rest)) c.in-None.is)
    ∙ sym (c.in_ok-line.ensures.added engine program rest)
    ∙ ap (λ hs. behind c.loop-under.text.items (lines_under dom port engine program (reverse u.chain) (map head_told hs) rest)) c.as_slice.ensures.same
    ∙ sym (ap (behind c.loop-under.text.items) (chain_step dom port engine program us i u (Lines []) c.loop-under-test.true c.under-item.is))
    ∙ c.loop-under.invariant engine program

pub returns : goal.returns
returns g c =
    let dom = g.D.Domain.operations c.args.dom.now in
    let port = g.D.Portable.port c.args.dom.now in
    record {
      text = λ engine program.
          sym (append-nil c.loop-under.text.items)
          ∙ sym (ap (behind c.loop-under.text.items) (chain_end dom port engine program c.args.loops.now c.loop-under.under-index (Lines []) c.loop-under-test.false))
          ∙ c.loop-under.invariant engine program;
    }
