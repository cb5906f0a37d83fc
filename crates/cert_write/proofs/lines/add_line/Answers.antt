use Rattle.std.proofs.Common.{◌∙◌}
use Rattle.cert_write.proofs.Behind.{added_state}
use Rattle.cert_write.proofs.lines.add_line.Goals as goal

pub returns-in_ok-put_line-in-State : goal.returns-in_ok-put_line-in-State
returns-in_ok-put_line-in-State g c =
    record {
      added = λ engine program more.
          added_state (g.D.Domain.operations c.args.dom.now) (g.D.Portable.port c.args.dom.now) engine program c.args.chain.now c.args.head.now c.in-State.state c.as_slice.result.now c.args.text.now.items c.put_line.new.text.items more c.in-State.is (c.as_slice.ensures.same ∙ c.in_ok-state-in-State.ensures.value) c.in_ok-put_line-in-State.ensures.line;
    }
