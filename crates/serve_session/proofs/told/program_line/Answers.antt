use Rattle.std.proofs.Common.{◌≡◌, IfOk, subst, ap, ◌∙◌}
use Rattle.request_json.specs.declared.reply.Reply.{Reply}
use Rattle.request_json.specs.Replies.{reply_text}
use Rattle.serve_replies.specs.Texts.{program_reply}
use Rattle.serve_session.proofs.told.program_line.Goals as goal

pub returns : goal.returns
returns g c = record {
  line = λ m h.
      let program = c.in_ok-program.ensures.is ∙ c.program.ensures.is m h in
      let e : c.in_ok-reply.reply ≡ program_reply m.next m.program =
      c.in_ok-reply.ensures.reply ∙ (ap (λ n. program_reply n c.in_ok-program.program) (c.next.ensures.is m h) ∙ ap (program_reply m.next) program) in
      subst (λ (reply : Reply). IfOk c.line_of.result (λ v. v.items ≡ reply_text reply)) e c.line_of.ensures.line;
}
