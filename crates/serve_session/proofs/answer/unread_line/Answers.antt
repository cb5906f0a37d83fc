use Rattle.std.proofs.Common.{◌≡◌, IfOk, subst}
use Rattle.request_json.specs.declared.reply.Reply.{Reply}
use Rattle.request_json.specs.Replies.{reply_text}
use Rattle.serve_session.proofs.answer.unread_line.Goals as goal

pub returns-clause-line : goal.returns-clause-line
returns-clause-line c = subst (λ (reply : Reply). IfOk c.line_of.result (λ v. v.items ≡ reply_text reply)) c.in_ok-reply.ensures.refusal c.line_of.ensures.line
