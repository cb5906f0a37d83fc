use Rattle.std.proofs.Common.{[], ◌∷◌, ◌++◌, ap, ◌∙◌}
use Rattle.request_json.specs.Replies.{reply_text}
use Rattle.request_json.proofs.ReplyLemmas.{text_of_reply}
use Rattle.request_json.proofs.writing.reply_line.Goals as goal

pub returns : goal.returns
unfolding reply_text
returns c =
    let sent = (c.in-Ok.ensures {u = tt}).events in
    record { line = c.in_ok-push.ensures.items ∙ ap (λ xs. xs ++ 10 ∷ []) (text_of_reply c.args.reply.now sent.0 c.in-Ok.line.items sent.1 sent.2) }
