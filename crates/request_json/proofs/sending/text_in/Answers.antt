use Rattle.std.proofs.Common.{sym, ◌∙◌}
use Rattle.request_json.proofs.SendingLemmas.{text_whole}
use Rattle.request_json.proofs.sending.text_in.Goals as goal

pub returns-in-Ok : goal.returns-in-Ok
returns-in-Ok c =
    let text = (c.in-Ok.ensures {u = tt}).cases in
    record { text = text.0 ∙ sym (text_whole c.args.bytes.now text.1) }
