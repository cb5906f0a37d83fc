use Rattle.std.proofs.Common.{◌≡◌, List, IfOk, ap, subst, ◌∙◌}
use Rattle.imp_syntax.specs.Plain.{Procedure}
use Rattle.request_json.specs.declared.reply.Reply.TheVariants as r
use Rattle.request_json.specs.declared.reply.Refusal.{Refusal}
use Rattle.request_json.specs.Replies.{reply_text}
use Rattle.serve_answers.specs.Refusals.{refusal_of}
use Rattle.serve_session.proofs.edits.refusal_line.Goals as goal

pub returns-clause-line : goal.returns-clause-line
returns-clause-line g c = λ m h.
    let why : c.in_ok-why.why ≡ refusal_of m.program c.args.edit.now c.args.error =
    c.in_ok-why.ensures.refusal ∙ ap (λ (p : List Procedure). refusal_of p c.args.edit.now c.args.error) (c.program.ensures.is m h) in
    subst (λ (x : Refusal). IfOk c.refused.result (λ v. v.items ≡ reply_text (r.Refused x))) why c.refused.ensures.line
