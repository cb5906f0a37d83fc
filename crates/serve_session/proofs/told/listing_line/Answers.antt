use Rattle.std.proofs.Common.{◌≡◌, List, ℕ, IfOk, subst, ap, ◌∙◌}
use Rattle.request_json.specs.declared.reply.Reply.TheVariants as r
use Rattle.request_json.specs.Replies.{reply_text}
use Rattle.serve_replies.specs.Texts.{listing}
use Rattle.serve_session.proofs.told.listing_line.Goals as goal

pub returns : goal.returns
returns g c = record {
  line = λ m h.
      let program = c.in_ok-program.ensures.is ∙ c.program.ensures.is m h in
      let e : c.in_ok-text.text ≡ listing m.program = c.in_ok-text.ensures.text ∙ ap listing program in
      subst (λ (text : List ℕ). IfOk c.line_of.result (λ v. v.items ≡ reply_text (r.Listing text))) e c.line_of.ensures.line;
}
