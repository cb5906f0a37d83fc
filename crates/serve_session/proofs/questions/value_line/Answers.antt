use Rattle.std.proofs.Common.{◌≡◌, List, reverse, IfOk, Some, subst, ap, sym, ◌∙◌}
use Rattle.std.proofs.lemmas.List.{reverse-reverse}
use Rattle.imp_syntax.specs.Plain.{Procedure}
use Rattle.imp_check.specs.Slots.{routines_of}
use Rattle.batch_meaning.specs.Answers.{Answers}
use Rattle.batch_meaning.specs.Values as plain
use Rattle.daig_graph.specs.declared.value.Value.{Value}
use Rattle.daig_query.specs.Answered.{Says}
use Rattle.request_json.specs.declared.reply.Reply.{Reply}
use Rattle.request_json.specs.declared.reply.Reply.TheVariants as r
use Rattle.request_json.specs.Replies.{reply_text}
use Rattle.serve_replies.specs.States.{answer_reply, layout_at}
use Rattle.serve_session.proofs.questions.value_line.Goals as goal
use Rattle.serve_session.proofs.questions.value_line.Goals.{in-State+in_ok-reply-in-State, in-Over+in_ok-reply-in-Over}

pub returns : goal.returns
returns g c = record {
  line = λ m a h says.
      let dom = g.D.Domain.operations c.args.session.now.engine.domain in
      let layout = layout_at (routines_of m.program) c.args.at.now in
      let e : c.match-value.reply ≡ answer_reply dom layout a = elim c.match-value.branch [
        | in-State+in_ok-reply-in-State w ↦ (
            let said : a ≡ Answers (plain.State w.in-State.state) = subst (λ (v : Value g.row.D-State.Denot). Says a (Some v)) w.in-State.is says in
            let program : w.view.result ≡ m.program = w.view.ensures.is ∙ w.program.ensures.is m h in
            w.reply-is ∙ (w.in_ok-reply-in-State.ensures.reply
            ∙ (ap (λ (d : g.row.D.Denot). r.State ((g.D.Domain.operations d).text (layout_at (routines_of w.view.result) c.args.at.now) w.in-State.state)) w.domain.ensures.is
            ∙ (ap (λ (ps : List Procedure). r.State (dom.text (layout_at (routines_of ps) c.args.at.now) w.in-State.state)) program
            ∙ ap (answer_reply dom layout) (sym said)))))
        | in-Over+in_ok-reply-in-Over w ↦ (
            let said : a ≡ Answers (plain.Over w.in-Over.head (reverse w.in-Over.chain)) = subst (λ (v : Value g.row.D-State.Denot). Says a (Some v)) w.in-Over.is says in
            let chain : w.chain.result.now ≡ reverse (reverse w.in-Over.chain) = w.chain.ensures.same ∙ sym (reverse-reverse w.in-Over.chain) in
            w.reply-is ∙ (w.in_ok-reply-in-Over.ensures.reply ∙ (ap (r.Over w.in-Over.head) chain ∙ ap (answer_reply dom layout) (sym said))))
      ] in
      subst (λ (reply : Reply). IfOk c.line_of.result (λ v. v.items ≡ reply_text reply)) e c.line_of.ensures.line;
}
