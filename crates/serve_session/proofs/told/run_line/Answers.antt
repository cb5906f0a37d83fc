use Rattle.std.proofs.Common.{◌≡◌, ◌<◌, ◌^◌, List, IfOk, length, subst, ap, sym, ◌∙◌}
use Rattle.std.specs.Option.{option_copied}
use Rattle.imp_slots.specs.Plain.{Routine}
use Rattle.imp_check.specs.Slots.{routines_of}
use Rattle.call_contexts.proofs.Few.{few_routines}
use Rattle.request_json.specs.declared.reply.Reply.{Reply}
use Rattle.request_json.specs.Replies.{reply_text}
use Rattle.serve_replies.specs.Runs.{asked_run}
use Rattle.serve_session.proofs.told.run_line.Goals as goal

pub asked_run-requires-clause-few : goal.asked_run-requires-clause-few
asked_run-requires-clause-few g c =
    let e : c.as_slice.result.now ≡ routines_of c.program-table.result.now.program = c.as_slice.ensures.same ∙ c.in_ok-routines.ensures.is in
    subst (λ (rs : List Routine). length rs < 2 ^ 32) (sym e) (few_routines c.program-table.result.now.program c.procs.ensures.faultless)

pub returns : goal.returns
returns g c = record {
  line = λ m h.
      let routines : c.as_slice.result.now ≡ routines_of m.program = c.as_slice.ensures.same ∙ (c.in_ok-routines.ensures.is ∙ ap routines_of (c.program-table.ensures.is m h)) in
      let e : c.in_ok-reply.reply ≡ asked_run (routines_of m.program) c.args.inputs.now c.args.fuel (option_copied c.args.at) =
      c.in_ok-reply.ensures.reply ∙ ap (λ (rs : List Routine). asked_run rs c.args.inputs.now c.args.fuel (option_copied c.args.at)) routines in
      subst (λ (reply : Reply). IfOk c.line_of.result (λ v. v.items ≡ reply_text reply)) e c.line_of.ensures.line;
}
