use Rattle.std.proofs.Common.{◌≡◌, ℕ, List, Ok, Err, refl, subst}
use Rattle.imp_syntax.specs.declared.edit.Edit.TheVariants as edit
use Rattle.request_json.specs.declared.request.Request.{Request}
use Rattle.request_json.specs.declared.request.Request.TheVariants as q
use Rattle.request_json.specs.declared.reply.Refusal.TheVariants as refusal
use Rattle.serve_answers.specs.Edits.{add_of, guard_of, insert_of, replace_of}
use Rattle.serve_answers.specs.Readings.{Readings}
use Rattle.serve_answers.specs.declared.edits.TextError.TheVariants as t
use Rattle.serve_session.specs.Followed.{edit_asked, Makes}
use Rattle.serve_session.proofs.Edited.{makes}
use Rattle.serve_session.proofs.Requested.{as_asked}
use Rattle.serve_session.proofs.edits.edit_asked.Goals as goal

pub returns-in-Replace-clause-makes : goal.returns-in-Replace-clause-makes
returns-in-Replace-clause-makes c = λ readings.
    let made = c.replace_of.result in
    as_asked readings c.args.next made c.args.request (q.Replace c.in-Replace.id c.in-Replace.text) c.in-Replace.is
    (subst (λ (text : List ℕ). Makes (replace_of readings c.args.next c.in-Replace.id text) made) c.as_slice.ensures.same
    (makes (λ (k : Readings). replace_of k c.args.next c.in-Replace.id c.as_slice.result.now) made c.replace_of.ensures.made c.replace_of.ensures.refused readings))

pub returns-in-Insert-clause-makes : goal.returns-in-Insert-clause-makes
returns-in-Insert-clause-makes c = λ readings.
    let made = c.insert_of.result in
    as_asked readings c.args.next made c.args.request (q.Insert c.in-Insert.place c.in-Insert.text) c.in-Insert.is
    (subst (λ (text : List ℕ). Makes (insert_of readings c.args.next c.in-Insert.place text) made) c.as_slice-in-Insert.ensures.same
    (makes (λ (k : Readings). insert_of k c.args.next c.in-Insert.place c.as_slice-in-Insert.result.now) made c.insert_of.ensures.made c.insert_of.ensures.refused readings))

pub returns-in-Guard-clause-makes : goal.returns-in-Guard-clause-makes
returns-in-Guard-clause-makes c = λ readings.
    let made = c.guard_of.result in
    as_asked readings c.args.next made c.args.request (q.Guard c.in-Guard.id c.in-Guard.text) c.in-Guard.is
    (subst (λ (text : List ℕ). Makes (guard_of readings c.in-Guard.id text) made) c.as_slice-in-Guard.ensures.same
    (makes (λ (k : Readings). guard_of k c.in-Guard.id c.as_slice-in-Guard.result.now) made c.guard_of.ensures.made c.guard_of.ensures.refused readings))

pub returns-in-Add-clause-makes : goal.returns-in-Add-clause-makes
returns-in-Add-clause-makes c = λ readings.
    let made = c.add_of.result in
    as_asked readings c.args.next made c.args.request (q.Add c.in-Add.before c.in-Add.text) c.in-Add.is
    (subst (λ (text : List ℕ). Makes (add_of readings c.args.next c.in-Add.before text) made) c.as_slice-in-Add.ensures.same
    (makes (λ (k : Readings). add_of k c.args.next c.in-Add.before c.as_slice-in-Add.result.now) made c.add_of.ensures.made c.add_of.ensures.refused readings))

pub returns-in-Delete-clause-makes : goal.returns-in-Delete-clause-makes
returns-in-Delete-clause-makes c = λ readings. as_asked readings c.args.next (Ok (edit.Delete c.in-Delete.id)) c.args.request (q.Delete c.in-Delete.id) c.in-Delete.is refl

pub returns-in-Declare-clause-makes : goal.returns-in-Declare-clause-makes
returns-in-Declare-clause-makes c = λ readings.
    as_asked readings c.args.next (Ok (edit.Declare c.in-Declare.proc (record { name = c.in-Declare.name; kind = c.in-Declare.kind }))) c.args.request (q.Declare c.in-Declare.proc c.in-Declare.name c.in-Declare.kind) c.in-Declare.is refl

pub returns-in-Drop-clause-makes : goal.returns-in-Drop-clause-makes
returns-in-Drop-clause-makes c = λ readings. as_asked readings c.args.next (Ok (edit.DropProc c.in-Drop.proc)) c.args.request (q.Drop c.in-Drop.proc) c.in-Drop.is refl

pub returns-clause-makes : goal.returns-clause-makes
returns-clause-makes c = λ readings.
    let other = c.in_default in
    (elim c.args.request as (λ (z : Request). c.args.request ≡ z → Makes (edit_asked readings c.args.next z) (Err (t.Refused refusal.NoRequest))) [
      | q.State query ↦ λ is. refl
      | q.Report ↦ λ is. refl
      | q.Faults only ↦ λ is. refl
      | q.Cost ↦ λ is. refl
      | q.Program ↦ λ is. refl
      | q.Listing ↦ λ is. refl
      | q.Run inputs fuel at ↦ λ is. refl
      | q.Replace id text ↦ λ is. absurd (other.not-Replace id text is)
      | q.Insert place text ↦ λ is. absurd (other.not-Insert place text is)
      | q.Delete id ↦ λ is. absurd (other.not-Delete id is)
      | q.Guard id text ↦ λ is. absurd (other.not-Guard id text is)
      | q.Declare proc name kind ↦ λ is. absurd (other.not-Declare proc name kind is)
      | q.Add before text ↦ λ is. absurd (other.not-Add before text is)
      | q.Drop proc ↦ λ is. absurd (other.not-Drop proc is)
      | q.Why query ↦ λ is. refl
      | q.Undo ↦ λ is. refl
      | q.Redo ↦ λ is. refl
      | q.Begin task ↦ λ is. refl
      | q.Step ticket n ↦ λ is. refl
      | q.Cancel ticket ↦ λ is. refl
    ]) refl
