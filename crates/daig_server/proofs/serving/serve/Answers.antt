use Rattle.std.proofs.Common.{◌∙◌, inl, inr}
use Rattle.serve_output.specs.Jobs.{domain_in, engine_in}
use Rattle.serve_output.specs.Told.{job_of_words}
use Rattle.serve_output.specs.declared.status.Status.TheVariants.{Done, Words, Script, Sink, Files, LongScript, LongFile}
use Rattle.serve_output.proofs.CertificateLemmas.{yes_covers}
use Rattle.serve_output.proofs.SettlesLemmas.{settled}
use Rattle.serve_output.proofs.OutputLemmas.{accepted_read, end_number, file_read, named_by, same_status, told_by, wrote_complete, zero_accepted}
use Rattle.serve_output.specs.Domains.{meaning_of}
use Rattle.serve_answers.proofs.Histories.{same_alike, undo_restores, redo_restores}
use Rattle.reply_lines.proofs.Refused.{refusals_keep}
use Rattle.reply_lines.proofs.Replied.{one_for_each}
use Rattle.reuse_laws.proofs.Lines.{moments_shorten}
use Rattle.daig_server.proofs.PartLemmas.{answered_by_words}
use Rattle.daig_server.proofs.serving.serve.Goals as goal

pub returns-clause-named : goal.returns-clause-named
returns-clause-named g c = named_by c.run.result _ c.code.ensures.code

pub returns-clause-complete : goal.returns-clause-complete
returns-clause-complete g c = λ readings told tells none short enough.
    rw c.code.ensures.code (wrote_complete c.run.result readings (job_of_words c.args.words.now) (g.F.Files.told c.args.files.now) told.folder told.script told.taken _ _ _ _ _ _ _ _
    tells.files_are none short (λ six. enough (c.code.ensures.code ∙ six))
    (λ long. let found = zero_accepted readings (job_of_words c.args.words.now) told.folder told.script (rw long at (c.run.ensures.fits readings told.folder told.script tells.files_are)) in
    tells.script_is (rw long at c.run.ensures.caused).0 found.0 found.1) c.run.ensures.caused
    (c.run.ensures.fits readings told.folder told.script tells.files_are) (c.run.ensures.wrote readings told.folder told.script told.taken tells.files_are tells.script_is tells.sink_is))

pub returns-clause-exactly : goal.returns-clause-exactly
returns-clause-exactly g c = λ readings told files_are.
    rw (told_by c.run.result _ c.code.ensures.code) (c.run.ensures.fits readings told.folder told.script files_are)

pub returns-clause-written : goal.returns-clause-written
returns-clause-written g c = λ readings told tells.
    rw (told_by c.run.result _ c.code.ensures.code) (c.run.ensures.wrote readings told.folder told.script told.taken tells.files_are tells.script_is tells.sink_is)

pub returns-clause-words_exactly : goal.returns-clause-words_exactly
returns-clause-words_exactly g c = (
  (λ is. rw (same_status c.run.result Words _ c.code.ensures.code is) at c.run.ensures.caused),
  (λ none. end_number Words c.run.result _ _ c.code.ensures.code (c.run.ensures.refuses none)),
)

pub returns-clause-read_to_end : goal.returns-clause-read_to_end
returns-clause-read_to_end g c = λ is. rw (same_status c.run.result Done _ c.code.ensures.code is) at c.run.ensures.caused

pub returns-clause-gen_ends : goal.returns-clause-gen_ends
returns-clause-gen_ends g c = λ asks. end_number Done c.run.result _ _ c.code.ensures.code (c.run.ensures.generates asks)

pub returns-clause-script_failed : goal.returns-clause-script_failed
returns-clause-script_failed g c = λ is. rw (same_status c.run.result Script _ c.code.ensures.code is) at c.run.ensures.caused

pub returns-clause-sink_failed : goal.returns-clause-sink_failed
returns-clause-sink_failed g c = λ is. rw (same_status c.run.result Sink _ c.code.ensures.code is) at c.run.ensures.caused

pub returns-clause-files_failed : goal.returns-clause-files_failed
returns-clause-files_failed g c = λ is. (rw (same_status c.run.result Files _ c.code.ensures.code is) at c.run.ensures.caused).1

pub returns-clause-long_script : goal.returns-clause-long_script
returns-clause-long_script g c = λ is. rw (same_status c.run.result LongScript _ c.code.ensures.code is) at c.run.ensures.caused

pub returns-clause-nothing_written : goal.returns-clause-nothing_written
returns-clause-nothing_written g c (inl is) = (rw (same_status c.run.result Files _ c.code.ensures.code is) at c.run.ensures.caused).0
returns-clause-nothing_written g c (inr is) = rw (same_status c.run.result LongFile _ c.code.ensures.code is) at c.run.ensures.caused

pub returns-clause-sound : goal.returns-clause-sound
returns-clause-sound g c = λ readings folder program before line accepted.
    let read = accepted_read readings (job_of_words c.args.words.now) folder program accepted in
    c.named_domains_are_sound.ensures.moments (domain_in (job_of_words c.args.words.now)) readings (engine_in (job_of_words c.args.words.now)) read.0 program read.1 before line

pub returns-clause-reports_sound : goal.returns-clause-reports_sound
returns-clause-reports_sound g c = λ readings folder program accepted.
    let read = accepted_read readings (job_of_words c.args.words.now) folder program accepted in
    let fine = (c.machines_stay_fine.ensures.source readings (engine_in (job_of_words c.args.words.now)) read.0 program read.1).present.fine in
    λ f has. c.named_domains_are_sound.ensures.reports (domain_in (job_of_words c.args.words.now)) (engine_in (job_of_words c.args.words.now)) _ f fine.fit has

pub returns-clause-verified : goal.returns-clause-verified
returns-clause-verified g c = λ readings told domain file cert text program named tells accepted there zero is.
    let read = file_read readings (told.folder file) program accepted in
    let fine = (c.machines_stay_fine.ensures.source readings (engine_in (job_of_words c.args.words.now)) read.0 program read.1).present.fine in
    let done = same_status c.run.result Done _ c.code.ensures.code zero in
    let wrote = rw (done, named) at (c.run.ensures.wrote readings told.folder told.script told.taken tells.files_are tells.script_is tells.sink_is) in
    yes_covers readings domain told.folder file cert told.script text told.taken program _ (c.each_yes_is_sound.ensures.sound domain) fine.fit accepted there wrote is

pub returns-clause-history_unseen : goal.returns-clause-history_unseen
returns-clause-history_unseen g c = same_alike (meaning_of (domain_in (job_of_words c.args.words.now))).operations

pub returns-clause-undo_restores : goal.returns-clause-undo_restores
returns-clause-undo_restores g c = undo_restores (meaning_of (domain_in (job_of_words c.args.words.now))).operations

pub returns-clause-redo_restores : goal.returns-clause-redo_restores
returns-clause-redo_restores g c = redo_restores (meaning_of (domain_in (job_of_words c.args.words.now))).operations

pub returns-clause-settles : goal.returns-clause-settles
returns-clause-settles g c = λ readings folder program before line accepted.
    let read = accepted_read readings (job_of_words c.args.words.now) folder program accepted in
    settled c.named_domains_converge.ensures.end (domain_in (job_of_words c.args.words.now)) readings (engine_in (job_of_words c.args.words.now)) read.0 program before line read.1

pub returns-clause-certified : goal.returns-clause-certified
returns-clause-certified g c = c.written_certificates_are_accepted.ensures.accepted

pub returns-clause-answered_part : goal.returns-clause-answered_part
returns-clause-answered_part g c = λ readings told program tells accepted ends.
    let wrote = c.run.ensures.wrote readings told.folder told.script told.taken tells.files_are tells.script_is tells.sink_is in
    let words = job_of_words c.args.words.now in
    elim ends [
      | inl is ↦
          let stopped = same_status c.run.result Script _ c.code.ensures.code is in
          answered_by_words readings words told.folder program told.script told.taken _ _ accepted (rw stopped at c.run.ensures.caused).0 (rw stopped at wrote)
      | inr is ↦
          let stopped = same_status c.run.result LongScript _ c.code.ensures.code is in
          answered_by_words readings words told.folder program told.script told.taken _ _ accepted (rw stopped at c.run.ensures.caused).0 (rw stopped at wrote)
    ]

pub returns-clause-one_reply_each : goal.returns-clause-one_reply_each
returns-clause-one_reply_each g c = one_for_each (meaning_of (domain_in (job_of_words c.args.words.now))).operations

pub returns-clause-never_longer : goal.returns-clause-never_longer
returns-clause-never_longer g c = λ readings folder program before accepted.
    let read = accepted_read readings (job_of_words c.args.words.now) folder program accepted in
    moments_shorten (meaning_of (domain_in (job_of_words c.args.words.now))).operations readings (engine_in (job_of_words c.args.words.now)) read.0 program read.1 before

pub returns-clause-refusals_keep : goal.returns-clause-refusals_keep
returns-clause-refusals_keep g c = refusals_keep (meaning_of (domain_in (job_of_words c.args.words.now))).operations
