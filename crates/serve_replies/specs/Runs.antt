-- The reply to a request for a run.
use Rattle.std.specs.Prelude.{ℕ, ℤ, List, Option, Some, None}
use Rattle.imp_syntax.specs.declared.edit.Location.{Location}
use Rattle.imp_slots.specs.Plain.{Routine}
use Rattle.concrete_sem.specs.Steps.{start}
use Rattle.concrete_sem.specs.Runs.{Run, run_from}
use Rattle.imp_run.specs.Outcome.{stands_at}
use Rattle.batch_meaning.specs.Answers.{Found, In, Misses, procedure_of}
use Rattle.request_json.specs.declared.reply.Reply.{Reply}
use Rattle.request_json.specs.declared.reply.Reply.TheVariants as r
use Rattle.request_json.specs.declared.reply.Refusal.TheVariants as refusal

-- how often the run stood at the location, if one was asked for
abbrev pub reached_at : Option Location → ℕ → Option ℕ
reached_at None n = None
reached_at (Some l) n = Some n

abbrev pub ran : Option Location → Run → Reply
ran at run = r.Run run.end (reached_at at run.reached)

-- the run with these inputs and so many steps at most
unfoldable pub run_reply : List Routine → List ℤ → ℕ → Option Location → Reply
run_reply program inputs fuel at = ran at (run_from program (stands_at program at) fuel (start program inputs))

-- the same, where the program has the location
abbrev pub found_run : List Routine → List ℤ → ℕ → Location → Found → Reply
found_run program inputs fuel l (Misses why) = r.Refused (refusal.Query why)
found_run program inputs fuel l (In p) = run_reply program inputs fuel (Some l)

abbrev pub asked_run : List Routine → List ℤ → ℕ → Option Location → Reply
asked_run program inputs fuel None = run_reply program inputs fuel None
asked_run program inputs fuel (Some l) = found_run program inputs fuel l (procedure_of program l)
