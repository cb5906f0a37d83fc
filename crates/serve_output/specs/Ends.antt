-- How the program ends: by a status, with what was read and written.
use Rattle.std.specs.Prelude.{◌≡◌, ℕ, ◌<◌, ◌==◌, ◌^◌, ◌++◌, ◌⊎◌, List, [], ◌∷◌, Option, Some, if◌then◌else◌}
use Rattle.io_edge.specs.Outside.{Rose}
use Rattle.imp_syntax.specs.Plain.{Procedure}
use Rattle.serve_command.specs.declared.job.AnalysisOptions.{AnalysisOptions}
use Rattle.serve_command.specs.declared.job.DomainName.{DomainName}
use Rattle.serve_script.specs.Replies.{AnsweredRead, ReadsBytes, ReadsToEnd, WrotePrefix}
use Rattle.serve_answers.specs.Fine.{opening}
use Rattle.serve_answers.specs.Lines.{Served, server}
use Rattle.serve_answers.specs.Readings.{Readings}
use Rattle.serve_output.specs.declared.status.Status.{Status}
use Rattle.serve_output.specs.declared.status.Status.TheVariants.{Done, Words, Source, Script, Sink, Memory, Files, LongScript, LongFile}
use Rattle.serve_output.specs.Domains.{meaning_of}
use Rattle.serve_output.specs.Jobs.{engine_of}
use Rattle.serve_output.specs.Output.{Output, done, served_bytes}

-- the number of a status
abbrev pub code_of : Status → ℕ
code_of Done = 0
code_of Words = 2
code_of Source = 3
code_of Script = 4
code_of Sink = 5
code_of Memory = 6
code_of Files = 7
code_of LongScript = 8
code_of LongFile = 9

-- the status of a number
abbrev pub status_of : ℕ → Status
status_of n =
    if n == 0 then Done else (if n == 2 then Words else (if n == 3 then Source else (if n == 4 then Script else (if n == 5 then Sink
    else (if n == 7 then Files else (if n == 8 then LongScript else (if n == 9 then LongFile else Memory)))))))

-- a number that a status has
abbrev pub IsStatus : ℕ → Type 0
IsStatus n = n ≡ code_of (status_of n)

-- no bytes, or some of which the last is LF
abbrev pub IsWholeLines : List ℕ → Type 0
IsWholeLines bytes = (bytes ≡ []) ⊎ ((front : List ℕ) × (bytes ≡ front ++ 10 ∷ []))

-- A prefix of the bytes was written, and it has whole lines alone.
pub record WroteWholeLines (bytes taken : List ℕ) (output : Option (List ℕ)) : Type 0 where
  pub sent : List ℕ
  pub unsent : List ℕ
  pub split : bytes ≡ sent ++ unsent
  pub written : output ≡ Some (taken ++ sent)
  pub whole : IsWholeLines sent

-- A program is served: the replies to the lines whose LF was read are written, and no more.
pub record WroteRead (output : Output) (script taken : List ℕ) (rest written : Option (List ℕ)) : Type 0 where
  pub domain : DomainName
  pub first : Served
  pub succeeds : output.status ≡ 0
  pub is : output.bytes ≡ served_bytes domain first script
  pub answered : AnsweredRead (server (meaning_of domain).operations) first script taken rest written

-- The output was written, and the status is that of the output.
pub record WroteAll (status : ℕ) (output : Output) (taken : List ℕ) (written : Option (List ℕ)) : Type 0 where
  pub same : output.status ≡ status
  pub all : written ≡ Some (taken ++ output.bytes)

-- the status that the output has where the program ends so, if nothing failed
abbrev pub Fits : Status → ℕ → Type 0
Fits Done status = status ≡ 0
Fits Words status = status ≡ 2
Fits Source status = status ≡ 3
Fits Script status = status ≡ 0
Fits Sink status = status < 7
Fits Memory status = Unit {0}
Fits Files status = Unit {0}
Fits LongScript status = status ≡ 0
Fits LongFile status = status ≡ 9

-- what was written, where the program ends so
abbrev pub Wrote : Status → Output → List ℕ → List ℕ → Option (List ℕ) → Option (List ℕ) → Type 0
Wrote Done output script taken rest written = WroteAll 0 output taken written
Wrote Words output script taken rest written = WroteAll 2 output taken written
Wrote Source output script taken rest written = WroteAll 3 output taken written
Wrote Script output script taken rest written = WroteRead output script taken rest written
Wrote Sink output script taken rest written = WrotePrefix output.bytes taken written
Wrote Memory output script taken rest written = WroteWholeLines output.bytes taken written
Wrote Files output script taken rest written = written ≡ Some taken
Wrote LongScript output script taken rest written = WroteRead output script taken rest written
Wrote LongFile output script taken rest written = written ≡ Some taken

-- What is written of an output that no script gives.
abbrev pub WritesOutput : Status → Output → (sink sink' : Option (List ℕ)) → Type 0
WritesOutput status output sink sink' =
    (text taken : List ℕ) (rest : Option (List ℕ)) → sink ≡ Some taken → Wrote status output text taken rest sink'

-- What is written of the replies to the lines of a script, where it is told. A prime marks what is told after the job.
abbrev pub WritesServed : DomainName → Served → Status → (script script' sink sink' : Option (List ℕ)) → Type 0
WritesServed domain first status script script' sink sink' =
    (text taken : List ℕ) → script ≡ Some text → sink ≡ Some taken → Wrote status (done (served_bytes domain first text)) text taken script' sink'

-- .. by a session that begins with the program
abbrev pub ServesProgram : AnalysisOptions → List Procedure → Status → (script script' sink sink' : Option (List ℕ)) → Type 0
ServesProgram settings program status script script' sink sink' =
    (readings : Readings) → WritesServed settings.domain (opening readings (engine_of settings) program) status script script' sink sink'

-- It ends so, unless a write fails or memory runs out.
abbrev pub EndsBy : (wanted : Status) (sink_fails : Type 0) → (status : Status) → Type 0
EndsBy wanted sink_fails status = (status ≡ wanted) ⊎ (((status ≡ Sink) × sink_fails) ⊎ (status ≡ Memory))

-- What an end comes of, and what was read and written before it. These are given: `words`, the words are not taken; `serves`,
-- the lines of the script are answered; `quiet`, nothing is written; `file_fails`, a file could not be loaded or is not there;
-- `script_fails`, a read of the script failed; `sink_fails`, a write failed. A prime marks what is told after the job.
abbrev pub Caused : (words serves quiet file_fails script_fails sink_fails : Type 0) → (script script' : Option (List ℕ)) → Status → Type 0
Caused words serves quiet file_fails script_fails sink_fails script script' Done = serves → ReadsToEnd script script'
Caused words serves quiet file_fails script_fails sink_fails script script' Words = words
Caused words serves quiet file_fails script_fails sink_fails script script' Source = Unit {0}
Caused words serves quiet file_fails script_fails sink_fails script script' Script = serves × script_fails
Caused words serves quiet file_fails script_fails sink_fails script script' Sink = sink_fails
Caused words serves quiet file_fails script_fails sink_fails script script' Memory = Unit {0}
Caused words serves quiet file_fails script_fails sink_fails script script' Files = quiet × file_fails
Caused words serves quiet file_fails script_fails sink_fails script script' LongScript = serves × ReadsBytes (2 ^ 40) script script'
Caused words serves quiet file_fails script_fails sink_fails script script' LongFile = quiet

-- What the end comes of where the lines of a script are answered, and no file is loaded.
abbrev pub CausedByScript : (script_fails sink_fails : Type 0) → (script script' : Option (List ℕ)) → Status → Type 0
CausedByScript script_fails sink_fails = Caused ⊥ (Unit {0}) ⊥ ⊥ script_fails sink_fails

-- .. of these streams, as they were before and after
abbrev pub CausedByStreams : {S K : Type 0} → (faults : S → ℕ) → (told : S → Option (List ℕ)) → (sink_faults : K → ℕ) → (script script' : S) → (sink sink' : K) → Status → Type 0
CausedByStreams faults told sink_faults script script' sink sink' =
    CausedByScript (Rose (faults script) (faults script')) (Rose (sink_faults sink) (sink_faults sink')) (told script) (told script')
