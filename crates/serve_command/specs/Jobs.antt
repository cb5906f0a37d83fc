-- The job of the words.
use Rattle.std.specs.Prelude.{ℕ, ◌≤◌, Bool, List, Option, None, option_and_then, option_map, codes, if◌then◌else◌}
use Rattle.std.specs.Str.{bytes_eq}
use Rattle.clap.specs.Walk.{Row, Text, first_of, is_empty}
use Rattle.clap.specs.Simple.{subcommand_of}
use Rattle.clap.specs.Faults.{fault_of}
use Rattle.imp_chains.specs.declared.widening.Widening.{Widening}
use Rattle.serve_command.specs.declared.job.DomainName.{DomainName}
use Rattle.serve_command.specs.declared.job.AnalysisOptions.{AnalysisOptions}
use Rattle.serve_command.specs.declared.job.Job.{Job}
use Rattle.serve_command.specs.declared.job.Job.TheVariants as job
use Rattle.serve_command.specs.declared.job.Task.{Task}
use Rattle.serve_command.specs.declared.job.Task.TheVariants as task
use Rattle.serve_command.specs.Line.{daig_app}
use Rattle.serve_command.specs.Values.{number_in, domain_of, single_of, thresholds_of}

-- what is read of the value of an argument
abbrev pub value_in : {A : Type 0} → (Text → Option A) → Text → List Row → Option A
value_in read name rows = option_and_then read (first_of name rows)

-- two values
abbrev pub both : {A B C : Type 0} → (A → B → C) → Option A → Option B → Option C
both f a b = option_and_then (λ x. option_map (f x) b) a

abbrev pub widening_with : Bool → ℕ → Widening
widening_with thresholds delay = record { delay = delay; thresholds = thresholds }

abbrev pub widening_in : List Row → Option Widening
widening_in rows = both widening_with (value_in thresholds_of (codes "widening") rows) (value_in (number_in 0 100) (codes "delay") rows)

abbrev pub settings_with : DomainName → Widening → ℕ → AnalysisOptions
settings_with domain widening budget = record { domain = domain; widening = widening; budget = budget }

abbrev pub settings_in : List Row → Option AnalysisOptions
settings_in rows =
    option_and_then (λ domain. both (settings_with domain) (widening_in rows) (value_in (number_in 1 10000) (codes "budget") rows))
    (value_in domain_of (codes "domain") rows)

abbrev pub serve_in : List Row → Option Task
serve_in rows = both task.Serve (settings_in rows) (value_in (number_in 1 65536) (codes "memo") rows)

abbrev pub batch_in : List Row → Option Task
batch_in rows = option_map task.Batch (settings_in rows)

abbrev pub faults_in : List Row → Option Task
faults_in rows = option_map task.Faults (settings_in rows)

abbrev pub cert_in : List Row → Option Task
cert_in rows =
    option_and_then (λ domain. both (task.Cert domain) (widening_in rows) (value_in (number_in 1 10000) (codes "budget") rows))
    (value_in single_of (codes "domain") rows)

abbrev pub verify_in : List Row → Option Task
verify_in rows = both task.Verify (value_in single_of (codes "domain") rows) (first_of (codes "CERT") rows)

abbrev pub job_with : Task → (file : List ℕ) → Job
job_with task file = job.File file task

-- a task for the program of the file that is named
abbrev pub task_with : Option Task → List Row → Option Job
task_with task rows = both job_with task (first_of (codes "FILE") rows)

-- the most that a seed is: 2^63 - 1
abbrev pub most_seed : ℕ
most_seed = 9223372036854775807

abbrev pub gen_with : DomainName → (seed size : ℕ) → Job
gen_with domain seed size = job.Gen seed size domain

abbrev pub gen_in : List Row → Option Job
gen_in rows =
    option_and_then (λ domain. both (gen_with domain) (value_in (number_in 0 most_seed) (codes "seed") rows) (value_in (number_in 1 1000) (codes "size") rows))
    (value_in domain_of (codes "domain") rows)

-- the job of a command that was named, by the values of its arguments
unfoldable pub job_in : Text × List Row → Option Job
job_in command =
    if bytes_eq command.0 (codes "serve") then task_with (serve_in command.1) command.1
    else (if bytes_eq command.0 (codes "batch") then task_with (batch_in command.1) command.1
    else (if bytes_eq command.0 (codes "gen") then gen_in command.1
    else (if bytes_eq command.0 (codes "cert") then task_with (cert_in command.1) command.1
    else (if bytes_eq command.0 (codes "verify") then task_with (verify_in command.1) command.1
    else (if bytes_eq command.0 (codes "faults") then task_with (faults_in command.1) command.1
    else None)))))

-- The job of the words, of which the first is the program's own name: that of the command that they name, where
-- `clap` finds no fault in them and each value is in form.
unfoldable pub job_of : List Text → Option Job
job_of words = if is_empty (fault_of daig_app words) then option_and_then job_in (subcommand_of daig_app words) else None

-- The numbers of a job that bound its work: of `serve` one result is remembered or more, of `gen` so many pieces are drawn.
abbrev pub Remembers : Task → Type 0
Remembers (task.Serve settings memo) = 1 ≤ memo
Remembers (task.Batch settings) = Unit {0}
Remembers (task.Faults settings) = Unit {0}
Remembers (task.Cert domain widening budget) = Unit {0}
Remembers (task.Verify domain cert) = Unit {0}

abbrev pub IsBounded : Job → Type 0
IsBounded (job.File file task) = Remembers task
IsBounded (job.Gen seed size domain) = size ≤ 1000
