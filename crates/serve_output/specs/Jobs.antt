-- What the words ask for.
use Rattle.std.specs.Prelude.{Option, Some, None, true, false}
use Rattle.serve_command.specs.declared.job.DomainName.{DomainName}
use Rattle.serve_command.specs.declared.job.DomainName.TheVariants.{Interval, Octagon, ListSeg}
use Rattle.serve_command.specs.declared.job.SingleDomain.{SingleDomain}
use Rattle.serve_command.specs.declared.job.SingleDomain.TheVariants as single
use Rattle.serve_command.specs.declared.job.Job.{Job}
use Rattle.serve_command.specs.declared.job.Job.TheVariants as job
use Rattle.serve_command.specs.declared.job.Task.{Task}
use Rattle.serve_command.specs.declared.job.Task.TheVariants.{Serve, Batch, Faults, Cert, Verify}
use Rattle.serve_command.specs.declared.job.AnalysisOptions.{AnalysisOptions}
use Rattle.batch_meaning.specs.Batch.{LoopOptions}

-- how loops are interpreted
abbrev pub engine_of : AnalysisOptions → LoopOptions
engine_of settings = record { budget = settings.budget; widening = settings.widening }

-- the settings of a generated program
abbrev pub by_default : DomainName → AnalysisOptions
by_default domain = record { domain = domain; widening = record { delay = 0; thresholds = true }; budget = 100 }

-- the domain of this name
abbrev pub name_of : SingleDomain → DomainName
name_of single.Interval = Interval
name_of single.Octagon = Octagon
name_of single.ListSeg = ListSeg

-- how a program is analysed for a task; checking a certificate iterates nothing
abbrev pub settings_for : Task → AnalysisOptions
settings_for (Serve settings memo) = settings
settings_for (Batch settings) = settings
settings_for (Faults settings) = settings
settings_for (Cert domain widening budget) = record { domain = name_of domain; widening = widening; budget = budget }
settings_for (Verify domain cert) = by_default (name_of domain)

abbrev pub settings_of : Job → AnalysisOptions
settings_of (job.File file task) = settings_for task
settings_of (job.Gen seed size domain) = by_default domain

-- the lines of a script are answered
abbrev pub Serves : Task → Type 0
Serves (Serve settings memo) = Unit {0}
Serves (Batch settings) = ⊥
Serves (Faults settings) = ⊥
Serves (Cert domain widening budget) = ⊥
Serves (Verify domain cert) = ⊥

-- the words name a job that does so
abbrev pub AsksToServe : Option Job → Type 0
AsksToServe None = ⊥
AsksToServe (Some (job.File file task)) = Serves task
AsksToServe (Some (job.Gen seed size domain)) = ⊥

-- the words name the job of a generated program
abbrev pub AsksToGenerate : Option Job → Type 0
AsksToGenerate None = ⊥
AsksToGenerate (Some (job.File file task)) = ⊥
AsksToGenerate (Some (job.Gen seed size domain)) = Unit {0}

-- how loops are interpreted for a job; without one nothing is
abbrev pub engine_in : Option Job → LoopOptions
engine_in None = record { budget = 0; widening = record { delay = 0; thresholds = false } }
engine_in (Some job) = engine_of (settings_of job)

-- what is known of variables for a job; without one that of intervals
abbrev pub domain_in : Option Job → DomainName
domain_in None = Interval
domain_in (Some job) = (settings_of job).domain
