-- What an end comes of, from what the end of a part comes of.
use Rattle.std.proofs.Common.{◌<◌, ℕ, inl, inr, List, Option, Result, Ok, Err, refl, arith}
use Rattle.std.specs.Prelude.{Vec}
use Rattle.serve_output.specs.declared.status.Status.{Status}
use Rattle.serve_output.specs.declared.status.Status.TheVariants.{Done, Words, Source, Script, Sink, Memory, Files, LongScript, LongFile}
use Rattle.serve_output.specs.declared.error.JobError.{JobError}
use Rattle.serve_output.specs.declared.error.JobError.TheVariants as missing
use Rattle.serve_output.specs.Ends.{Caused, CausedByScript, EndsBy, Fits}
use Rattle.serve_output.specs.Given.{EndsGiven, Gives}
use Rattle.serve_output.specs.Output.{Output}

module _ (words serves quiet file_fails script_fails sink_fails : Type 0) (script script' : Option (List ℕ)) where
  -- the lines of a script are answered
  pub caused_by_script : (status : Status) → serves → CausedByScript script_fails sink_fails script script' status →
      Caused words serves quiet file_fails script_fails sink_fails script script' status
  caused_by_script Done serves caused = λ _. caused tt
  caused_by_script Words serves caused = absurd caused
  caused_by_script Source serves caused = tt
  caused_by_script Script serves caused = (serves, caused.1)
  caused_by_script Sink serves caused = caused
  caused_by_script Memory serves caused = tt
  caused_by_script Files serves caused = absurd caused.0
  caused_by_script LongScript serves caused = (serves, caused.1)
  caused_by_script LongFile serves caused = absurd caused

-- What is given fits the output that it gives.
fits_end : (wanted status : Status) (sink_fails : Type 0) (number : ℕ) → Fits wanted number → number < 7 → EndsBy wanted sink_fails status → Fits status number
fits_end wanted status sink_fails number fits low (inl is) = rw is fits
fits_end wanted status sink_fails number fits low (inr (inl (is, fails))) = rw is low
fits_end wanted status sink_fails number fits low (inr (inr is)) = rw is tt

pub fits_given : {Z : Type 0} (quiet sink_fails : Type 0) (given : Result (Vec ℕ Z) JobError) (status : Status) (output : Output) → Gives given output → EndsGiven quiet sink_fails given status → Fits status output.status
fits_given quiet sink_fails (Ok bytes) status output gives ends = rw gives (fits_end Done status sink_fails 0 refl (omega arith) ends)
fits_given quiet sink_fails (Err (missing.Refused why)) status output gives ends = rw gives (fits_end Source status sink_fails 3 refl (omega arith) ends)
fits_given quiet sink_fails (Err missing.Files) status output gives ends = rw ends.0 tt
fits_given quiet sink_fails (Err missing.LongFile) status output gives ends = rw ends.0 gives
fits_given quiet sink_fails (Err missing.Memory) status output gives ends = rw ends tt
