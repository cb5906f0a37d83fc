-- From what files have to what is given for a job.
use Rattle.std.proofs.Common.{◌≡◌, ◌≤◌, ◌⊎◌, inl, inr, ℕ, List, length, Option, Some, None, Result, Ok, Err, IfOk, IfErr, IfSome, IsErrOf, refl}
use Rattle.imp_syntax.specs.Plain.{Procedure}
use Rattle.io_edge.specs.Outside.{Lacks, Rose}
use Rattle.request_json.specs.declared.reply.Refusal.{Refusal}
use Rattle.serve_answers.specs.Readings.{Readings}
use Rattle.serve_output.specs.declared.error.JobError.{JobError}
use Rattle.serve_output.specs.declared.error.JobError.TheVariants.{Refused, Files, LongFile, Memory}
use Rattle.serve_output.specs.Given.{EndsProgram, HasBytes, IsEnd, IsProgramIn}
use Rattle.serve_output.specs.Output.{Output, of_source, most_source, HasProgram}
use Rattle.serve_output.specs.Sources.{source_of, IsErrorOf, IsSourceError, IsTextOf}
use Rattle.serve_output.proofs.OutputLemmas.{short_file}
use Rattle.serve_script.proofs.WriteLemmas.{rose_since}

-- a file that was loaded is the one that is told
pub told_bytes : (told : Option (List ℕ → Option (List ℕ))) (name bytes : List ℕ) → IfSome told (λ files. files name ≡ Some bytes) → HasBytes told name bytes
told_bytes told name bytes has = λ folder is. rw is at has

-- a source that gives no program, and one that does
source_ends : (source : Result (List Procedure) Refusal) (give : List Procedure → Output) (error : JobError) → IsSourceError source error → IsEnd error (of_source source give)
source_ends source give (Refused why) is = rw is refl
source_ends source give Files is = absurd is
source_ends source give LongFile is = absurd is
source_ends source give Memory is = tt

module _ {P : Type 0} (told : Option (List ℕ → Option (List ℕ))) (name source : List ℕ) (has : HasBytes told name source) (short : length source ≤ most_source) (program_of : P → List Procedure) where
  pub loaded : (r : Result P JobError) → IfOk r (λ p. IsTextOf source (program_of p)) → IfOk r (λ p. IsProgramIn told name (program_of p))
  loaded (Ok p) text = λ readings folder is. rw (has folder is) (short, text readings)
  loaded (Err error) text = tt

  pub ends_source : (r : Result P JobError) → IfErr r (IsErrorOf source) → IfErr r (EndsProgram told name)
  ends_source (Ok p) refused = tt
  ends_source (Err error) refused = λ readings folder give is.
      rw (short_file most_source (folder name) source (λ bytes. of_source (source_of readings bytes) give) (has folder is) short)
      (source_ends (source_of readings source) give error (refused readings))

-- a source is no file
pub source_no_file : {P : Type 0} (readings : Readings) (source : List ℕ) (r : Result P JobError) → IfErr r (IsErrorOf source) → IsErrOf r Files → ⊥
source_no_file readings source r refused is = (rw is at refused) readings

-- a certificate that is missing, where the program is there
has_program : (told : Option (List ℕ → Option (List ℕ))) (name cert : List ℕ) (program : List Procedure) → IsProgramIn told name program → Lacks told cert → HasProgram told name
has_program (Some files) name cert program is lacks = λ readings. (program, is readings files refl)
has_program None name cert program is lacks = absurd lacks

pub missing_certificate : (told after : Option (List ℕ → Option (List ℕ))) (name cert : List ℕ) (program : List Procedure) (first second third : ℕ) → after ≡ told → first ≤ second →
    IsProgramIn told name program → Rose second third ⊎ Lacks after cert → Rose first third ⊎ (Lacks told name ⊎ (HasProgram told name × Lacks told cert))
missing_certificate told after name cert program first second third stays rises is (inl rose) = inl (rose_since first second third rises rose)
missing_certificate told after name cert program first second third stays rises is (inr lacks) =
    let still : Lacks told cert = rw stays at lacks in
    inr (inr (has_program told name cert program is still, still))
