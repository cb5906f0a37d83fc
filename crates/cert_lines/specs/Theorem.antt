-- What a yes says of runs.
use Rattle.std.specs.Prelude.{◌≡◌, ℕ, List, [], ◌∷◌, reverse, Some, Contains}
use Rattle.imp_syntax.specs.declared.edit.Location.TheVariants.{Head}
use Rattle.serve_script.specs.Lines.{all_lines}
use Rattle.imp_slots.specs.Plain.{Routine}
use Rattle.imp_slots.specs.Fits.{IsChecked}
use Rattle.concrete_sem.specs.Values.{Variables, Heap}
use Rattle.concrete_sem.specs.Steps.{Config}
use Rattle.concrete_sem.specs.Reach.{call_sites, Reach}
use Rattle.concrete_sem.specs.WellFormed.{variables_of}
use Rattle.domain_laws.specs.Operations.{Operations}
use Rattle.cert_meaning.specs.Portable.{Portable}
use Rattle.cert_meaning.specs.Chained.{layouts_around}
use Rattle.cert_lines.specs.Lines.{Line, line_of}
use Rattle.cert_lines.specs.Verify.{Yes, verify}

-- A line of the certificate is of loop n under the call sites z, the last first, with the text of this state.
pub record IsWritten {S : Type 0} (port : Portable S) (program : List Routine) (cert : List ℕ) (z : List ℕ) (n : ℕ) (s : S) : Type 0 where
  pub bytes : List ℕ
  pub among : Contains (all_lines cert) bytes
  pub line : Line
  pub says : line_of bytes ≡ Some line
  pub at : line.at ≡ n
  pub chain : reverse line.chain ≡ z
  pub state : port.take (layouts_around program (n ∷ z)) line.state ≡ Some s

-- Where the answer is yes, whoever wrote the lines, each configuration of a run that stands at the test of a loop is
-- described by the state of a line of that loop under the configuration's call sites.
abbrev pub IsYesSound : {S : Type 0} → Operations S → (S → Heap → List Variables → Type 0) → Portable S → Type 0
IsYesSound {S} dom covers port =
    (program : List Routine) (cert : List ℕ) (n : ℕ) (c : Config) → IsChecked program → verify dom port program cert ≡ Yes → Reach program (Head n) [] c →
    (s : S) × IsWritten port program cert (call_sites c.frames) n s × covers s c.heap (variables_of c.frames)
