-- What checking a certificate comes to, and what a yes says.
use Rattle.std.specs.Prelude.{ℕ, List, [], reverse}
use Rattle.imp_syntax.specs.declared.edit.Location.TheVariants.{Head}
use Rattle.imp_slots.specs.Plain.{Routine}
use Rattle.concrete_sem.specs.Values.{Variables, Heap}
use Rattle.concrete_sem.specs.Steps.{Config}
use Rattle.concrete_sem.specs.Reach.{call_sites, Reach}
use Rattle.concrete_sem.specs.WellFormed.{variables_of}
use Rattle.cert_meaning.specs.Portable.{Portable}
use Rattle.cert_lines.specs.Verify as plain
use Rattle.cert_lines.specs.Theorem.{IsWritten}
use Rattle.cert_check.specs.Following.{why_of}
use Rattle.cert_check.specs.declared.verified.Verified.{Verified}
use Rattle.cert_check.specs.declared.verified.Verified.TheVariants.{Yes, BadLine, No}

abbrev pub verified_of : Verified → plain.Verified
verified_of Yes = plain.Yes
verified_of (BadLine line) = plain.BadLine line
verified_of (No at chain why) = plain.No at (reverse chain) (why_of why)

-- Each configuration of a run that stands at the test of a loop is described by the state of a line of that loop under the
-- configuration's call sites.
abbrev pub CoversRuns : {S : Type 0} → (S → Heap → List Variables → Type 0) → Portable S → List Routine → (cert : List ℕ) → Type 0
CoversRuns {S} covers port program cert =
    (n : ℕ) (c : Config) → Reach program (Head n) [] c → (s : S) × IsWritten port program cert (call_sites c.frames) n s × covers s c.heap (variables_of c.frames)
