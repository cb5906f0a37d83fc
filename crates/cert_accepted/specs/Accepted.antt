-- What is claimed of certificates that are checked as they were written.
use Rattle.std.specs.Prelude.{◌≡◌, ◌<◌, ◌≤◌, ◌^◌, ℕ, List, length, None, true, Contains}
use Rattle.std.specs.Str.{IsUtf8}
use Rattle.imp_syntax.specs.Plain.{Procedure}
use Rattle.imp_check.specs.Programs.{check_fault}
use Rattle.imp_check.specs.Slots.{routines_of}
use Rattle.imp_slots.specs.Plain.{Layout, Routine}
use Rattle.imp_slots.specs.Fits.{routine_numbers, IsChecked}
use Rattle.imp_chains.specs.Chains.{chains}
use Rattle.domain_laws.specs.Operations.{Operations}
use Rattle.batch_meaning.specs.Batch.{LoopOptions}
use Rattle.cert_meaning.specs.Portable.{Portable}
use Rattle.cert_lines.specs.Certificate.{Certificate, Lines, Gives, certificate, certificate_text}
use Rattle.cert_lines.specs.Verify.{Yes, verify}

-- the numbers of a program's statements are below 2^32
abbrev pub HasSmallNumbers : List Routine → Type 0
HasSmallNumbers program = (n : ℕ) → Contains (routine_numbers program) n → n < 2 ^ 32

-- A program whose loops and chains lines can name: chains have at most 8 calls.
pub record HasLines (program : List Routine) : Type 0 where
  pub small : HasSmallNumbers program
  pub short : (p : ℕ) (z : List ℕ) → Contains (chains program p) z → length z ≤ 8

-- so have programs without faults
abbrev pub CheckedHaveLines : Type 0
CheckedHaveLines = (ps : List Procedure) → check_fault ps ≡ None → IsChecked (routines_of ps) → HasSmallNumbers (routines_of ps) → HasLines (routines_of ps)

-- the texts of states that fit, of fewer than 2^64 bytes, are UTF-8
abbrev pub PutsUtf8 : {S : Type 0} → Operations S → Portable S → Type 0
PutsUtf8 {S} dom port = (ls : List Layout) (s : S) → dom.fits s ls ≡ true → length (port.put s) < 2 ^ 64 → IsUtf8 (port.put s)

-- no Over stands in place of the lines
abbrev pub IsWhole : Certificate → Type 0
IsWhole (Lines ds) = Unit {0}
IsWhole (Gives n z) = ⊥

-- The certificate of a checked program is found to hold, unless an Over stands in place of it. It has fewer than 2^64
-- bytes, as all texts have that memory holds.
abbrev pub AreAccepted : {S : Type 0} → Operations S → Portable S → Type 0
AreAccepted {S} dom port =
    (engine : LoopOptions) (program : List Routine) → IsChecked program → HasLines program → IsWhole (certificate dom port engine program) →
    length (certificate_text (certificate dom port engine program)) < 2 ^ 64 → verify dom port program (certificate_text (certificate dom port engine program)) ≡ Yes

-- the text of the lines of a certificate of a program
abbrev pub IsCertificate : {S : Type 0} → Operations S → Portable S → List Routine → (text : List ℕ) → Type 0
IsCertificate dom port program text = (engine : LoopOptions) × IsWhole (certificate dom port engine program) × (text ≡ certificate_text (certificate dom port engine program))
