-- What is claimed of the certificates that batch interpretation gives.
use Rattle.std.specs.Prelude.{◌≡◌, ℕ, List, slice_get, Option, Some, Bool, Contains, MatchOption}
use Rattle.imp_syntax.specs.declared.edit.Location.TheVariants.{Head}
use Rattle.imp_slots.specs.Plain.{Routine}
use Rattle.imp_slots.specs.Fits.{IsChecked}
use Rattle.imp_chains.specs.Chains.{chains}
use Rattle.domain_laws.specs.Operations.{Operations}
use Rattle.batch_meaning.specs.Values.{Over}
use Rattle.batch_meaning.specs.Batch.{LoopOptions}
use Rattle.batch_meaning.specs.Places.{value_at}
use Rattle.cert_meaning.specs.Followed.{Followed, Passes, Fails, followed_program}
use Rattle.cert_meaning.specs.Written.{loops, heads}
use Rattle.cert_sound.specs.Theorem.{AreOfFrames}

-- n is a loop of the p-th procedure, and z a chain to that
pub record IsLoopUnder (program : List Routine) (p n : ℕ) (z : List ℕ) : Type 0 where
  pub loop : MatchOption (slice_get program p) ⊥ (λ r. Contains (loops r.code) n)
  pub chain : Contains (chains program p) z

-- no loop used up its budget under a chain to its procedure
abbrev pub HasNoOver : {S : Type 0} → Operations S → LoopOptions → List Routine → Type 0
HasNoOver dom engine program =
    (p n : ℕ) (z : List ℕ) (m : ℕ) (y : List ℕ) → IsLoopUnder program p n z → value_at dom engine program (Head n) z ≡ Some (Over m y) → ⊥

-- of each loop under each chain to its procedure the state at its head is written
abbrev pub AreHeads : {S : Type 0} → Operations S → LoopOptions → List Routine → (written : (z : List ℕ) → (n : ℕ) → Option S) → Type 0
AreHeads dom engine program written = (p n : ℕ) (z : List ℕ) → IsLoopUnder program p n z → written z n ≡ heads dom engine program z n

abbrev pub DoesPass : {S : Type 0} → Followed S → Type 0
DoesPass (Passes s ss) = Unit {0}
DoesPass (Fails n z why) = ⊥

-- Where no loop used up its budget, following the program with the states that batch interpretation has at the heads of
-- its loops finds nothing.
abbrev pub CertificatesHold : {S : Type 0} → Operations S → (S → S → Bool) → Type 0
CertificatesHold {S} dom leq =
    (engine : LoopOptions) (program : List Routine) (written : (z : List ℕ) → (n : ℕ) → Option S) → IsChecked program → HasNoOver dom engine program → AreHeads dom engine program written →
    DoesPass (followed_program dom leq written program)

-- the states at the heads of loops are of the frames that stand there
abbrev pub HeadsAreOfFrames : {S : Type 0} → Operations S → Type 0
HeadsAreOfFrames dom = (engine : LoopOptions) (program : List Routine) → IsChecked program → AreOfFrames dom program (heads dom engine program)
