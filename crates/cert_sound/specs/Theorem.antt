-- What is claimed of certificates that are found to hold.
use Rattle.std.specs.Prelude.{◌≡◌, ℕ, List, [], ◌∷◌, Option, Some, None, Bool, true}
use Rattle.imp_syntax.specs.declared.edit.Location.TheVariants.{Head}
use Rattle.imp_slots.specs.Plain.{Routine}
use Rattle.imp_slots.specs.Fits.{IsChecked}
use Rattle.concrete_sem.specs.Values.{Variables, Heap}
use Rattle.concrete_sem.specs.Steps.{Config}
use Rattle.concrete_sem.specs.Reach.{call_sites, Reach}
use Rattle.concrete_sem.specs.WellFormed.{variables_of}
use Rattle.domain_laws.specs.Operations.{Operations}
use Rattle.cert_meaning.specs.Chained.{layouts_around}
use Rattle.cert_meaning.specs.Followed.{Passes, followed_program}

-- each written state is one of the frames that stand at its loop under its chain
abbrev pub AreOfFrames : {S : Type 0} → Operations S → List Routine → (written : (z : List ℕ) → (n : ℕ) → Option S) → Type 0
AreOfFrames {S} dom program written = (z : List ℕ) (n : ℕ) (x : S) → written z n ≡ Some x → dom.fits x (layouts_around program (n ∷ z)) ≡ true

-- a state is written, and describes this
abbrev pub IsCovered : {S : Type 0} → (S → Heap → List Variables → Type 0) → Option S → Heap → List Variables → Type 0
IsCovered covers None h vs = ⊥
IsCovered covers (Some x) h vs = covers x h vs

-- Where following a program with written states, whoever wrote them, finds nothing, a state is written of each loop at
-- whose test a run comes to stand, under its call sites, and it describes the configuration there.
abbrev pub AreCertificatesSound : {S : Type 0} → Operations S → (S → Heap → List Variables → Type 0) → (S → S → Bool) → Type 0
AreCertificatesSound {S} dom covers leq =
    (written : (z : List ℕ) → (n : ℕ) → Option S) (program : List Routine) (s : S) (ss : List S) (n : ℕ) (c : Config) →
    IsChecked program → AreOfFrames dom program written → followed_program dom leq written program ≡ Passes s ss → Reach program (Head n) [] c →
    IsCovered covers (written (call_sites c.frames) n) c.heap (variables_of c.frames)
