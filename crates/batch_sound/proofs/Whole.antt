-- The whole claim.
use Rattle.std.specs.Prelude.{◌≡◌, ℕ, List, [], ◌∷◌, reverse, Some, true}
use Rattle.imp_syntax.specs.declared.edit.Location.{Location}
use Rattle.imp_slots.specs.Plain.{Routine}
use Rattle.imp_slots.specs.Fits.{IsChecked}
use Rattle.concrete_sem.specs.Values.{Variables, Heap}
use Rattle.concrete_sem.specs.Steps.{Frame, In}
use Rattle.concrete_sem.specs.Reach.{standing, call_sites, last_alone}
use Rattle.concrete_sem.specs.WellFormed.{variables_of}
use Rattle.imp_chains.specs.Chains.{ends_in}
use Rattle.imp_chains.specs.Claims.{PlacesAreFound}
use Rattle.domain_laws.specs.Operations.{Operations}
use Rattle.domain_laws.specs.Laws.{Laws}
use Rattle.batch_meaning.specs.Values.{State}
use Rattle.batch_meaning.specs.Batch.{LoopOptions}
use Rattle.batch_meaning.specs.Answers.{Answers, answer}
use Rattle.batch_sound.specs.Theorem.{AreAnswersSound}
use Rattle.batch_sound.proofs.Steps.{Kept, Good}
use Rattle.batch_sound.proofs.Reached.{same_in_turn, reached_good}
use Rattle.batch_sound.proofs.Answered.{good_answered}

module _ {S : Type 0} (dom : Operations S) (covers : S → Heap → List Variables → Type 0) (laws : Laws dom covers) (keeps : Kept) (places : PlacesAreFound) where
  at_frames : (engine : LoopOptions) (program : List Routine) (l : Location) (string : List ℕ) (s : S) (h : Heap) (fs : List Frame) → (checked : IsChecked program) → answer dom engine program l string ≡ Answers (State s) → Good dom engine covers laws keeps program (reverse program) (same_in_turn program) h fs → standing program fs ≡ Some l → ends_in (reverse string) (call_sites fs) ≡ true → covers s h (variables_of (last_alone fs))
  at_frames engine program l string s h [] checked g k tl es = absurd cc
  at_frames engine program l string s h (In p m w ∷ below) checked g k tl es =
      good_answered dom engine covers laws keeps program checked places h p m w below k l tl string es (State s) g

  pub answers_sound : AreAnswersSound dom covers
  answers_sound engine program l string s c checked g r =
      at_frames engine program l string s c.heap c.frames checked g (reached_good dom engine covers laws keeps program checked places r.inputs r.words r.steps c r.comes) r.location r.suffix
