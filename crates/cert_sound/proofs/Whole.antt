-- The whole claim.
use Rattle.std.specs.Prelude.{◌≡◌, ◌<◌, ℕ, List, [], ◌∷◌, length, reverse, slice_get, Option, Some, Bool, All, ℤ}
use Rattle.std.proofs.Common.{refl, sym, ap, ◌∙◌, arith, subst}
use Rattle.std.proofs.lemmas.List.{reverse-reverse, length-reverse}
use Rattle.imp_slots.specs.Plain.{Routine}
use Rattle.imp_slots.specs.Fits.{IsChecked}
use Rattle.concrete_sem.specs.Values.{Variables, Heap, IsWord}
use Rattle.concrete_sem.specs.Passing.{first_variables}
use Rattle.concrete_sem.specs.Steps.{Config, main, started, start}
use Rattle.imp_chains.specs.Claims.{PlacesAreFound}
use Rattle.domain_laws.specs.Operations.{Operations}
use Rattle.domain_laws.specs.Laws.{Laws}
use Rattle.batch_meaning.proofs.Procedures.{look_get, FitBack, fit_back}
use Rattle.batch_sound.proofs.Steps.{Kept}
use Rattle.cert_meaning.specs.Portable.{IsSoundOrder}
use Rattle.cert_meaning.specs.Followed.{Passes, followed_last}
use Rattle.batch_meaning.specs.Places.{main_layout}
use Rattle.cert_sound.specs.Theorem.{AreOfFrames, AreCertificatesSound}
use Rattle.cert_sound.proofs.Fitting.{InProgram, last_at}
use Rattle.cert_sound.proofs.Safe.{IsSafe, safe_reached, main_safe}

pub all_in : (program : List Routine) → InProgram program (reverse program)
all_in program q t at = sym (sym at ∙ look_get (reverse program) q ∙ ap (λ ps. slice_get ps q) (reverse-reverse program))

module _ {S : Type 0} (dom : Operations S) (covers : S → Heap → List Variables → Type 0) (laws : Laws dom covers) (keeps : Kept) (places : PlacesAreFound) (leq : S → S → Bool) (order : IsSoundOrder dom covers leq) where
  module _ (written : List ℕ → ℕ → Option S) (program : List Routine) (checked : IsChecked program) (frames : AreOfFrames dom program written) where
    abbrev Safe : ℕ → Config → Type 0
    Safe = IsSafe dom leq written covers laws order keeps places program checked frames

    started_safe : (inputs : List ℤ) → All IsWord inputs → (bs : List Routine) → reverse program ≡ bs → (s : S) (ss : List S) → followed_last dom leq written bs (dom.init (main_layout bs)) ≡ Passes s ss → (k : ℕ) → Safe k (start program inputs)
    started_safe inputs words [] e s ss g k =
        let n : length (reverse program) ≡ length program = length-reverse program in
        let z : length (reverse program) ≡ 0 = ap length e in
        let some : 0 < length program = checked.some in
        absurd (omega arith)
    started_safe inputs words (r ∷ earlier) e s ss g k =
        let n : length (reverse program) ≡ length program = length-reverse program in
        let m : length (reverse program) ≡ length (r ∷ earlier) = ap length e in
        let i : main program ≡ length earlier = omega arith in
        let inp : InProgram program (r ∷ earlier) = subst (InProgram program) e (all_in program) in
        let at : slice_get program (main program) ≡ Some r = ap (slice_get program) i ∙ inp (length earlier) r (last_at r earlier) in
        let h : Heap = record { cells = []; inputs = inputs } in
        subst (λ o. Safe k (started program h o)) (sym at)
        (main_safe dom leq written covers laws order keeps places program checked frames r earlier (subst FitBack e (fit_back program checked)) inp (main program) (dom.init r.layout) s ss (laws.fitting.init r.layout) g k h (first_variables r.layout)
        (keeps.starts r.layout inputs words) (laws.init r.layout inputs words))

  pub certificates_sound : AreCertificatesSound dom covers leq
  certificates_sound written program s ss n c checked frames g r =
      safe_reached dom leq written covers laws order keeps places program checked frames r.steps (start program r.inputs) c
      (started_safe written program checked frames r.inputs r.words (reverse program) refl s ss g r.steps) r.comes n r.location
