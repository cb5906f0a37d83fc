-- The whole claim.
use Rattle.std.specs.Prelude.{◌≡◌, ℕ, suc, List, [], ◌∷◌, length, reverse, Option, Some, Bool, if◌then◌else◌}
use Rattle.std.proofs.Common.{refl, sym, ap, ◌∙◌, subst}
use Rattle.std.proofs.lemmas.List.{length-reverse}
use Rattle.imp_slots.specs.Plain.{Routine}
use Rattle.imp_slots.specs.Fits.{IsChecked}
use Rattle.concrete_sem.specs.Values.{Variables, Heap}
use Rattle.imp_chains.specs.Chains.{chains, chains_within, through}
use Rattle.imp_chains.specs.Claims.{ThresholdsRise, ChainsAreThroughCallers, PlacesAreFound}
use Rattle.domain_laws.specs.Operations.{Operations}
use Rattle.domain_laws.specs.Laws.{Laws}
use Rattle.base_values.proofs.Cases.{by_test}
use Rattle.base_values.proofs.Members.{Member, here}
use Rattle.batch_meaning.specs.Values.{State}
use Rattle.batch_meaning.specs.Batch.{LoopOptions}
use Rattle.batch_meaning.specs.Places.{main_layout}
use Rattle.batch_meaning.proofs.Procedures.{FitBack, fit_back}
use Rattle.cert_meaning.specs.Portable.{HasUpperBounds}
use Rattle.cert_meaning.specs.Followed.{followed_last}
use Rattle.cert_sound.proofs.Fitting.{InProgram, earlier_in}
use Rattle.cert_sound.proofs.Whole.{all_in}
use Rattle.cert_complete.specs.Theorem.{HasNoOver, AreHeads, DoesPass, CertificatesHold}
use Rattle.cert_complete.proofs.Same.{Frame, IsMet, body_same, procedures_same}

-- main has one chain
main_chain : (program : List Routine) (most p : ℕ) → suc p ≡ length program → Member [] (chains_within (suc most) program p)
main_chain program most p e =
    by_test (suc p) (length program) (λ c. Member [] (if c then [] ∷ [] else through (chains_within most program) 0 program p)) (λ k. here) (λ k. absurd (k e))

module _ {S : Type 0} (dom : Operations S) (covers : S → Heap → List Variables → Type 0) (laws : Laws dom covers) (rises : ThresholdsRise) (places : PlacesAreFound) (callers : ChainsAreThroughCallers) (leq : S → S → Bool) (bounds : HasUpperBounds dom leq) where
  passes_from : (engine : LoopOptions) (program : List Routine) (written : List ℕ → ℕ → Option S) → IsChecked program → HasNoOver dom engine program → AreHeads dom engine program written → (bs : List Routine) → reverse program ≡ bs → DoesPass (followed_last dom leq written bs (dom.init (main_layout bs)))
  passes_from engine program written checked no_over are_heads [] e = tt
  passes_from engine program written checked no_over are_heads (r ∷ earlier) e =
      let n : length (reverse program) ≡ length program = length-reverse program in
      let m : length (reverse program) ≡ suc (length earlier) = ap length e in
      let long : length program ≡ suc (length earlier) = sym n ∙ m in
      let inp : InProgram program (r ∷ earlier) = subst (InProgram program) e (all_in program) in
      let back : FitBack (r ∷ earlier) = subst FitBack e (fit_back program checked) in
      let chain : Member [] (chains program (length earlier)) = subst (λ k. Member [] (chains_within k program (length earlier))) (sym long) (main_chain program (length earlier) (length earlier) (sym long)) in
      let f : Frame dom engine covers laws leq bounds rises places callers program checked no_over written are_heads = record { z = []; lower = []; routine = r; earlier = earlier; first = dom.init r.layout } in
      let met : IsMet dom engine covers laws leq bounds rises places callers program checked no_over written are_heads f = record { inp = inp; back = back; entry_is = ap (λ ps. Some (ps, State (dom.init (main_layout ps)))) e; chain = chain } in
      let s = body_same dom engine covers laws leq bounds rises places callers program checked no_over written are_heads f met (procedures_same dom engine covers laws leq bounds rises places callers program checked no_over written are_heads earlier back.1 (earlier_in program r earlier inp)) (laws.fitting.init r.layout) in
      subst DoesPass (sym s.follows) tt

  pub certificates_do_hold : CertificatesHold dom leq
  certificates_do_hold engine program written checked no_over are_heads = passes_from engine program written checked no_over are_heads (reverse program) refl
