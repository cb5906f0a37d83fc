-- The thresholds of a procedure, as the setting has them.
use Rattle.std.proofs.Common.{◌≡◌, ◌∙◌, ap, refl, ℕ, zero, suc, ℤ, List, [], ◌∷◌, map, slice_get}
use Rattle.imp_slots.specs.Plain.{Routine}
use Rattle.imp_chains.specs.declared.widening.Widening.{Widening}
use Rattle.imp_chains.specs.Thresholds.{thresholds}
use Rattle.call_contexts.specs.Settings.{or_no_thresholds}
use Rattle.batch_interp.specs.Frames.{thresholds_of}

thresholds_in : (w : Widening) (rs : List Routine) (place : ℕ) → or_no_thresholds (slice_get (map (thresholds w) rs) place) ≡ thresholds_of w (slice_get rs place)
thresholds_in w [] place = refl
thresholds_in w (r ∷ rs) zero = refl
thresholds_in w (r ∷ rs) (suc place) = thresholds_in w rs place

pub thresholds_there : (w : Widening) (rs : List Routine) (all : List (List ℤ)) (place : ℕ) (ms : List ℤ) → all ≡ map (thresholds w) rs → ms ≡ or_no_thresholds (slice_get all place) → ms ≡ thresholds_of w (slice_get rs place)
thresholds_there w rs all place ms e h = h ∙ ap (λ xs. or_no_thresholds (slice_get xs place)) e ∙ thresholds_in w rs place
