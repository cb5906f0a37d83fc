-- The variables of a procedure, over slots.
use Rattle.std.proofs.Common.{◌≡◌, ℕ, zero, suc, List, [], ◌∷◌, ◌++◌, slice_get, option_map, refl}
use Rattle.imp_syntax.specs.Plain.{Procedure}
use Rattle.imp_slots.specs.Plain.{Routine}
use Rattle.imp_check.specs.Slots.{layout_in, routines_from, routines_of}

layout_from : (earlier ps : List Procedure) (i : ℕ) → option_map layout_in (slice_get ps i) ≡ option_map (λ (r : Routine). r.layout) (slice_get (routines_from earlier ps) i)
layout_from earlier [] i = refl
layout_from earlier (p ∷ ps) zero = refl
layout_from earlier (p ∷ ps) (suc i) = layout_from (earlier ++ p ∷ []) ps i

pub layout_is : (ps : List Procedure) (i : ℕ) → option_map layout_in (slice_get ps i) ≡ option_map (λ (r : Routine). r.layout) (slice_get (routines_of ps) i)
layout_is ps i = layout_from [] ps i
