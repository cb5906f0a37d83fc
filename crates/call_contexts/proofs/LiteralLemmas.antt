-- Statements and procedures over slots, and the thresholds of these.
use Rattle.std.proofs.lemmas.Option.{same_Some, slice_get-map}
use Rattle.std.proofs.Common.{◌≡◌, ℕ, zero, suc, List, [], ◌∷◌, ◌++◌, take, slice_get, Some, refl, sym, ap, ◌∙◌, append_assoc, append-nil}
use Rattle.std.specs.Option.{option_map}
use Rattle.imp_syntax.specs.Plain.{Procedure}
use Rattle.imp_slots.specs.Plain.{Effect}
use Rattle.imp_slots.specs.Plain as plain
use Rattle.imp_slots.specs.ActionViews.{effect_of, action_of}
use Rattle.imp_check.specs.Slots.{routine_of, routines_from, routines_of}
use Rattle.imp_chains.specs.declared.widening.Widening.{Widening}
use Rattle.imp_chains.specs.Thresholds.{thresholds}
use Rattle.call_contexts.specs.Settings.{all_thresholds}

pub effect_again : (e : Effect) → effect_of (action_of e) ≡ e
effect_again plain.Skip = refl
effect_again (plain.Assert g) = refl
effect_again (plain.SetInt x e) = refl
effect_again (plain.Input x) = refl
effect_again (plain.ReadElement x a e) = refl
effect_again (plain.ReadItem x q) = refl
effect_again (plain.MakeArray a e) = refl
effect_again (plain.CopyArray a b) = refl
effect_again (plain.WriteElement a e f) = refl
effect_again (plain.SetNull p) = refl
effect_again (plain.MakeCell p) = refl
effect_again (plain.CopyLink p q) = refl
effect_again (plain.ReadNext p q) = refl
effect_again (plain.WriteNext p q) = refl
effect_again (plain.WriteItem p e) = refl

-- The procedure at a place, over slots.
routine_from : (es ps : List Procedure) (k : ℕ) (p : Procedure) → slice_get ps k ≡ Some p → slice_get (routines_from es ps) k ≡ Some (routine_of (es ++ take k ps) p)
routine_from es [] k p h = absurd cc
routine_from es (q ∷ ps) zero p h = ap Some (ap (routine_of es) (same_Some q p h) ∙ ap (λ (z : List Procedure). routine_of z p) (sym (append-nil es)))
routine_from es (q ∷ ps) (suc k) p h = routine_from (es ++ q ∷ []) ps k p h ∙ ap (λ (z : List Procedure). Some (routine_of z p)) (append_assoc es (q ∷ []) (take k ps))

pub routine_there : (ps : List Procedure) (k : ℕ) (p : Procedure) → slice_get ps k ≡ Some p → slice_get (routines_of ps) k ≡ Some (routine_of (take k ps) p)
routine_there ps k p h = routine_from [] ps k p h

pub threshold_there : (w : Widening) (ps : List Procedure) (k : ℕ) (p : Procedure) → slice_get ps k ≡ Some p → slice_get (all_thresholds w (routines_of ps)) k ≡ Some (thresholds w (routine_of (take k ps) p))
threshold_there w ps k p h = slice_get-map (thresholds w) (routines_of ps) k ∙ ap (option_map (thresholds w)) (routine_there ps k p h)
