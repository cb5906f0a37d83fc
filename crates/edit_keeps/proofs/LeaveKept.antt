-- Programs that one edit lies between.
use Rattle.std.proofs.Common.{inl, inr, List, refl, sym, subst}
use Rattle.imp_syntax.specs.Plain.{Procedure}
use Rattle.imp_check.specs.Fine.{IsFine}
use Rattle.imp_check.specs.Slots.{routines_of}
use Rattle.domain_laws.specs.Operations.{Operations}
use Rattle.batch_meaning.specs.Batch.{LoopOptions}
use Rattle.cell_kept_set.specs.Places.{KeepPlaces}
use Rattle.cell_kept_set.proofs.Plans.{places_turn}
use Rattle.edit_keeps.proofs.Kept.{keep_places}
use Rattle.edit_invalidate.proofs.Leaving.{plans_leave}
use Rattle.edit_invalidate.specs.Claims.{edit_of}
use Rattle.edit_keeps.specs.Apart.{IsEdited, AreOneApart, flow_of, EditsLeaveKept}

-- An edit keeps places.
places_of : (old new : List Procedure) → IsEdited old new → KeepPlaces (routines_of old) (routines_of new)
places_of old new e =
    subst (λ (p : List Procedure). KeepPlaces (routines_of old) (routines_of p)) e.makes
    (keep_places e.edit old e.next e.fine (subst IsFine (sym e.makes) e.after) e.below e.continues)

-- So does taking it back.
places : (engine : LoopOptions) (old new : List Procedure) → AreOneApart old new → KeepPlaces (routines_of old) (routines_of new)
places engine old new (inl e) = places_of old new e
places engine old new (inr e) = places_turn (edit_of (flow_of engine new) (flow_of engine old)) (places_of new old e)

new_fine : (old new : List Procedure) → AreOneApart old new → IsFine new
new_fine old new (inl e) = e.after
new_fine old new (inr e) = e.fine

pub leave_kept : {S V : Type 0} (dom : Operations S) → EditsLeaveKept dom V
leave_kept dom engine old new names cells stmts plan apart h are r =
    plans_leave dom (flow_of engine old) (flow_of engine new) names cells stmts plan refl (new_fine old new apart).fit (places engine old new apart) h are r
