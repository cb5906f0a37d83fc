-- Items that are put on top of work.
use Rattle.std.specs.Prelude.{◌≡◌, List, [], ◌∷◌, ◌++◌}
use Rattle.std.proofs.Common.{refl}
use Rattle.imp_slots.specs.Plain.{Code}
use Rattle.imp_slots.specs.BlockViews.{before_code}
use Rattle.imp_slots.specs.declared.blocks.SlotNode.{SlotNode}
use Rattle.imp_slots.specs.declared.blocks.SlotNode.TheVariants.{Simple, If, While, Call, Break}
use Rattle.concrete_sem.specs.Steps.{Work, Frame, push}
use Rattle.imp_run.specs.declared.machine.Activation.{Activation}
use Rattle.imp_run.specs.Machine.{frame_of, frames_on}
use Rattle.concrete_sem.specs.Steps as plain
use Rattle.imp_run.specs.declared.work.Item.{Item}
use Rattle.imp_run.specs.Work.{put, work_on}

pub work_on_push : (items : List Item) (item : Item) (w : Work) → work_on w (items ++ item ∷ []) ≡ put item (work_on w items)
work_on_push [] item w = refl
work_on_push (i ∷ items) item w = work_on_push items item (put i w)

pub push_before : (s : SlotNode) (r : Code) (w : Work) → push (before_code s r) w ≡ plain.Do (before_code s r) w
push_before (Simple n a) r w = refl
push_before (If n c t e) r w = refl
push_before (While n c b) r w = refl
push_before (Call n i q) r w = refl
push_before (Break n) r w = refl

pub frames_on_push : (activations : List Activation) (a : Activation) (below : List Frame) → frames_on below (activations ++ a ∷ []) ≡ frame_of a ∷ frames_on below activations
frames_on_push [] a below = refl
frames_on_push (x ∷ xs) a below = frames_on_push xs a (frame_of x ∷ below)
