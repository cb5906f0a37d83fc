-- The work of a frame in code, as plain data.
use Rattle.std.specs.Prelude.{◌≡◌, ℕ, List, [], ◌∷◌, Option, Some, None}
use denote.Bor.{Bor}
use Rattle.imp_slots.specs.Plain.{Invoke}
use Rattle.imp_slots.specs.BlockViews.{before_code, code_of}
use Rattle.concrete_sem.specs.Steps.{Work, Ret, leave_loop}
use Rattle.concrete_sem.specs.Steps as plain
use Rattle.imp_run.specs.declared.work.Item.{Item}
use Rattle.imp_run.specs.declared.work.Item.TheVariants.{Do, Done, Test}

abbrev pub call_of : Option (Bor Invoke) → Option Invoke
call_of None = None
call_of (Some call) = Some call.now

-- an item on top of the work
abbrev pub put : Item → Work → Work
put (Do first rest) w = plain.Do (before_code first.now (code_of rest.now)) w
put (Done n call) w = plain.Done n (call_of call) w
put (Test n cond body) w = plain.Test n cond.now body.now w

-- items one upon another, the last one on top
abbrev pub work_on : Work → List Item → Work
work_on w [] = w
work_on w (item ∷ items) = work_on (put item w) items

-- what is after the innermost loop, whose number this is, over any return at the bottom; none where there is no loop
abbrev pub Leaves : Option ℕ → (before after : List Item) → Type 0
Leaves None before after = (p : ℕ) → leave_loop (work_on (Ret p) before) ≡ None
Leaves (Some n) before after = (p : ℕ) → leave_loop (work_on (Ret p) before) ≡ Some (plain.Done n None (work_on (Ret p) after))
