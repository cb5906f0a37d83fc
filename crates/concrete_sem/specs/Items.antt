-- The work of a frame as a plain list of items, one for each statement that is to be done.
use Rattle.std.specs.Prelude.{ℕ, List, [], ◌∷◌, ◌++◌, Option, Some, None}
use Rattle.imp_slots.specs.Plain.{Code, Stop, Simple, If, While, Call, Break}
use Rattle.concrete_sem.specs.Steps.{Work, Ret, Do, Done, Test}

pub data Item : Type 0 where
  DoItem : ℕ → Item
  DoneItem : ℕ → Item
  TestItem : ℕ → Item
  RetItem : ℕ → Item

-- Do of each statement of a block
abbrev pub do_items : Code → List Item
do_items Stop = []
do_items (Simple n e r) = DoItem n ∷ do_items r
do_items (If n g t e r) = DoItem n ∷ do_items r
do_items (While n g b r) = DoItem n ∷ do_items r
do_items (Call n i q r) = DoItem n ∷ do_items r
do_items (Break n r) = DoItem n ∷ do_items r

abbrev pub items : Work → List Item
items (Ret p) = RetItem p ∷ []
items (Do c w) = do_items c ++ items w
items (Done n i w) = DoneItem n ∷ items w
items (Test n g b w) = TestItem n ∷ items w

-- the items after the first Test, which becomes a Done
abbrev pub leave_items : List Item → Option (List Item)
leave_items [] = None
leave_items (DoItem n ∷ rest) = leave_items rest
leave_items (DoneItem n ∷ rest) = leave_items rest
leave_items (RetItem p ∷ rest) = leave_items rest
leave_items (TestItem n ∷ rest) = Some (DoneItem n ∷ rest)
