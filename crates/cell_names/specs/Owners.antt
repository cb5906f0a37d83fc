-- The statements that names belong to.
use Rattle.std.specs.Prelude.{ℕ, List, [], ◌∷◌}
use Rattle.cell_names.specs.declared.frame.NameFrame.{NameFrame}
use Rattle.cell_names.specs.declared.frame.NameFrame.TheVariants.{InCall, InLoop}
use Rattle.cell_names.specs.declared.frame.Point.{Point}
use Rattle.cell_names.specs.declared.frame.Point.TheVariants.{Entry, Then, Else, Body, Post, Iterate, Fix, Exit, Leap}

-- The statement that a point in a path belongs to, which alone tells its row: the one that the point names, of a break's
-- point after a loop the loop; of a body's start the call or the loop of the last frame. The start of main belongs to 0,
-- which is no statement's number, and so do the points that no program has.
abbrev pub owner : List NameFrame → Point → ℕ
owner [] Entry = 0
owner (InCall n ∷ w) Entry = n
owner (InLoop n k ∷ w) Entry = 0
owner [] Body = 0
owner (InCall n ∷ w) Body = 0
owner (InLoop n k ∷ w) Body = n
owner w (Then n) = n
owner w (Else n) = n
owner w (Post n) = n
owner w (Iterate n k) = n
owner w (Fix n) = n
owner w (Exit n) = n
owner w (Leap n k) = n
