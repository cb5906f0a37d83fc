-- The frames in which a statement stands under a chain.
use Rattle.std.specs.Prelude.{ℕ, List, map, slice_get, Option, Some, None}
use Rattle.imp_slots.specs.Plain.{Layout, Routine}
use Rattle.concrete_sem.specs.WellFormed.{layout_at}
use Rattle.imp_chains.specs.Chains.{holder}

-- the layout of the p-th procedure, where there is one
abbrev pub layout_of : List Routine → Option ℕ → Layout
layout_of program None = layout_at None
layout_of program (Some p) = layout_at (slice_get program p)

-- the layout of the procedure that holds statement n
abbrev pub layout_around : List Routine → ℕ → Layout
layout_around program n = layout_of program (holder n program)

-- The layouts of the frames that stand at these statements, the last one's first: a loop and the call sites of its chain.
abbrev pub layouts_around : List Routine → List ℕ → List Layout
layouts_around program ns = map (layout_around program) ns
