-- Sets of graphs: lists in their canonical order, each graph once, and at most 64.
use Rattle.std.specs.Prelude.{ℕ, nat_le, Bool, true, ◌&&◌, if◌then◌else◌, List, [], ◌∷◌, length}
use Rattle.std.specs.Ordering.{match_ordering, is_lt}
use Rattle.shape_graph.specs.Shape.{Shape}
use Rattle.shape_graph.specs.Order.{shape_cmp}
use Rattle.dom_listseg_meaning.specs.State.{Segments, Top, Graphs}

-- the list with the graph in its place, unless it is there
abbrev pub put : Shape → List Shape → List Shape
put g [] = g ∷ []
put g (h ∷ hs) = match_ordering (shape_cmp g h) (g ∷ h ∷ hs) (h ∷ hs) (h ∷ put g hs)

-- with each of the others put in its place
abbrev pub union : List Shape → List Shape → List Shape
union gs [] = gs
union gs (h ∷ hs) = union (put h gs) hs

-- whether the graphs rise, so that they are all different
abbrev pub rises : List Shape → Bool
rises [] = true
rises (g ∷ []) = true
rises (g ∷ h ∷ hs) = is_lt (shape_cmp g h) && rises (h ∷ hs)

-- at most so many graphs are kept
abbrev pub most : ℕ
most = 64

-- the state of these graphs: Top where there are more
unfoldable pub capped : List Shape → Segments
capped gs = if nat_le (length gs) most then Graphs gs else Top
