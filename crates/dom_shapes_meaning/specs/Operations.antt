-- The operations of shapes: those of list segments, and then one graph a shape.
use Rattle.std.specs.Prelude.{ℕ, nat_le, Bool, false, ℤ, if◌then◌else◌, List, length, take, drop, Option}
use Rattle.imp_slots.specs.Plain.{Act, DoBreak, Does, Entering, Returning}
use Rattle.dom_listseg_meaning.specs.State.{Segments, Top, Graphs}
use Rattle.dom_listseg_meaning.specs.Operations as lists
use Rattle.dom_shapes_meaning.specs.Sets.{gathered, bounded, tidied}

-- the union
unfoldable pub join : Segments → Segments → Segments
join Top t = Top
join (Graphs gs) Top = Top
join (Graphs gs) (Graphs hs) = bounded (gathered gs hs)

-- thresholds are ignored
abbrev pub widen : List ℤ → Segments → Segments → Segments
widen thresholds = join

-- A statement makes at most two graphs of each, and list segments keep 64. So it is done on 32 graphs at a time.
abbrev pub at_once : ℕ
at_once = 32

unfoldable pub in_parts : (Segments → Segments) → Segments → Segments
in_parts f Top = f Top
in_parts f (Graphs gs) =
    if nat_le (length gs) at_once then tidied (f (Graphs gs)) else join (tidied (f (Graphs (take at_once gs)))) (f (Graphs (drop at_once gs)))

-- whether an act changes a link
abbrev pub moves : Act → Bool
moves DoBreak = false
moves (Does e) = lists.moves e

-- an act that changes no link makes no shapes
unfoldable pub post : Act → Segments → Segments
post a s = if moves a then in_parts (lists.post a) s else lists.post a s

unfoldable pub enter : Entering → Segments → Segments
enter e s = tidied (lists.enter e s)

unfoldable pub leave : Option Returning → Segments → Segments → Segments
leave o s d = tidied (lists.leave o s d)

unfoldable pub shed : Segments → Segments
shed s = tidied (lists.shed s)
