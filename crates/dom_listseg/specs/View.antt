-- What a state says.
use Rattle.dom_listseg_meaning.specs.State.{Segments, Top, Graphs}
use Rattle.dom_listseg.specs.declared.state.Kept.{Kept}
use Rattle.dom_listseg.specs.declared.state.Kept.TheVariants as kept

-- Top, or the graphs
abbrev pub segments_of : Kept → Segments
segments_of kept.Top = Top
segments_of (kept.Graphs v) = Graphs v.value
