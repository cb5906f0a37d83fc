-- Which states fit the layouts of frames. What a state describes is what it describes as one of list segments.
use Rattle.std.specs.Prelude.{Bool, true, ◌&&◌, List}
use Rattle.imp_slots.specs.Plain.{Layout}
use Rattle.dom_listseg_meaning.specs.State.{Segments, Top, Graphs}
use Rattle.dom_listseg_meaning.specs.Covers as lists
use Rattle.dom_shapes_meaning.specs.Sets.{all_alone, are_small}

-- whether no two graphs have one shape, and none has too many nodes
abbrev pub is_tidy : Segments → Bool
is_tidy Top = true
is_tidy (Graphs gs) = all_alone gs && are_small gs

unfoldable pub fits : Segments → List Layout → Bool
fits s ls = lists.fits s ls && is_tidy s
