-- How often a state can still change.
use Rattle.std.specs.Prelude.{◌≡◌, ℕ, ◌+◌, ◌-◌, ◌*◌, ◌<◌, true, ◌⊎◌, Bool, false, ℤ, List, [], ◌∷◌}
use Rattle.imp_slots.specs.Plain.{Layout}
use Rattle.shape_graph.specs.declared.graph.Atom.{Atom}
use Rattle.shape_graph.specs.Shape.{Shape}
use Rattle.dom_listseg_meaning.specs.State.{Segments, Top, Graphs}
use Rattle.dom_listseg_meaning.specs.Sets.{most}
use Rattle.dom_shapes_meaning.specs.Sets.{most_nodes}
use Rattle.dom_shapes_meaning.specs.Covers.{fits}
use Rattle.dom_shapes_meaning.specs.Operations.{join, widen}

-- how many nodes are `seg`
abbrev pub one_if : Bool → ℕ
one_if false = 0
one_if true = 1

abbrev pub segs : List Atom → ℕ
segs [] = 0
segs (a ∷ xs) = one_if a.many + segs xs

-- the graphs, and the nodes in them that are `seg`
abbrev pub weight : List Shape → ℕ
weight [] = 0
weight (g ∷ gs) = (1 + segs g.atoms) + weight gs

-- the graphs that a state has at most, and their nodes
abbrev pub most_weight : ℕ
most_weight = most * (1 + most_nodes)

-- how often at most: a change adds a shape or turns a `one` to `seg`, or gives Top, which changes no more
abbrev pub changes_left : Segments → ℕ
changes_left Top = 0
changes_left (Graphs gs) = (most_weight + 1) - weight gs

-- a join keeps a state that fits, or leaves fewer changes
abbrev pub JoiningEnds : Type 0
JoiningEnds = (ls : List Layout) (s t : Segments) → fits s ls ≡ true → (join s t ≡ s) ⊎ (changes_left (join s t) < changes_left s)

-- and so does a widening, by whatever thresholds
abbrev pub WideningEnds : Type 0
WideningEnds = (thresholds : List ℤ) (ls : List Layout) (s t : Segments) → fits s ls ≡ true → (widen thresholds s t ≡ s) ⊎ (changes_left (widen thresholds s t) < changes_left s)
