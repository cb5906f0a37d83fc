-- Sets of graphs, no two of one shape. A shape is what is left of a graph where kinds are not seen: its slots' targets and its
-- nodes' successors.
use Rattle.std.specs.Prelude.{ℕ, nat_le, Bool, true, false, not, ◌&&◌, ◌||◌, if◌then◌else◌, List, [], ◌∷◌, length}
use Rattle.std.specs.List.{filter}
use Rattle.std.specs.Ordering.{eq_by_cmp}
use lib.Pointwise.{pointwise}
use Rattle.concrete_sem.specs.Evaluation.{same_link}
use Rattle.shape_graph.specs.declared.graph.Atom.{Atom}
use Rattle.shape_graph.specs.Shape.{Shape, nodes}
use Rattle.shape_graph.specs.Order.{row_cmp}
use Rattle.dom_listseg_meaning.specs.State.{Segments, Top, Graphs}
use Rattle.dom_listseg_meaning.specs.Sets.{put, most}

-- whether nodes have the same successors
abbrev pub same_targets : List Atom → List Atom → Bool
same_targets [] [] = true
same_targets [] (b ∷ ys) = false
same_targets (a ∷ xs) [] = false
same_targets (a ∷ xs) (b ∷ ys) = same_link a.target b.target && same_targets xs ys

-- whether two graphs have the same shape
unfoldable pub alike : Shape → Shape → Bool
alike g h = pointwise (eq_by_cmp row_cmp) g.frames h.frames && same_targets g.atoms h.atoms

-- whether nodes are `seg` wherever others are
abbrev pub allow : List Atom → List Atom → Bool
allow [] ys = true
allow (a ∷ xs) [] = true
allow (a ∷ xs) (b ∷ ys) = (a.many || not b.many) && allow xs ys

-- nodes that are `seg` where either are
abbrev pub either : List Atom → List Atom → List Atom
either [] ys = []
either (a ∷ xs) [] = a ∷ xs
either (a ∷ xs) (b ∷ ys) = record { many = a.many || b.many; target = a.target } ∷ either xs ys

-- two graphs of one shape as one
abbrev pub merged : Shape → Shape → Shape
merged g h = record { frames = g.frames; atoms = either g.atoms h.atoms }

-- whether one of the graphs has this one's shape, and is `seg` wherever it is
abbrev pub allowed : Shape → List Shape → Bool
allowed g [] = false
allowed g (h ∷ hs) = (alike g h && allow h.atoms g.atoms) || allowed g hs

-- the graph, as one with those of its shape
abbrev pub grown : Shape → List Shape → Shape
grown g [] = g
grown g (h ∷ hs) = grown (if alike g h then merged g h else g) hs

-- the graphs of other shapes
abbrev pub others : Shape → List Shape → List Shape
others g = filter (λ (h : Shape). not (alike g h))

-- the list with the graph, which becomes one with those of its shape
unfoldable pub absorbed : Shape → List Shape → List Shape
absorbed g hs = if allowed g hs then hs else put (grown g hs) (others g hs)

-- with each of the others
abbrev pub gathered : List Shape → List Shape → List Shape
gathered gs [] = gs
gathered gs (h ∷ hs) = gathered (absorbed h gs) hs

-- whether none of the graphs has this one's shape
abbrev pub is_alone : Shape → List Shape → Bool
is_alone g [] = true
is_alone g (h ∷ hs) = not (alike g h) && is_alone g hs

-- whether no two graphs have one shape
abbrev pub all_alone : List Shape → Bool
all_alone [] = true
all_alone (g ∷ gs) = is_alone g gs && all_alone gs

-- The nodes that a graph has at most. Folded graphs have at most twice as many as their frames have slots, so no checked
-- program comes to more.
abbrev pub most_nodes : ℕ
most_nodes = 144

abbrev pub are_small : List Shape → Bool
are_small [] = true
are_small (g ∷ gs) = nat_le (nodes g) most_nodes && are_small gs

-- the state of these graphs: Top where there are too many, or one has too many nodes
unfoldable pub bounded : List Shape → Segments
bounded gs = if nat_le (length gs) most && are_small gs then Graphs gs else Top

-- the state with one graph a shape
unfoldable pub tidied : Segments → Segments
tidied Top = Top
tidied (Graphs gs) = if all_alone gs then bounded gs else bounded (gathered [] gs)
