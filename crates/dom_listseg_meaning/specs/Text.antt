-- The text of a state.
use Rattle.std.specs.Prelude.{ℕ, zero, suc, ◌+◌, List, [], ◌∷◌, ◌++◌, codes, Option, Some, None, if◌then◌else◌}
use Rattle.std.specs.Fmt.{decimal}
use Rattle.imp_slots.specs.Plain.{Layout}
use Rattle.shape_graph.specs.declared.graph.Atom.{Atom}
use Rattle.shape_graph.specs.Shape.{Shape}
use Rattle.shape_steps.specs.Steps.{last_of}
use Rattle.dom_listseg_meaning.specs.State.{Segments, Top, Graphs}

-- `nil`, or the node's number, counted from 1
unfoldable pub target_text : Option ℕ → List ℕ
target_text None = codes "nil"
target_text (Some k) = decimal (k + 1)

-- a space before each slot but the first
abbrev pub space_at : ℕ → List ℕ
space_at zero = []
space_at (suc k) = codes " "

-- `p=nil` or `p=k`, with a space before each but the slot 0; from slot n on
abbrev pub slots_text : ℕ → List (List ℕ) → List (Option ℕ) → List ℕ
slots_text n [] ts = []
slots_text n (name ∷ names) [] = []
slots_text n (name ∷ names) (t ∷ ts) = (space_at n ++ name ++ codes "=" ++ target_text t) ++ slots_text (n + 1) names ts

-- `k:one(t)` or `k:seg(t)`, with a space before
unfoldable pub node_text : ℕ → Atom → List ℕ
node_text k a = codes " " ++ decimal (k + 1) ++ (if a.many then codes ":seg(" else codes ":one(") ++ target_text a.target ++ codes ")"

-- the nodes from node k on
abbrev pub nodes_text : ℕ → List Atom → List ℕ
nodes_text k [] = []
nodes_text k (a ∷ more) = node_text k a ++ nodes_text (k + 1) more

-- the slots of the last frame, then the nodes; `any` where there are no slots
unfoldable pub graph_text : List (List ℕ) → Shape → List ℕ
graph_text [] g = codes "any"
graph_text (name ∷ names) g = slots_text 0 (name ∷ names) (last_of g.frames) ++ nodes_text 0 g.atoms

-- ` | ` before each graph
abbrev pub more_text : List (List ℕ) → List Shape → List ℕ
more_text names [] = []
more_text names (g ∷ gs) = (codes " | " ++ graph_text names g) ++ more_text names gs

-- `none` where there is no graph
unfoldable pub text : Layout → Segments → List ℕ
text l Top = codes "top"
text l (Graphs []) = codes "none"
text l (Graphs (g ∷ gs)) = graph_text l.links g ++ more_text l.links gs
