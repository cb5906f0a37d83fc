-- Which configurations a state describes, and which states fit the layouts of frames.
use Rattle.std.specs.Prelude.{ℕ, nat_le, nat_eq, Bool, true, ◌&&◌, List, [], ◌∷◌, ◌++◌, length, map, Option}
use lib.Pointwise.{pointwise}
use Rattle.imp_slots.specs.Plain.{Layout}
use Rattle.concrete_sem.specs.Values.{Variables, Cell, Heap}
use Rattle.shape_graph.specs.Shape.{Shape}
use Rattle.fold_laws.specs.Folding.{is_folded}
use Rattle.shape_steps.specs.Steps.{AnyCovers}
use Rattle.dom_listseg_meaning.specs.State.{Segments, Top, Graphs}
use Rattle.dom_listseg_meaning.specs.Sets.{rises, most}

-- the links of the frames, main's first; the variables stand with the last frame's first
abbrev pub main_first : List Variables → List (List (Option ℕ))
main_first [] = []
main_first (v ∷ vs) = main_first vs ++ v.links ∷ []

-- what each cell is linked to
abbrev pub nexts : Heap → List (Option ℕ)
nexts h = map (λ (c : Cell). c.next) h.cells

-- Top describes all, and a list of graphs what one of them covers.
abbrev pub covers : Segments → Heap → List Variables → Type 0
covers Top h vs = Unit {0}
covers (Graphs gs) h vs = AnyCovers gs (main_first vs) (nexts h)

-- how many list slots each frame has, main's first
abbrev pub counts : List Layout → List ℕ
counts [] = []
counts (l ∷ ls) = counts ls ++ length l.links ∷ []

-- a folded graph whose frames have these slots
abbrev pub fits_graph : List Layout → Shape → Bool
fits_graph ls g = is_folded g && pointwise nat_eq (map length g.frames) (counts ls)

abbrev pub fit_graphs : List Layout → List Shape → Bool
fit_graphs ls [] = true
fit_graphs ls (g ∷ gs) = fits_graph ls g && fit_graphs ls gs

-- at most 64 graphs, rising, each folded, of frames with these layouts, the last one's first
unfoldable pub fits : Segments → List Layout → Bool
fits Top ls = true
fits (Graphs gs) ls = nat_le (length gs) most && (rises gs && fit_graphs ls gs)
