-- List segments as words, and their order.
use Rattle.std.specs.Prelude.{ℕ, ◌+◌, ◌*◌, ◌/◌, nat_eq, nat_le, min, ◌&&◌, ◌||◌, ℤ, pos, negsuc, List, [], ◌∷◌, ◌++◌, length, map, take, drop, slice_index_or, Option, Some, None, option_map, Bool, true, false, if◌then◌else◌}
use Rattle.std.proofs.Common.{suc, zero}
use Rattle.std.specs.List.{flat_map, range_with_len}
use Rattle.std.specs.Option.{option_eq}
use Rattle.std.specs.Ordering.{int_eq, eq_by_cmp}
use lib.Pointwise.{pointwise}
use Rattle.imp_slots.specs.Plain.{Layout}
use Rattle.shape_graph.specs.declared.graph.Atom.{Atom}
use Rattle.shape_graph.specs.Order.{shape_cmp}
use Rattle.shape_graph.specs.Shape.{Shape, shape_of, slots}
use Rattle.fold_laws.specs.Folding.{is_folded}
use Rattle.cert_meaning.specs.Portable.{Portable}
use Rattle.cert_words.specs.States.{by_words, state_if}
use Rattle.cert_words.specs.Words.{is_number, limit, words_of}
use Rattle.dom_listseg_meaning.specs.Covers.{counts}
use Rattle.dom_listseg_meaning.specs.Sets.{rises, most}
use Rattle.dom_listseg_meaning.specs.State.{Segments, Top, Graphs}

-- ---- what is told

-- 0 for nil, else the node's number, counted from 1
abbrev pub target_word : Option ℕ → Option ℤ
target_word None = Some (pos 0)
target_word (Some k) = Some (pos (k + 1))

-- 0 for One or 1 for Seg, and the target
abbrev pub atom_told : Atom → List (Option ℤ)
atom_told a = Some (pos (if a.many then 1 else 0)) ∷ (target_word a.target ∷ [])

-- the target of each slot, in frame and slot order, the number of nodes, and the nodes
abbrev pub graph_told : Shape → List (Option ℤ)
graph_told g = map target_word (slots g) ++ (Some (pos (length g.atoms)) ∷ flat_map atom_told g.atoms)

-- 0 for Empty, 2 for Top, else 1, the number of graphs, and the graphs
abbrev pub state_words : Segments → List (Option ℤ)
state_words Top = Some (pos 2) ∷ []
state_words (Graphs []) = Some (pos 0) ∷ []
state_words (Graphs (g ∷ gs)) = Some (pos 1) ∷ (Some (pos (length (g ∷ gs))) ∷ flat_map graph_told (g ∷ gs))

-- the state of these graphs, Top where there are none
abbrev pub state_in : Option (List Shape) → Segments
state_in None = Top
state_in (Some gs) = Graphs gs

-- ---- what words tell: they are read leniently, and what is told of the state is compared with them

-- a number up to the bound, else 0
abbrev pub number_of : ℕ → Option ℤ → ℕ
number_of bound None = 0
number_of bound (Some (negsuc n)) = 0
number_of bound (Some (pos n)) = if nat_le n bound then n else 0

abbrev pub node_before : ℕ → Option ℕ
node_before zero = None
node_before (suc k) = Some k

abbrev pub target_of : Option ℤ → Option ℕ
target_of w = node_before (number_of limit w)

abbrev pub word_at : List (Option ℤ) → ℕ → Option ℤ
word_at ws p = slice_index_or ws p None

-- frames with so many slots each, from the first words on
abbrev pub frames_of : List ℕ → List (Option ℤ) → List (List (Option ℕ))
frames_of [] ws = []
frames_of (n ∷ ns) ws = map target_of (take n ws) ∷ frames_of ns (drop n ws)

-- the words after such frames
abbrev pub after_frames : List ℕ → List (Option ℤ) → List (Option ℤ)
after_frames [] ws = ws
after_frames (n ∷ ns) ws = after_frames ns (drop n ws)

-- how many nodes: what the first word says, and no more than there are words for
abbrev pub node_count : List (Option ℤ) → ℕ
node_count ws = min (number_of limit (word_at ws 0)) (length ws / 2)

-- the atom of a node, whose words stand after the number of nodes
abbrev pub atom_of : List (Option ℤ) → ℕ → Atom
atom_of ws k = record { many = is_number 1 (word_at ws (2 * k + 1)); target = target_of (word_at ws (2 * k + 2)) }

abbrev pub atoms_of : List (Option ℤ) → List Atom
atoms_of ws = map (atom_of ws) (range_with_len 0 (node_count ws))

-- the words after the number of nodes and the nodes
abbrev pub after_atoms : List (Option ℤ) → List (Option ℤ)
after_atoms ws = drop (2 * node_count ws + 1) ws

abbrev pub graph_of : List ℕ → List (Option ℤ) → Shape
graph_of ns ws = shape_of (frames_of ns ws) (atoms_of (after_frames ns ws))

-- whether a graph is folded, and its frames have so many slots
abbrev pub fits_counts : List ℕ → Shape → Bool
fits_counts ns g = is_folded g && pointwise nat_eq (map length g.frames) ns

-- a graph that fits
abbrev pub graph_if : List ℕ → Shape → Option Shape
graph_if ns g = if fits_counts ns g then Some g else None

-- a graph before others, where both are there
abbrev pub before : Option Shape → Option (List Shape) → Option (List Shape)
before None gs = None
before (Some g) gs = option_map (λ gs. g ∷ gs) gs

-- so many graphs that fit, from the first words on
abbrev pub graphs_of : List ℕ → ℕ → List (Option ℤ) → Option (List Shape)
graphs_of ns zero ws = Some []
graphs_of ns (suc k) ws = before (graph_if ns (graph_of ns ws)) (graphs_of ns k (after_atoms (after_frames ns ws)))

-- a state of which these words are told
abbrev pub if_told : List (Option ℤ) → Segments → Option Segments
if_told ws s = if pointwise (option_eq int_eq) (state_words s) ws then Some s else None

-- the state of these graphs, if they rise
abbrev pub if_rises : List (Option ℤ) → Option (List Shape) → Option Segments
if_rises ws None = None
if_rises ws (Some gs) = if rises gs then if_told ws (Graphs gs) else None

-- the state of frames with these numbers of slots, main's first, that has these words
abbrev pub state_with : List ℕ → List (Option ℤ) → Option Segments
state_with ns ws =
    if is_number 2 (word_at ws 0) then if_told ws Top
    else (if is_number 0 (word_at ws 0) then if_told ws (Graphs [])
    else if_rises ws (graphs_of ns (number_of most (word_at ws 1)) (drop 2 ws)))

-- the same, by the text
abbrev pub state_of_text : List ℕ → List ℕ → Option Segments
state_of_text ns text = state_if (state_with ns) (words_of text)

-- the state of frames with these layouts, the last one's first, that has these words
abbrev pub state_of : List Layout → List (Option ℤ) → Option Segments
state_of ls ws = state_with (counts ls) ws

-- ---- the order

abbrev pub has : List Shape → Shape → Bool
has [] g = false
has (h ∷ hs) g = eq_by_cmp shape_cmp g h || has hs g

abbrev pub have_all : List Shape → List Shape → Bool
have_all hs [] = true
have_all hs (g ∷ gs) = has hs g && have_all hs gs

-- the right one is Top, or the left one is not and each of its graphs is one of the right one's
abbrev pub leq : Segments → Segments → Bool
leq s Top = true
leq Top (Graphs hs) = false
leq (Graphs gs) (Graphs hs) = have_all hs gs

abbrev pub segment_port : Portable Segments
segment_port = by_words state_words state_of leq
