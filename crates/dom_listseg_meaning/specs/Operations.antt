-- The operations of list segments (after Distefano, O'Hearn and Yang, "A Local Shape Analysis Based on Separation Logic",
-- TACAS 2006): each makes graphs of each graph, and folds them.
use Rattle.std.specs.Prelude.{ℕ, ◌-◌, Bool, true, false, not, if◌then◌else◌, ℤ, List, [], ◌∷◌, length, map, Option, Some, None}
use Rattle.std.specs.List.{filter, flat_map}
use Rattle.imp_syntax.specs.declared.words.Relation.{Relation}
use Rattle.imp_slots.specs.Plain.{Layout, Term, Guard, Effect, Skip, Assert, SetInt, Input, ReadElement, ReadItem, MakeArray, CopyArray, WriteElement, SetNull, MakeCell, CopyLink, ReadNext, WriteNext, WriteItem, Act, DoBreak, Does, Argument, IntArgument, ArrayArgument, LinkArgument, Entering, Returning, NumericResult, LinkResult}
use Rattle.concrete_sem.specs.Evaluation.{same_link}
use Rattle.concrete_sem.specs.Passing.{first_link, over}
use Rattle.domain_laws.specs.Checks.{check_of}
use Rattle.domain_laws.specs.Guards.{assumed, past_check, verdict_by}
use Rattle.imp_words.specs.declared.verdict.Verdict.{Verdict}
use Rattle.shape_graph.specs.Shape.{Shape, shape_of}
use Rattle.fold_laws.specs.Folding.{fold_of}
use Rattle.shape_steps.specs.Steps.{forget_of, new_cell_of, push_frame_of, pop_frame_of, last_frame_of, slot_of, argument_of, read_of, write_of, leave_of}
use Rattle.dom_listseg_meaning.specs.State.{Segments, Top, Graphs}
use Rattle.dom_listseg_meaning.specs.Sets.{union, capped}

-- the state of these graphs, folded
abbrev pub collected : List Shape → Segments
collected gs = capped (union [] (map fold_of gs))

-- the graphs that each graph makes, folded
abbrev pub each : (Shape → List Shape) → Segments → Segments
each f Top = Top
each f (Graphs gs) = collected (flat_map f gs)

-- the graphs that pass a test
abbrev pub kept : (Shape → Bool) → Segments → Segments
kept test Top = Top
kept test (Graphs gs) = Graphs (filter test gs)

-- whether the targets of the sides of a comparison are as it says
abbrev pub agrees : Bool → Option ℕ → Option ℕ → Shape → Bool
agrees equal p q g =
    if equal then same_link (argument_of g.frames p) (argument_of g.frames q) else not (same_link (argument_of g.frames p) (argument_of g.frames q))

-- comparisons of ints say nothing of lists
abbrev pub compare : Relation → Term → Term → Segments → Segments
compare r a b s = s

abbrev pub compare_links : Bool → Option ℕ → Option ℕ → Segments → Segments
compare_links equal p q = kept (agrees equal p q)

-- the union
unfoldable pub join : Segments → Segments → Segments
join Top t = Top
join (Graphs gs) Top = Top
join (Graphs gs) (Graphs hs) = capped (union gs hs)

-- thresholds are ignored
abbrev pub widen : List ℤ → Segments → Segments → Segments
widen thresholds = join

unfoldable pub assume : Guard → Bool → Segments → Segments
assume = assumed compare compare_links join

-- `p = q.next` and `p.next = q`, by what stands in the slot that is followed: no graph where it is nil
abbrev pub read_at : Shape → ℕ → Option ℕ → List Shape
read_at g p None = []
read_at g p (Some node) = read_of g p node

abbrev pub write_at : Shape → Option ℕ → ℕ → List Shape
write_at g None q = []
write_at g (Some node) q = write_of g node q

-- the graphs after a statement, from one before it
unfoldable pub stepped : Effect → Shape → List Shape
stepped Skip g = g ∷ []
stepped (Assert c) g = g ∷ []
stepped (SetInt x e) g = g ∷ []
stepped (Input x) g = g ∷ []
stepped (ReadElement x a e) g = g ∷ []
stepped (ReadItem x q) g = g ∷ []
stepped (MakeArray a e) g = g ∷ []
stepped (CopyArray a b) g = g ∷ []
stepped (WriteElement a e f) g = g ∷ []
stepped (SetNull p) g = forget_of g p None ∷ []
stepped (MakeCell p) g = new_cell_of g p ∷ []
stepped (CopyLink p q) g = forget_of g p (slot_of g.frames q) ∷ []
stepped (ReadNext p q) g = read_at g p (slot_of g.frames q)
stepped (WriteNext p q) g = write_at g (slot_of g.frames p) q
stepped (WriteItem p e) g = g ∷ []

-- whether a statement changes a link
abbrev pub moves : Effect → Bool
moves Skip = false
moves (Assert c) = false
moves (SetInt x e) = false
moves (Input x) = false
moves (ReadElement x a e) = false
moves (ReadItem x q) = false
moves (MakeArray a e) = false
moves (CopyArray a b) = false
moves (WriteElement a e f) = false
moves (SetNull p) = true
moves (MakeCell p) = true
moves (CopyLink p q) = true
moves (ReadNext p q) = true
moves (WriteNext p q) = true
moves (WriteItem p e) = false

-- what a statement does after its check
unfoldable pub does : Effect → Segments → Segments
does e s = if moves e then each (stepped e) s else s

unfoldable pub post : Act → Segments → Segments
post DoBreak s = Graphs []
post (Does e) s = does e (past_check assume (check_of e) s)

-- one graph, main's slots nil
unfoldable pub init : Layout → Segments
init l = Graphs (shape_of (map first_link l.links ∷ []) [] ∷ [])

-- the links among the arguments of a call, in order
abbrev pub link_arguments : List Argument → List (Option ℕ)
link_arguments [] = []
link_arguments (IntArgument e ∷ more) = link_arguments more
link_arguments (ArrayArgument a ∷ more) = link_arguments more
link_arguments (LinkArgument p ∷ more) = p ∷ link_arguments more

-- for each list slot of a callee the side that it starts with: an argument, or null
abbrev pub entered : Entering → List (Option ℕ)
entered e = over (link_arguments e.arguments) (map first_link e.layout.links)

-- a frame is added
unfoldable pub enter : Entering → Segments → Segments
enter e = each (λ (g : Shape). push_frame_of g (map (argument_of g.frames) (entered e)) ∷ [])

-- the last frame is removed, and the result's target taken
abbrev pub returned : Option Returning → Shape → Shape
returned None g = pop_frame_of g (length g.frames - 1)
returned (Some (NumericResult to from)) g = pop_frame_of g (length g.frames - 1)
returned (Some (LinkResult to from)) g = leave_of g to from

-- Empty where either state is, else Top where either is
unfoldable pub leave : Option Returning → Segments → Segments → Segments
leave o Top Top = Top
leave o Top (Graphs []) = Graphs []
leave o Top (Graphs (h ∷ hs)) = Top
leave o (Graphs []) d = Graphs []
leave o (Graphs (g ∷ gs)) d = each (λ (h : Shape). returned o h ∷ []) d

-- all frames but the last are removed
unfoldable pub shed : Segments → Segments
shed = each (λ (g : Shape). last_frame_of g ∷ [])

-- dead exactly where it is Empty
unfoldable pub dead : Segments → Bool
dead Top = false
dead (Graphs []) = true
dead (Graphs (g ∷ gs)) = false

unfoldable pub check : Act → Segments → Verdict
check = verdict_by assume dead
