-- After a call, where both states describe something.
use Rattle.std.proofs.Common.{◌≡◌, true, false, List, [], ◌∷◌, Option, refl}
use Rattle.imp_slots.specs.Plain.{Returning}
use Rattle.shape_graph.specs.Shape.{Shape}
use Rattle.dom_listseg_meaning.specs.State.{Segments, Top, Graphs}
use Rattle.dom_listseg_meaning.specs.Sets.{capped}
use Rattle.dom_listseg_meaning.specs.Operations.{each, returned, leave, dead}

no-graph : (f : Shape → List Shape) → each f (Graphs []) ≡ Graphs []
unfolding capped
no-graph f = refl

-- by the graphs of the callee's state
pub leave_graphs : (o : Option Returning) (gs : List Shape) (d : Segments) → dead (Graphs gs) ≡ false → leave o (Graphs gs) d ≡ each (λ (h : Shape). returned o h ∷ []) d
unfolding leave dead
leave_graphs o [] d h = cc
leave_graphs o (g ∷ gs) d h = refl

pub leave_top : (o : Option Returning) (d : Segments) → dead d ≡ false → leave o Top d ≡ Top
unfolding leave dead
leave_top o Top h = refl
leave_top o (Graphs []) h = cc
leave_top o (Graphs (g ∷ gs)) h = refl

pub leave_dead : (o : Option Returning) (s d : Segments) → dead s ≡ true → leave o s d ≡ Graphs []
unfolding leave dead
leave_dead o Top d h = cc
leave_dead o (Graphs []) d h = refl
leave_dead o (Graphs (g ∷ gs)) d h = cc

pub leave_done : (o : Option Returning) (s d : Segments) → dead d ≡ true → leave o s d ≡ Graphs []
unfolding leave dead
leave_done o s Top h = cc
leave_done o Top (Graphs []) h = refl
leave_done o (Graphs []) (Graphs []) h = refl
leave_done o (Graphs (g ∷ gs)) (Graphs []) h = no-graph (λ (h : Shape). returned o h ∷ [])
leave_done o s (Graphs (g ∷ gs)) h = cc
