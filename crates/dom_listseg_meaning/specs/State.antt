-- States of list segments, their equality and their hashing.
use Rattle.std.specs.Prelude.{◌≡◌, refl, ℕ, Bool, true, false, ◌++◌, List, Option, Some, None}
use Rattle.std.specs.Ordering.{eq_by_cmp}
use Rattle.std.specs.Coded.{Coded, code_by, coded×, coded_ℕ, coded_bool, coded_list, coded_option}
use Rattle.std.specs.Hash as fed
use lib.Pointwise.{pointwise}
use Rattle.shape_graph.specs.declared.graph.Atom.{Atom}
use Rattle.shape_graph.specs.Shape.{Shape}
use Rattle.shape_graph.specs.Order.{shape_cmp, shape_hash}

-- Top, of which nothing is known, or the graphs of which one covers. No graphs is Empty, which covers nothing.
pub data Segments : Type 0 where
  Top : Segments
  Graphs : List Shape → Segments

abbrev atom_code : Coded Atom
atom_code = code_by (Bool × Option ℕ) (coded× coded_bool (coded_option coded_ℕ)) (λ a. (a.many, a.target)) (λ p. record { many = p.0; target = p.1 }) (λ _. refl)

abbrev shape_code : Coded Shape
shape_code =
    code_by (List (List (Option ℕ)) × List Atom) (coded× (coded_list (coded_list (coded_option coded_ℕ))) (coded_list atom_code))
    (λ g. (g.frames, g.atoms)) (λ p. record { frames = p.0; atoms = p.1 }) (λ _. refl)

abbrev to_option : Segments → Option (List Shape)
to_option Top = None
to_option (Graphs gs) = Some gs

abbrev from_option : Option (List Shape) → Segments
from_option None = Top
from_option (Some gs) = Graphs gs

pub from_to : (s : Segments) → from_option (to_option s) ≡ s
from_to Top = refl
from_to (Graphs gs) = refl

abbrev pub segments_code : Coded Segments
segments_code = code_by (Option (List Shape)) (coded_option (coded_list shape_code)) to_option from_option from_to

-- whether two states are equal
abbrev pub segments_same : Segments → Segments → Bool
segments_same Top Top = true
segments_same Top (Graphs hs) = false
segments_same (Graphs gs) Top = false
segments_same (Graphs gs) (Graphs hs) = pointwise (eq_by_cmp shape_cmp) gs hs

-- what a state feeds a hasher
abbrev pub segments_fed : Segments → List (List ℕ)
segments_fed Top = fed.u8 0
segments_fed (Graphs gs) = fed.u8 1 ++ fed.slice shape_hash gs
