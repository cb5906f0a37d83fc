-- Bounds that are collected, and added one after another.
use Rattle.std.specs.Prelude.{◌≡◌, ℕ, ◌≤◌, ◌+◌, ◌*◌, neg_ℤ, Option, Some, None, Bool, List, [], ◌∷◌, length, refl}
use Rattle.std.proofs.Common.{arith, ap, ◌∙◌}
use Rattle.dbm_core.specs.Half.{HalfMatrix}
use Rattle.dbm_incremental.specs.declared.bounds.Bound.{Bound}
use Rattle.num_bounds.specs.Bounds.{Bounds}
use Rattle.dom_octagon_meaning.specs.Matrices.{meets_end, meets_range, with_bound}
use Rattle.dom_octagon.proofs.Bounds.{bound-kinds}
use Rattle.dom_octagon.specs.Added.{AreSmallBounds, IsEnd, IsSmallBound, and_bound, with_bound_if, with_bounds, with_four}

with_bounds-and : (m : HalfMatrix) (bs : List Bound) (o : Option Bound) → with_bounds m (and_bound bs o) ≡ with_bound_if (with_bounds m bs) o
with_bounds-and m bs None = refl
with_bounds-and m [] (Some b) = refl
with_bounds-and m (a ∷ bs) (Some b) = with_bounds-and (with_bound m a.row a.column a.bound) bs (Some b)

small-and : (bs : List Bound) (o : Option Bound) → AreSmallBounds bs → IsSmallBound o → AreSmallBounds (and_bound bs o)
small-and bs None h s = h
small-and [] (Some b) h s = (s, tt)
small-and (a ∷ bs) (Some b) h s = (h.0, small-and bs (Some b) h.1 s)

few-and : (bs : List Bound) (o : Option Bound) → length (and_bound bs o) ≤ length bs + 1
few-and bs None = omega arith
few-and [] (Some b) = omega arith
few-and (a ∷ bs) (Some b) = omega (arith, few-and bs (Some b))

-- the list of those of four bounds that there are
abbrev pub four : (a b c d : Option Bound) → List Bound
four a b c d = and_bound (and_bound (and_bound (and_bound [] a) b) c) d

pub four_added : (m : HalfMatrix) (a b c d : Option Bound) → with_bounds m (four a b c d) ≡ with_four m a b c d
four_added m a b c d =
    with_bounds-and m (and_bound (and_bound (and_bound [] a) b) c) d
    ∙ ap (λ n. with_bound_if n d) (with_bounds-and m (and_bound (and_bound [] a) b) c
    ∙ ap (λ n. with_bound_if n c) (with_bounds-and m (and_bound [] a) b
    ∙ ap (λ n. with_bound_if n b) (with_bounds-and m [] a)))

pub four_small : (a b c d : Option Bound) → IsSmallBound a → IsSmallBound b → IsSmallBound c → IsSmallBound d → AreSmallBounds (four a b c d)
four_small a b c d p q r s = small-and (and_bound (and_bound (and_bound [] a) b) c) d (small-and (and_bound (and_bound [] a) b) c (small-and (and_bound [] a) b (small-and [] a tt p) q) r) s

pub four_few : (a b c d : Option Bound) → length (four a b c d) ≤ 4
four_few a b c d = omega (arith, few-and (and_bound (and_bound (and_bound [] a) b) c) d, few-and (and_bound (and_bound [] a) b) c, few-and (and_bound [] a) b, few-and [] a)

-- the two bounds of a range make the slot meet it
pub ends_meet : (kinds : List Bool) (m : HalfMatrix) (x : ℕ) (r : Bounds) (high low : Option Bound) → m.kinds ≡ kinds →
    IsEnd kinds (2 * x) r.hi high → IsEnd kinds (2 * x + 1) (neg_ℤ r.lo) low → with_bound_if (with_bound_if m high) low ≡ meets_range m x r
ends_meet kinds m x r high low k h l = l (with_bound_if m high) (bound-kinds m high ∙ k) ∙ ap (λ n. meets_end n (2 * x + 1) (neg_ℤ r.lo)) (h m k)
