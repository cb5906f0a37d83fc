-- Widening of intervals with thresholds.
use Rattle.std.specs.Prelude.{◌&&◌, ℤ, int_le, if◌then◌else◌, List, [], ◌∷◌, map}
use Rattle.std.specs.Int.{int_max, int_min}
use Rattle.std.specs.List.{zip}
use Rattle.num_bounds.specs.Bounds.{Bounds}
use Rattle.dom_interval_meaning.specs.State.{Intervals, Empty, Within}
use Rattle.dom_interval_meaning.specs.Ranges.{extremes}
use Rattle.dom_interval_meaning.specs.declared.slot_range.SlotRange.{SlotRange}

-- The greatest threshold within the extremes that is not above z, and the low extreme where there is none. (It is not above z
-- either, as z is within the extremes in every state that fits.)
abbrev pub threshold_below : List ℤ → Bounds → ℤ → ℤ
threshold_below [] e z = int_min e.lo z
threshold_below (m ∷ ms) e z = if int_le m z && int_le m e.hi then int_max m (threshold_below ms e z) else threshold_below ms e z

-- the least threshold within the extremes that is not below z, and the high extreme where there is none
abbrev pub threshold_above : List ℤ → Bounds → ℤ → ℤ
threshold_above [] e z = int_max e.hi z
threshold_above (m ∷ ms) e z = if int_le z m && int_le e.lo m then int_min m (threshold_above ms e z) else threshold_above ms e z

-- the better one of the best so far and a threshold m, for an end z, where thresholds above high, or below low, do not serve
abbrev pub better_below : (best m high z : ℤ) → ℤ
better_below best m high z = if int_le m z && int_le m high then int_max m best else best

abbrev pub better_above : (best m low z : ℤ) → ℤ
better_above best m low z = if int_le z m && int_le low m then int_min m best else best

-- an end that the right range does not pass stays, any other goes to the nearest threshold that it does not pass
abbrev pub widen_range : List ℤ → Bounds → Bounds → Bounds → Bounds
widen_range thresholds e l r = record {
  lo = if int_le l.lo r.lo then l.lo else threshold_below thresholds e r.lo;
  hi = if int_le r.hi l.hi then l.hi else threshold_above thresholds e r.hi;
}

abbrev pub widen_slot : List ℤ → SlotRange → SlotRange → SlotRange
widen_slot thresholds a b = record { is_array = a.is_array; range = widen_range thresholds (extremes a.is_array) a.range b.range }

-- Empty is neutral
unfoldable pub widen : List ℤ → Intervals → Intervals → Intervals
widen thresholds Empty t = t
widen thresholds (Within rs) Empty = Within rs
widen thresholds (Within rs) (Within qs) = Within (map (λ p. widen_slot thresholds p.0 p.1) (zip rs qs))
