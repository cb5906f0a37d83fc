-- Widenings of matrices: thresholds have 64 bits, so that no bound leaves the wide form.
use Rattle.std.specs.Prelude.{◌≡◌, ℕ, ◌≤◌, ◌^◌, ℤ, pos, neg_ℤ, ◌≤ℤ◌, ◌<ℤ◌, int_lt, Option, Some, None, Bool, true, false, cond, List, [], ◌∷◌}
use Rattle.std.proofs.Common.{arith, suc}
use Rattle.std.proofs.lemmas.Int.{ints}
use Rattle.dbm_core.proofs.LimitLemmas.{IsLimited-entries, IsLimited-of, widened-diagonal}
use Rattle.dbm_core.proofs.WeightLemmas.{least-cases}
use Rattle.dbm_core.specs.Half.{HalfMatrix, HasEntries, entry, nodes}
use Rattle.dbm_core.specs.Limits.{AreWithin, IsLimited, IsWithin}
use Rattle.dbm_core.specs.Nodes.{is_single}
use Rattle.dbm_core.specs.Operations.{next_threshold, threshold_value, widen_bound, widened}
use Rattle.dbm_core.specs.Weights.{least}
use Rattle.dom_octagon_states.specs.Limits.{AreWords}

words-rest : (m : ℤ) (ms : List ℤ) → AreWords (m ∷ ms) → AreWords ms
words-rest m ms h k l = h (suc k) (omega arith)

module _ (b : ℕ) (room : 2 ^ 64 ≤ b) where
  threshold-within : (d : Bool) (m : ℤ) → neg_ℤ (pos (2 ^ 63)) ≤ℤ m → m <ℤ pos (2 ^ 63) → IsWithin b (Some (threshold_value d m))
  threshold-within true m p q = (omega (arith, ints), omega (arith, ints))
  threshold-within false m p q = (omega (arith, ints), omega (arith, ints))

  either-within : (t : Bool) (x y : Option ℤ) → IsWithin b x → IsWithin b y → IsWithin b (cond t x y)
  either-within true x y p q = p
  either-within false x y p q = q

  next-within : (ms : List ℤ) (d : Bool) (x : ℤ) → AreWords ms → IsWithin b (next_threshold ms d x)
  next-within [] d x h = tt
  next-within (m ∷ ms) d x h =
      let rest : IsWithin b (next_threshold ms d x) = next-within ms d x (words-rest m ms h) in
      either-within (int_lt (threshold_value d m) x) (next_threshold ms d x) (least (Some (threshold_value d m)) (next_threshold ms d x)) rest
      (least-cases (IsWithin b) (Some (threshold_value d m)) (next_threshold ms d x) (let w : (neg_ℤ (pos (2 ^ 63)) ≤ℤ m) × (m <ℤ pos (2 ^ 63)) = h 0 (omega arith) in threshold-within d m w.0 w.1) rest)

  widen_bound-within : (ms : List ℤ) (d : Bool) (old new : Option ℤ) → AreWords ms → IsWithin b old → IsWithin b (widen_bound ms d old new)
  widen_bound-within ms d None new h p = tt
  widen_bound-within ms d (Some x) None h p = tt
  widen_bound-within ms d (Some x) (Some y) h p = either-within (int_lt x y) (next_threshold ms d y) (Some x) (next-within ms d y h) p

  entries-within : (ms : List ℤ) (a c : HalfMatrix) → AreWords ms → AreWithin (nodes a) b (entry a) → AreWithin (nodes a) b (widened ms a c)
  entries-within ms a c h w i j hi hj = widen_bound-within ms (is_single i j) (entry a i j) (entry c i j) h (w i j hi hj)

-- the limits of states are kept
pub widened_limited : (ms : List ℤ) (a c m : HalfMatrix) → AreWords ms → c.kinds ≡ a.kinds → HasEntries a.kinds (widened ms a c) m → IsLimited (2 ^ 64) a → IsLimited (2 ^ 64) c → IsLimited (2 ^ 64) m
widened_limited ms a c m h k e p q = IsLimited-entries a.kinds (widened ms a c) m (2 ^ 64) (widened-diagonal ms a c (nodes a) p.diagonal (IsLimited-of a.kinds (2 ^ 64) c k q).0)
    (entries-within (2 ^ 64) (omega arith) ms a c h p.within) e
