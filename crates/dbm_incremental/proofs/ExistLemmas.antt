-- The least weights exist where no closed walk is below 0.
use Rattle.std.specs.Prelude.{ℕ, ◌<◌, ◌≤◌, ◌+◌, ◌++◌, ◌∷◌, [], ℤ, pos, Option, Some, List}
use Rattle.std.proofs.Common.{arith, suc, zero, subst, add-one}
use Rattle.dbm_close.proofs.RoundLemmas.{weights-from_walks}
use Rattle.dbm_close.proofs.WalkLemmas.{AreLeastWalks, Below-more, IsWalk-path, edges-least, path_weight, round-least, walk_weight-path}
use Rattle.dbm_close.specs.CloseOf.{least_below}
use Rattle.dbm_close.specs.Rounds.{through}
use Rattle.dbm_close.specs.Walks.{Below, HasNoNegativeWalk}
use Rattle.dbm_core.proofs.WeightLemmas.{AtMost-trans}
use Rattle.dbm_core.specs.Limits.{IsZeroAtMost}
use Rattle.dbm_core.specs.Weights.{AtMost}
use Rattle.dbm_incremental.specs.Triangles.{AreSoundWeights}

walked-step : (w d : ℕ → ℕ → Option ℤ) (n k : ℕ) → k < n → HasNoNegativeWalk w n → AreLeastWalks w n k d → AreLeastWalks w n (k + 1) (through d k)
walked-step w d n k kn z before = round-least w d n k kn not_negative before
  where
    not_negative : AtMost (Some (pos 0)) (d k k)
    not_negative =
        let p : (xs : List ℕ) × Below k xs × AtMost (path_weight w k xs k) (d k k) = (before k k kn kn).reached in
        AtMost-trans (Some (pos 0)) (path_weight w k p.0 k) (d k k)
        (subst (λ v. AtMost (Some (pos 0)) v) (walk_weight-path w k p.0 k) (z k (p.0 ++ (k ∷ [])) kn (IsWalk-path n k p.0 k kn (Below-more k n p.0 (omega arith) p.1)))) p.2

pub walked-least : (w : ℕ → ℕ → Option ℤ) (n k : ℕ) → k ≤ n → HasNoNegativeWalk w n → AreLeastWalks w n k (least_below w k)
unfolding least_below
walked-least w n zero l z = edges-least w n
walked-least w n (suc k) l z = subst (λ b. AreLeastWalks w n b (least_below w (suc k))) (add-one k)
    (walked-step w (least_below w k) n k (omega arith) z (walked-least w n k (omega arith) z))

pub walked-weights : (w : ℕ → ℕ → Option ℤ) (n : ℕ) → IsZeroAtMost n w → HasNoNegativeWalk w n → AreSoundWeights w n (least_below w n)
walked-weights w n o z = record { weights = weights-from_walks w (least_below w n) n o (walked-least w n n (omega arith) z); sound = z }
