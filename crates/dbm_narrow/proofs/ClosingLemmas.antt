-- What closing answers, by what its last steps answer.
use Rattle.std.specs.Prelude.{◌≡◌, ℕ, ◌<◌, ℤ, Bool, List, refl}
use Rattle.std.proofs.Common.{sym}
use Rattle.dbm_close.proofs.CloseOfLemmas.{close_of-only}
use Rattle.dbm_close.specs.CloseOf.{close_of}
use Rattle.dbm_close.specs.declared.closed.Closed.{Closed as Wide}
use Rattle.dbm_close.specs.declared.closed.Closed.TheVariants as wide
use Rattle.dbm_close.specs.Finish.{IsFinishOf}
use Rattle.dbm_close.specs.Rounds.{HasLeastWeights}
use Rattle.dbm_core.proofs.LimitLemmas.{zero-at_most}
use Rattle.dbm_core.specs.Half.{HalfMatrix, IsMatrix, entry, nodes}
use Rattle.dbm_core.specs.Limits.{HasZeroDiagonal, IsZeroAtMost}
use Rattle.dbm_incremental.proofs.CloseLemmas.{close-from_entries, close-from_weights, finish-answer}
use Rattle.dbm_incremental.proofs.TriangleLemmas.{own-weights}
use Rattle.dbm_incremental.specs.declared.bounds.Bound.{Bound}
use Rattle.dbm_incremental.specs.Steps.{lowered_all}
use Rattle.dbm_incremental.specs.Triangles.{IsTriangular}
use Rattle.dbm_narrow.proofs.StepLemmas.{closes}
use Rattle.dbm_narrow.specs.Addings.{AllLowered, IsLoweredOutcome}
use Rattle.dbm_narrow.specs.Closings.{FinishesTo, IsOutcome, OutcomeLeavesIf}
use Rattle.dbm_narrow.specs.declared.closing.ClosingResult.{ClosingResult}
use Rattle.dbm_narrow.specs.declared.closing.ClosingResult.TheVariants.{Closed, Empty, TooWide}
use Rattle.dbm_narrow.specs.Entries.{held}
use Rattle.dbm_narrow.specs.Held.{TellsFinish}
use Rattle.dbm_narrow.specs.Lowerings.{HasOwnWeights}
use Rattle.dbm_narrow.specs.Rounds.{IsNarrow}

module _ (unit : ℕ) (room : 0 < unit) where
  -- the last steps leave no bound outside the limits
  pub finish-total : (checked : Bool) (kinds : List Bool) (xs ys : List ℤ) (r : ClosingResult) → TellsFinish unit kinds xs ys r → OutcomeLeavesIf checked r
  finish-total checked kinds xs ys Closed f = tt
  finish-total checked kinds xs ys Empty f = tt
  finish-total checked kinds xs ys TooWide f = absurd f

  made : (kinds : List Bool) (xs ys : List ℤ) → FinishesTo unit kinds xs ys → IsNarrow unit kinds ys
  made kinds xs ys f = record { matrix = f.finish.entries.matrix; entries = f.entries }

  -- from the least weights xs of the matrix of os
  pub weights-outcome : (kinds : List Bool) (os xs ys : List ℤ) → IsMatrix (held unit kinds os) → IsZeroAtMost (nodes (held unit kinds os)) (entry (held unit kinds os)) → HasLeastWeights (held unit kinds os) (held unit kinds xs) →
      (r : ClosingResult) → TellsFinish unit kinds xs ys r → IsOutcome unit kinds os ys r
  weights-outcome kinds os xs ys t d h Closed f = (closes unit room (held unit kinds os) (held unit kinds xs) (wide.Matrix (held unit kinds ys)) t d h f.finish, made kinds xs ys f)
  weights-outcome kinds os xs ys t d h Empty f = closes unit room (held unit kinds os) (held unit kinds xs) wide.Empty t d h f
  weights-outcome kinds os xs ys t d h TooWide f = tt

  own-closes : (m : HalfMatrix) (a : Wide) → IsMatrix m → HasZeroDiagonal (nodes m) (entry m) → IsTriangular (nodes m) (entry m) → IsFinishOf m.kinds (entry m) a → close_of m ≡ a
  own-closes m a t d l f = sym (close_of-only m a t (zero-at_most (nodes m) (entry m) d) (close-from_weights m m a refl (own-weights (entry m) (nodes m) d l) f))

  -- from entries that are their own least weights
  pub own-outcome : (kinds : List Bool) (xs ys : List ℤ) → IsMatrix (held unit kinds xs) → HasOwnWeights unit kinds xs → (r : ClosingResult) → TellsFinish unit kinds xs ys r → IsOutcome unit kinds xs ys r
  own-outcome kinds xs ys t o Closed f = (own-closes (held unit kinds xs) (wide.Matrix (held unit kinds ys)) t o.diagonal o.triangles f.finish, made kinds xs ys f)
  own-outcome kinds xs ys t o Empty f = own-closes (held unit kinds xs) wide.Empty t o.diagonal o.triangles f
  own-outcome kinds xs ys t o TooWide f = tt

  -- from the least weights xs of the matrix of os with the bounds lowered
  pub lowered-outcome : (kinds : List Bool) (os xs ys : List ℤ) (bs : List Bound) → AllLowered unit kinds os xs bs → (r : ClosingResult) → TellsFinish unit kinds xs ys r → IsLoweredOutcome unit kinds os ys bs r
  lowered-outcome kinds os xs ys bs a Closed f = record {
    narrow = made kinds xs ys f;
    closes = λ t h. close-from_entries kinds (lowered_all (entry (held unit kinds os)) bs) (held unit kinds xs) t (wide.Matrix (held unit kinds ys)) refl h a.weights f.finish;
    closed = finish-answer (lowered_all (entry (held unit kinds os)) bs) (held unit kinds xs) (wide.Matrix (held unit kinds ys)) a.narrow.matrix a.weights f.finish;
  }
  lowered-outcome kinds os xs ys bs a Empty f = λ t h. close-from_entries kinds (lowered_all (entry (held unit kinds os)) bs) (held unit kinds xs) t wide.Empty refl h a.weights f
  lowered-outcome kinds os xs ys bs a TooWide f = tt
