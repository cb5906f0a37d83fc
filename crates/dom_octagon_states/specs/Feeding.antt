-- What states feed a hasher.
use Rattle.std.specs.Prelude.{◌≡◌, ◌++◌, ℕ, true, List}
use Rattle.std.specs.Hash as fed
use Rattle.std.proofs.Common.{ap}
use Rattle.dbm_close.specs.declared.closed.Closed.{Closed}
use Rattle.dbm_close.specs.declared.closed.Closed.TheVariants.{Empty, Matrix}
use Rattle.dbm_narrow.specs.Feeding.{matrix_fed}
use Rattle.dom_octagon_meaning.specs.States.{same_state, state_Decides}

-- 0 for nothing; for a matrix 1, and a number for each kept bound
abbrev pub state_fed : Closed → List (List ℕ)
state_fed Empty = fed.u8 0
state_fed (Matrix m) = fed.u8 1 ++ matrix_fed m

pub state_fed-same : (a b : Closed) → same_state a b ≡ true → state_fed a ≡ state_fed b
state_fed-same a b h = ap state_fed ((state_Decides a b).0 h)
