-- Statements that are one action.
use Rattle.std.specs.Prelude.{◌≡◌, ℕ, [], ◌∷◌}
use Rattle.imp_syntax.specs.Plain.{Statement, Ends, Starts, numbers}
use Rattle.imp_check.specs.Programs.{block_count}

-- an action with this number
pub record IsSingle (number : ℕ) (s : Statement) : Type 0 where
  pub numbered : numbers (Starts s Ends) ≡ number ∷ []
  pub counted : block_count (Starts s Ends) ≡ 1
