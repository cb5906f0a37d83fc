-- How many lines more can be answered.
use Rattle.std.specs.Prelude.{ℕ, ◌≤◌}

-- So many lines can be answered, or more.
pub record LastsFor (lasts : ℕ → Type 0) (lines : ℕ) : Type 0 where
  pub most : ℕ
  pub enough : lines ≤ most
  pub held : lasts most
