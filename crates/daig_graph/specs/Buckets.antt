-- Lists that statements share.
use Rattle.std.specs.Prelude.{ℕ, ◌%◌}

-- the list that the cells of a statement hang on, by the statement's number
abbrev pub bucket_of : ℕ → ℕ
bucket_of statement = statement % 65536
