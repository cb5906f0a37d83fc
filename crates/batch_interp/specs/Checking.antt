-- Whether a statement has a check.
use Rattle.std.specs.Prelude.{Option, Some, None, Bool, true, false}
use Rattle.domain_laws.specs.Checks.{Check}

abbrev pub is_checked : Option Check → Bool
is_checked None = false
is_checked (Some c) = true
