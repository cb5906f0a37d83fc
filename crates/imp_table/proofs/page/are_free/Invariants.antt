use Rattle.std.proofs.Common.{◌≡◌, ◌<◌, ℕ, None}
use Rattle.imp_check.specs.Tables.{entry_in}
use Rattle.imp_table.proofs.page.are_free.Given as goal

-- nothing stands at the places so far
abbrev pub invariant-loop-place : goal.invariant-loop-place
invariant-loop-place l = (n : ℕ) → n < l.place-index → entry_in l.places n ≡ None
