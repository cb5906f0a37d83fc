-- How many chains there are, and how long the longest is, each up to 2^32 - 1.
use Rattle.std.specs.Prelude.{ℕ, ◌+◌, ◌-◌, ◌*◌, ◌^◌, List, [], ◌∷◌, min, max, length, nat_lt, cond}
use Rattle.imp_syntax.specs.Plain.{Procedure}
use Rattle.imp_check.specs.Chains.{chains_to}
use Rattle.imp_check.specs.Programs.{longest}
use Rattle.imp_check.specs.declared.chains.ChainTally.{ChainTally}

abbrev pub capped : ℕ → ℕ
capped n = min n (2 ^ 32 - 1)

unfoldable pub tally_of : List (List ℕ) → ChainTally
tally_of ws = record { count = capped (length ws); longest = capped (longest ws) }

unfoldable pub tally_sum : ChainTally → ChainTally → ChainTally
tally_sum a b = record { count = capped (a.count + b.count); longest = max a.longest b.longest }

abbrev pub none : ChainTally
none = record { count = 0; longest = 0 }

-- the chains of a tally, each with each of so many calls after it
unfoldable pub called : ChainTally → ℕ → ChainTally
called t n = cond (nat_lt 0 t.count) (cond (nat_lt 0 n) (record { count = capped (t.count * n); longest = capped (t.longest + 1) }) none) none

-- the chains to each procedure
abbrev pub tallies_of : List Procedure → List ChainTally
tallies_of [] = []
tallies_of (p ∷ later) = tally_of (chains_to p.name later) ∷ tallies_of later
