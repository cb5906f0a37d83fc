-- Chains to several procedures.
use Rattle.std.specs.Prelude.{ℕ, zero, suc, ◌-◌, List, [], ◌∷◌, ◌++◌, map, slice_get, Option, Some, None}
use Rattle.imp_check.specs.declared.entry.Entry.{Entry}

-- the chains to so many procedures up to the last one, those of the last one first
abbrev pub chains_up : (chains_of : ℕ → List (List ℕ)) → (last : ℕ) → (count : ℕ) → List (List (List ℕ))
chains_up chains_of last zero = []
chains_up chains_of last (suc count) = chains_up chains_of last count ++ chains_of (last - count) ∷ []

abbrev pub or_no_chains : Option (List (List ℕ)) → List (List ℕ)
or_no_chains None = []
or_no_chains (Some zs) = zs

-- the chains to a procedure by such a table, none where it is not there
abbrev pub chains_in : List (List (List ℕ)) → (last : ℕ) → ℕ → List (List ℕ)
chains_in table last q = or_no_chains (slice_get table (last - q))

-- the chains to the procedure of a statement
abbrev pub chains_by : (chains_of : ℕ → List (List ℕ)) → Option Entry → List (List ℕ)
chains_by chains_of None = []
chains_by chains_of (Some e) = chains_of e.context.proc

-- the chains through these call statements
abbrev pub through_sites : (chains_of : ℕ → List (List ℕ)) → (at : ℕ → Option Entry) → List ℕ → List (List ℕ)
through_sites chains_of at [] = []
through_sites chains_of at (n ∷ ns) = map (λ z. n ∷ z) (chains_by chains_of (at n)) ++ through_sites chains_of at ns
