-- Tables of written states and of chains.
use Rattle.std.specs.Prelude.{◌≡◌, ℕ, List, ◌∷◌, slice_get, Option, Some, None, Bool, false}
use Rattle.std.specs.Map.{lookup}
use Rattle.std.specs.Str.{bytes_eq}
use Rattle.imp_slots.specs.Plain.{Routine}
use Rattle.imp_chains.specs.Chains.{chains}
use Rattle.cert_lines.specs.Lines.{CertEntry, written_in, is_chain}

-- the state that a table has of a loop under call sites, the last first
abbrev pub state_at : {S : Type 0} → List (List ℕ × S) → (z : List ℕ) → (n : ℕ) → Option S
state_at table z n = lookup (bytes_eq (n ∷ z)) table

-- a table has the states of these entries, and no others
abbrev pub HasEntries : {S : Type 0} → List (List ℕ × S) → List (CertEntry S) → Type 0
HasEntries table es = (z : List ℕ) (n : ℕ) → state_at table z n ≡ written_in es z n

abbrev pub in_set : Option (List (List ℕ)) → (z : List ℕ) → Bool
in_set None z = false
in_set (Some zs) z = is_chain z zs

-- whether z is among the chains of the procedure at a place
abbrev pub chain_in : List (List (List ℕ)) → (place : ℕ) → (z : List ℕ) → Bool
chain_in sets p z = in_set (slice_get sets p) z

-- these are the chains to the procedures
abbrev pub AreChains : List Routine → List (List (List ℕ)) → Type 0
AreChains program sets = (p : ℕ) (z : List ℕ) → chain_in sets p z ≡ is_chain z (chains program p)
