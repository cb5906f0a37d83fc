-- The procedures through which chains lead to one, as marks by their places.
use Rattle.std.specs.Prelude.{ℕ, ◌≡◌, ◌<◌, ◌≤◌, List, [], ◌∷◌, Option, Some, None, Bool, true, if◌then◌else◌, slice_index_or, slice_set, nat_lt}
use Rattle.imp_slots.specs.Plain.{Routine}
use Rattle.imp_chains.specs.Chains.{through}
use Rattle.imp_check.specs.declared.entry.Entry.{Entry}

-- whether a place is marked, or lies past the marks
abbrev pub is_marked : List Bool → ℕ → Bool
is_marked marks q = slice_index_or marks q true

-- the marks with that of a caller, if it stands after the procedure that it calls
abbrev pub mark : (place caller : ℕ) → List Bool → List Bool
mark place caller marks = if nat_lt place caller then slice_set marks caller true else marks

abbrev pub mark_by : (place : ℕ) → Option Entry → List Bool → List Bool
mark_by place None marks = marks
mark_by place (Some e) marks = mark place e.context.proc marks

-- the marks with those of the procedures of these call statements
abbrev pub mark_all : (place : ℕ) → (at : ℕ → Option Entry) → List ℕ → List Bool → List Bool
mark_all place at [] marks = marks
mark_all place at (n ∷ ns) marks = mark_all place at ns (mark_by place (at n) marks)

-- the chains to marked procedures
abbrev pub chains_marked : List Bool → (chains_of : ℕ → List (List ℕ)) → ℕ → List (List ℕ)
chains_marked marks chains_of q = if is_marked marks q then chains_of q else []

-- the empty chain to each procedure after a place that has no mark
abbrev pub left_out : (place : ℕ) → List Bool → ℕ → List (List ℕ)
left_out place marks q = if nat_lt place q then (if is_marked marks q then [] else [] ∷ []) else []

-- no procedure without a mark calls the one at a place
abbrev pub AreCallersMarked : List Routine → List Bool → (place : ℕ) → Type 0
AreCallersMarked program marks place = through (left_out place marks) 0 program place ≡ []

-- A procedure and main are marked, and with each that is marked between that procedure and a place its callers are.
pub record AreMarked (program : List Routine) (marks : List Bool) (own main place : ℕ) : Type 0 where
  pub here : is_marked marks own ≡ true
  pub top : is_marked marks main ≡ true
  pub callers : (q : ℕ) → own ≤ q → q < place → is_marked marks q ≡ true → AreCallersMarked program marks q
