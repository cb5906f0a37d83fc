-- The theorems, for names of any type T and values of any type V.
use Rattle.std.specs.Prelude.{◌≡◌, ℕ, ◌+◌, ◌<◌, ◌≤◌, ◌↔◌, ◌⊎◌, Bool, true, false, not, List, [], ◌∷◌, ◌++◌, map, take, filter, length, slice_get, Option, Some, None}
use Rattle.daig_order.specs.Order.{System, IsAcyclic, member, seen, fill_all}
use Rattle.daig_order.specs.OrderLaws.{IsDistinct, Follows, Needed, IsClosed, order}
use Rattle.daig_order.specs.Asking.{Rows, AreRows, SameRow, inputs_of, value_of, system_of}
use Rattle.daig_order.specs.Store.{Holds, first_absent, Puts, missing_of, Leaves}
use Rattle.daig_order.specs.Found.{AreFound, Grown}
use Rattle.daig_order.specs.Machine.{waits, Demand, RunFor, left_of}
use Rattle.daig_order.specs.Turned.{AreUsers, turned, IsPlan, without}
use Rattle.daig_order.specs.Within.{within, AreDependents}
use Rattle.daig_order.specs.InTurn.{missing_in_turn, all_demanded}

-- no name stands twice in the order of a demand
abbrev pub OrderIsDistinct : Type 0 → Type 0
OrderIsDistinct T = (s : System T) → IsAcyclic s → (xs : List T) → IsDistinct s.same (order s xs)

-- each name stands after its inputs
abbrev pub OrderFollowsInputs : Type 0 → Type 0
OrderFollowsInputs T = (s : System T) → IsAcyclic s → (xs : List T) → Follows s (λ _. false) [] (order s xs)

-- the names of the order are exactly the needed ones
abbrev pub OrderIsNeeded : Type 0 → Type 0
OrderIsNeeded T = (s : System T) → IsAcyclic s → (xs : List T) (x : T) → (member s.same (order s xs) x ≡ true) ↔ Needed s xs x

-- so with each name the order has its inputs
abbrev pub OrderIsClosed : Type 0 → Type 0
OrderIsClosed T = (s : System T) → IsAcyclic s → (xs : List T) → IsClosed s (member s.same (order s xs))

-- where the kept set is closed, what is missing of it is the order without the kept names
abbrev pub MissingIsRest : Type 0 → Type 0
MissingIsRest T = (s : System T) → IsAcyclic s → (kept : T → Bool) → IsClosed s kept → (xs : List T) → fill_all s kept [] xs ≡ filter (λ x. not (kept x)) (order s xs)

-- with all that was missing, a closed set is the kept names and the needed ones
abbrev pub FilledIsKeptOrNeeded : Type 0 → Type 0
FilledIsKeptOrNeeded T = (s : System T) → IsAcyclic s → (kept : T → Bool) → IsClosed s kept → (xs : List T) (x : T) → (seen s kept (fill_all s kept [] xs) x ≡ true) ↔ ((kept x ≡ true) ⊎ Needed s xs x)

-- a closed set is closed again with the first n missing names
abbrev pub FilledIsClosed : Type 0 → Type 0
FilledIsClosed T = (s : System T) → IsAcyclic s → (kept : T → Bool) → IsClosed s kept → (xs : List T) (n : ℕ) → IsClosed s (seen s kept (take n (fill_all s kept [] xs)))

-- inputs that are asked for by values make a system in which no name leads back to itself
abbrev pub RowsAreAcyclic : Type 0 → Type 0 → Type 0
RowsAreAcyclic T V = (t : Rows T V) → AreRows t → IsAcyclic (system_of t)

-- the values of the first k inputs ask for the next
abbrev pub RowsAskNext : Type 0 → Type 0 → Type 0
RowsAskNext T V = (t : Rows T V) → AreRows t → (x : T) (k : ℕ) → k ≤ length (inputs_of t x) → t.asks x (map (value_of t) (take k (inputs_of t x))) ≡ slice_get (inputs_of t x) k

-- a name's value is its operation on its inputs' values
abbrev pub RowsGiveValues : Type 0 → Type 0 → Type 0
RowsGiveValues T V = (t : Rows T V) → AreRows t → (x : T) → value_of t x ≡ t.operation x (map (value_of t) (inputs_of t x))

-- where all rows of a closed set are the same in two programs, so are the inputs and the values of its names
abbrev pub RowsAreStable : Type 0 → Type 0 → Type 0
RowsAreStable T V = (t u : Rows T V) → AreRows t → AreRows u → (p : T → Bool) → IsClosed (system_of t) p → ((x : T) → p x ≡ true → SameRow t u x)
    → (x : T) → p x ≡ true → (inputs_of t x ≡ inputs_of u x) × (value_of t x ≡ value_of u x)

-- at first nothing is found
abbrev pub FoundStarts : Type 0 → Type 0 → Type 0
FoundStarts T V = (value : T → V) (get : T → Option V) (xs : List T) → AreFound value get xs []

-- the next name's value is found with those before it
abbrev pub FoundSteps : Type 0 → Type 0 → Type 0
FoundSteps T V = (value : T → V) (get : T → Option V) (xs : List T) (found : List V) → AreFound value get xs found
    → (x : T) (v : V) → slice_get xs (length found) ≡ Some x → get x ≡ Some v → v ≡ value x → AreFound value get xs (found ++ v ∷ [])

-- the next name, if it has no cell, is the first that has none
abbrev pub FoundMissing : Type 0 → Type 0 → Type 0
FoundMissing T V = (value : T → V) (get : T → Option V) (xs : List T) (found : List V) → AreFound value get xs found
    → (x : T) → slice_get xs (length found) ≡ Some x → get x ≡ None → first_absent get xs ≡ Some x

-- where no name is left, all have cells, and the values of all are found
abbrev pub FoundAll : Type 0 → Type 0 → Type 0
FoundAll T V = (value : T → V) (get : T → Option V) (xs : List T) (found : List V) → AreFound value get xs found
    → slice_get xs (length found) ≡ None → (first_absent get xs ≡ None) × (found ≡ map value xs)

-- what was found stays found where cells are only added, so that a name on the stack need not begin anew
abbrev pub FoundStays : Type 0 → Type 0 → Type 0
FoundStays T V = (value : T → V) (old new : T → Option V) (xs : List T) (found : List V) → AreFound value old xs found → Grown old new → AreFound value new xs found

-- over cells that hold their names' values the machine starts with an empty stack
abbrev pub MachineStarts : Type 0 → Type 0 → Type 0
MachineStarts T V = (d : Demand T V) (old : T → Option V) (limit : ℕ) → Holds d.value old → RunFor d old old [] limit 0

-- a push of the first missing input keeps the run, and brings it nearer to its end
abbrev pub MachinePushes : Type 0 → Type 0 → Type 0
MachinePushes T V = (d : Demand T V) (old new : T → Option V) (stack : List T) (limit count : ℕ) (i : T)
    → RunFor d old new stack limit count → first_absent new (waits d.system d.names stack) ≡ Some i
    → RunFor d old new (i ∷ stack) limit count × (left_of d old (i ∷ stack) count < left_of d old stack count)

-- so does the fill of a name whose inputs all have cells, with its value
abbrev pub MachineFills : Type 0 → Type 0 → Type 0
MachineFills T V = (d : Demand T V) (old new later : T → Option V) (x : T) (rest : List T) (limit count : ℕ)
    → RunFor d old new (x ∷ rest) limit count → first_absent new (d.system.inputs x) ≡ None → Puts d.system.same new later x (d.value x) → count < limit
    → RunFor d old later rest limit (count + 1) × (left_of d old rest (count + 1) < left_of d old (x ∷ rest) count)

-- the name on top has no cell yet, so that it may be filled
abbrev pub MachineFillsNew : Type 0 → Type 0 → Type 0
MachineFillsNew T V = (d : Demand T V) (old new : T → Option V) (x : T) (rest : List T) (limit count : ℕ)
    → RunFor d old new (x ∷ rest) limit count → new x ≡ None

-- a name that is ready to fill shows that more are missing than were filled
abbrev pub MachineHasMore : Type 0 → Type 0 → Type 0
MachineHasMore T V = (d : Demand T V) (old new : T → Option V) (x : T) (rest : List T) (limit count : ℕ)
    → RunFor d old new (x ∷ rest) limit count → first_absent new (d.system.inputs x) ≡ None → count < length (missing_of d.system old d.names)

-- with an empty stack and no demanded name missing, all that was missing is filled
abbrev pub MachineEnds : Type 0 → Type 0 → Type 0
MachineEnds T V = (d : Demand T V) (old new : T → Option V) (limit count : ℕ)
    → RunFor d old new [] limit count → first_absent new d.names ≡ None → count ≡ length (missing_of d.system old d.names)

-- wherever it stops, the cells are the old ones and the first of the missing, so many, each with its value
abbrev pub MachineLeaves : Type 0 → Type 0 → Type 0
MachineLeaves T V = (d : Demand T V) (old new : T → Option V) (stack : List T) (limit count : ℕ)
    → RunFor d old new stack limit count → Leaves d.system d.value d.names old new limit count

-- no name leads back to itself along the edges turned round
abbrev pub TurnedIsAcyclic : Type 0 → Type 0
TurnedIsAcyclic T = (s : System T) → IsAcyclic s → (users : T → List T) (peak : ℕ) → AreUsers s users peak → IsAcyclic (turned s users peak)

-- the order of a demand for the touched names, along the edges turned round, is a plan of removal
abbrev pub TurnedOrderIsPlan : Type 0 → Type 0
TurnedOrderIsPlan T = (s : System T) → IsAcyclic s → (users : T → List T) (peak : ℕ) → AreUsers s users peak → (touched : List T) → IsPlan s users peak touched (order (turned s users peak) touched)

-- a closed set without a plan's names is closed
abbrev pub RestIsClosed : Type 0 → Type 0
RestIsClosed T = (s : System T) (users : T → List T) (peak : ℕ) (touched plan : List T) → IsPlan s users peak touched plan → (kept : T → Bool) → IsClosed s kept → IsClosed s (without s kept plan)

-- the cells and their dependents are a system of their own, in which no name leads back to itself
abbrev pub WithinIsAcyclic : Type 0 → Type 0
WithinIsAcyclic T = (s : System T) (cells : T → Bool) → IsAcyclic s → IsAcyclic (within s cells)

-- the dependents are its users
abbrev pub DependentsAreUsers : Type 0 → Type 0
DependentsAreUsers T = (s : System T) (cells : T → Bool) (users : T → List T) (peak : ℕ) → AreDependents s cells users peak → AreUsers (within s cells) users peak

-- every list of cells has dependents
abbrev pub ListsHaveDependents : Type 0 → Type 0
ListsHaveDependents T = (s : System T) → IsAcyclic s → (xs : List T) → (users : T → List T) × (peak : ℕ) × AreDependents s (member s.same xs) users peak

-- demands one after another fill what one demand for all their names fills, in the same order
abbrev pub TurnsAreOneDemand : Type 0 → Type 0
TurnsAreOneDemand T = (s : System T) → IsAcyclic s → (kept : T → Bool) (xss : List (List T)) → missing_in_turn s kept xss ≡ fill_all s kept [] (all_demanded xss)

-- so, of a closed set, each name that some of them needs and that was not kept, and no other, once: so many are filled in all
abbrev pub TurnsAreUnion : Type 0 → Type 0
TurnsAreUnion T = (s : System T) → IsAcyclic s → (kept : T → Bool) → IsClosed s kept → (xss : List (List T))
    → IsDistinct s.same (missing_in_turn s kept xss) × ((x : T) → (member s.same (missing_in_turn s kept xss) x ≡ true) ↔ (Needed s (all_demanded xss) x × (kept x ≡ false)))
