-- The theorems, for names of any type T and values of any type V.
use Rattle.std.specs.Prelude.{◌≡◌, ℕ, ◌≤◌, List, map, take, length, slice_get, Option}
use Rattle.daig_order.specs.Asking.{Rows, AreRows, inputs_of, value_of}
use Rattle.daig_order.specs.Found.{AreFound}
use Rattle.daig_traces.specs.Traces.{IsTrace}

-- a name's inputs, their values and its own are a trace
abbrev pub NamesHaveTraces : Type 0 → Type 0 → Type 0
NamesHaveTraces T V = (t : Rows T V) → AreRows t → (x : T) → IsTrace t x (inputs_of t x) (map (value_of t) (inputs_of t x)) (value_of t x)

-- where the first k values of a trace are its names' own, the name's first k inputs are those of the trace, and so is the next
abbrev pub TracesLead : Type 0 → Type 0 → Type 0
TracesLead T V = (t : Rows T V) → AreRows t → (x : T) (xs : List T) (vs : List V) (v : V) → IsTrace t x xs vs v
    → (k : ℕ) → k ≤ length xs → take k vs ≡ map (value_of t) (take k xs)
    → (take k (inputs_of t x) ≡ take k xs) × (slice_get (inputs_of t x) k ≡ slice_get xs k)

-- where all are, the trace has the name's inputs and its value
abbrev pub TracesTell : Type 0 → Type 0 → Type 0
TracesTell T V = (t : Rows T V) → AreRows t → (x : T) (xs : List T) (vs : List V) (v : V) → IsTrace t x xs vs v
    → vs ≡ map (value_of t) xs → (inputs_of t x ≡ xs) × (value_of t x ≡ v)

-- a trace is one of another program too, where the row there asks for the same by these values, and makes the same of them
abbrev pub TracesMove : Type 0 → Type 0 → Type 0
TracesMove T V = (t u : Rows T V) (x : T) (xs : List T) (vs : List V) (v : V) → IsTrace t x xs vs v
    → ((k : ℕ) → k ≤ length xs → u.asks x (take k vs) ≡ t.asks x (take k vs)) → u.operation x vs ≡ t.operation x vs
    → IsTrace u x xs vs v

-- where the values found of a name's inputs are the first k of a trace, its next input is the next name of the trace
abbrev pub FoundLead : Type 0 → Type 0 → Type 0
FoundLead T V = (t : Rows T V) → AreRows t → (get : T → Option V) (x : T) (xs : List T) (vs : List V) (v : V) → IsTrace t x xs vs v
    → (k : ℕ) → k ≤ length xs → AreFound (value_of t) get (inputs_of t x) (take k vs) → slice_get (inputs_of t x) k ≡ slice_get xs k

-- where they are all of the trace's, so is its value
abbrev pub FoundTell : Type 0 → Type 0 → Type 0
FoundTell T V = (t : Rows T V) → AreRows t → (get : T → Option V) (x : T) (xs : List T) (vs : List V) (v : V) → IsTrace t x xs vs v
    → AreFound (value_of t) get (inputs_of t x) vs → (inputs_of t x ≡ xs) × (value_of t x ≡ v)
