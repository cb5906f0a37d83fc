-- What is read from cells.
use Rattle.std.specs.Prelude.{◌≡◌, ℕ, List, [], ◌∷◌, map, reverse, Option, Some, None, option_map, slice_get}
use Rattle.std.specs.Option.{option_and_then}
use Rattle.imp_syntax.specs.declared.edit.Location.{Location}
use Rattle.imp_slots.specs.Plain.{Routine}
use Rattle.concrete_sem.specs.Values.{Variables, Heap}
use Rattle.concrete_sem.specs.Steps.{Config}
use Rattle.concrete_sem.specs.Reach.{top, Reach}
use Rattle.concrete_sem.specs.WellFormed.{variables_of}
use Rattle.imp_words.specs.declared.refusal.QueryRefusal.TheVariants.{NoChain}
use Rattle.domain_laws.specs.Operations.{Operations}
use Rattle.batch_meaning.specs.Values as plain
use Rattle.batch_meaning.specs.Answers.{Answer, Refuses, Answers}
use Rattle.call_contexts.specs.Joined.{joined}
use Rattle.cell_rows.specs.Targets.{Target}
use Rattle.daig_graph.specs.declared.value.Value.{Value}
use Rattle.daig_graph.specs.declared.value.Value.TheVariants.{State, Over}
use Rattle.loop_unroll.specs.Iterates.{value_at}
use Rattle.imp_flow.specs.Plans.{Plan}
use Rattle.daig_query.specs.declared.held.Held.{Held}
use Rattle.daig_query.specs.declared.store.Store.{Store}
use Rattle.daig_query.specs.declared.walk.Walk.{Walk}
use Rattle.daig_query.specs.Right.{IsRight}
use Rattle.daig_query.specs.Walked.{IsDone}

-- What is read says this answer: nothing where no chain is selected. A chain is read outermost first.
abbrev pub Says : {S : Type 0} → Answer S → Option (Value S) → Type 0
Says a None = a ≡ Refuses NoChain
Says a (Some (State s)) = a ≡ Answers (plain.State s)
Says a (Some (Over n chain)) = a ≡ Answers (plain.Over n (reverse chain))

-- A state that is read describes the last frame of each configuration that a run reaches there.
abbrev pub Covers : {S : Type 0} → (S → Heap → List Variables → Type 0) → List Routine → Location → (string : List ℕ) → Option (Value S) → Type 0
Covers covers program l string None = Unit {0}
Covers covers program l string (Some (State s)) = (c : Config) → Reach program l string c → covers s (top c).heap (variables_of (top c).frames)
Covers covers program l string (Some (Over n chain)) = Unit {0}

-- the value that a cell holds, if all of it is there
abbrev pub plain_value : {S : Type 0} → List S → Value Held → Option (plain.Value S)
plain_value states (State h) = option_map plain.State (slice_get states h.state)
plain_value states (Over n chain) = Some (plain.Over n (reverse chain))

abbrev pub value_in : {S : Type 0} → Store S → ℕ → Option (plain.Value S)
value_in store n = option_and_then (plain_value store.states) (value_at store.graph.cells n)

-- these cells hold these values
abbrev pub HoldValues : {S : Type 0} → Store S → List ℕ → List (plain.Value S) → Type 0
HoldValues store cells vs = map (value_in store) cells ≡ map Some vs

-- the join of states from left to right, each shed
abbrev pub joined_all : {S : Type 0} → Operations S → Option S → List S → Option S
joined_all dom o [] = o
joined_all dom o (s ∷ ss) = joined_all dom (Some (joined dom o s)) ss

-- For these targets nothing is missing.
pub record AreFilled {S : Type 0} (dom : Operations S) (store : Store S) (w : Walk) (plan : Plan) (ts : List Target) : Type 0 where
  pub right : IsRight dom plan store
  pub done : IsDone dom plan ts store w
