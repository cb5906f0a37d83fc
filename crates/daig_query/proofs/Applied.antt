-- What a name stores whose row is no fixed point, and whose inputs all are states.
use Rattle.std.proofs.Common.{◌≡◌, ◌≢◌, ℕ, ◌<◌, List, map, take, length, Option, Some, None, IsSome, slice_get, sym, ap, ap₂, subst, ◌∙◌}
use Rattle.std.specs.Prelude.{IfSome, is_some}
use Rattle.domain_laws.specs.Operations.{Operations}
use Rattle.batch_meaning.specs.Values as batch
use Rattle.cell_names.specs.declared.frame.Point.{Point}
use Rattle.cell_names.specs.Paths.{CellName}
use Rattle.cell_rows.specs.Cells.{Cell, cell, asks_row, operation_row}
use Rattle.imp_flow.specs.Plans.{Plan}
use Rattle.imp_flow_rows.specs.declared.row.Row.{Row}
use Rattle.imp_flow_rows.specs.declared.row.Row.TheVariants.{Fixed}
use Rattle.daig_graph.specs.declared.value.Value.TheVariants.{State}
use Rattle.loop_unroll.specs.Iterates.{iterate_of, state_in}
use Rattle.daig_query.specs.declared.held.Held.{Held}
use Rattle.daig_query.specs.declared.opening.Open.{Open}
use Rattle.daig_query.specs.declared.store.Store.{Store}
use Rattle.daig_query.specs.Kept.{IsValue}
use Rattle.daig_query.specs.Made.{row_result, index_in, alone_in, number, state_at}
use Rattle.daig_query.specs.Overs.{HasNoOver}
use Rattle.cell_graph.specs.Asked.{inputs}
use Rattle.daig_query.specs.Right.{found}
use Rattle.daig_query.specs.Opened.{IsReady}
use Rattle.daig_query.proofs.Asked.{X, I, F, r, law, asks}
use Rattle.daig_query.proofs.Computed.{known, Made, result, alone, row_made, Holds, holds}
use Rattle.daig_query.proofs.Filling.{front_is_all}
use Rattle.std.proofs.lemmas.Option.{same_Some}

module _ {S : Type 0} (dom : Operations S) (plan : Plan) (store : Store S) (row : Row) (o : Open) (ready : IsReady dom plan store row o) (states : HasNoOver store.graph.cells o.inputs (length o.inputs)) (plain : (n : ℕ) (p : Point) → row ≢ Fixed n p) where
  abbrev all : List CellName
  all = I dom plan store row o ready.at

  abbrev value : CellName → Cell S
  value = F dom plan store row o ready.at

  fronted : take (length o.inputs) all ≡ all
  fronted = front_is_all dom plan store row o ready

  here : Holds store.states store.graph.cells o.inputs (map value all)
  here = subst (λ xs. Holds store.states store.graph.cells o.inputs (map value xs)) fronted (holds dom plan store ready.at.right o.inputs (take (length o.inputs) all) ready.at.entry.numbers ready.at.entry.cells states)

  made : Made store.states dom plan.engine row (X dom plan store row o ready.at).path here.held (map value all)
  made = row_made store.states dom plan.engine row plain (X dom plan store row o ready.at).path here.held (map value all) here.are (
      ap (λ xs. asks_row dom plan.engine (r dom plan store row o ready.at) (map value xs)) (sym fronted) ∙ asks dom plan store row o ready.at (length o.inputs) ready.at.entry.within ∙ ready.complete
      )

  value_is : value (X dom plan store row o ready.at) ≡ operation_row dom plan.engine (r dom plan store row o ready.at) (map value all)
  unfolding inputs found
  value_is = (law dom plan store row o ready.at).value

  module _ (left right : Option Held) (at_left : left ≡ state_in (iterate_of store.graph.cells o.inputs 0)) (at_right : right ≡ state_in (iterate_of store.graph.cells o.inputs 1)) where
    left_is : left ≡ slice_get here.held 0
    left_is = at_left ∙ here.at 0

    right_is : right ≡ slice_get here.held 1
    right_is = at_right ∙ here.at 1

    known_at : (h : Option Held) (i : ℕ) → h ≡ slice_get here.held i → IfSome (number h) (λ n. n < length store.states)
    known_at h i e = subst (λ x. IfSome (number x) (λ n. n < length store.states)) (sym e) (known store.states here.are i)

    pub known_left : IfSome (number left) (λ n. n < length store.states)
    known_left = known_at left 0 left_is

    pub known_right : IfSome (number right) (λ n. n < length store.states)
    known_right = known_at right 1 right_is

    same_alone : alone_in row left right ≡ alone_in row (slice_get here.held 0) (slice_get here.held 1)
    same_alone = ap₂ (alone_in row) left_is right_is

    abbrev results : Option S
    results = row_result dom row (state_at store.states (number left)) (state_at store.states (number right))

    same_results : results ≡ row_result dom row (state_at store.states (number (slice_get here.held 0))) (state_at store.states (number (slice_get here.held 1)))
    same_results = ap₂ (λ a b. row_result dom row (state_at store.states (number a)) (state_at store.states (number b))) left_is right_is

    same_index : index_in row left ≡ index_in row (slice_get here.held 0)
    same_index = ap (index_in row) left_is

    -- a join's left input alone
    pub alone_value : (h : Held) → alone_in row left right ≡ Some h → IsValue store.states (State (record { state = h.state; index = index_in row left })) (value (X dom plan store row o ready.at))
    alone_value h e = by made
      where
        by : Made store.states dom plan.engine row (X dom plan store row o ready.at).path here.held (map value all) → IsValue store.states (State (record { state = h.state; index = index_in row left })) (value (X dom plan store row o ready.at))
        by (result t a b none) = let c : Some h ≡ None = sym e ∙ same_alone ∙ none in absurd cc
        by (alone g s some a b) =
            let gh : g ≡ h = same_Some g h (sym some ∙ sym same_alone ∙ e) in (
              s,
              ap (λ (x : Held). slice_get store.states x.state) (sym gh) ∙ a,
              value_is ∙ b ∙ ap (cell (batch.State s)) (sym same_index),
            )

    -- else there is a result, ..
    pub there : alone_in row left right ≡ None → IsSome results
    there e = by made
      where
        by : Made store.states dom plan.engine row (X dom plan store row o ready.at).path here.held (map value all) → IsSome results
        by (result t a b none) = ap is_some (same_results ∙ a)
        by (alone g s some a b) = let c : Some g ≡ None = sym some ∙ sym same_alone ∙ e in absurd cc

    -- .. which is the name's value
    pub result_value : alone_in row left right ≡ None → (later : List S) (m : ℕ) → slice_get later m ≡ results → IsValue later (State (record { state = m; index = index_in row left })) (value (X dom plan store row o ready.at))
    result_value e later m is = by made
      where
        by : Made store.states dom plan.engine row (X dom plan store row o ready.at).path here.held (map value all) → IsValue later (State (record { state = m; index = index_in row left })) (value (X dom plan store row o ready.at))
        by (result t a b none) = (t, is ∙ same_results ∙ a, value_is ∙ b ∙ ap (cell (batch.State t)) (sym same_index))
        by (alone g s some a b) = let c : Some g ≡ None = sym some ∙ sym same_alone ∙ e in absurd cc
