-- What cells read and hold is a trace of their names, and what a trace tells of names whose inputs are read again.
use Rattle.std.proofs.Common.{◌≡◌, ℕ, zero, suc, ◌≤◌, List, [], ◌∷◌, map, take, length, reverse, Option, Some, slice_get, refl, sym, ap, ap₂, subst, ◌∙◌, arith}
use Rattle.std.proofs.lemmas.Option.{same_Some, slice_get_past}
use Rattle.domain_laws.specs.Operations.{Operations}
use Rattle.batch_meaning.specs.Values as plain
use Rattle.daig_order.specs.Asking.{Rows, AreRows}
use Rattle.daig_traces.proofs.TraceLemmas.{names_have_traces, traces_lead, traces_tell}
use Rattle.cell_names.specs.Paths.{CellName}
use Rattle.cell_rows.specs.Cells.{Cell, cell}
use Rattle.cell_rows.specs.Claims.{rows_of}
use Rattle.cell_rows.proofs.FlatOnce.{all_fine, flat_once}
use Rattle.cell_rows.proofs.TotalRows.{is_total}
use Rattle.imp_flow.specs.Plans.{Plan}
use Rattle.daig_graph.specs.declared.value.Value.TheVariants.{State}
use Rattle.loop_unroll.specs.Iterates.{state_in, value_at}
use Rattle.cell_graph.specs.Asked.{inputs}
use Rattle.cell_graph.specs.Named.{AreNumbers}
use Rattle.cell_graph.specs.Same.{same_name}
use Rattle.cell_graph.proofs.Numbers.{numbers_get, numbers_length}
use Rattle.cell_graph.proofs.Same.{same_is}
use Rattle.daig_query.specs.declared.held.Held.{Held}
use Rattle.daig_query.specs.declared.opening.Open.{Open}
use Rattle.daig_query.specs.declared.stale.Read.{Read}
use Rattle.daig_query.specs.declared.stale.StaleCell.{StaleCell}
use Rattle.daig_query.specs.declared.store.Store.{Store}
use Rattle.daig_query.specs.Kept.{IsValue}
use Rattle.daig_query.specs.Opened.{name_of, IsOpen}
use Rattle.daig_query.specs.Revalidated.{IsNextRead, IsValid}
use Rattle.daig_query.specs.Right.{found, IsRight}
use Rattle.daig_query.specs.Stale.{cells_read, held_read, stale_at, IsReadBy}
use Rattle.daig_query.specs.Traced.{AreValues, IsStaleOf}
use Rattle.daig_query.proofs.Found.{stored}
use Rattle.daig_query.proofs.Sweeping.{holder}

-- a state that is held is one value
same_value : {S : Type 0} (states : List S) (h : Held) (v w : Cell S) → IsValue states (State h) v → IsValue states (State h) w → v ≡ w
same_value states h v w (s, at, e) (t, there, f) = e ∙ ap (λ u. cell (plain.State u) h.index) (same_Some s t (sym at ∙ there)) ∙ sym f

-- what cells hold that have these names, where each holds its name's value
module _ {S : Type 0} (names : List CellName) (states : List S) (value : CellName → Cell S) (at : ℕ → Option Held)
    (own : (n : ℕ) (h : Held) (x : CellName) → slice_get names n ≡ Some x → at n ≡ Some h → IsValue states (State h) (value x)) where
  values_read : (ns : List ℕ) (hs : List Held) (xs : List CellName) → AreNumbers names ns xs → map at ns ≡ map Some hs → AreValues states hs (map value xs)
  values_read [] [] [] e f = tt
  values_read [] [] (x ∷ xs) e f = absurd cc
  values_read [] (h ∷ hs) xs e f = absurd cc
  values_read (n ∷ ns) [] xs e f = absurd cc
  values_read (n ∷ ns) (h ∷ hs) [] e f = absurd cc
  values_read (n ∷ ns) (h ∷ hs) (x ∷ xs) e f =
      let number : slice_get names n ≡ Some x = cc in
      let rest : AreNumbers names ns xs = cc in
      let holds : at n ≡ Some h = cc in
      let more : map at ns ≡ map Some hs = cc in
      (own n h x number holds, values_read ns hs xs rest more)

  -- the first values are those of their names where the first cells hold them
  own_front : (k : ℕ) (ns : List ℕ) (hs : List Held) (xs : List CellName) (vs : List (Cell S)) → AreNumbers names ns xs → AreValues states hs vs → take k (map at ns) ≡ take k (map Some hs) → take k vs ≡ map value (take k xs)
  own_front zero ns hs xs vs e are f = refl
  own_front (suc k) [] [] [] [] e are f = refl
  own_front (suc k) [] [] [] (v ∷ vs) e are f = absurd are
  own_front (suc k) [] [] (x ∷ xs) vs e are f = absurd cc
  own_front (suc k) [] (h ∷ hs) xs vs e are f = absurd cc
  own_front (suc k) (n ∷ ns) [] xs vs e are f = absurd cc
  own_front (suc k) (n ∷ ns) (h ∷ hs) [] vs e are f = absurd cc
  own_front (suc k) (n ∷ ns) (h ∷ hs) (x ∷ xs) [] e are f = absurd are
  own_front (suc k) (n ∷ ns) (h ∷ hs) (x ∷ xs) (v ∷ vs) e are f =
      let number : slice_get names n ≡ Some x = cc in
      let rest : AreNumbers names ns xs = cc in
      let holds : at n ≡ Some h = cc in
      let more : take k (map at ns) ≡ take k (map Some hs) = cc in
      ap₂ (λ w ws. w ∷ ws) (same_value states h v (value x) are.0 (own n h x number holds)) (own_front k ns hs xs vs rest are.1 more)

  -- all are where all do
  own_all : (ns : List ℕ) (hs : List Held) (xs : List CellName) (vs : List (Cell S)) → AreNumbers names ns xs → AreValues states hs vs → map at ns ≡ map Some hs → vs ≡ map value xs
  own_all [] [] [] [] e are f = refl
  own_all [] [] [] (v ∷ vs) e are f = absurd are
  own_all [] [] (x ∷ xs) vs e are f = absurd cc
  own_all [] (h ∷ hs) xs vs e are f = absurd cc
  own_all (n ∷ ns) [] xs vs e are f = absurd cc
  own_all (n ∷ ns) (h ∷ hs) [] vs e are f = absurd cc
  own_all (n ∷ ns) (h ∷ hs) (x ∷ xs) [] e are f = absurd are
  own_all (n ∷ ns) (h ∷ hs) (x ∷ xs) (v ∷ vs) e are f =
      let number : slice_get names n ≡ Some x = cc in
      let rest : AreNumbers names ns xs = cc in
      let holds : at n ≡ Some h = cc in
      let more : map at ns ≡ map Some hs = cc in
      ap₂ (λ w ws. w ∷ ws) (same_value states h v (value x) are.0 (own n h x number holds)) (own_all ns hs xs vs rest are.1 more)

module _ {S : Type 0} (dom : Operations S) (plan : Plan) (store : Store S) (right : IsRight dom plan store) where
  abbrev rows : Rows CellName (Cell S)
  rows = rows_of dom plan.engine plan.program same_name

  abbrev holds_at : ℕ → Option Held
  holds_at n = state_in (value_at store.graph.cells n)

  law : AreRows rows
  law = is_total dom plan.engine (reverse plan.program) (all_fine plan.program right.checked) (flat_once plan.program right.checked) same_name same_is

  -- a state that a cell holds is the value of its name
  held_value : (n : ℕ) (h : Held) (x : CellName) → slice_get store.names.names n ≡ Some x → holds_at n ≡ Some h → IsValue store.states (State h) (found dom plan x)
  held_value n h x number holds =
      let f = holder store.graph.cells n h holds in
      subst (λ v. IsValue store.states v (found dom plan x)) f.2 (stored dom plan store right n x f.0 number f.1).value

  -- what a cell read and holds is a trace
  pub cell_trace : (n : ℕ) (s : StaleCell) (x : CellName) → slice_get store.names.names n ≡ Some x → IsReadBy store.graph.cells n s → IsStaleOf dom plan store.names.names store.states x s
  unfolding inputs found
  cell_trace n s x number r =
      let is = stored dom plan store right n x r.filled number r.there in
      let numbers : AreNumbers store.names.names (cells_read s) (inputs dom plan x) = subst (λ ns. AreNumbers store.names.names ns (inputs dom plan x)) r.inputs is.inputs in
      record {
        xs = inputs dom plan x;
        vs = map (found dom plan) (inputs dom plan x);
        v = found dom plan x;
        inputs = numbers;
        values = values_read store.names.names store.states (found dom plan) holds_at held_value (cells_read s) (held_read s) (inputs dom plan x) numbers r.helds;
        value = subst (λ v. IsValue store.states v (found dom plan x)) r.value is.value;
        trace = names_have_traces rows law x;
      }

  -- A name that is being filled, whose cell is stale.
  module _ (o : Open) (opened : IsOpen dom plan store o) (s : StaleCell) (stale : stale_at store.stale o.cell ≡ Some s) where
    abbrev x : CellName
    x = name_of store o

    is_stale : IsStaleOf dom plan store.names.names store.states x s
    is_stale =
        let p = right.stale o.cell s stale in
        subst (λ y. IsStaleOf dom plan store.names.names store.states y s) (same_Some p.0 x (sym p.1 ∙ opened.number)) p.2

    many_read : length (cells_read s) ≡ length is_stale.xs
    many_read = numbers_length store.names.names (cells_read s) is_stale.xs is_stale.inputs

    -- where the cells before hold what was read, the next that was read is the next input's
    pub next_read : (k : ℕ) (r : Read) → slice_get (cells_read s) k ≡ Some r.cell → k ≤ length (cells_read s) → take k (map holds_at (cells_read s)) ≡ take k (map Some (held_read s)) → IsNextRead dom plan store o k r
    unfolding inputs found
    next_read k r at within holds many =
        let own = own_front store.names.names store.states (found dom plan) holds_at held_value k (cells_read s) (held_read s) is_stale.xs is_stale.vs is_stale.inputs is_stale.values holds in
        let leads = traces_lead rows law x is_stale.xs is_stale.vs is_stale.v is_stale.trace k (omega (arith, within, many_read)) own in
        let y = numbers_get store.names.names (cells_read s) is_stale.xs is_stale.inputs k r.cell at in
        (y.0, y.2, ap (slice_get (inputs dom plan x)) many ∙ leads.1 ∙ y.1)

    -- where all do, and all inputs are found, its value is what it held
    pub valid_again : length o.inputs ≡ length (cells_read s) → map holds_at (cells_read s) ≡ map Some (held_read s) → IsValid dom plan store o s.held
    unfolding inputs found
    valid_again many holds =
        let own = own_all store.names.names store.states (found dom plan) holds_at held_value (cells_read s) (held_read s) is_stale.xs is_stale.vs is_stale.inputs is_stale.values holds in
        let tells = traces_tell rows law x is_stale.xs is_stale.vs is_stale.v is_stale.trace own in
        let size = ap length tells.0 in
        record {
          complete = slice_get_past (inputs dom plan x) (length o.inputs) (omega (arith, many, many_read, size));
          value = subst (IsValue store.states (State s.held)) (sym tells.1) is_stale.value;
        }
