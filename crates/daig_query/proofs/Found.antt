-- What the cells of found inputs store.
use Rattle.std.proofs.Common.{◌≡◌, ℕ, ◌<◌, take, length, Option, Some, None, IsSome, slice_get, refl, sym, subst, ◌∙◌}
use Rattle.std.specs.FinMap.{get}
use Rattle.domain_laws.specs.Operations.{Operations}
use Rattle.cell_names.specs.Paths.{CellName}
use Rattle.imp_flow.specs.Plans.{Plan}
use Rattle.daig_graph.specs.Cells.{Filled}
use Rattle.loop_unroll.specs.Iterates.{iterate_of}
use Rattle.daig_query.specs.declared.held.Held.{Held}
use Rattle.daig_query.specs.declared.opening.Open.{Open}
use Rattle.daig_query.specs.declared.store.Store.{Store}
use Rattle.daig_query.specs.Kept.{IsValue}
use Rattle.cell_graph.specs.Asked.{inputs}
use Rattle.daig_query.specs.Right.{found, IsCellOf, IsRight}
use Rattle.daig_query.specs.Opened.{name_of, IsOpen}
use Rattle.daig_query.proofs.Lists.{get_take}
use Rattle.cell_graph.proofs.Numbers.{numbers_get}
use Rattle.std.proofs.lemmas.Option.{same_Some}
use Rattle.base_values.proofs.Lists.{get_some}

module _ {S : Type 0} (dom : Operations S) (plan : Plan) (store : Store S) (right : IsRight dom plan store) where
  -- the cell under a name's number stores the name's value
  pub stored : (n : ℕ) (x : CellName) (f : Filled Held) → slice_get store.names.names n ≡ Some x → get store.graph.cells n ≡ Some f → IsCellOf dom plan store x f
  stored n x f e h =
      let p = right.cells n f h in
      subst (λ y. IsCellOf dom plan store y f) (same_Some p.0 x (sym p.1 ∙ e)) p.2

  pub is_there : (n : ℕ) → IsSome (get store.graph.cells n) → (f : Filled Held) × (get store.graph.cells n ≡ Some f)
  is_there n s = go (get store.graph.cells n) refl s
    where
      go : (o : Option (Filled Held)) → get store.graph.cells n ≡ o → IsSome o → (f : Filled Held) × (get store.graph.cells n ≡ Some f)
      go None e s = absurd cc
      go (Some f) e s = (f, e)

  -- An input that is found: its number, its name, and what its cell stores.
  pub record Input (o : Open) (i : ℕ) (x : CellName) : Type 0 where
    pub number : ℕ
    pub at : slice_get o.inputs i ≡ Some number
    pub cell : Filled Held
    pub there : get store.graph.cells number ≡ Some cell
    pub value : IsValue store.states cell.value (found dom plan x)

  -- the value of the iterate of that place
  pub input_value : (o : Open) (i : ℕ) (x : CellName) (p : Input o i x) → iterate_of store.graph.cells o.inputs i ≡ Some p.cell.value
  input_value o i x p = rw (p.at, p.there) refl

  pub input_found : (o : Open) → IsOpen dom plan store o → (i : ℕ) → i < length o.inputs → (x : CellName) × (slice_get (inputs dom plan (name_of store o)) i ≡ Some x) × Input o i x
  input_found o opened i h =
      let n = get_some o.inputs i h in
      let p = numbers_get store.names.names o.inputs (take (length o.inputs) (inputs dom plan (name_of store o))) opened.numbers i n.0 n.1 in
      let c = is_there n.0 (opened.cells i n.0 n.1) in (
        p.0,
        sym (get_take (inputs dom plan (name_of store o)) (length o.inputs) i h) ∙ p.1,
        record { number = n.0; at = n.1; cell = c.0; there = c.1; value = (stored n.0 p.0 c.0 p.2 c.1).value },
      )
