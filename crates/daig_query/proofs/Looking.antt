-- Looking for the inputs of a name: stores with one more name.
use Rattle.std.proofs.Common.{◌≡◌, ℕ, suc, ◌+◌, ◌-◌, ◌<◌, ◌≤◌, List, [], ◌∷◌, ◌++◌, take, length, Option, Some, None, true, false, IsSome, option_map, slice_get, refl, sym, ap, subst, ◌∙◌, arith}
use Rattle.std.specs.Prelude.{is_some, reverse}
use Rattle.std.specs.FinMap.{get}
use Rattle.std.proofs.lemmas.List.{length-append}
use Rattle.std.proofs.lemmas.Option.{slice_get_within, same_Some}
use Rattle.domain_laws.specs.Operations.{Operations}
use Rattle.daig_order.specs.Order.{member}
use Rattle.cell_names.specs.declared.path.Name.{Name}
use Rattle.cell_names.specs.Known.{Known, KeepsNumbers, IsOnce, Adds}
use Rattle.cell_names.specs.Paths.{CellName, name_in}
use Rattle.cell_rows.specs.Claims.{HasName}
use Rattle.cell_rows.proofs.Answered.{valued, unvalued}
use Rattle.cell_rows.proofs.FlatOnce.{all_fine, flat_once}
use Rattle.cell_rows.proofs.Package.{inputs_have}
use Rattle.cell_rows.proofs.TotalRows.{total_inputs}
use Rattle.imp_flow.specs.Plans.{Plan}
use Rattle.imp_flow_rows.specs.declared.row.Row.{Row}
use Rattle.daig_graph.specs.Cells.{Filled}
use Rattle.daig_graph.specs.declared.value.Value.{Value}
use Rattle.daig_graph.specs.declared.value.Value.TheVariants.{State, Over}
use Rattle.loop_unroll.specs.Iterates.{state_in, value_at}
use Rattle.daig_query.specs.declared.held.Held.{Held}
use Rattle.daig_query.specs.declared.opening.Open.{Open}
use Rattle.daig_query.specs.declared.store.Store.{Store}
use Rattle.cell_graph.specs.Same.{same_name}
use Rattle.cell_graph.specs.Named.{AreNumbers}
use Rattle.daig_query.specs.Kept.{Cells, kept, Names}
use Rattle.cell_graph.specs.Asked.{inputs}
use Rattle.daig_query.specs.Right.{IsRight}
use Rattle.daig_query.specs.Opened.{name_of, IsRowOf, IsOpen, next_of, IsAt, IsFurther, IsNext}
use Rattle.cell_graph.proofs.Same.{same_is}
use Rattle.daig_query.proofs.Growing.{keeps_same, keeps_trans, names_grow, name_stays, right_named, open_grows, next_grows}
use Rattle.cell_graph.proofs.Numbers.{adds_here, adds_keeps, adds_once, filled_number, numbers_push, at_member}
use Rattle.daig_query.proofs.Walks.{pushed_there}
use Rattle.base_values.proofs.Lists.{take_next}

-- a store in which one more name has a number
pub record Named {S : Type 0} (old new : Store S) (y : CellName) (x : Name) (cell : ℕ) : Type 0 where
  pub names : Names old new
  pub once : IsOnce new.names.names
  pub path : x.path < length new.names.paths
  pub is : name_in new.names.paths x ≡ y
  pub number : slice_get new.names.names cell ≡ Some y

pub named_by : {S : Type 0} (old new : Store S) (mid : Known) (x : Name) (cell : ℕ) (y : CellName) → IsOnce old.names.names → KeepsNumbers old.names.paths mid.paths → mid.names ≡ old.names.names → name_in mid.paths x ≡ y → x.path < length mid.paths →
    Adds mid.names new.names.names (name_in mid.paths x) cell → new.names.paths ≡ mid.paths → new.states ≡ old.states → new.operations ≡ old.operations → new.memo ≡ old.memo → new.recent ≡ old.recent → new.stale ≡ old.stale → new.graph ≡ old.graph → Named old new y x cell
named_by old new mid x cell y once keeps same is path adds paths states operations memo recent stale graph = record {
  names = record {
    paths = keeps_trans old.names.paths mid.paths new.names.paths keeps (keeps_same mid.paths new.names.paths paths);
    names = keeps_trans old.names.names mid.names new.names.names (keeps_same old.names.names mid.names same) (adds_keeps mid.names new.names.names (name_in mid.paths x) cell adds);
    states = states;
    operations = operations;
    memo = memo;
    recent = recent;
    stale = stale;
    graph = graph;
  };
  once = adds_once mid.names new.names.names (name_in mid.paths x) cell adds (subst IsOnce (sym same) once);
  path = subst (λ ps. x.path < length ps) (sym paths) path;
  is = ap (λ ps. name_in ps x) paths ∙ is;
  number = adds_here mid.names new.names.names (name_in mid.paths x) cell adds ∙ ap Some is;
}

-- what is read of a cell
pub record IsHeld (cells : Cells) (cell : ℕ) (h : Held) : Type 0 where
  pub filled : Filled Held
  pub there : get cells cell ≡ Some filled
  pub value : filled.value ≡ State h

pub record IsOverAt (cells : Cells) (cell : ℕ) : Type 0 where
  pub filled : Filled Held
  pub number : ℕ
  pub chain : List ℕ
  pub there : get cells cell ≡ Some filled
  pub value : filled.value ≡ Over number chain

pub held_read : (cells : Cells) (cell : ℕ) (h : Held) → state_in (value_at cells cell) ≡ Some h → IsHeld cells cell h
held_read cells cell h e = go (get cells cell) refl e
  where
    go : (o : Option (Filled Held)) → get cells cell ≡ o → state_in (option_map (λ f. f.value) o) ≡ Some h → IsHeld cells cell h
    go None k q = absurd cc
    go (Some f) k q = by f.value refl
      where
        by : (v : Value Held) → f.value ≡ v → IsHeld cells cell h
        by (State g) w =
            let r : Some g ≡ Some h = sym (ap (λ v. state_in (Some v)) w) ∙ q in
            record { filled = f; there = k; value = w ∙ ap State (same_Some g h r) }
        by (Over m chain) w =
            let r : None ≡ Some h = sym (ap (λ v. state_in (Some v)) w) ∙ q in
            absurd cc

pub over_read : (cells : Cells) (cell : ℕ) → IsSome (get cells cell) → state_in (value_at cells cell) ≡ None → IsOverAt cells cell
over_read cells cell s e = go (get cells cell) refl s e
  where
    go : (o : Option (Filled Held)) → get cells cell ≡ o → IsSome o → state_in (option_map (λ f. f.value) o) ≡ None → IsOverAt cells cell
    go None k s q = absurd cc
    go (Some f) k s q = by f.value refl
      where
        by : (v : Value Held) → f.value ≡ v → IsOverAt cells cell
        by (State g) w =
            let r : Some g ≡ None = sym (ap (λ v. state_in (Some v)) w) ∙ q in
            absurd cc
        by (Over m chain) w = record { filled = f; number = m; chain = chain; there = k; value = w }

module _ {S : Type 0} (dom : Operations S) (plan : Plan) where
  -- the inputs of a name of the program are names of it
  pub input_named : (store : Store S) → IsRight dom plan store → (x y : CellName) → HasName plan.engine plan.program x → member same_name (inputs dom plan x) y ≡ true → HasName plan.engine plan.program y
  unfolding inputs
  input_named store right x y h m =
      let program = plan.program in
      let engine = plan.engine in
      let k = valued dom engine program right.checked x h in
      let e = total_inputs dom engine (reverse program) (all_fine program right.checked) (flat_once program right.checked) same_name same_is x k in
      unvalued dom engine program right.checked y (inputs_have dom engine (reverse program) (all_fine program right.checked) same_name same_is x y k (subst (λ xs. member same_name xs y ≡ true) e m))

  -- one more of the inputs of a name is found, the next one
  pub open_longer : (store : Store S) (o : Open) (y : CellName) (cell : ℕ) → IsOpen dom plan store o → next_of dom plan store o ≡ Some y → slice_get store.names.names cell ≡ Some y → IsSome (get store.graph.cells cell) →
      IsOpen dom plan store (record { cell = o.cell; name = o.name; inputs = o.inputs ++ cell ∷ [] })
  open_longer store o y cell opened next number s = record {
    path = opened.path;
    number = opened.number;
    named = opened.named;
    within = subst (λ k. k ≤ length all) (sym long) (let w : length o.inputs < length all = slice_get_within all (length o.inputs) y next in omega arith);
    numbers = subst (λ k. AreNumbers store.names.names (o.inputs ++ cell ∷ []) (take k all)) (sym long) (
        subst (λ zs. AreNumbers store.names.names (o.inputs ++ cell ∷ []) zs) (sym (take_next all (length o.inputs) y next)) (
        numbers_push store.names.names o.inputs (take (length o.inputs) all) cell y opened.numbers number
        )
        );
    cells = pushed_there dom plan [] store o.inputs cell opened.cells s;
  }
    where
      all : List CellName
      all = inputs dom plan (name_of store o)

      long : length (o.inputs ++ cell ∷ []) ≡ suc (length o.inputs)
      long = length-append o.inputs (cell ∷ []) ∙ (let e : length o.inputs + 1 ≡ suc (length o.inputs) = omega arith in e)

  -- a name that is being filled stays so where names are added
  pub at_named : (old new : Store S) → IsRight dom plan new → Names old new → (row : Row) (o : Open) → IsAt dom plan old row o → IsAt dom plan new row o
  at_named old new right names row o at = record {
    right = right;
    entry = open_grows dom plan old new (names_grow old new names) o at.entry;
    its_row = subst (λ z. IsRowOf plan z row) (sym (name_stays old new names.paths o at.entry.path)) at.its_row;
  }

  -- it is further then, after more of its inputs were found
  pub further : (old new : Store S) → IsRight dom plan new → Names old new → (row : Row) (start o : Open) → o.cell ≡ start.cell → o.name ≡ start.name → IsAt dom plan old row o →
      (inputs_now : List ℕ) → inputs_now ≡ o.inputs → IsFurther dom plan new row start (record { cell = o.cell; name = o.name; inputs = inputs_now })
  further old new right names row start o c n at inputs_now same = record {
    at = subst (λ xs. IsAt dom plan new row (record { cell = o.cell; name = o.name; inputs = xs })) (sym same) (at_named old new right names row o at);
    cell = c;
    name = n;
  }

  module _ (old new : Store S) (right : IsRight dom plan old) (y : CellName) (x : Name) (cell : ℕ) (named : Named old new y x cell) where
    pub later : IsRight dom plan new
    later = right_named dom plan old new right named.names named.once

    -- a name without inputs yet
    pub fresh : HasName plan.engine plan.program y → IsOpen dom plan new (record { cell = cell; name = x; inputs = [] })
    fresh has = record {
      path = named.path;
      number = named.number ∙ ap Some (sym named.is);
      named = subst (λ z. HasName plan.engine plan.program z) (sym named.is) has;
      within = omega arith;
      numbers = refl;
      cells = λ i n e. absurd cc;
    }

    -- where its number has no cell, it has none
    pub is_absent : get new.graph.cells cell ≡ None → kept new (name_in new.names.paths x) ≡ false
    is_absent e = ap is_some (filled_number new.graph.cells new.names.names named.once (name_in new.names.paths x) cell (named.number ∙ ap Some (sym named.is)) ∙ e)

    module _ (row : Row) (o : Open) (at : IsAt dom plan old row o) (next : next_of dom plan old o ≡ Some y) where
      same : name_of new o ≡ name_of old o
      same = name_stays old new named.names.paths o at.entry.path

      pub at_later : IsAt dom plan new row o
      at_later = record {
        right = later;
        entry = open_grows dom plan old new (names_grow old new named.names) o at.entry;
        its_row = subst (λ z. IsRowOf plan z row) (sym same) at.its_row;
      }

      pub next_later : next_of dom plan new o ≡ Some y
      next_later = next_grows dom plan old new (names_grow old new named.names) o at.entry ∙ next

      has : HasName plan.engine plan.program y
      has = input_named old right (name_of old o) y at.entry.named (at_member (inputs dom plan (name_of old o)) (length o.inputs) y next)

      -- the next input has no cell
      pub finds : get new.graph.cells cell ≡ None → IsNext dom plan new o (Some (record { cell = cell; name = x; inputs = [] }))
      finds none = (next_later ∙ ap Some (sym named.is), fresh has, is_absent none)

      -- the next input has one
      pub more : (m : Open) → m.cell ≡ o.cell → m.name ≡ o.name → m.inputs ≡ o.inputs ++ cell ∷ [] → IsSome (get new.graph.cells cell) → IsAt dom plan new row m
      more m c n i s =
          let it : m ≡ record { cell = o.cell; name = o.name; inputs = o.inputs ++ cell ∷ [] } = open_same m c n i in
          subst (λ v. IsAt dom plan new row v) (sym it) (record { right = later; entry = longer; its_row = at_later.its_row })
        where
          open_same : (m : Open) → m.cell ≡ o.cell → m.name ≡ o.name → m.inputs ≡ o.inputs ++ cell ∷ [] → m ≡ record { cell = o.cell; name = o.name; inputs = o.inputs ++ cell ∷ [] }
          open_same m c n i =
              let make : ℕ → Name → List ℕ → Open = λ a b d. record { cell = a; name = b; inputs = d } in
              ap (λ a. make a m.name m.inputs) c ∙ ap (λ b. make o.cell b m.inputs) n ∙ ap (λ d. make o.cell o.name d) i

          longer : IsOpen dom plan new (record { cell = o.cell; name = o.name; inputs = o.inputs ++ cell ∷ [] })
          longer = open_longer new o y cell at_later.entry next_later named.number s

      -- so fewer are left to be found
      pub fewer : (m : Open) → m.name ≡ o.name → m.inputs ≡ o.inputs ++ cell ∷ [] → length (inputs dom plan (name_of new m)) - length m.inputs < length (inputs dom plan (name_of old o)) - length o.inputs
      fewer m n i =
          let same_all : length (inputs dom plan (name_of new m)) ≡ length (inputs dom plan (name_of old o)) = ap (λ z. length (inputs dom plan (name_in new.names.paths z))) n ∙ ap (λ z. length (inputs dom plan z)) same in
          let long : length m.inputs ≡ length o.inputs + 1 = ap length i ∙ length-append o.inputs (cell ∷ []) in
          let w : length o.inputs < length (inputs dom plan (name_of old o)) = slice_get_within (inputs dom plan (name_of old o)) (length o.inputs) y next in
          omega arith
