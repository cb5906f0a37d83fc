-- The first input of a name, by its point alone: it is the next one, and has a cell or not.
use Rattle.std.proofs.Common.{◌≡◌, ℕ, ◌<◌, List, [], ◌∷◌, ◌++◌, length, Some, None, IsSome, slice_get, refl, sym, ap, subst, ◌∙◌, arith}
use Rattle.std.specs.FinMap.{get}
use Rattle.domain_laws.specs.Operations.{Operations}
use Rattle.cell_names.specs.declared.path.Name.{Name}
use Rattle.cell_names.specs.Known.{Known, Adds}
use Rattle.cell_names.specs.Paths.{CellName, name_in}
use Rattle.cell_rows.specs.Cells.{asks_row}
use Rattle.cell_rows.specs.Claims.{HasName}
use Rattle.cell_rows.specs.Rows as plain
use Rattle.cell_rows.proofs.Rowed.{has_row}
use Rattle.daig_demands.specs.Claims.{Answered}
use Rattle.daig_demands.proofs.Machine.{answered}
use Rattle.imp_flow.specs.Plans.{Plan}
use Rattle.imp_flow_rows.specs.Inputs.{first_of, BeginsWith}
use Rattle.cell_graph.specs.Asked.{inputs}
use Rattle.cell_graph.specs.Same.{same_name}
use Rattle.cell_graph.proofs.Numbers.{at_member}
use Rattle.cell_graph.proofs.Same.{same_is}
use Rattle.daig_query.specs.declared.opening.Open.{Open}
use Rattle.daig_query.specs.declared.store.Store.{Store}
use Rattle.daig_query.specs.Kept.{Names}
use Rattle.daig_query.specs.Right.{found, IsRight}
use Rattle.daig_query.specs.Opened.{name_of, next_of, row_at, IsNext, IsOpen, StaysOpen}
use Rattle.daig_query.proofs.Asking.{named_here}
use Rattle.daig_query.proofs.Growing.{names_grow, open_grows, next_grows}
use Rattle.daig_query.proofs.Looking.{Named, fresh, input_named, is_absent, open_longer}

module _ {S : Type 0} (dom : Operations S) (plan : Plan) where
  -- A row asks for its first input before any value is known.
  first_asked : (r : plain.Row) → asks_row dom plan.engine r [] ≡ first_of r
  first_asked (plain.Init layout) = refl
  first_asked (plain.One op a) = refl
  first_asked (plain.Two op a b) = refl
  first_asked (plain.Fixed n z w p) = refl
  first_asked (plain.Joins stays l n w p) = refl

  -- That is the next input of a name none of whose inputs is found.
  pub first_next : (store : Store S) → IsRight dom plan store → (o : Open) → IsOpen dom plan store o → length o.inputs ≡ 0 → (y : CellName) → BeginsWith (row_at plan (name_of store o)) y → next_of dom plan store o ≡ Some y
  unfolding inputs found
  first_next store right o opened none y begins =
      let x = name_of store o in
      let p = has_row plan.engine plan.program right.checked x opened.named in
      let law : Answered dom plan.engine plan.program same_name x p.0 = answered dom plan.engine plan.program same_name same_is right.checked x p.0 p.1 in
      ap (λ k. slice_get (inputs dom plan x) k) none ∙ (sym (law.next 0 (omega arith)) ∙ (first_asked p.0 ∙ begins p.0 p.1))

  -- A name that is being filled stays so where names are added.
  pub stays_named : (old new : Store S) → Names old new → (o : Open) → IsOpen dom plan old o → (ns : List ℕ) → ns ≡ o.inputs → StaysOpen dom plan new o (record { cell = o.cell; name = o.name; inputs = ns })
  stays_named old new names o opened ns same = record {
    entry = subst (λ zs. IsOpen dom plan new (record { cell = o.cell; name = o.name; inputs = zs })) (sym same) (open_grows dom plan old new (names_grow old new names) o opened);
    cell = refl;
    name = refl;
  }

  -- A name beside it, of the same path, gets a number.
  pub named_beside : (old : Store S) (later : Known) (x : Name) (cell : ℕ) → IsRight dom plan old → (o : Open) → IsOpen dom plan old o → x.path ≡ o.name.path → Adds old.names.names later.names (name_in old.names.paths x) cell → later.paths ≡ old.names.paths →
      Named old (record old { names = later }) (name_in old.names.paths x) x cell
  named_beside old later x cell right o opened beside adds paths = named_here old (record old { names = later }) x cell right.once (subst (λ n. n < length old.names.paths) (sym beside) opened.path) adds paths refl refl refl refl refl refl

  -- Its next input gets a number.
  module _ (old new : Store S) (right : IsRight dom plan old) (y : CellName) (x : Name) (cell : ℕ) (named : Named old new y x cell) (o : Open) (opened : IsOpen dom plan old o) (next : next_of dom plan old o ≡ Some y) where
    open_then : IsOpen dom plan new o
    open_then = open_grows dom plan old new (names_grow old new named.names) o opened

    next_then : next_of dom plan new o ≡ Some y
    next_then = next_grows dom plan old new (names_grow old new named.names) o opened ∙ next

    has_then : HasName plan.engine plan.program y
    has_then = input_named dom plan old right (name_of old o) y opened.named (at_member (inputs dom plan (name_of old o)) (length o.inputs) y next)

    -- it has no cell
    pub first_found : get new.graph.cells cell ≡ None → IsNext dom plan new o (Some (record { cell = cell; name = x; inputs = [] }))
    first_found none = (next_then ∙ ap Some (sym named.is), fresh dom plan old new right y x cell named has_then, is_absent dom plan old new right y x cell named none)

    -- it has one
    pub first_taken : (ns : List ℕ) → ns ≡ o.inputs ++ cell ∷ [] → IsSome (get new.graph.cells cell) → StaysOpen dom plan new o (record { cell = o.cell; name = o.name; inputs = ns })
    first_taken ns is there = record {
      entry = subst (λ zs. IsOpen dom plan new (record { cell = o.cell; name = o.name; inputs = zs })) (sym is) (open_longer dom plan new o y cell open_then next_then named.number there);
      cell = refl;
      name = refl;
    }
