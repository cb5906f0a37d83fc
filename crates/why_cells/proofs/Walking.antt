-- One walk that gathers cells along inputs and tells of each.
use Rattle.std.proofs.Common.{◌≡◌, ℕ, ◌+◌, ◌-◌, ◌<◌, ◌≤◌, List, [], length, get_or, Option, Some, None, IsSome, slice_get, refl, sym, ap, ◌∙◌, arith}
use Rattle.std.specs.FinMap.{get, len}
use Rattle.std.proofs.lemmas.Option.{slice_get-get_or}
use Rattle.domain_laws.specs.Operations.{Operations}
use Rattle.cell_names.specs.Paths.{CellName}
use Rattle.imp_flow.specs.Plans.{Plan}
use Rattle.daig_graph.specs.Cells.{AreCells, Filled}
use Rattle.daig_query.specs.declared.held.Held.{Held}
use Rattle.daig_query.specs.declared.store.Store.{Store}
use Rattle.why_cells.specs.Reached.{IsSetOf, Joins}
use Rattle.why_cells.specs.Told.{Takes, TellsReached}
use Rattle.why_cells.proofs.Gathers.{Gathers, gathers_all, gathers_first, gathers_look, turn_left}
use Rattle.why_cells.proofs.Hung.{Hung, hung_all, hung_first, hung_grows, hung_next, hung_row}

some_filled : (o : Option (Filled Held)) → IsSome o → (f : Filled Held) × (o ≡ Some f)
some_filled None s = absurd cc
some_filled (Some f) s = (f, refl)

module _ {S : Type 0} (dom : Operations S) (plan : Plan) (store : Store S) (seeds : List ℕ) where
  -- What is kept while the cells are looked at in turn: those before `next` are done and told.
  pub record Walked (next : ℕ) (out seen told : List ℕ) : Type 0 where
    pub gathers : Gathers store.graph.cells seeds next out
    pub set : IsSetOf out seen
    pub hung : Hung dom plan store.names.names out next told

  pub walked_first : (empty out seen told : List ℕ) → empty ≡ [] → AreCells store.graph.cells seeds → IsSetOf out seen → Joins empty seeds out → told ≡ [] → Walked 0 out seen told
  walked_first empty out seen told e there set joins t = record {
    gathers = gathers_first store.graph.cells seeds empty out e there (λ o. set.once) joins;
    set = set;
    hung = hung_first dom plan store.names.names out told t;
  }

  -- the next cell is looked at
  module _ (next size m : ℕ) (out seen told : List ℕ) (walked : Walked next out seen told) (e : size ≡ length out) (l : next < size) (is : m ≡ get_or out next m) where
    below : next < length out
    below = omega (arith, e, l)

    at : slice_get out next ≡ Some m
    at = slice_get-get_or out next m below ∙ ap Some (sym is)

    pub next_there : IsSome (get store.graph.cells m)
    next_there = walked.gathers.there m (next, at)

    pub walked_next : (new set more : List ℕ) → IsSetOf new set → ((f : Filled Held) → get store.graph.cells m ≡ Some f → Joins out f.inputs new) → ((f : Filled Held) → get store.graph.cells m ≡ Some f → AreCells store.graph.cells f.inputs) →
        ((x : CellName) → slice_get store.names.names m ≡ Some x → Takes told (hung_row dom plan x) more) → Walked (next + 1) new set more
    walked_next new set more is_set joins there tells =
        let f = some_filled (get store.graph.cells m) next_there in
        let first = hung_next dom plan store.names.names out told more next m at walked.hung tells in
        record {
          gathers = gathers_look store.graph.cells seeds out new next size m walked.gathers e l is is_set.once joins there;
          set = is_set;
          hung = hung_grows dom plan store.names.names out new more (next + 1) (omega (arith, below)) (joins f.0 f.1).keeps first;
        }

    pub walked_left : len store.graph.cells - (next + 1) < len store.graph.cells - next
    walked_left = turn_left store.graph.cells seeds out next size walked.gathers e l

  pub walked_done : (next size : ℕ) (out seen told : List ℕ) → Walked next out seen told → size ≡ length out → size ≤ next → TellsReached dom plan store seeds told
  walked_done next size out seen told w e l = record {
    cells = out;
    reached = gathers_all store.graph.cells seeds out next size w.gathers e l;
    tells = λ xs a. hung_all dom plan store.names.names out told next xs (omega (arith, e, l)) w.hung a;
  }
