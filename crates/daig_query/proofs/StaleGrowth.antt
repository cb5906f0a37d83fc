-- Stale cells of stores with more names and states.
use Rattle.std.proofs.Common.{◌≡◌, ℕ, List, [], ◌∷◌, Some, None, sym, ◌∙◌}
use Rattle.domain_laws.specs.Operations.{Operations}
use Rattle.cell_names.specs.Known.{KeepsNumbers}
use Rattle.cell_names.specs.Paths.{CellName}
use Rattle.cell_rows.specs.Cells.{Cell}
use Rattle.imp_flow.specs.Plans.{Plan}
use Rattle.daig_graph.specs.declared.value.Value.{Value}
use Rattle.daig_graph.specs.declared.value.Value.TheVariants.{State, Over}
use Rattle.cell_graph.proofs.Numbers.{numbers_grow}
use Rattle.daig_query.specs.declared.held.Held.{Held}
use Rattle.daig_query.specs.Kept.{IsValue}
use Rattle.daig_query.specs.Stale.{cells_read, held_read, stale_at, IsFresh, Stale}
use Rattle.daig_query.specs.Traced.{AreStale, AreValues}

pub value_grows : {S : Type 0} (old new : List S) → KeepsNumbers old new → (u : Value Held) (v : Cell S) → IsValue old u v → IsValue new u v
value_grows old new keeps (State h) v (s, at, e) = (s, keeps h.state s at, e)
value_grows old new keeps (Over n chain) v e = e

values_grow : {S : Type 0} (old new : List S) → KeepsNumbers old new → (hs : List Held) (vs : List (Cell S)) → AreValues old hs vs → AreValues new hs vs
values_grow old new keeps [] [] are = tt
values_grow old new keeps [] (v ∷ vs) are = absurd are
values_grow old new keeps (h ∷ hs) [] are = absurd are
values_grow old new keeps (h ∷ hs) (v ∷ vs) are = (value_grows old new keeps (State h) v are.0, values_grow old new keeps hs vs are.1)

module _ {S : Type 0} (dom : Operations S) (plan : Plan) where
  -- the same cells are stale, and right
  pub stale_grows : (old new : List CellName) (before after : List S) → KeepsNumbers old new → KeepsNumbers before after → (stale later : Stale) → ((n : ℕ) → stale_at later n ≡ stale_at stale n) → AreStale dom plan old before stale → AreStale dom plan new after later
  stale_grows old new before after names states stale later same are n s e =
      let p = are n s (sym (same n) ∙ e) in (
        p.0,
        names n p.0 p.1,
        record {
          xs = p.2.xs;
          vs = p.2.vs;
          v = p.2.v;
          inputs = numbers_grow old new names (cells_read s) p.2.xs p.2.inputs;
          values = values_grow before after states (held_read s) p.2.vs p.2.values;
          value = value_grows before after states (State s.held) p.2.v p.2.value;
          trace = p.2.trace;
        },
      )

  -- none is
  pub none_stale : (names : List CellName) (states : List S) (stale : Stale) → IsFresh stale → AreStale dom plan names states stale
  none_stale names states stale fresh n s e = absurd (let c : None ≡ Some s = sym (fresh n) ∙ e in cc)
