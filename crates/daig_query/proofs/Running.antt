-- The machine of demands runs over an engine's store.
use Rattle.std.proofs.Common.{◌≡◌, ℕ, ◌+◌, ◌<◌, ◌||◌, Bool, true, cond, List, [], ◌∷◌, ◌++◌, reverse, length, Option, Some, None, slice_get, refl, sym, ap, subst, ◌∙◌}
use std.Path.{fun_ext}
use Rattle.std.proofs.lemmas.List.{reverse-append}
use Rattle.std.proofs.Math.Bool.{or-true}
use Rattle.imp_slots.specs.Fits.{IsChecked}
use Rattle.domain_laws.specs.Operations.{Operations}
use Rattle.daig_order.specs.Order.{System, IsAcyclic, member, fill_all}
use Rattle.daig_order.specs.Store.{first_absent, Puts as PutsName, missing_of, Leaves}
use Rattle.daig_order.specs.Machine.{AreBelow, waits, Run, run_left}
use Rattle.daig_order.proofs.AskingProofs.{system-acyclic}
use Rattle.daig_order.proofs.RunLemmas.{run-start, run-push, run-lower, leaves-at, demand-end, name-more, name-fill, fill-smaller}
use Rattle.daig_order.proofs.TheoremProofs.{ceiling, below}
use Rattle.cell_names.specs.Paths.{CellName}
use Rattle.cell_rows.specs.Cells.{Cell}
use Rattle.cell_rows.specs.Claims.{rows_of}
use Rattle.cell_rows.specs.Targets.{Target, demanded}
use Rattle.daig_demands.specs.Claims.{names_of}
use Rattle.daig_demands.proofs.Machine.{law}
use Rattle.imp_flow.specs.Plans.{Plan}
use Rattle.cell_graph.specs.Same.{same_name}
use Rattle.cell_graph.specs.Asked.{inputs}
use Rattle.cell_graph.proofs.Same.{same_is}
use Rattle.cell_graph.proofs.Numbers.{at_member}
use Rattle.daig_query.specs.declared.store.Store.{Store}
use Rattle.daig_query.specs.Kept.{kept}
use Rattle.daig_query.specs.Right.{found}
use Rattle.daig_query.specs.Filled.{missing}
use Rattle.daig_query.proofs.Stacked.{held_of, has_kept, holds_value, first_none}
use mathlib.Core.Bool.{or-false}

module _ {S : Type 0} (dom : Operations S) (plan : Plan) (ts : List Target) where
  abbrev pub system : System CellName
  system = names_of dom plan.engine plan.program same_name

  abbrev pub wanted : List CellName
  wanted = demanded (found dom plan) ts

  abbrev pub bound : ℕ
  bound = ceiling system wanted

  abbrev pub cells_of : (CellName → Bool) → CellName → Option (Cell S)
  cells_of keeps = held_of (found dom plan) keeps

  abbrev pub total : (CellName → Bool) → ℕ
  total keeps = length (missing_of system (cells_of keeps) wanted)

  -- A run over a store that kept these names at first, and keeps those, with these names on the stack, the last on top.
  abbrev pub Runs : (first keeps : CellName → Bool) → List CellName → ℕ → Type 0
  Runs first keeps names count = Run system (found dom plan) wanted bound (cells_of first) (cells_of keeps) (reverse names) (total first) count

  -- how far it is from its end
  abbrev pub left : (first : CellName → Bool) → List CellName → ℕ → ℕ
  left first names count = run_left system bound (total first) (reverse names) count

  pub missing_is : (store : Store S) → missing_of system (cells_of (kept store)) wanted ≡ missing dom plan ts store
  missing_is store = ap (λ keeps. fill_all system keeps [] wanted) (fun_ext (has_kept (found dom plan) (kept store)))

  pub runs_same : (first old new : CellName → Bool) (names : List CellName) (count : ℕ) → ((x : CellName) → new x ≡ old x) → Runs first old names count → Runs first new names count
  runs_same first old new names count same r = subst (λ keeps. Runs first keeps names count) (sym (fun_ext same)) r

  module _ (checked : IsChecked plan.program) where
    abbrev pub acyclic : IsAcyclic system
    acyclic = system-acyclic (rows_of dom plan.engine plan.program same_name) (law dom plan.engine plan.program same_name same_is checked)

    abbrev pub low : AreBelow system wanted bound
    low = below system acyclic wanted

    pub runs_start : (first : CellName → Bool) → Runs first first [] 0
    runs_start first = run-start system acyclic (found dom plan) wanted bound low (cells_of first) (total first) (holds_value (found dom plan) first)

    module _ (first keeps : CellName → Bool) (names : List CellName) (count : ℕ) (r : Runs first keeps names count) where
      last_first : (x : CellName) → reverse (names ++ x ∷ []) ≡ x ∷ reverse names
      last_first x = reverse-append names (x ∷ [])

      -- the name that the stack waits for is pushed
      pub runs_push : (x : CellName) → first_absent (cells_of keeps) (waits system wanted (reverse names)) ≡ Some x → Runs first keeps (names ++ x ∷ []) count
      runs_push x e =
          subst (λ (st : List CellName). Run system (found dom plan) wanted bound (cells_of first) (cells_of keeps) st (total first) count) (sym (last_first x))
          (run-push system acyclic (found dom plan) wanted bound low (cells_of first) (cells_of keeps) (reverse names) (total first) count r x e)

      pub push_smaller : (x : CellName) → first_absent (cells_of keeps) (waits system wanted (reverse names)) ≡ Some x → left first (names ++ x ∷ []) count < left first names count
      push_smaller x e =
          subst (λ (st : List CellName). run_left system bound (total first) st count < run_left system bound (total first) (reverse names) count) (sym (last_first x))
          (run-lower system acyclic (found dom plan) wanted bound low (cells_of first) (cells_of keeps) (reverse names) (total first) count r x e)

      pub runs_leave : Leaves system (found dom plan) wanted (cells_of first) (cells_of keeps) (total first) count
      runs_leave = leaves-at system acyclic (found dom plan) wanted bound low (cells_of first) (cells_of keeps) names (total first) count r

      pub runs_end : names ≡ [] → ((i : ℕ) (y : CellName) → slice_get wanted i ≡ Some y → keeps y ≡ true) → count ≡ total first
      runs_end e all = demand-end system acyclic (found dom plan) wanted bound low (cells_of first) (cells_of keeps) names (total first) count r e (first_none (found dom plan) keeps wanted all)

      module _ (rest : List CellName) (x : CellName) (split : names ≡ rest ++ x ∷ []) where
        module _ (ready : (y : CellName) → member same_name (inputs dom plan x) y ≡ true → keeps y ≡ true) where
          none : first_absent (cells_of keeps) (system.inputs x) ≡ None
          unfolding inputs
          none = first_none (found dom plan) keeps (inputs dom plan x) (λ i y e. ready y (at_member (inputs dom plan x) i y e))

          pub top_more : count < total first
          top_more = name-more system acyclic (found dom plan) wanted bound low (cells_of first) (cells_of keeps) names (total first) count r x rest split none

          pub fill_less : left first rest (count + 1) < left first names count
          fill_less = fill-smaller system acyclic (found dom plan) wanted bound low (cells_of first) (cells_of keeps) names (total first) count r x rest split none

          pub runs_fill : (new : CellName → Bool) → ((y : CellName) → new y ≡ (keeps y || same_name y x)) → Runs first new rest (count + 1)
          runs_fill new adds = name-fill system acyclic (found dom plan) wanted bound low (cells_of first) (cells_of keeps) names (total first) count r x rest split (cells_of new) (found dom plan x) none refl puts top_more
            where
              puts : PutsName same_name (cells_of keeps) (cells_of new) x (found dom plan x)
              puts = record {
                here = λ y e. ap (λ b. cond b (Some (found dom plan y)) None) (adds y ∙ (ap (λ b. keeps y || b) e ∙ or-true (keeps y))) ∙ ap (λ z. Some (found dom plan z)) (same_is.same_true y x e);
                others = λ y e. ap (λ b. cond b (Some (found dom plan y)) None) (adds y ∙ (ap (λ b. keeps y || b) e ∙ or-false (keeps y)));
              }
