-- The cells of an engine that is right are those of the program, and what an edit leaves of them is right again.
use Rattle.std.proofs.Common.{◌≡◌, ℕ, List, [], ◌∷◌, fold, length, Some, None, true, inl, inr, slice_get, sym, ap, subst, ◌∙◌}
use Rattle.std.specs.Prelude.{is_some}
use Rattle.std.specs.Ordering.{nat_cmp}
use Rattle.std.specs.FinMap.{FinMap, get, remove}
use Rattle.domain_laws.specs.Operations.{Operations}
use Rattle.cell_names.specs.Known.{IsOnce}
use Rattle.cell_names.specs.Paths.{CellName}
use Rattle.daig_graph.specs.Cells.{Filled}
use Rattle.daig_graph.specs.Held.{IsIn}
use Rattle.daig_graph.specs.declared.value.Value.TheVariants.{State}
use Rattle.daig_graph.proofs.Maps.{get-remove-here, get-remove-other}
use Rattle.imp_flow.specs.Plans.{Plan}
use Rattle.memo_table.specs.Results.{AreResults}
use Rattle.cell_graph.specs.Holds.{HoldsCells}
use Rattle.cell_graph.specs.Named.{AreNumbers}
use Rattle.cell_graph.proofs.Numbers.{filled_number, numbers_length}
use Rattle.daig_query.specs.declared.held.Held.{Held}
use Rattle.daig_query.specs.declared.store.Store.{Store}
use Rattle.daig_query.specs.Kept.{kept, IsValue}
use Rattle.daig_query.specs.Right.{found, IsCellOf, IsRight}
use Rattle.daig_query.specs.Claims.{KeepsTraces, Lessens}
use Rattle.daig_query.specs.Stale.{cells_read, held_read, AreStaleOf}
use Rattle.daig_query.specs.Traced.{AreStale, AreValues}
use Rattle.daig_query.proofs.Found.{stored}
use Rattle.daig_query.proofs.StaleTraces.{cell_trace}
use Rattle.std.proofs.lemmas.Bool.{cases_eq as same_number}

-- a cell that is left was there
pub removed_less : {V : Type 0} (m : FinMap nat_cmp V) (k n : ℕ) (v : V) → get (remove m k) n ≡ Some v → get m n ≡ Some v
removed_less m k n v e = elim (same_number n k) [
  | inl h ↦ (let c : None ≡ Some v = sym (ap (get (remove m k)) h ∙ get-remove-here m k) ∙ e in absurd cc)
  | inr h ↦ sym (get-remove-other m k n h) ∙ e
]

pub without_less : {V : Type 0} (m : FinMap nat_cmp V) (xs : List ℕ) (n : ℕ) (v : V) → get (fold remove m xs) n ≡ Some v → get m n ≡ Some v
without_less m [] n v e = e
without_less m (x ∷ xs) n v e = removed_less m x n v (without_less (remove m x) xs n v e)

module _ {S : Type 0} (dom : Operations S) where
  pub right_holds : (plan : Plan) (store : Store S) → IsRight dom plan store → HoldsCells dom plan store.names.names store.graph.cells
  right_holds plan store right = record {
    checked = right.checked;
    once = right.once;
    kept = right.kept;
    each = λ n f e. let p = right.cells n f e in (p.0, p.1, record { inputs = p.2.inputs; owned = p.2.owned });
  }

  module _ (old new : Plan) (before after : Store S) (right : IsRight dom old before) (less : Lessens before after) (holds : HoldsCells dom new after.names.names after.graph.cells) (same : (x : CellName) → kept after x ≡ true → found dom new x ≡ found dom old x)
      (order touched : List ℕ) (planned : AreStaleOf before.graph.cells order touched after.stale)
      (keeps : (n : ℕ) (f : Filled Held) (x : CellName) → get before.graph.cells n ≡ Some f → IsIn order n → (IsIn touched n → ⊥) → slice_get before.names.names n ≡ Some x → KeepsTraces dom old new x (length f.inputs)) where
    cell_at : (n : ℕ) (f : Filled Held) → get after.graph.cells n ≡ Some f → (x : CellName) × (slice_get after.names.names n ≡ Some x) × IsCellOf dom new after x f
    cell_at n f e =
        let p = holds.each n f e in
        let x = p.0 in
        let number : slice_get before.names.names n ≡ Some x = ap (λ k. slice_get k.names n) (sym less.names) ∙ p.1 in
        let is = stored dom old before right n x f number (less.cells n f e) in
        let there : kept after x ≡ true = ap is_some (filled_number after.graph.cells after.names.names holds.once x n p.1 ∙ e) in (
          x,
          p.1,
          record {
            value = subst (λ s. IsValue s f.value (found dom new x)) (sym less.states) (subst (λ v. IsValue before.states f.value v) (sym (same x there)) is.value);
            inputs = p.2.inputs;
            owned = p.2.owned;
          },
        )

    -- a stale cell was one of the old program, and keeps its trace
    stale_rest : AreStale dom new after.names.names after.states after.stale
    stale_rest n s e =
        let r = planned n s e in
        let read = r.0 in
        let p = right.cells n read.filled read.there in
        let x = p.0 in
        let is = cell_trace dom old before right n s x p.1 read in
        let many : length is.xs ≡ length read.filled.inputs = sym (numbers_length before.names.names (cells_read s) is.xs is.inputs) ∙ sym (ap length read.inputs) in (
          x,
          ap (λ k. slice_get k.names n) less.names ∙ p.1,
          record {
            xs = is.xs;
            vs = is.vs;
            v = is.v;
            inputs = subst (λ k. AreNumbers k.names (cells_read s) is.xs) (sym less.names) is.inputs;
            values = subst (λ l. AreValues l (held_read s) is.vs) (sym less.states) is.values;
            value = subst (λ l. IsValue l (State s.held) is.v) (sym less.states) is.value;
            trace = keeps n read.filled x read.there r.1 r.2 p.1 is.xs is.vs is.v many is.trace;
          },
        )

    pub rest_is_right : IsRight dom new after
    rest_is_right = record {
      checked = holds.checked;
      root = subst (λ k. slice_get k.paths 0 ≡ Some []) (sym less.names) right.root;
      once = holds.once;
      single = subst IsOnce (sym less.states) right.single;
      kept = holds.kept;
      cells = cell_at;
      results = subst (λ m. AreResults dom after.operations after.states m.entries) (sym less.memo) (
          subst (λ s. AreResults dom after.operations s before.memo.entries) (sym less.states) (
          subst (λ p. AreResults dom p before.states before.memo.entries) (sym less.operations) right.results
          )
          );
      recent = subst (λ m. AreResults dom after.operations after.states m.entries) (sym less.recent) (
          subst (λ s. AreResults dom after.operations s before.recent.entries) (sym less.states) (
          subst (λ p. AreResults dom p before.states before.recent.entries) (sym less.operations) right.recent
          )
          );
      stale = stale_rest;
    }
