-- Results that are remembered, and stores with more of them.
use Rattle.std.proofs.Common.{◌≡◌, ℕ, ◌<◌, List, [], length, Option, Some, None, Bool, true, Contains, ◌⊎◌, inl, inr, slice_get, refl, sym, ap, ap₂, subst, ◌∙◌}
use Rattle.std.specs.FinMap.{get}
use Rattle.std.specs.Prelude.{IfSome, IsSome}
use Rattle.domain_laws.specs.Operations.{Operations}
use Rattle.cell_names.specs.Known.{KeepsNumbers, IsOnce}
use Rattle.cell_names.specs.Paths.{CellName}
use Rattle.state_table.specs.Numbers.{AreOnce}
use Rattle.imp_flow.specs.Plans.{Plan}
use Rattle.imp_flow_rows.specs.declared.row.Row.{Row}
use Rattle.memo_table.specs.declared.operation.Operation.{Operation}
use Rattle.memo_table.specs.declared.memo.Key.{Key}
use Rattle.memo_table.specs.Results.{AreResults, IsResult, result_of, operand}
use Rattle.daig_graph.specs.Cells.{Filled}
use Rattle.daig_query.specs.declared.held.Held.{Held}
use Rattle.daig_query.specs.declared.store.Store.{Store}
use Rattle.cell_graph.specs.Named.{AreNumbers}
use Rattle.daig_query.specs.Kept.{kept, AddsFew}
use Rattle.daig_query.specs.Made.{IsOperationOf, row_result, state_at}
use Rattle.cell_graph.specs.Asked.{inputs}
use Rattle.daig_query.specs.Right.{found, IsCellOf, IsRight}
use Rattle.daig_query.specs.Opened.{Computes}
use Rattle.daig_query.proofs.Computed.{made, operand_is}
use Rattle.daig_query.specs.Stale.{stale_at}
use Rattle.daig_query.proofs.Growing.{kept_alike, keeps_same}
use Rattle.daig_query.proofs.StaleGrowth.{stale_grows, value_grows}
use Rattle.base_values.proofs.Lists.{get_some}

pub once_by : {A : Type 0} (eq : A → A → Bool) (xs : List A) → ((x : A) → eq x x ≡ true) → AreOnce eq xs → IsOnce xs
once_by eq xs self once m n x e f = once m n x x e f (self x)

module _ {S : Type 0} (dom : Operations S) where
  -- what a row makes, by its owned operation and the key's numbers
  pub row_by : (row : Row) (o : Operation) → IsOperationOf row o → (states : List S) (l r : Option ℕ) → result_of dom o (operand dom states l) (operand dom states r) ≡ row_result dom row (state_at states l) (state_at states r)
  row_by row o is states l r = ap₂ (result_of dom o) (operand_is dom states l) (operand_is dom states r) ∙ made dom row o is (state_at states l) (state_at states r)

  -- a result that is remembered is the row's
  pub result_is : (operations : List Operation) (states : List S) (key : Key) (n : ℕ) (row : Row) (o : Operation) → slice_get operations key.operation ≡ Some o → IsOperationOf row o → IsResult dom operations states key n →
      slice_get states n ≡ row_result dom row (state_at states key.left) (state_at states key.right)
  result_is operations states key n row o at is (p, s, q, e, f) =
      let same : Some o ≡ Some p = sym at ∙ q in
      let op : p ≡ o = cc in
      e ∙ sym f ∙ ap (λ x. result_of dom x (operand dom states key.left) (operand dom states key.right)) op ∙ row_by row o is states key.left key.right

  pub is_result : (operations : List Operation) (states : List S) (key : Key) (n : ℕ) (row : Row) (o : Operation) (s : S) → slice_get operations key.operation ≡ Some o → IsOperationOf row o → slice_get states n ≡ Some s →
      row_result dom row (state_at states key.left) (state_at states key.right) ≡ Some s → IsResult dom operations states key n
  is_result operations states key n row o s at is e f = (o, s, at, e, row_by row o is states key.left key.right ∙ f)

  -- the same of a result that a row makes, and that some states before already had it make
  pub makes_result : (operations : List Operation) (before states : List S) (key : Key) (n : ℕ) (row : Row) (o : Operation) → slice_get operations key.operation ≡ Some o → IsOperationOf row o → state_at states key.left ≡ state_at before key.left → state_at states key.right ≡ state_at before key.right →
      IsSome (row_result dom row (state_at before key.left) (state_at before key.right)) → slice_get states n ≡ row_result dom row (state_at before key.left) (state_at before key.right) → IsResult dom operations states key n
  makes_result operations before states key n row o at is left right there made = by (row_result dom row (state_at before key.left) (state_at before key.right)) refl there
    where
      by : (r : Option S) → row_result dom row (state_at before key.left) (state_at before key.right) ≡ r → IsSome r → IsResult dom operations states key n
      by None e h = absurd cc
      by (Some s) e h = is_result operations states key n row o s at is (made ∙ e) (ap₂ (row_result dom row) left right ∙ e)

  -- results are left where one is added and others may go
  pub results_kept : (operations : List Operation) (states : List S) (old new : List (Key × ℕ)) (key : Key) (n : ℕ) → ((k : Key) (m : ℕ) → Contains new (k, m) → Contains old (k, m) ⊎ ((k ≡ key) × (m ≡ n))) → AreResults dom operations states old → IsResult dom operations states key n → AreResults dom operations states new
  results_kept operations states old new key n others are is k m there = elim (others k m there) [
    | inl before ↦ are k m before
    | inr added ↦ subst (λ j. IsResult dom operations states j m) (sym added.0) (subst (λ v. IsResult dom operations states key v) (sym added.1) is)
  ]

  -- with more states a row still makes the same
  pub state_grows : (old new : List S) → KeepsNumbers old new → (n : Option ℕ) → IfSome n (λ m. m < length old) → state_at new n ≡ state_at old n
  state_grows old new keeps None h = refl
  state_grows old new keeps (Some n) h = let p = get_some old n h in keeps n p.0 p.1 ∙ sym p.1

  module _ (plan : Plan) where
    pub right_more : (old new : Store S) → IsRight dom plan old → new.graph.cells ≡ old.graph.cells → new.names ≡ old.names → KeepsNumbers old.states new.states → IsOnce new.states → AreResults dom new.operations new.states new.memo.entries → AreResults dom new.operations new.states new.recent.entries → ((n : ℕ) → stale_at new.stale n ≡ stale_at old.stale n) → AddsFew 1 old new → Computes dom plan old new
    right_more old new right graph names keeps single results recent stale few = record {
      cells = graph;
      names = names;
      states = keeps;
      right = record {
        checked = right.checked;
        root = subst (λ k. slice_get k.paths 0 ≡ Some []) (sym names) right.root;
        once = subst (λ k. IsOnce k.names) (sym names) right.once;
        single = single;
        kept = record { named = λ x h. right.kept.named x (sym (same x) ∙ h); closed = λ x y h m. same y ∙ right.kept.closed x y (sym (same x) ∙ h) m };
        cells = λ n f e. cell_at n f (subst (λ m. get m n ≡ Some f) graph e);
        results = results;
        recent = recent;
        stale = stale_grows dom plan old.names.names new.names.names old.states new.states (keeps_same old.names.names new.names.names (ap (λ k. k.names) names)) keeps old.stale new.stale stale right.stale;
      };
      few = few;
    }
      where
        same : (x : CellName) → kept new x ≡ kept old x
        same = kept_alike old new graph names

        cell_at : (n : ℕ) (f : Filled Held) → get old.graph.cells n ≡ Some f → (x : CellName) × (slice_get new.names.names n ≡ Some x) × IsCellOf dom plan new x f
        cell_at n f e =
            let p = right.cells n f e in (
              p.0,
              subst (λ k. slice_get k.names n ≡ Some p.0) (sym names) p.1,
              record {
                value = value_grows old.states new.states keeps f.value (found dom plan p.0) p.2.value;
                inputs = subst (λ k. AreNumbers k.names f.inputs (inputs dom plan p.0)) (sym names) p.2.inputs;
                owned = p.2.owned;
              },
            )
