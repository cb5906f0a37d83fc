-- An engine that keeps nothing is right for every checked program.
use Rattle.std.proofs.Common.{◌≡◌, ◌<◌, List, [], ◌∷◌, Some, None, true, false, slice_get, sym, ap, subst, ◌∙◌, arith}
use Rattle.std.specs.Prelude.{is_some}
use Rattle.std.specs.Ordering.{nat_cmp}
use Rattle.std.specs.FinMap.{get, empty, get-empty}
use Rattle.imp_slots.specs.Fits.{IsChecked}
use Rattle.domain_laws.specs.Operations.{Operations}
use Rattle.cell_names.specs.Known.{IsOnce}
use Rattle.cell_names.specs.Paths.{CellName}
use Rattle.imp_flow.specs.Plans.{Plan}
use Rattle.memo_table.specs.Results.{AreResults}
use Rattle.cell_graph.specs.Named.{filled_at, number_of}
use Rattle.daig_query.specs.declared.store.Store.{Store}
use Rattle.daig_query.specs.Kept.{kept}
use Rattle.daig_query.specs.Right.{IsRight}
use Rattle.daig_query.specs.Stale.{IsFresh}
use Rattle.daig_query.proofs.StaleGrowth.{none_stale}

module _ {S : Type 0} (store : Store S) where
  pub none_kept : store.names.names ≡ [] → (x : CellName) → kept store x ≡ false
  unfolding number_of
  none_kept e x = ap (λ names. is_some (filled_at store.graph.cells names x)) e

  none_once : {A : Type 0} (xs : List A) → xs ≡ [] → IsOnce xs
  none_once xs e m n x f k = absurd (let c : None ≡ Some x = sym (ap (λ ys. slice_get ys m) e) ∙ f in cc)

  pub new_right : (dom : Operations S) (plan : Plan) → IsChecked plan.program → store.graph.cells ≡ empty → store.names.paths ≡ [] ∷ [] → store.names.names ≡ [] → store.states ≡ [] → store.memo.entries ≡ [] → store.recent.entries ≡ [] → IsFresh store.stale → IsRight dom plan store
  new_right dom plan checked cells paths names states memo recent fresh = record {
    checked = checked;
    root = ap (λ ps. slice_get ps 0) paths;
    once = none_once store.names.names names;
    single = none_once store.states states;
    kept = record {
      named = λ x h. absurd (none x h);
      closed = λ x y h m. absurd (none x h);
    };
    cells = λ n f e. absurd (let c : None ≡ Some f = sym (ap (λ m. get m n) cells ∙ get-empty nat_cmp n) ∙ e in cc);
    results = subst (AreResults dom store.operations store.states) (sym memo) (λ key n h. absurd (let l : h.0 < 0 = h.1 in omega arith));
    recent = subst (AreResults dom store.operations store.states) (sym recent) (λ key n h. absurd (let l : h.0 < 0 = h.1 in omega arith));
    stale = none_stale dom plan store.names.names store.states store.stale fresh;
  }
    where
      none : (x : CellName) → kept store x ≡ true → ⊥
      none x h = let c : false ≡ true = sym (none_kept names x) ∙ h in cc
