-- One place of a report is filled.
use Rattle.std.proofs.Common.{◌≡◌, ℕ, ◌+◌, ◌≤◌, Bool, true, false, List, [], ◌∷◌, ◌++◌, map, take, length, Some, refl, sym, ap, subst, ◌∙◌, arith, append-nil}
use Rattle.std.specs.Prelude.{min, ◌↔◌}
use Rattle.imp_syntax.specs.declared.edit.Location.{Location}
use Rattle.imp_slots.specs.Fits.{IsChecked}
use Rattle.imp_check.specs.Slots.{routines_of}
use Rattle.imp_words.specs.declared.refusal.QueryRefusal.{QueryRefusal}
use Rattle.imp_flow.specs.Reached.{target_of}
use Rattle.domain_laws.specs.Operations.{Operations}
use Rattle.batch_meaning.specs.Answers.{Found, In, Misses, Refuses, answer, procedure_of}
use Rattle.cell_names.specs.Paths.{CellName}
use Rattle.cell_graph.specs.Same.{same_name}
use Rattle.cell_rows.specs.Targets.{Target, demanded}
use Rattle.daig_order.specs.Order.{member}
use Rattle.daig_demands.specs.Reports as reports
use Rattle.daig_query.specs.declared.store.Store.{Store}
use Rattle.daig_query.specs.declared.walk.Walk.{Walk}
use Rattle.daig_query.specs.Answered.{AreFilled}
use Rattle.daig_query.specs.Filled.{cells_added, Fills}
use Rattle.daig_query.specs.Filled as engine
use Rattle.daig_query.specs.Kept.{kept}
use Rattle.daig_query.specs.Right.{found}
use Rattle.daig_machine.specs.Machine.{Machine, keeping}
use Rattle.daig_machine.specs.Turns.{missing_at, missing_in_places, with_names, IsBetween}
use Rattle.daig_machine.specs.Claims.{FillingKeeps}
use Rattle.daig_session.specs.declared.book.Book.{Book}
use Rattle.daig_session.specs.Books.{flow_in, machine_of}
use Rattle.daig_session.specs.Going.{IsAsked, IsFull}
use Rattle.daig_session.specs.Holds.{Holds}
use Rattle.daig_session.specs.Places.{HoldsPart, HoldsWith}
use Rattle.daig_session.specs.Tours.{IsSomeFilled}
use Rattle.daig_session.proofs.Answering.{answer_here, between_some}
use Rattle.daig_session.proofs.Filled.{added_holds, missing_here}
use Rattle.daig_session.proofs.Placed.{all_none, at_cost, none_missing, none_refused, one_between, one_missing, targets_same}

module _ {S : Type 0} (dom : Operations S) (book : Book) (store new : Store S) (l : Location) (ts : List Target) (checked : IsChecked (flow_in book).program) (a : IsAsked (flow_in book).program l [] ts) (f : Fills dom (flow_in book) ts store new (cells_added store new)) (law : FillingKeeps dom) (m : Machine) (h : Holds dom store book m) where
  -- some of what was missing there
  pub place_part : HoldsPart dom m new book (l ∷ [])
  place_part = one_between dom m l new book (between_some dom book store new l [] ts (cells_added store new) checked a f law m h)

  pub place_some : (most filled : ℕ) (done : Bool) → filled ≡ cells_added store new → filled ≡ min most (length (engine.missing dom (flow_in book) ts store)) → (done ≡ true) ↔ (length (engine.missing dom (flow_in book) ts store) ≤ most) → IsSomeFilled dom m new book (l ∷ []) most filled done
  place_some most filled done count first ends =
      let is : engine.missing dom (flow_in book) ts store ≡ missing_in_places dom (l ∷ []) m = missing_here dom book store new m l [] ts h a ∙ one_missing dom m l in
      let n = ap length is in
      record {
        as_many = subst (λ k. filled ≡ min most k) n first;
        ends = subst (λ k. (done ≡ true) ↔ (k ≤ most)) n ends;
        some =
            subst (λ k. HoldsWith dom m new book (take k (missing_in_places dom (l ∷ []) m))) (sym count) (
            subst (λ ys. Holds dom new book (keeping (m.kept ++ take (cells_added store new) ys) book.cost m)) (one_missing dom m l) (
            at_cost dom m new book (m.kept ++ take (cells_added store new) (missing_at dom l [] m)) m.cost (added_holds dom book store new l [] ts (cells_added store new) checked a f law m h)));
      }

module _ {S : Type 0} (dom : Operations S) (book : Book) (store : Store S) (l : Location) (checked : IsChecked (flow_in book).program) (r : QueryRefusal) (is : answer dom (flow_in book).engine (flow_in book).program l [] ≡ Refuses r) where
  -- no chain comes there
  pub refused_some : (m : Machine) → Holds dom store book m → (most : ℕ) → IsSomeFilled dom m store book (l ∷ []) most 0 true
  refused_some m h most =
      let ok = subst (λ (z : Machine). IsChecked (routines_of z.program)) h.is checked in
      let none = none_missing dom m l r ok (sym (answer_here dom book store m l [] h) ∙ is) in
      let n = ap length none in
      record {
        as_many = omega (arith, n);
        ends = (λ t. omega (arith, n), λ k. refl);
        some = all_none dom m store book h;
      }

  no_targets : reports.targets_in (flow_in book).program l (procedure_of (flow_in book).program l) ≡ []
  no_targets =
      let z = machine_of book [] in
      sym (targets_same dom z l (procedure_of (routines_of z.program) l)) ∙ none_refused dom z l r checked is

  pub refused_full : IsFull dom (flow_in book) store l
  refused_full = λ x mem. absurd (let k : member same_name (demanded (found dom (flow_in book)) []) x ≡ true = subst (λ us. member same_name (demanded (found dom (flow_in book)) us) x ≡ true) no_targets mem in let q : false ≡ true = k in cc)
