-- What is filled is kept by the machine.
use Rattle.std.proofs.Common.{◌≡◌, ℕ, ◌||◌, List, [], ◌++◌, take, length, sym, ap, subst, ◌∙◌}
use Rattle.std.proofs.Math.Seq.{take-length}
use Rattle.imp_syntax.specs.declared.edit.Location.{Location}
use Rattle.imp_slots.specs.Fits.{IsChecked}
use Rattle.imp_check.specs.Slots.{routines_of}
use Rattle.domain_laws.specs.Operations.{Operations}
use Rattle.cell_names.specs.Paths.{CellName}
use Rattle.cell_rows.specs.Targets.{Target, demanded}
use Rattle.daig_order.specs.Order.{member, fill_all}
use Rattle.daig_order.proofs.OrderLemmas.{member-append}
use Rattle.daig_demands.specs.Claims.{found_by, names_of}
use Rattle.cell_graph.specs.Same.{same_name}
use Rattle.daig_query.specs.declared.store.Store.{Store}
use Rattle.daig_query.specs.Kept.{kept}
use Rattle.daig_query.specs.Right.{found}
use Rattle.daig_query.specs.Walked.{AreTargets}
use Rattle.daig_query.specs.Filled as engine
use Rattle.daig_query.specs.Filled.{Fills}
use Rattle.daig_machine.specs.Machine.{Machine, keeping}
use Rattle.daig_machine.specs.Turns.{missing_names, missing_at, targets_of, after_question, with_names}
use Rattle.daig_machine.specs.Claims.{AreKept, FillingKeeps, KeepsCells}
use Rattle.daig_session.specs.declared.book.Book.{Book}
use Rattle.daig_session.specs.Books.{flow_in, machine_of}
use Rattle.daig_session.specs.Going.{IsAsked}
use Rattle.daig_session.specs.Holds.{Holds, IsReady}
use Rattle.daig_session.proofs.Asked.{targets_are}
use Rattle.daig_session.proofs.Waiting.{waiting_grows}

-- How many cells were filled is no part of what is in order.
pub ready_costing : {S : Type 0} (dom : Operations S) (store : Store S) (book : Book) (cost : ℕ) → IsReady dom store book → IsReady dom store (record book { cost = cost })
ready_costing dom store book cost r = record {
  right = r.right;
  order = record {
    set = r.order.set;
    fine = r.order.fine;
    some = r.order.some;
    low = r.order.low;
    below = r.order.below;
    behind = r.order.behind;
    ahead = r.order.ahead;
    are_open = r.order.are_open;
  };
  waiting = r.waiting;
}

-- the domain and the book are the same
pub answered_costing : {S : Type 0} (new dom : Operations S) (store : Store S) (book after : Book) (cost : ℕ) (m : Machine) → new ≡ dom → after ≡ book → Holds dom store (record book { cost = cost }) m → Holds new store (record after { cost = cost }) m
answered_costing {S} new dom store book after cost m is same h = subst (λ (d : Operations S). Holds d store (record after { cost = cost }) m) (sym is) (subst (λ (b : Book). Holds dom store (record b { cost = cost }) m) (sym same) h)

module _ {S : Type 0} (dom : Operations S) (book : Book) (store new : Store S) where
  -- a question asks for targets
  pub asks_targets : (l : Location) (string : List ℕ) (ts : List Target) → IsAsked (flow_in book).program l string ts → AreTargets (flow_in book) ts
  asks_targets l string ts a = record { location = l; string = string; place = a.place; are = a.are }

  -- what is missing for the engine is missing for the machine
  missing_is : (xs : List CellName) (ts : List Target) → ((x : CellName) → kept store x ≡ member same_name xs x) → engine.missing dom (flow_in book) ts store ≡ missing_names dom ts (machine_of book xs)
  unfolding found
  missing_is xs ts k = λ i. fill_all (names_of dom book.setting.engine (routines_of book.history.now) same_name) (λ x. k x i) [] (demanded (found_by dom book.setting.engine (routines_of book.history.now) same_name) ts)

  pub missing_here : (m : Machine) (l : Location) (string : List ℕ) (ts : List Target) → Holds dom store book m → IsAsked (flow_in book).program l string ts → engine.missing dom (flow_in book) ts store ≡ missing_at dom l string m
  missing_here m l string ts h a = subst (λ z. engine.missing dom (flow_in book) ts store ≡ missing_at dom l string z) h.is (missing_is m.kept ts h.same ∙ ap (λ us. missing_names dom us (machine_of book m.kept)) (sym (targets_are (machine_of book m.kept) l string ts a)))

  pub as_many : (m : Machine) (l : Location) (string : List ℕ) (ts : List Target) → Holds dom store book m → IsAsked (flow_in book).program l string ts → length ts ≡ length (targets_of m l string)
  as_many m l string ts h a = subst (λ z. length ts ≡ length (targets_of z l string)) h.is (ap length (sym (targets_are (machine_of book m.kept) l string ts a)))

  -- tickets wait as they did
  pub fills_ready : (ts : List Target) (count : ℕ) → IsReady dom store book → Fills dom (flow_in book) ts store new count → IsReady dom new book
  fills_ready ts count r f = record {
    right = f.right;
    order = r.order;
    waiting = waiting_grows dom (flow_in book) store new f.right f.grows book.tickets.open_ones.items r.waiting;
  }

  module _ (l : Location) (string : List ℕ) (ts : List Target) (count : ℕ) (checked : IsChecked (flow_in book).program) (a : IsAsked (flow_in book).program l string ts) (f : Fills dom (flow_in book) ts store new count) (law : FillingKeeps dom) where
    -- the names that are kept then, and that they are cells
    pub record Gains (m : Machine) : Type 0 where
      pub same : (x : CellName) → kept new x ≡ member same_name (m.kept ++ take count (missing_at dom l string m)) x
      pub cells : AreKept dom m.engine (routines_of m.program) (m.kept ++ take count (missing_at dom l string m))

    gains_of : (xs : List CellName) → ((x : CellName) → kept store x ≡ member same_name xs x) → AreKept dom book.setting.engine (routines_of book.history.now) xs → Gains (machine_of book xs)
    gains_of xs k are =
        let ms = missing_names dom ts (machine_of book xs) in
        let e : ts ≡ targets_of (machine_of book xs) l string = sym (targets_are (machine_of book xs) l string ts a) in
        let is : (x : CellName) → kept new x ≡ member same_name (xs ++ take count ms) x =
        λ x. f.adds x ∙ (ap (λ b. b || member same_name (take count (engine.missing dom (flow_in book) ts store)) x) (k x) ∙ (ap (λ ys. member same_name xs x || member same_name (take count ys) x) (missing_is xs ts k) ∙ sym (member-append same_name xs (take count ms) x))) in
        record {
          same = λ x. subst (λ us. kept new x ≡ member same_name (xs ++ take count (missing_names dom us (machine_of book xs))) x) e (is x);
          cells = subst (λ us. AreKept dom book.setting.engine (routines_of book.history.now) (xs ++ take count (missing_names dom us (machine_of book xs)))) e (law (machine_of book xs) a.place l string ts count checked a.are are);
        }

    pub gains : (m : Machine) → Holds dom store book m → Gains m
    gains m h = subst Gains h.is (gains_of m.kept h.same (subst (KeepsCells dom) (sym h.is) h.cells))

    -- so the machine holds with these names beside the others, and another cost
    pub keeping_holds : (m : Machine) (cost : ℕ) → Holds dom store book m → Holds dom new (record book { cost = cost }) (keeping (m.kept ++ take count (missing_at dom l string m)) cost m)
    keeping_holds m cost h =
        let g = gains m h in
        record {
          is = ap (keeping (m.kept ++ take count (missing_at dom l string m)) cost) h.is;
          same = g.same;
          cells = g.cells;
        }

    -- with the same cost
    pub added_holds : (m : Machine) → Holds dom store book m → Holds dom new book (with_names (take count (missing_at dom l string m)) m)
    added_holds m h =
        let g = gains m h in
        record {
          is = ap (λ (z : Machine). keeping (m.kept ++ take count (missing_at dom l string m)) z.cost z) h.is;
          same = g.same;
          cells = g.cells;
        }

    pub asked_holds : (m : Machine) (cost : ℕ) → Holds dom store book m → cost ≡ length (missing_at dom l string m) → count ≡ length (missing_at dom l string m) → Holds dom new (record book { cost = cost }) (after_question dom l string m)
    asked_holds m cost h e n =
        let ms = missing_at dom l string m in
        subst (λ k. Holds dom new (record book { cost = cost }) (keeping (m.kept ++ ms) k m)) e (
        subst (λ ys. Holds dom new (record book { cost = cost }) (keeping (m.kept ++ ys) cost m)) (ap (λ k. take k ms) n ∙ take-length ms) (keeping_holds m cost h))
