-- The beginning of a session.
use Rattle.std.proofs.Common.{◌≡◌, ℕ, ◌<◌, ◌≤◌, true, false, List, [], map, sym, subst}
use Rattle.imp_syntax.specs.Plain.{Procedure}
use Rattle.imp_slots.specs.Fits.{IsChecked}
use Rattle.imp_check.specs.Fine.{IsFine}
use Rattle.imp_check.specs.Slots.{routines_of}
use Rattle.domain_laws.specs.Operations.{Operations}
use Rattle.batch_meaning.specs.Batch.{LoopOptions}
use Rattle.call_contexts.specs.Settings.{setting_of}
use Rattle.cell_names.specs.Paths.{CellName}
use Rattle.imp_flow.specs.Plans.{Plan}
use Rattle.daig_query.specs.declared.store.Store.{Store}
use Rattle.daig_query.specs.Kept.{kept}
use Rattle.daig_query.specs.Right.{IsRight}
use Rattle.daig_tickets.specs.Tickets.{ticket, AreOpen}
use Rattle.daig_machine.specs.Machine.{first_machine}
use Rattle.daig_session.specs.declared.book.Book.{Book}
use Rattle.daig_session.specs.Books.{flow_in, AreBelow, AreBehind, AreAhead, IsFirst}
use Rattle.daig_session.specs.Going.{AreWaiting}
use Rattle.daig_session.specs.Holds.{Holds, IsReady}
use Rattle.daig_session.proofs.Ordered.{set_again}

module _ {S : Type 0} (dom : Operations S) (store : Store S) (book : Book) (program : List Procedure) (e : LoopOptions) (next : ℕ) (is : IsFirst book program e next) (fine : IsFine program) where
  pub begin_ready : 0 < next → next ≤ 1000001 → AreBelow next program → ((plan : Plan) → IsChecked plan.program → IsRight dom plan store) → IsReady dom store book
  begin_ready some low below right = record {
    right = right (flow_in book) (subst (λ (p : List Procedure). IsChecked (routines_of p)) (sym is.now) fine.fit);
    order = record {
      set = subst (λ (p : List Procedure). book.setting ≡ setting_of book.setting.engine (routines_of p)) (sym is.now) (set_again book.setting e (routines_of program) is.set);
      fine = subst IsFine (sym is.now) fine;
      some = subst (λ n. 0 < n) (sym is.next_is) some;
      low = subst (λ n. n ≤ 1000001) (sym is.next_is) low;
      below = subst (λ n. AreBelow n book.history.now) (sym is.next_is) (subst (AreBelow next) (sym is.now) below);
      behind = subst (AreBehind book.next book.history.now) (sym is.past_is) tt;
      ahead = subst (AreAhead book.next book.history.now) (sym is.future_is) tt;
      are_open = is.are_open;
    };
    waiting = subst (AreWaiting dom (flow_in book) store) (sym is.none) tt;
  }

  pub begin_holds : ((x : CellName) → kept store x ≡ false) → Holds dom store book (first_machine program e next)
  begin_holds empty = record {
    is = λ i. record { program = is.now i; engine = (is.set i).engine; next = is.next_is i; tickets = map ticket (is.none i); next_ticket = is.first i; kept = []; cost = is.cost i; past = is.past_is i; future = is.future_is i };
    same = empty;
    cells = record {
      cells = record {
        named = λ x h. absurd (let f : false ≡ true = h in cc);
        closed = λ x y h m. absurd (let f : false ≡ true = h in cc);
      };
      once = tt;
    };
  }
