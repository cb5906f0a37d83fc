-- What is the same except which places the table has.
use Rattle.std.proofs.Common.{◌≡◌, sym, subst, ◌∙◌}
use Rattle.domain_laws.specs.Operations.{Operations}
use Rattle.edit_keeps.specs.Apart.{flow_of}
use Rattle.daig_query.specs.declared.engine.Engine.{Engine}
use Rattle.daig_query.specs.declared.store.Store.{Store}
use Rattle.daig_query.specs.Right.{IsRight}
use Rattle.daig_tickets.specs.Tickets.{tickets}
use Rattle.daig_machine.specs.Machine.{Machine}
use Rattle.daig_session.specs.declared.book.Book.{Book}
use Rattle.daig_session.specs.declared.parts.Parts.{Parts}
use Rattle.daig_session.specs.Books.{flow_in, IsSame}
use Rattle.daig_session.specs.Going.{AreWaiting}
use Rattle.daig_session.specs.Holds.{Holds, IsReady}
use Rattle.daig_session.specs.Sessions.{IsReadyBy, StandsFor}
use Rattle.daig_session.proofs.Ordered.{same_order}

module _ {S : Type 0} (dom : Operations S) (store : Store S) (old new : Book) (t : IsSame old new) where
  same_flow : flow_in new ≡ flow_in old
  same_flow = λ i. flow_of (t.setting i).engine (t.now i)

  pub same_ready : IsReady dom store old → IsReady dom store new
  same_ready r = record {
    right = subst (λ p. IsRight dom p store) (sym same_flow) r.right;
    order = same_order old new r.order t;
    waiting = subst (λ p. AreWaiting dom p store new.tickets.open_ones.items) (sym same_flow) (subst (λ k. AreWaiting dom (flow_in old) store k.open_ones.items) (sym t.tickets_are) r.waiting);
  }

  pub same_holds : (m : Machine) → Holds dom store old m → Holds dom store new m
  same_holds m h = record {
    is = (λ i. record { program = t.now i; engine = (t.setting i).engine; next = t.next_is i; tickets = tickets (t.tickets_are i); next_ticket = (t.tickets_are i).next; kept = m.kept; cost = t.cost i; past = t.past_is i; future = t.future_is i }) ∙ h.is;
    same = h.same;
    cells = h.cells;
  }

module _ {D S : Type 0} (operations : D → Operations S) (old new : Parts D S) (engine : new.engine ≡ old.engine) (same : IsSame old.book new.book) where
  pub parts_ready : IsReadyBy operations old → IsReadyBy operations new
  parts_ready r =
      subst (λ (e : Engine D S). IsReady (operations e.domain) e.store new.book) (sym engine) (same_ready (operations old.engine.domain) old.engine.store old.book new.book same r)

  pub parts_hold : (m : Machine) → StandsFor operations old m → StandsFor operations new m
  parts_hold m h =
      subst (λ (e : Engine D S). Holds (operations e.domain) e.store new.book m) (sym engine) (same_holds (operations old.engine.domain) old.engine.store old.book new.book same m h)
