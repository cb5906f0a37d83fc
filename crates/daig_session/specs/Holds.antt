-- That a session stands for a machine.
use Rattle.std.specs.Prelude.{◌≡◌, ℕ, Some, slice_get}
use Rattle.cell_names.specs.Paths.{CellName}
use Rattle.domain_laws.specs.Operations.{Operations}
use Rattle.daig_query.specs.declared.store.Store.{Store}
use Rattle.daig_query.specs.Kept.{kept}
use Rattle.daig_query.specs.Right.{IsRight}
use Rattle.daig_machine.specs.Machine.{Machine}
use Rattle.daig_machine.specs.Turns.{is_kept}
use Rattle.daig_machine.specs.Claims.{KeepsCells}
use Rattle.daig_tickets.specs.declared.tickets.OpenTicket.{OpenTicket}
use Rattle.daig_session.specs.declared.book.Book.{Book}
use Rattle.daig_session.specs.declared.course.Course.{Course}
use Rattle.daig_session.specs.Books.{flow_in, machine_of, IsInOrder}
use Rattle.daig_session.specs.Going.{AreWaiting, HasComeFar}

module _ {S : Type 0} (dom : Operations S) (store : Store S) (book : Book) where
  -- The cells are right for the present program; all else is in order; and how far tickets have come is good.
  pub record IsReady : Type 0 where
    pub right : IsRight dom (flow_in book) store
    pub order : IsInOrder book
    pub waiting : AreWaiting dom (flow_in book) store book.tickets.open_ones.items

  -- It is the machine with the kept names that have cells.
  pub record Holds (m : Machine) : Type 0 where
    pub is : machine_of book m.kept ≡ m
    pub same : (x : CellName) → kept store x ≡ is_kept m x
    pub cells : KeepsCells dom m

  -- A ticket stands at a place, and this is what it has come to.
  pub record IsAtPlace (place : ℕ) (c : Course) : Type 0 where
    pub one : OpenTicket Course
    pub there : slice_get book.tickets.open_ones.items place ≡ Some one
    pub course : HasComeFar dom (flow_in book) store one.question c
