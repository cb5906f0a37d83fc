-- A move to the nearest program of a side.
use Rattle.std.proofs.Common.{◌≡◌, ◌∷◌, List, refl}
use Rattle.cell_names.specs.Paths.{CellName}
use Rattle.domain_laws.specs.Operations.{Operations}
use Rattle.edit_keeps.specs.Apart.{flow_of, AreOneApart}
use Rattle.daig_machine.specs.Machine.{Machine}
use Rattle.daig_query.specs.declared.store.Store.{Store}
use Rattle.daig_session.specs.declared.book.Book.{Book}
use Rattle.daig_session.specs.declared.book.Side.{Side}
use Rattle.daig_session.specs.declared.book.Side.TheVariants.{Behind, Ahead}
use Rattle.daig_session.specs.Books.{machine_of}
use Rattle.daig_session.specs.Holds.{Holds, IsReady}
use Rattle.daig_session.specs.Moves.{Leaves}
use Rattle.daig_session.specs.Sides.{gone_to, programs_of, side_of, IsTurnedTo}
use Rattle.daig_session.proofs.Moved.{redo_apart, redo_holds, redo_ready, undo_apart, undo_holds, undo_ready}

-- the machine has the programs of the book
pub side_here : (side : Side) (b : Book) (kept : List CellName) → programs_of side b ≡ side_of side (machine_of b kept)
side_here Behind b kept = refl
side_here Ahead b kept = refl

module _ {S : Type 0} (dom : Operations S) (store : Store S) where
  pub go_apart : (side : Side) (old new : Book) → IsReady dom store old → new.history.now ∷ programs_of side new ≡ programs_of side old → AreOneApart old.history.now new.history.now
  go_apart Behind old new r nearest = undo_apart dom store store old new r nearest
  go_apart Ahead old new r nearest = redo_apart dom store store old new r nearest

  module _ (new_store : Store S) where
    pub go_ready : (side : Side) (old new : Book) → IsReady dom store old → new.history.now ∷ programs_of side new ≡ programs_of side old → IsTurnedTo side old new →
        Leaves dom (flow_of old.setting.engine old.history.now) (flow_of old.setting.engine new.history.now) store new_store → IsReady dom new_store new
    go_ready Behind old new r nearest t leave = undo_ready dom store new_store old new r nearest t leave
    go_ready Ahead old new r nearest t leave = redo_ready dom store new_store old new r nearest t leave

    pub go_holds : (side : Side) (old new : Book) → IsReady dom store old → new.history.now ∷ programs_of side new ≡ programs_of side old → IsTurnedTo side old new →
        Leaves dom (flow_of old.setting.engine old.history.now) (flow_of old.setting.engine new.history.now) store new_store → (m : Machine) → Holds dom store old m → Holds dom new_store new (gone_to side dom m)
    go_holds Behind old new r nearest t leave m h = undo_holds dom store new_store old new r nearest t leave m h
    go_holds Ahead old new r nearest t leave m h = redo_holds dom store new_store old new r nearest t leave m h
