use Rattle.std.proofs.Common.{◌≡◌, ◌+◌, ◌*◌, ◌≤◌, ◌<◌, ℕ, true, [], Some, length, slice_get, take}
use Rattle.std.specs.Prelude.{IfSome}
use Rattle.imp_syntax.specs.declared.edit.Location.{Location}
use Rattle.cell_names.specs.Paths.{CellName}
use Rattle.daig_query.specs.Kept.{kept}
use Rattle.daig_query.specs.Swept.{IsBounded}
use Rattle.daig_machine.specs.Machine.{Machine}
use Rattle.daig_machine.specs.Turns.{missing_in_places}
use Rattle.daig_session.specs.Books.{flow_in}
use Rattle.daig_session.specs.Going.{IsFull, IsGoing}
use Rattle.daig_session.specs.Holds.{Holds, IsReady}
use Rattle.daig_session.specs.Places.{HoldsAll}
use Rattle.daig_session.proofs.parts.Parts.fill_places.Given as goal

-- nothing is missing any more at the places so far
abbrev pub invariant-loop-at : goal.invariant-loop-at
invariant-loop-at g l =
    let old = l.initial.self in
    let dom = g.D.Domain.operations old.engine.domain in
    record {
      ready : IsReady dom l.self.engine.store l.self.book;
      domain : l.self.engine.domain ≡ old.engine.domain;
      spare : l.self.engine.spare ≡ old.engine.spare;
      book : l.self.book ≡ old.book;
      stays_bounded : IsBounded old.engine.spare old.engine.store → IsBounded l.self.engine.spare l.self.engine.store;
      stays_kept : (x : CellName) → kept old.engine.store x ≡ true → kept l.self.engine.store x ≡ true;
      count : l.full ≡ l.at-index;
      within : l.at-index ≤ length l.places;
      full : (i : ℕ) (p : Location) → i < l.full → slice_get l.places i ≡ Some p → IsFull dom (flow_in old.book) l.self.engine.store p;
      next : IfSome l.next (λ t. (p : Location) → slice_get l.places l.full ≡ Some p → IsGoing dom (flow_in old.book) l.self.engine.store p [] t);
      all : (m : Machine) → Holds dom old.engine.store old.book m → HoldsAll dom m l.self.engine.store l.self.book (take l.at-index l.places);
      filled : (m : Machine) → Holds dom old.engine.store old.book m → l.filled ≡ length (missing_in_places dom (take l.at-index l.places) m);
      low : l.filled ≤ l.most;
      least : l.initial.steps ≤ l.steps;
      ticked : l.steps ≤ l.initial.steps + g.D.Domain.counted old.engine.domain * l.filled;
    }
