-- The places of a report, one after another: how far they have come, and what is filled for the first so many of them.
use Rattle.std.specs.Prelude.{◌≡◌, ◌↔◌, ◌<◌, ◌≤◌, ℕ, Bool, true, List, [], length, min, take, drop, slice_get, Option, Some, None, Result, IfOk, IfSome}
use Rattle.imp_syntax.specs.declared.edit.Location.{Location}
use Rattle.imp_slots.specs.Plain.{Routine}
use Rattle.imp_check.specs.Slots.{routines_of}
use Rattle.imp_words.specs.declared.refusal.QueryRefusal.{QueryRefusal}
use Rattle.base_values.specs.declared.error.Memory.{Memory}
use Rattle.domain_laws.specs.Operations.{Operations}
use Rattle.batch_meaning.specs.Answers.{answer, Refuses}
use Rattle.cell_names.specs.Paths.{CellName}
use Rattle.daig_query.specs.declared.advance.Progress.{Progress}
use Rattle.daig_query.specs.declared.store.Store.{Store}
use Rattle.daig_query.specs.Kept.{kept}
use Rattle.daig_machine.specs.Machine.{Machine}
use Rattle.daig_machine.specs.Turns.{missing_in_places}
use Rattle.daig_session.specs.declared.book.Book.{Book}
use Rattle.daig_session.specs.declared.course.Going.{Going}
use Rattle.daig_session.specs.declared.course.Kind.{Kind}
use Rattle.daig_session.specs.declared.course.Tour.{Tour}
use Rattle.daig_session.specs.declared.parts.Parts.{Parts}
use Rattle.daig_session.specs.declared.touring.Reached.{Reached}
use Rattle.daig_session.specs.Books.{flow_in}
use Rattle.daig_session.specs.Engines.{HasCome}
use Rattle.daig_session.specs.Going.{kind_places, IsFull, IsTour}
use Rattle.daig_session.specs.Places.{HoldsWith}
use Rattle.daig_session.specs.Sessions.{FromEach}

-- a report that is to begin
pub record IsBegun (kind : Kind) (program : List Routine) (t : Tour) : Type 0 where
  pub kind_is : t.kind ≡ kind
  pub are : t.places ≡ kind_places kind program
  pub none_full : t.full ≡ 0
  pub none_begun : t.going ≡ None

-- where a machine's program is asked for a report of this kind
abbrev pub places_in : Kind → Machine → List Location
places_in kind m = kind_places kind (routines_of m.program)

module _ {D S : Type 0} (operations : D → Operations S) (session : Parts D S) where
  -- so far has a place come, if it is begun; ..
  abbrev pub IsNext : Location → Option Going → Type 0
  IsNext l next = IfSome next (HasCome operations session.engine (flow_in session.book) l [])

  -- .. so far has that of a list come
  abbrev pub IsNextOf : List Location → (full : ℕ) → Option Going → Type 0
  IsNextOf places full next = IfSome next (λ g. (l : Location) → slice_get places full ≡ Some l → HasCome operations session.engine (flow_in session.book) l [] g)

  -- A place that does not begin is refused.
  abbrev pub RefusesNone : Location → Option Going → Type 0
  RefusesNone l None = (r : QueryRefusal) × (answer (operations session.engine.domain) (flow_in session.book).engine (flow_in session.book).program l [] ≡ Refuses r)
  RefusesNone l (Some g) = Unit {0}

  -- Nothing is missing at a place, ..
  abbrev pub IsFullIn : Location → Type 0
  IsFullIn l = IsFull (operations session.engine.domain) (flow_in session.book) session.engine.store l

  -- .. nor at the first so many of some.
  abbrev pub AreFullIn : List Location → (count : ℕ) → Type 0
  AreFullIn places count = (i : ℕ) (l : Location) → i < count → slice_get places i ≡ Some l → IsFullIn l

  -- So far have places come.
  pub record HaveReached (places : List Location) (next : Option Going) (r : Reached) : Type 0 where
    pub within : r.full ≤ length places
    pub full : AreFullIn places r.full
    pub next_is : IsNextOf places r.full next
    pub ends : r.done ≡ true → r.full ≡ length places

  -- So far has a report come, ..
  abbrev pub HasTour : Tour → Type 0
  HasTour t = IsTour (operations session.engine.domain) (flow_in session.book) session.engine.store t

  -- .. and nothing is missing at any of its places.
  abbrev pub IsTourFull : Kind → Type 0
  IsTourFull kind = (i : ℕ) (l : Location) → slice_get (kind_places kind (routines_of session.book.history.now)) i ≡ Some l → IsFullIn l

-- The first of what is missing is kept, as much as was wanted; whether that was all is told.
pub record IsSomeFilled {S : Type 0} (dom : Operations S) (m : Machine) (store : Store S) (book : Book) (places : List Location) (most filled : ℕ) (done : Bool) : Type 0 where
  pub as_many : filled ≡ min most (length (missing_in_places dom places m))
  pub ends : (done ≡ true) ↔ (length (missing_in_places dom places m) ≤ most)
  pub some : HoldsWith dom m store book (take filled (missing_in_places dom places m))

module _ {D S : Type 0} (old new : Parts D S) where
  -- What has a cell keeps one.
  abbrev pub StaysKept : Type 0
  StaysKept = (x : CellName) → kept old.engine.store x ≡ true → kept new.engine.store x ≡ true

module _ {D S : Type 0} (operations : D → Operations S) (old new : Parts D S) where
  -- The first of what is missing at the places of each machine that the session stood for is kept.
  abbrev pub FillsSome : (Machine → List Location) → (most : ℕ) → Result Progress Memory → Type 0
  FillsSome places most result = FromEach operations old new (λ dom m _. IfOk result (λ p.
      IsSomeFilled dom m new.engine.store new.book (places m) most p.filled p.done))

  abbrev pub ReachesSome : List Location → (most : ℕ) → Result Reached Memory → Type 0
  ReachesSome places most result = FromEach operations old new (λ dom m _. IfOk result (λ r.
      IsSomeFilled dom m new.engine.store new.book places most r.filled r.done))
