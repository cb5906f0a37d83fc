-- Moves from one program to another.
use Rattle.std.specs.Prelude.{◌≡◌, ◌↔◌, ℕ, ◌≤◌, true, List, [], ◌∷◌, Option, None, IfSome, MatchOption}
use Rattle.imp_syntax.specs.Plain.{Procedure}
use Rattle.imp_syntax.specs.declared.edit.Edit.{Edit}
use Rattle.imp_check.specs.Slots.{routines_of}
use Rattle.imp_table.specs.Tabled.{Tabled}
use Rattle.imp_table.specs.declared.change.Change.{Change}
use Rattle.imp_edit.specs.Edited.{edited, next_after, Continues}
use Rattle.imp_edit.specs.Refusals.{edit_refusal, IsRefusal}
use Rattle.imp_edit.specs.declared.error.EditError.{EditError}
use Rattle.domain_laws.specs.Operations.{Operations}
use Rattle.batch_meaning.specs.Batch.{LoopOptions}
use Rattle.call_contexts.specs.Settings.{Setting, setting_of}
use Rattle.cell_names.specs.Paths.{CellName}
use Rattle.cell_kept_set.specs.Touched.{IsKept}
use Rattle.imp_flow.specs.Plans.{Plan}
use Rattle.imp_flow.specs.Changed.{AreChanged}
use Rattle.cell_graph.specs.Same.{same_name}
use Rattle.cell_removal.specs.Removal.{Removes}
use Rattle.edit_invalidate.specs.declared.planning.Emptying.{Emptying}
use Rattle.edit_invalidate.specs.Touched.{AreTouched, IsTouched}
use Rattle.edit_invalidate.specs.Claims.{edit_of}
use Rattle.edit_keeps.specs.Apart.{flow_of, AreOneApart}
use Rattle.edit_history.specs.After.{changed_program, Leads, LeadsOn}
use Rattle.daig_query.specs.declared.engine.Engine.{Engine}
use Rattle.daig_query.specs.declared.store.Store.{Store}
use Rattle.daig_query.specs.Kept.{kept}
use Rattle.daig_query.specs.Renamed.{IsRenamingOf}
use Rattle.daig_query.specs.Right.{IsRight}
use Rattle.daig_machine.specs.Machine.{Machine}
use Rattle.daig_machine.specs.Turns.{after_edit}
use Rattle.daig_session.specs.declared.book.Book.{Book}
use Rattle.daig_session.specs.declared.moving.Moving.{Moving}
use Rattle.daig_session.specs.declared.edits.Planned.{Planned}
use Rattle.daig_session.specs.declared.parts.Parts.{Parts}
use Rattle.daig_session.specs.Books.{AreBelow, IsSame, IsSettingOf}
use Rattle.daig_session.specs.Engines.{IsRightFor}
use Rattle.daig_session.specs.Sessions.{StandsFor}

-- A plan takes away what the change from one program to the other empties, and tells those whose own row is changed.
pub record Empties {S : Type 0} (old new : Plan) (store : Store S) (plan : Emptying) : Type 0 where
  pub stmts : List ℕ
  pub changed : AreChanged old new stmts
  pub removes : Removes store.graph.cells (IsTouched old new store.names.names store.graph.cells stmts) plan.order
  pub touched : AreTouched old new store.names.names store.graph.cells stmts plan.touched

-- The cells of an engine are right for a table's program.
abbrev pub IsRightOver : {D S : Type 0} → (D → Operations S) → Engine D S → LoopOptions → Tabled → Type 0
IsRightOver operations engine options table = IsRightFor operations engine (flow_of options table.program)

-- The change leads on from a table's program.
abbrev pub LeadsIn : Tabled → Change → Type 0
LeadsIn table change = Leads table.places table.program change

-- A plan takes away what the change empties of an engine.
abbrev pub EmptiesBy : {D S : Type 0} → Engine D S → Setting → Tabled → Change → (plan : Emptying) → Type 0
EmptiesBy engine setting table change plan =
    Empties (flow_of setting.engine table.program) (flow_of setting.engine (changed_program table.program change)) engine.store plan

-- the setting of the program that the change makes
abbrev pub IsSettingAfter : LoopOptions → Tabled → Change → Setting → Type 0
IsSettingAfter options table change = IsSettingOf options (changed_program table.program change)

-- the setting of the program that is moved to, the plan of what the move empties, and the names, if they are worked out anew
pub record IsMoving {S : Type 0} (store : Store S) (engine : LoopOptions) (old new : List Procedure) (m : Moving) : Type 0 where
  pub set : m.setting ≡ setting_of engine (routines_of new)
  pub empties : Empties (flow_of engine old) (flow_of engine new) store m.plan
  pub names : IfSome m.renaming (IsRenamingOf store)

-- a move to the program that a change makes
abbrev pub IsMovingBy : {D S : Type 0} → Engine D S → Setting → Tabled → Change → Moving → Type 0
IsMovingBy engine setting table change m = IsMoving engine.store setting.engine table.program (changed_program table.program change) m

-- a move to the first of these programs
abbrev pub IsMovingTo : {S : Type 0} → Store S → LoopOptions → List Procedure → List (List Procedure) → Moving → Type 0
IsMovingTo store engine old [] m = ⊥
IsMovingTo store engine old (p ∷ ps) m = IsMoving store engine old p m

-- The change leads to the first of these programs; there is none where there are no programs.
abbrev pub IsNearest : {R : Type 0} → Book → Option R → (change_at : R → Change) → (side : List (List Procedure)) → Type 0
IsNearest book change change_at side = MatchOption change (side ≡ []) (λ c. LeadsOn book.history.places book.history.now (change_at c) side)

-- What is left are the kept names, and all is right for the new program.
pub record Leaves {S : Type 0} (dom : Operations S) (old new : Plan) (before after : Store S) : Type 0 where
  pub right : IsRight dom new after
  pub names : (x : CellName) → (kept after x ≡ true) ↔ IsKept dom (edit_of old new) same_name (kept before) x

-- Once a plan has taken away what an edit empties, the kept names are left, and all is right for the new program.
abbrev pub LeavesBy : {D S : Type 0} → (operations : D → Operations S) → (old new : Engine D S) → (plan : Emptying) → Type 0
LeavesBy operations old new plan = (e : LoopOptions) (before after : List Procedure) → AreOneApart before after →
    IsRight (operations old.domain) (flow_of e before) old.store → Empties (flow_of e before) (flow_of e after) old.store plan →
    Leaves (operations old.domain) (flow_of e before) (flow_of e after) old.store new.store

-- All that an accepted edit needs is there.
pub record IsPlanned {S : Type 0} (store : Store S) (book : Book) (e : Edit) (p : Planned) : Type 0 where
  pub leads : Leads book.history.places book.history.now p.edited.change
  pub makes : changed_program book.history.now p.edited.change ≡ edited e book.history.now
  pub continues : Continues e book.next
  pub next : p.edited.next ≡ next_after e book.next
  pub low : p.edited.next ≤ 1000001
  pub below : AreBelow p.edited.next (edited e book.history.now)
  pub moving : IsMoving store book.setting.engine book.history.now (edited e book.history.now) p.moving

-- the same for a session
abbrev pub IsPlannedFor : {D S : Type 0} → Parts D S → Edit → Planned → Type 0
IsPlannedFor session e p = IsPlanned session.engine.store session.book e p

-- A session is as it was, except which places the table has.
abbrev pub IsStill : {D S : Type 0} → (old new : Parts D S) → Type 0
IsStill old new = (new.engine ≡ old.engine) × IsSame old.book new.book

-- An edit has no fault in the present program, or this one.
abbrev pub IsAccepted : Book → Edit → Type 0
IsAccepted book e = edit_refusal e book.history.now book.next ≡ None

abbrev pub IsRefusedFor : Book → Edit → EditError → Type 0
IsRefusedFor book e why = IsRefusal (edit_refusal e book.history.now book.next) why

-- The edit that was planned is made: the machine after it stands.
abbrev pub Commits : {D S : Type 0} → (operations : D → Operations S) → (old new : Parts D S) → Planned → Type 0
Commits operations old new planned = (e : Edit) (m : Machine) → IsPlannedFor old e planned → StandsFor operations old m →
    StandsFor operations new (after_edit (operations old.engine.domain) e m)
