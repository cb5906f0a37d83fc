-- Moves to other programs.
use Rattle.std.proofs.Common.{◌≡◌, ℕ, ◌<◌, ◌≤◌, Bool, true, false, Err, Some, IfSome, List, [], ◌∷◌, map, take, filter, length, slice_get, is_some, inl, inr, refl, sym, ap, subst, ◌∙◌, arith}
use Rattle.std.specs.List.{All}
use Rattle.std.specs.FinMap.{get}
use Rattle.imp_syntax.specs.Plain.{Procedure}
use Rattle.imp_syntax.specs.declared.edit.Edit.{Edit}
use Rattle.imp_check.specs.Fine.{IsFine}
use Rattle.imp_check.specs.Slots.{routines_of}
use Rattle.imp_table.specs.Changes.{AreFalling, Makes}
use Rattle.imp_table.specs.Pages.{HasPlace, HavePlaces}
use Rattle.imp_table.specs.declared.change.Change.{Change}
use Rattle.imp_table.specs.declared.change.Put.{Put}
use Rattle.imp_edit.specs.Edited.{edited, next_after}
use Rattle.domain_laws.specs.Operations.{Operations}
use Rattle.batch_meaning.specs.Batch.{LoopOptions}
use Rattle.call_contexts.specs.Settings.{Setting}
use Rattle.cell_names.specs.Paths.{CellName}
use Rattle.daig_order.specs.Order.{member}
use Rattle.cell_kept_set.specs.Touched as touched
use Rattle.cell_kept_set.specs.Touched.{IsKept}
use Rattle.cell_kept_set.specs.KeptTest.{stays_kept}
use Rattle.cell_graph.specs.Same.{same_name}
use Rattle.cell_graph.specs.Holds.{HoldsCells}
use Rattle.cell_graph.specs.Named as named
use Rattle.edit_history.specs.After.{changed_program, Leads, LeadsOn}
use Rattle.edit_history.proofs.AfterLemmas.{after_is}
use Rattle.edit_keeps.specs.Apart.{AreOneApart, IsEdited, flow_of}
use Rattle.edit_keeps.proofs.LeaveKept.{leave_kept}
use Rattle.cell_removal.specs.Removal.{without, IsOrder}
use Rattle.daig_graph.specs.Cells.{Filled}
use Rattle.daig_graph.specs.Held.{IsIn}
use Rattle.edit_invalidate.specs.declared.planning.Emptying.{Emptying}
use Rattle.edit_invalidate.specs.Touched.{KeepsCell, input_count, inputs_at, name_at, or_start}
use Rattle.edit_invalidate.proofs.Leaving.{untouched_keep_rows}
use Rattle.edit_invalidate.proofs.Tracing.{traces_stay}
use Rattle.daig_query.specs.declared.held.Held.{Held}
use Rattle.daig_query.specs.declared.store.Store.{Store}
use Rattle.daig_query.specs.Claims.{KeepsTraces, Lessens}
use Rattle.daig_query.specs.Renamed.{IsRenamingOf}
use Rattle.daig_query.specs.Kept.{kept}
use Rattle.daig_query.specs.Right.{found, IsRight}
use Rattle.daig_query.specs.Stale.{AreStaleOf}
use Rattle.daig_query.proofs.Holding.{right_holds, rest_is_right}
use Rattle.daig_tickets.specs.Tickets.{ticket}
use Rattle.daig_machine.specs.Machine.{Machine}
use Rattle.daig_machine.specs.Turns.{back_to, after_edit, with_program, on_to, redone, undone}
use Rattle.daig_machine.specs.Claims.{AreKept, KeepsCells}
use Rattle.daig_machine.proofs.Moving.{left_is, move_keeps}
use Rattle.daig_session.specs.declared.book.Book.{Book}
use Rattle.daig_session.specs.declared.edits.Planned.{Planned}
use Rattle.daig_session.specs.declared.moving.Moving.{Moving}
use Rattle.daig_session.specs.Books.{flow_in, machine_of, AreBelow, AreBehind, AreAhead, IsTurned}
use Rattle.daig_session.specs.Going.{AreWaiting}
use Rattle.daig_session.specs.Holds.{Holds, IsReady}
use Rattle.daig_session.specs.Moves.{Empties, IsMoving, IsMovingTo, IsPlanned, Leaves}
use Rattle.daig_session.specs.Turns.{Goes, IsStopped}
use Rattle.daig_session.specs.declared.error.UndoError.{UndoError}
use Rattle.daig_session.specs.declared.error.UndoError.TheVariants as undo_error
use Rattle.daig_session.proofs.Ordered.{below_more, behind_more, behind_take, turned_order}
use Rattle.daig_session.proofs.TicketLemmas.{tickets_anew}
use Rattle.daig_session.proofs.Waiting.{waiting_anew}

pub both_ways : (a b : Bool) → (a ≡ true → b ≡ true) → (b ≡ true → a ≡ true) → a ≡ b
both_ways true true f g = refl
both_ways true false f g = absurd (let e = f refl in cc)
both_ways false true f g = absurd (let e = g refl in cc)
both_ways false false f g = refl

-- a change that makes a program leads to it
pub leads_to : (places : List ℕ) (ps : List Procedure) (c : Change) (qs : List Procedure) → Makes ps c qs → IsFine qs → HavePlaces places c.entries.items → Leads places ps c
leads_to places ps c qs makes fine there =
    let e = after_is ps c qs makes fine in
    record { makes = subst (λ (zs : List Procedure). Makes ps c zs) (sym e) makes; fine = subst IsFine (sym e) fine; there = there }

-- and so does the nearest one of a history
pub leads_first : (places : List ℕ) (ps : List Procedure) (c : Change) (side : List (List Procedure)) → LeadsOn places ps c side → Leads places ps c
leads_first places ps c [] h = absurd h
leads_first places ps c (qs ∷ more) h = leads_to places ps c qs h.makes h.fine h.there

module _ {S : Type 0} (dom : Operations S) where
  -- What the name of an untouched cell asked for and made it asks for and makes again.
  keeps_traces : (e : LoopOptions) (old new : List Procedure) (before : Store S) (plan : Emptying) → Empties (flow_of e old) (flow_of e new) before plan → HoldsCells dom (flow_of e old) before.names.names before.graph.cells →
      (n : ℕ) (f : Filled Held) (x : CellName) → get before.graph.cells n ≡ Some f → (IsIn plan.touched n → ⊥) → slice_get before.names.names n ≡ Some x → KeepsTraces dom (flow_of e old) (flow_of e new) x (length f.inputs)
  keeps_traces e old new before plan empties holds n f x there free number xs vs v many =
      let names = before.names.names in
      let cells = before.graph.cells in
      let keeps = untouched_keep_rows dom (flow_of e old) (flow_of e new) names cells empties.stmts n refl holds empties.changed (ap is_some there) (λ t. free ((empties.touched n).1 t)) in
      let name : name_at names n ≡ x = ap or_start number in
      let count : inputs_at cells n ≡ length xs = ap input_count there ∙ sym many in
      traces_stay dom (flow_of e old) (flow_of e new) x xs vs v refl (subst (λ y. KeepsCell (flow_of e old) (flow_of e new) y (length xs)) name (subst (KeepsCell (flow_of e old) (flow_of e new) (name_at names n)) count keeps))

  -- Cells that are planned are taken away.
  pub leaves : (e : LoopOptions) (old new : List Procedure) (before changed_program : Store S) (plan : Emptying) → AreOneApart old new → IsRight dom (flow_of e old) before → Empties (flow_of e old) (flow_of e new) before plan → Lessens before changed_program → changed_program.graph.cells ≡ without before.graph.cells plan.order →
      AreStaleOf before.graph.cells plan.order plan.touched changed_program.stale → Leaves dom (flow_of e old) (flow_of e new) before changed_program
  unfolding found
  leaves e old new before changed_program plan apart right empties less gone stale =
      let names = before.names.names in
      let holds = right_holds dom (flow_of e old) before right in
      let l = leave_kept dom e old new names before.graph.cells empties.stmts plan.order apart holds empties.changed empties.removes in
      let same_names : changed_program.names.names ≡ names = ap (λ k. k.names) less.names in
      let kept_is : (x : CellName) → kept changed_program x ≡ named.kept (without before.graph.cells plan.order) names x = λ x i. named.kept (gone i) (same_names i) x in
      record {
        right =
            rest_is_right dom (flow_of e old) (flow_of e new) before changed_program right less
            (subst (λ cs. HoldsCells dom (flow_of e new) changed_program.names.names cs) (sym gone) (subst (λ ns. HoldsCells dom (flow_of e new) ns (without before.graph.cells plan.order)) (sym same_names) l.holds))
            (λ x t. l.found x (sym (kept_is x) ∙ t)) plan.order plan.touched stale
            (λ n f x there planned free number. keeps_traces e old new before plan empties holds n f x there free number);
        names = λ x. (λ t. (l.kept x).0 (sym (kept_is x) ∙ t), λ k. kept_is x ∙ (l.kept x).1 k);
      }

  module _ (store new_store : Store S) (old new : Book) (program : List Procedure) (past future : List (List Procedure)) (next : ℕ) (r : IsReady dom store old) (t : IsTurned old program past future next new) (leave : Leaves dom (flow_of old.setting.engine old.history.now) (flow_of old.setting.engine program) store new_store) (fine : IsFine program) where
    engine_is : new.setting.engine ≡ old.setting.engine
    engine_is = ap (λ (s : Setting). s.engine) t.set

    pub moved_ready : 0 < next → next ≤ 1000001 → AreBelow next program → AreBehind next program past → AreAhead next program future → IsReady dom new_store new
    moved_ready some low below behind ahead = record {
      right = subst (λ p. IsRight dom (flow_of new.setting.engine p) new_store) (sym t.now) (subst (λ e. IsRight dom (flow_of e program) new_store) (sym engine_is) leave.right);
      order = turned_order old new program past future next r.order t fine some low below behind ahead;
      waiting = subst (AreWaiting dom (flow_in new) new_store) (sym t.anew_all) (waiting_anew dom (flow_in old) (flow_in new) store new_store old.tickets.open_ones.items r.waiting);
    }

    moved_of : (xs : List CellName) → ((x : CellName) → kept store x ≡ member same_name xs x) → AreKept dom old.setting.engine (routines_of old.history.now) xs → Holds dom new_store new (with_program dom program past future next (machine_of old xs))
    moved_of xs k are =
        let edit : touched.Edit = record { engine = old.setting.engine; old = routines_of old.history.now; new = routines_of program } in
        let fun : kept store ≡ member same_name xs = λ i x. k x i in
        let tickets_are = ap (map ticket) t.anew_all ∙ tickets_anew old.tickets.open_ones.items in
        let ys = filter (stays_kept dom edit same_name (member same_name xs)) xs in
        record {
          is = λ i. record { program = t.now i; engine = (t.set i).engine; next = t.next_is i; tickets = tickets_are i; next_ticket = t.next_ticket i; kept = ys; cost = t.cost i; past = t.past_is i; future = t.future_is i };
          same = λ x. both_ways (kept new_store x) (member same_name ys x)
              (λ h. (left_is dom edit r.order.fine.fit fine.fit xs are x).1 (subst (λ f. IsKept dom edit same_name f x) fun ((leave.names x).0 h)))
              (λ h. (leave.names x).1 (subst (λ f. IsKept dom edit same_name f x) (sym fun) ((left_is dom edit r.order.fine.fit fine.fit xs are x).0 h)));
          cells = move_keeps dom edit r.order.fine.fit fine.fit xs are;
        }

    pub moved_holds : (m : Machine) → Holds dom store old m → Holds dom new_store new (with_program dom program past future next m)
    moved_holds m h = subst (λ z. Holds dom new_store new (with_program dom program past future next z)) h.is (moved_of m.kept h.same (subst (KeepsCells dom) (sym h.is) h.cells))

  -- An edit is planned.
  module _ (store : Store S) (old : Book) (p : Planned) (ed : Edit) (r : IsReady dom store old) (pl : IsPlanned store old ed p) where
    edit_fine : IsFine (edited ed old.history.now)
    edit_fine = subst IsFine pl.makes pl.leads.fine

    pub edit_apart : IsEdited old.history.now (edited ed old.history.now)
    edit_apart = record { edit = ed; next = old.next; fine = r.order.fine; after = edit_fine; below = r.order.below; continues = pl.continues; makes = refl }

  -- It is made.
  module _ (store new_store : Store S) (old new : Book) (p : Planned) (ed : Edit) (r : IsReady dom store old) (pl : IsPlanned store old ed p) (t : IsTurned old (changed_program old.history.now p.edited.change) (take 64 (old.history.now ∷ old.history.past)) [] p.edited.next new) (leave : Leaves dom (flow_of old.setting.engine old.history.now) (flow_of old.setting.engine (edited ed old.history.now)) store new_store) where
    turned : IsTurned old (edited ed old.history.now) (take 64 (old.history.now ∷ old.history.past)) [] p.edited.next new
    turned = subst (λ (q : List Procedure). IsTurned old q (take 64 (old.history.now ∷ old.history.past)) [] p.edited.next new) pl.makes t

    no_less : old.next ≤ p.edited.next
    no_less = let n = pl.next in omega arith

    pub edit_ready : IsReady dom new_store new
    edit_ready =
        let less = no_less in
        let some = r.order.some in
        moved_ready store new_store old new (edited ed old.history.now) (take 64 (old.history.now ∷ old.history.past)) [] p.edited.next r turned leave (edit_fine store old p ed r pl)
        (omega arith) pl.low pl.below
        (behind_take 64 p.edited.next (edited ed old.history.now) (old.history.now ∷ old.history.past) (edit_apart store old p ed r pl, below_more old.next p.edited.next old.history.now less r.order.below, behind_more old.next p.edited.next less old.history.now old.history.past r.order.behind))
        tt

    pub edit_holds : (m : Machine) → Holds dom store old m → Holds dom new_store new (after_edit dom ed m)
    edit_holds m h =
        subst (Holds dom new_store new) (
        ap (λ n. with_program dom (edited ed old.history.now) (take 64 (old.history.now ∷ old.history.past)) [] n m) pl.next
        ∙ ap (λ (z : Machine). with_program dom (edited ed z.program) (take 64 (z.program ∷ z.past)) [] (next_after ed z.next) m) h.is
        ) (moved_holds store new_store old new (edited ed old.history.now) (take 64 (old.history.now ∷ old.history.past)) [] p.edited.next r turned leave (edit_fine store old p ed r pl) m h)

  -- The program after is the present one.
  module _ (store new_store : Store S) (old new : Book) (r : IsReady dom store old) (past_is : new.history.now ∷ new.history.past ≡ old.history.past) where
    behind_is : AreBehind old.next old.history.now (new.history.now ∷ new.history.past)
    behind_is = subst (AreBehind old.next old.history.now) (sym past_is) r.order.behind

    pub undo_apart : AreOneApart old.history.now new.history.now
    undo_apart = inr behind_is.0

    module _ (t : IsTurned old new.history.now new.history.past (old.history.now ∷ old.history.future) old.next new) (leave : Leaves dom (flow_of old.setting.engine old.history.now) (flow_of old.setting.engine new.history.now) store new_store) where
      pub undo_ready : IsReady dom new_store new
      undo_ready =
          let b = behind_is in
          moved_ready store new_store old new new.history.now new.history.past (old.history.now ∷ old.history.future) old.next r t leave b.0.fine r.order.some r.order.low b.1 b.2 (b.0, r.order.below, r.order.ahead)

      pub undo_holds : (m : Machine) → Holds dom store old m → Holds dom new_store new (undone dom m)
      undo_holds m h =
          let b = behind_is in
          subst (Holds dom new_store new) (
          ap (λ (z : Machine). with_program dom new.history.now new.history.past (z.program ∷ z.future) z.next m) h.is
          ∙ ap (λ side. back_to dom side m) (past_is ∙ ap (λ (z : Machine). z.past) h.is)
          ) (moved_holds store new_store old new new.history.now new.history.past (old.history.now ∷ old.history.future) old.next r t leave b.0.fine m h)

  -- The program ahead is.
  module _ (store new_store : Store S) (old new : Book) (r : IsReady dom store old) (future_is : new.history.now ∷ new.history.future ≡ old.history.future) where
    ahead_is : AreAhead old.next old.history.now (new.history.now ∷ new.history.future)
    ahead_is = subst (AreAhead old.next old.history.now) (sym future_is) r.order.ahead

    pub redo_apart : AreOneApart old.history.now new.history.now
    redo_apart = inl ahead_is.0

    module _ (t : IsTurned old new.history.now (old.history.now ∷ old.history.past) new.history.future old.next new) (leave : Leaves dom (flow_of old.setting.engine old.history.now) (flow_of old.setting.engine new.history.now) store new_store) where
      pub redo_ready : IsReady dom new_store new
      redo_ready =
          let a = ahead_is in
          moved_ready store new_store old new new.history.now (old.history.now ∷ old.history.past) new.history.future old.next r t leave a.0.after r.order.some r.order.low a.1 (a.0, r.order.below, r.order.behind) a.2

      pub redo_holds : (m : Machine) → Holds dom store old m → Holds dom new_store new (redone dom m)
      redo_holds m h =
          let a = ahead_is in
          subst (Holds dom new_store new) (
          ap (λ (z : Machine). with_program dom new.history.now (z.program ∷ z.past) new.history.future z.next m) h.is
          ∙ ap (λ side. on_to dom side m) (future_is ∙ ap (λ (z : Machine). z.future) h.is)
          ) (moved_holds store new_store old new new.history.now (old.history.now ∷ old.history.past) new.history.future old.next r t leave a.0.after m h)

-- An edit is worked out over a table of the present program, which then gets places for it.
module _ (ed : Edit) (places : List ℕ) (now t : List Procedure) (change : Change) (same : t ≡ now) (makes : Makes t change (edited ed t)) (fine : IsFine (edited ed t)) (falling : AreFalling change.entries.items) (there : All (λ (p : Put). HasPlace places p.number) change.entries.items) where
  makes_now : Makes now change (edited ed now)
  makes_now = subst (λ (z : List Procedure). Makes z change (edited ed z)) same makes

  fine_now : IsFine (edited ed now)
  fine_now = subst (λ (z : List Procedure). IsFine (edited ed z)) same fine

  pub plan_leads : Leads places now change
  plan_leads = leads_to places now change (edited ed now) makes_now fine_now (record { falling = falling; there = there })

  pub plan_after : changed_program now change ≡ edited ed now
  plan_after = after_is now change (edited ed now) makes_now fine_now

-- The nearest change leads to a move to the nearest program.
pub moving_first : {S : Type 0} (store : Store S) (e : LoopOptions) (places : List ℕ) (now : List Procedure) (c : Change) (side : List (List Procedure)) (m : Moving) → LeadsOn places now c side → IsMoving store e now (changed_program now c) m → IsMovingTo store e now side m
moving_first store e places now c [] m h i = absurd h
moving_first store e places now c (qs ∷ more) m h i = subst (λ (z : List Procedure). IsMoving store e now z m) (after_is now c qs h.makes h.fine) i

-- There is one.
pub moving_some : {S : Type 0} (store : Store S) (e : LoopOptions) (old : List Procedure) (side : List (List Procedure)) (m : Moving) → IsMovingTo store e old side m → 0 < length side
moving_some store e old [] m h = absurd h
moving_some store e old (p ∷ ps) m h = omega arith

pub moving_order : {S : Type 0} (store : Store S) (e : LoopOptions) (old : List Procedure) (side : List (List Procedure)) (m : Moving) → IsMovingTo store e old side m → IsOrder store.graph.cells m.plan.order
moving_order store e old [] m h = absurd h
moving_order store e old (p ∷ ps) m h = h.empties.removes.order

pub moving_names : {S : Type 0} (store : Store S) (e : LoopOptions) (old : List Procedure) (side : List (List Procedure)) (m : Moving) → IsMovingTo store e old side m → IfSome m.renaming (IsRenamingOf store)
moving_names store e old [] m h = absurd h
moving_names store e old (p ∷ ps) m h = h.names

-- a move to the first of some programs
pub first_move : {S : Type 0} (store : Store S) (e : LoopOptions) (old p : List Procedure) (ps side : List (List Procedure)) (m : Moving) → p ∷ ps ≡ side → IsMovingTo store e old side m → IsMoving store e old p m
first_move store e old p ps side m is h = subst (λ z. IsMovingTo store e old z m) (sym is) h

-- Where there is no move, the machine stands as it did.
pub stopped_goes : (m : Machine) (stands : Machine → Type 0) (side : List (List Procedure)) (there : Machine) (e : UndoError) → IsStopped side e → stands m → Goes m stands side there (Err e)
stopped_goes m stands side there undo_error.Nothing w s = (w, s)
stopped_goes m stands side there undo_error.Memory w s = s
