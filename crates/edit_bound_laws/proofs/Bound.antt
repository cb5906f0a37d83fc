-- What is not reached stays, and what an edit changes at one statement alone.
use Rattle.std.proofs.Common.{◌≡◌, ℕ, List, [], ◌∷◌, Option, Some, None, Bool, true, false, reverse, zero, suc, ◌<◌, arith, refl, sym, ap, ◌∙◌, subst, inl, inr}
use Rattle.imp_slots.specs.Plain.{Routine}
use Rattle.imp_slots.specs.Fits.{IsChecked}
use Rattle.domain_laws.specs.Operations.{Operations}
use Rattle.batch_meaning.specs.Batch.{LoopOptions}
use Rattle.batch_meaning.specs.Places.{if_some}
use Rattle.cell_names.specs.Paths.{CellName}
use Rattle.daig_order.specs.Order.{member}
use Rattle.daig_order.specs.Asking.{Rows, value_of, inputs_of}
use Rattle.daig_order.specs.Leading.{LeadsTo, itself, through}
use Rattle.daig_order.proofs.AskingProofs.{gather-asked, system-acyclic}
use Rattle.cell_rows.specs.Names.{IsSame}
use Rattle.cell_rows.specs.Rows.{Row}
use Rattle.cell_rows.specs.Cells.{Cell, by_row, asks_row}
use Rattle.cell_rows.specs.Flat.{flat_row}
use Rattle.cell_rows.proofs.FlatOnce.{flat_once, all_fine}
use Rattle.cell_rows.proofs.Lookup.{then_some}
use Rattle.cell_rows.proofs.Rowed.{has_row}
use Rattle.cell_kept_set.specs.Touched.{Edit, old_rows, old_system, KeepsRow, IsChanged, AreCells, IsKept}
use Rattle.cell_kept_set.specs.Places.{KeepPlaces}
use Rattle.cell_kept_set.proofs.Local.{same_kept}
use Rattle.cell_kept_set.proofs.Decided.{Decided, keeps_row}
use Rattle.cell_kept_set.proofs.Right.{old_law}
use Rattle.base_values.proofs.Cases.{by_bool}
use Rattle.std.proofs.lemmas.Bool.{or_left, or_right, or_cases}
use Rattle.cell_kept_set.proofs.Plans.{same_rows_stay}
use Rattle.cell_kept_set.proofs.Plans.{places_turn}
use Rattle.imp_syntax.specs.Plain.{Procedure}
use Rattle.imp_check.specs.Fine.{IsFine}
use Rattle.imp_check.specs.Slots.{routines_of}
use Rattle.edit_keeps.specs.Apart.{AreOneApart, IsEdited}
use Rattle.edit_keeps.proofs.Kept.{keep_places}
use Rattle.cell_graph.specs.Same.{same_name}
use Rattle.cell_graph.proofs.Same.{same_is}
use Rattle.daig_machine.specs.Turns.{is_kept, with_program}
use Rattle.daig_machine.proofs.Moving.{left_is}
use Rattle.edit_bound_laws.specs.Flow.{Node, statement_of, node_of, Equation, equation, IsReached, itself as there, along}
use Rattle.edit_bound_laws.specs.Bound.{IsChangedAt, IsInReach, change_to, EmptiedAreReached, DeadEndsGoAlone}
use Rattle.edit_bound_laws.proofs.Named.{asked}
use Rattle.edit_bound_laws.proofs.Rows.{row_by, row_is}
use Rattle.edit_bound_laws.proofs.Steps.{Step, flat_leads}

by_some : {S : Type 0} (dom : Operations S) (engine : LoopOptions) (o : Option Row) (vs : List (Cell S)) (y : CellName) → by_row dom engine o None (λ r. asks_row dom engine r vs) ≡ Some y → (r : Row) × (o ≡ Some r) × (asks_row dom engine r vs ≡ Some y)
by_some dom engine None vs y e = absurd cc
by_some dom engine (Some r) vs y e = (r, refl, e)

module _ {S : Type 0} (dom : Operations S) (e : Edit) (co : IsChecked e.old) (cn : IsChecked e.new) (same : CellName → CellName → Bool) (is : IsSame same) (cells : CellName → Bool) (are : AreCells dom e.engine e.old same cells) where
  abbrev OLD : List Routine
  OLD = reverse e.old

  abbrev NEW : List Routine
  NEW = reverse e.new

  -- An input of a cell is at the cell's point, or control comes straight from there.
  input_leads : (x y : CellName) → cells y ≡ true → member same (inputs_of (old_rows dom e same) y) x ≡ true → Step e.engine OLD (node_of x) (node_of y)
  unfolding inputs_of
  input_leads x y c m =
      let h = are.named y c in
      gather-asked same is.same_true (value_of (old_rows dom e same)) ((old_rows dom e same).asks y) (λ z. Step e.engine OLD (node_of z) (node_of y))
      (λ vs z a.
      let r = by_some dom e.engine (flat_row e.engine OLD y.path y.point) vs z a in
      asked e.engine (λ z. Step e.engine OLD (node_of z) (node_of y)) dom r.0 vs z (flat_leads e.engine OLD (flat_once e.old co) (all_fine e.old co) y h.0 r.0 h.1 r.1) r.2)
      ((old_rows dom e same).most y) [] x m

  -- A cell keeps its row where its point keeps the equation.
  same_equation : (x : CellName) (q : Equation) → cells x ≡ true → equation e.engine OLD (node_of x).point ≡ Some q → equation e.engine NEW (node_of x).point ≡ Some q → KeepsRow dom e same x
  same_equation x q c old new =
      let r = has_row e.engine e.old co x (are.named x c) in
      same_rows_stay dom e same x r.0 r.1
      (row_is e.engine NEW x.path x.point ∙ ap (λ o. if_some o (row_by e.engine x.path x.point)) (new ∙ sym old) ∙ sym (row_is e.engine OLD x.path x.point) ∙ r.1)

  -- A cell has an equation.
  has_equation : (x : CellName) → cells x ≡ true → (q : Equation) × (equation e.engine OLD (node_of x).point ≡ Some q)
  has_equation x c =
      let r = has_row e.engine e.old co x (are.named x c) in
      let q = then_some (equation e.engine OLD (node_of x).point) (row_by e.engine x.path x.point) r.0 (sym (row_is e.engine OLD x.path x.point) ∙ r.1) in
      (q.0, q.1)

  step_on : (a b : Node) → Step e.engine OLD a b → IsReached e.engine OLD (λ a. IsChangedAt e a.point) a → IsReached e.engine OLD (λ a. IsChangedAt e a.point) b
  step_on a b (inl i) h = subst (IsReached e.engine OLD (λ a. IsChangedAt e a.point)) i h
  step_on a b (inr f) h = along a b h f

  -- What leads to a changed cell is reached from a changed point.
  in_reach : (x : CellName) → cells x ≡ true → LeadsTo (old_system dom e same) (IsChanged dom e same) x → IsInReach e x
  in_reach x c (itself _ h) = let q = has_equation x c in there (node_of x) (q.0, q.1, λ new. h (same_equation x q.0 c q.1 new))
  in_reach x c (through y _ l m) = step_on (node_of y) (node_of x) (input_leads y x c m) (in_reach y (are.closed x y c m) l)

  abbrev TO : Rows CellName (Cell S)
  TO = old_rows dom e same

  -- the cell leads to one whose own row is changed
  abbrev Goes : CellName → Type 0
  Goes = LeadsTo (old_system dom e same) (IsChanged dom e same)

  -- Whether one of these does is decided where it is of each,
  some_goes : (xs : List CellName) → ((y : CellName) → member same xs y ≡ true → Decided (Goes y)) → Decided ((y : CellName) × (member same xs y ≡ true) × Goes y)
  some_goes [] f = inr (λ p. let no = p.1 in absurd cc)
  some_goes (z ∷ zs) f = go (f z (or_left (same z z) (member same zs z) (is.same_refl z))) (some_goes zs (λ y m. f y (or_right (same y z) (member same zs y) m)))
    where
      go : Decided (Goes z) → Decided ((y : CellName) × (member same zs y ≡ true) × Goes y) → Decided ((y : CellName) × (member same (z ∷ zs) y ≡ true) × Goes y)
      go (inl g) d = inl (z, or_left (same z z) (member same zs z) (is.same_refl z), g)
      go (inr n) (inl p) = inl (p.0, or_right (same p.0 z) (member same zs p.0) p.1, p.2)
      go (inr n) (inr m) =
          inr (λ p. elim (or_cases (same p.0 z) (member same zs p.0) p.1) [
            | inl i ↦ n (subst Goes (is.same_true p.0 z i) p.2)
            | inr k ↦ m (p.0, k, p.2)
          ])

  -- and so of a cell by its inputs.
  goes_by : (x : CellName) → Decided (KeepsRow dom e same x) → Decided ((y : CellName) × (member same (inputs_of TO x) y ≡ true) × Goes y) → Decided (Goes x)
  goes_by x (inr n) d = inl (itself x n)
  goes_by x (inl k) (inl p) = inl (through p.0 x p.2 p.1)
  goes_by x (inl k) (inr n) = inr never
    where
      never : Goes x → ⊥
      never (itself _ c) = c k
      never (through y _ l m) = n (y, m, l)

  goes_at : (r : ℕ) (x : CellName) → TO.rank x < r → Decided (Goes x)
  goes_at zero x h = absurd (omega arith)
  goes_at (suc r) x h =
      goes_by x (keeps_row same is dom e x)
      (some_goes (inputs_of TO x) (λ y m. let lt = (system-acyclic TO (old_law dom e co cn same is)).falls x y m in goes_at r y (omega arith)))

  pub emptied : KeepPlaces e.old e.new → (x : CellName) → cells x ≡ true → (IsKept dom e same cells x → ⊥) → IsInReach e x
  emptied keep x c n = go (goes_at (suc (TO.rank x)) x (omega arith))
    where
      go : Decided (Goes x) → IsInReach e x
      go (inl l) = in_reach x c l
      go (inr m) = absurd (n ((same_kept dom e co cn same is cells are keep x).1 (record { had = c; free = m })))

-- Of machines.
pub fine_old : (old new : List Procedure) → AreOneApart old new → IsFine old
fine_old old new (inl i) = i.fine
fine_old old new (inr i) = i.after

pub fine_new : (old new : List Procedure) → AreOneApart old new → IsFine new
fine_new old new (inl i) = i.after
fine_new old new (inr i) = i.fine

edit_places : (old new : List Procedure) → IsEdited old new → KeepPlaces (routines_of old) (routines_of new)
edit_places old new i =
    subst (λ (p : List Procedure). KeepPlaces (routines_of old) (routines_of p)) i.makes
    (keep_places i.edit old i.next i.fine (subst IsFine (sym i.makes) i.after) i.below i.continues)

places : (engine : LoopOptions) (old new : List Procedure) → AreOneApart old new → KeepPlaces (routines_of old) (routines_of new)
places engine old new (inl i) = edit_places old new i
places engine old new (inr i) = places_turn (record { engine = engine; old = routines_of new; new = routines_of old }) (edit_places new old i)

pub machines_empty : {S : Type 0} (dom : Operations S) → EmptiedAreReached dom
machines_empty dom m program past future next apart k x h gone =
    let co = (fine_old m.program program apart).fit in
    let cn = (fine_new m.program program apart).fit in
    emptied dom (change_to program m) co cn same_name same_is (is_kept m) k.cells (places m.engine m.program program apart) x h
    (λ kept. let stays = (left_is dom (change_to program m) co cn m.kept k x).1 kept in not-both stays gone)
  where
    not-both : {b : Bool} → b ≡ true → b ≡ false → ⊥
    not-both t f = absurd cc

pub machines_keep_others : {S : Type 0} (dom : Operations S) → DeadEndsGoAlone dom
machines_keep_others dom m program past future next apart k n d x h other =
    by_bool (is_kept (with_program dom program past future next m) x) (λ t. t) (λ f. absurd (other (ends_there (node_of x) (machines_empty dom m program past future next apart k x h f))))
  where
    e : Edit
    e = change_to program m

    ends_there : (a : Node) → IsReached e.engine (reverse e.old) (λ a. IsChangedAt e a.point) a → statement_of a.point ≡ n
    ends_there a (there _ q) = d.changed a.point q
    ends_there b (along a _ r f) = d.last a b (ends_there a r) f
