-- What is claimed of the kept set.
use Rattle.std.specs.Prelude.{◌≡◌, ◌↔◌, Bool, true, List, Some, reverse, ℕ}
use Rattle.imp_slots.specs.Fits.{IsChecked}
use Rattle.domain_laws.specs.Operations.{Operations}
use Rattle.cell_names.specs.Paths.{CellName}
use Rattle.daig_order.specs.Order.{member}
use Rattle.daig_order.specs.Turned.{IsPlan, without}
use Rattle.daig_order.specs.Within.{within, AreCellsOf}
use Rattle.daig_order.specs.Asking.{value_of, inputs_of}
use Rattle.cell_rows.specs.Names.{IsSame}
use Rattle.cell_rows.specs.Rows.{Row}
use Rattle.cell_rows.specs.Flat.{flat_row}
use Rattle.cell_rows.specs.Cells.{value_of_name}
use Rattle.cell_rows.specs.Claims.{HasName, HasRow}
use Rattle.cell_kept_set.specs.Touched.{Edit, old_rows, new_rows, old_system, KeepsRow, IsChanged, AreCells, IsKept, IsKeptByRows, IsKeptByNew}
use Rattle.cell_kept_set.specs.Places.{KeepPlaces, FramesHaveRows}
use Rattle.cell_kept_set.specs.RowTest.{SameAsked}

-- what the new program has of a kept name
pub record IsRight {S : Type 0} (dom : Operations S) (e : Edit) (same : CellName → CellName → Bool) (kept : CellName → Type 0) (x : CellName) : Type 0 where
  pub named : HasName e.engine e.new x
  pub row : KeepsRow dom e same x
  pub inputs : inputs_of (new_rows dom e same) x ≡ inputs_of (old_rows dom e same) x
  pub found : value_of (new_rows dom e same) x ≡ value_of (old_rows dom e same) x
  pub value : value_of_name dom e.engine (reverse e.new) x ≡ value_of_name dom e.engine (reverse e.old) x
  pub closed : (y : CellName) → member same (inputs_of (new_rows dom e same) x) y ≡ true → kept y

-- Over an edit of a closed set of cells, for any domain.
abbrev pub OverEdits : {S : Type 0} → Operations S → ((e : Edit) → (CellName → CellName → Bool) → (CellName → Bool) → Type 0) → Type 0
OverEdits {S} dom claim =
    (e : Edit) (same : CellName → CellName → Bool) (cells : CellName → Bool) →
    IsSame same → IsChecked e.old → IsChecked e.new → AreCells dom e.engine e.old same cells → claim e same cells

-- Each kept name is a name of the new program, with the same operation, inputs and value; and its inputs are kept.
abbrev pub KeptIsRight : {S : Type 0} → Operations S → Type 0
KeptIsRight dom = OverEdits dom (λ e same cells. (x : CellName) → IsKept dom e same cells x → IsRight dom e same (IsKept dom e same cells) x)

-- Whether the new inputs are taken by the old values or by the new ones, the same is kept.
abbrev pub KeptByNew : {S : Type 0} → Operations S → Type 0
KeptByNew dom = OverEdits dom (λ e same cells. (x : CellName) → IsKept dom e same cells x ↔ IsKeptByNew dom e same cells x)

-- Where statements keep their places, what is kept is told by the own rows by number.
abbrev pub RowsTellKept : {S : Type 0} → Operations S → Type 0
RowsTellKept dom = OverEdits dom (λ e same cells. KeepPlaces e.old e.new → (x : CellName) → IsKept dom e same cells x ↔ IsKeptByRows dom e same cells x)

-- There the new program has an old name exactly where it has a row by number for it, if it has rows for the first points
-- of the blocks on the way.
abbrev pub RowsTellNames : {S : Type 0} → Operations S → Type 0
RowsTellNames dom =
    (e : Edit) (x : CellName) → IsChecked e.old → IsChecked e.new → KeepPlaces e.old e.new → HasName e.engine e.old x → FramesHaveRows e.engine e.new x.path →
    HasName e.engine e.new x ↔ HasRow e.engine e.new x

-- Whether a name keeps its row is told by its two rows by number and the old inputs: they are the same; or both are joins
-- after a loop with breaks with the same left input, which was the only one.
abbrev pub RowsTellChanged : {S : Type 0} → Operations S → Type 0
RowsTellChanged dom =
    (e : Edit) (same : CellName → CellName → Bool) (x : CellName) (r q : Row) →
    flat_row e.engine (reverse e.old) x.path x.point ≡ Some r → flat_row e.engine (reverse e.new) x.path x.point ≡ Some q →
    KeepsRow dom e same x ↔ SameAsked r q (inputs_of (old_rows dom e same) x)

-- The relation holds both ways.
abbrev pub PlacesTurn : Type 0
PlacesTurn = (e : Edit) → KeepPlaces e.old e.new → KeepPlaces e.new e.old

-- Of a list of cells, those whose own row is changed are a list.
abbrev pub CellsAreTold : {S : Type 0} → Operations S → Type 0
CellsAreTold dom =
    (e : Edit) (same : CellName → CellName → Bool) (xs : List CellName) → IsSame same →
    (changed : List CellName) × AreCellsOf (old_system dom e same) (member same xs) (IsChanged dom e same) changed

-- Over an edit: a plan for the cells whose own row is changed leaves exactly the kept set, and these are cells of the new
-- program, closed under its inputs.
abbrev pub PlansAreExact : {S : Type 0} → Operations S → Type 0
PlansAreExact dom =
    OverEdits dom (λ e same cells.
    (users : CellName → List CellName) (peak : ℕ) (changed plan : List CellName) → KeepPlaces e.old e.new → AreCellsOf (old_system dom e same) cells (IsChanged dom e same) changed →
    IsPlan (within (old_system dom e same) cells) users peak changed plan →
    ((x : CellName) → (without (old_system dom e same) cells plan x ≡ true) ↔ IsKept dom e same cells x) × AreCells dom e.engine e.new same (without (old_system dom e same) cells plan))
