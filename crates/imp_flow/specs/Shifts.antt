-- A procedure that is put into a program, or dropped from it: places after it shift, and rows of the others stay.
use Rattle.std.specs.Prelude.{◌≡◌, ◌<◌, ℕ, suc, List, ◌∷◌, ◌++◌, length, map, reverse, take, drop, Some, if◌then◌else◌, nat_lt}
use Rattle.imp_syntax.specs.Plain.{Procedure}
use Rattle.imp_slots.specs.Plain.{Code, Stop, Simple, If, While, Call, Break, Routine, code_numbers}
use Rattle.imp_slots.specs.Fits.{Absent, IsChecked}
use Rattle.imp_check.specs.Slots.{routine_of, routines_of}
use Rattle.batch_meaning.specs.Batch.{LoopOptions}
use Rattle.cell_names.specs.declared.frame.NameFrame.{NameFrame}
use Rattle.cell_names.specs.declared.frame.Point.{Point}
use Rattle.cell_rows.specs.Rows.{Row}
use Rattle.cell_rows.specs.Flat.{flat_row}
use Rattle.imp_flow.specs.Owners.{owner}

-- A place, where one more procedure stands after the first k.
abbrev pub shift : (k q : ℕ) → ℕ
shift k q = if nat_lt q k then q else suc q

-- the same of each callee of a block, and of a procedure
abbrev pub shift_code : (k : ℕ) → Code → Code
shift_code k Stop = Stop
shift_code k (Simple n e r) = Simple n e (shift_code k r)
shift_code k (If n g t e r) = If n g (shift_code k t) (shift_code k e) (shift_code k r)
shift_code k (While n g b r) = While n g (shift_code k b) (shift_code k r)
shift_code k (Call n i q r) = Call n i (shift k q) (shift_code k r)
shift_code k (Break n r) = Break n (shift_code k r)

abbrev pub shift_routine : (k : ℕ) → Routine → Routine
shift_routine k r = record { name = r.name; layout = r.layout; code = shift_code k r.code }

-- A program with one more procedure after the first k. These call none after them, so their places stay.
abbrev pub put_in : (k : ℕ) → Routine → List Routine → List Routine
put_in k r program = take k program ++ r ∷ map (shift_routine k) (drop k program)

-- What the rows of two programs are to each other, the new one with one more procedure: each row is a row of the new
-- one; and a point that belongs to no statement of that procedure has the same row in both, or none in both.
pub record KeepRows (engine : LoopOptions) (old new : List Routine) (more : Routine) : Type 0 where
  pub kept : (w : List NameFrame) (p : Point) (row : Row) → flat_row engine (reverse old) w p ≡ Some row → flat_row engine (reverse new) w p ≡ Some row
  pub agree : (w : List NameFrame) (p : Point) (row other : Row) → flat_row engine (reverse old) w p ≡ Some row → flat_row engine (reverse new) w p ≡ Some other → row ≡ other
  pub others : (w : List NameFrame) (p : Point) → Absent (owner w p) (code_numbers more.code) → flat_row engine (reverse new) w p ≡ flat_row engine (reverse old) w p

-- A procedure that is put in before main changes no row of the others.
abbrev pub RowsStay : Type 0
RowsStay = (engine : LoopOptions) (program : List Routine) (k : ℕ) (r : Routine) → k < length program → IsChecked (put_in k r program) → KeepRows engine program (put_in k r program) r

-- In slots, the program with one more procedure after ps is the one without, with that procedure put in.
abbrev pub PlacesShift : Type 0
PlacesShift =
    (ps qs : List Procedure) (p : Procedure) → IsChecked (routines_of (ps ++ qs)) → IsChecked (routines_of (ps ++ p ∷ qs)) →
    routines_of (ps ++ p ∷ qs) ≡ put_in (length ps) (routine_of ps p) (routines_of (ps ++ qs))
