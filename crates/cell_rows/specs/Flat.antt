-- The rows by a table of the program's statements, which no path is followed through.
use Rattle.std.specs.Prelude.{ℕ, zero, suc, List, [], ◌∷◌, ◌++◌, map, Option, Some, None, Bool, true, false}
use Rattle.imp_slots.specs.Plain.{Code, Routine}
use Rattle.batch_meaning.specs.Batch.{LoopOptions}
use Rattle.batch_meaning.specs.Places.{find, if_some, main_layout}
use Rattle.cell_names.specs.declared.frame.NameFrame.{NameFrame}
use Rattle.cell_names.specs.declared.frame.NameFrame.TheVariants.{InCall, InLoop}
use Rattle.cell_names.specs.declared.frame.Point.{Point}
use Rattle.cell_names.specs.declared.frame.Point.TheVariants.{Entry, Then, Else, Body, Post, Iterate, Fix, Exit, Leap}
use Rattle.cell_rows.specs.Names.{Mark, mark, PathBlock, bare, scope_of}
use Rattle.cell_rows.specs.Rows.{Row, Init, sites_of, branch_row, post_row, next_row, fix_row, exit_row, leap_row, enter_row, turn_row}
use Rattle.cell_rows.specs.Targets.{Text, texts}

-- The rows of a statement's points, by what is known of a statement (each takes it from G): into a call of this number,
-- into a branch, into round k of a loop of this number, the iterate after the k-th, where they stop, after the loop by
-- its condition, with a break, and after the statement.
pub record RowsAt (G : Type 0) : Type 0 where
  pub enter : List NameFrame → ℕ → G
  pub branch : List NameFrame → Bool → G
  pub turn : List NameFrame → ℕ → ℕ → G
  pub next : List NameFrame → ℕ → G
  pub fix : List NameFrame → G
  pub exit : List NameFrame → G
  pub leap : List NameFrame → ℕ → G
  pub post : List NameFrame → G

-- The row of a name, by its last frame and the statement of its point: `start` is that of the start of main, and `by`
-- looks a statement up by its number.
module _ {G : Type 0} (start : Row) (by : List NameFrame → ℕ → G → Option Row) (rows : RowsAt G) where
  abbrev pub row_by : List NameFrame → Point → Option Row
  row_by [] Entry = Some start
  row_by (InCall n ∷ w) Entry = by w n (rows.enter w n)
  row_by (InLoop n k ∷ w) Entry = None
  row_by [] Body = None
  row_by (InCall n ∷ w) Body = None
  row_by (InLoop n k ∷ w) Body = by w n (rows.turn w n k)
  row_by w (Then n) = by w n (rows.branch w true)
  row_by w (Else n) = by w n (rows.branch w false)
  row_by w (Post n) = by w n (rows.post w)
  row_by w (Iterate n zero) = None
  row_by w (Iterate n (suc k)) = by w n (rows.next w k)
  row_by w (Fix n) = by w n (rows.fix w)
  row_by w (Exit n) = by w n (rows.exit w)
  row_by w (Leap n k) = by w n (rows.leap w k)

-- A statement of the program: its procedure, those before it, and its text.
pub record Flat : Type 0 where
  pub routine : Routine
  pub earlier : List Routine
  pub text : Text

abbrev pub flat_of : Routine → List Routine → ℕ × Text → ℕ × Flat
flat_of r earlier x = (x.0, record { routine = r; earlier = earlier; text = x.1 })

-- Of procedures that have the last one first.
abbrev pub flat : List Routine → List (ℕ × Flat)
flat [] = []
flat (r ∷ earlier) = map (flat_of r earlier) (texts r.code Entry) ++ flat earlier

module _ (engine : LoopOptions) (program : List Routine) where
  -- A place that has what rows look at.
  abbrev pub stand_in : List NameFrame → Flat → PathBlock engine bare
  stand_in w u = record { scope = scope_of engine bare u.routine u.earlier; sites = sites_of w; code = u.text.code; first = mark Entry 0 tt }

  abbrev pub by_text : List NameFrame → ℕ → (PathBlock engine bare → Mark (Unit {0}) → Code → Option Row) → Option Row
  by_text w n g = if_some (find n (flat program)) (λ u. g (stand_in w u) (mark u.text.front 0 tt) u.text.code)

  abbrev pub rows_of_text : RowsAt (PathBlock engine bare → Mark (Unit {0}) → Code → Option Row)
  rows_of_text = record {
    enter = λ w n b. enter_row engine bare w b n;
    branch = branch_row engine bare;
    turn = λ w n k b. turn_row engine bare w b n k;
    next = next_row engine bare;
    fix = fix_row engine bare;
    exit = exit_row engine bare;
    leap = leap_row engine bare;
    post = post_row engine bare;
  }

  -- The row of a name: by its last frame and the text of the statement of its point.
  abbrev pub flat_row : List NameFrame → Point → Option Row
  flat_row w p = row_by (Init (main_layout program)) by_text rows_of_text w p
