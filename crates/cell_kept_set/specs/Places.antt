-- Statements keep their places from one program to another.
use Rattle.std.specs.Prelude.{◌≡◌, ℕ, List, [], ◌∷◌, reverse, Option, Some, None}
use Rattle.imp_slots.specs.Plain.{Routine}
use Rattle.batch_meaning.specs.Batch.{LoopOptions}
use Rattle.batch_meaning.specs.Places.{find, if_some, from}
use Rattle.cell_names.specs.declared.frame.NameFrame.{NameFrame}
use Rattle.cell_rows.specs.Names.{start_point}
use Rattle.cell_rows.specs.Rows.{Row}
use Rattle.cell_rows.specs.Targets.{callee_of}
use Rattle.cell_rows.specs.Flat.{Flat, flat, flat_row}

-- the name of the first of these procedures
abbrev pub first_name : List Routine → Option (List ℕ)
first_name [] = None
first_name (r ∷ rs) = Some r.name

-- the name of the procedure that a statement calls
abbrev pub callee_name : Flat → Option (List ℕ)
callee_name u = if_some (callee_of u.text.code) (λ i. first_name (from u.earlier i.1))

-- Two statements of one number stand in the same procedure and in the same loops of it; where both are calls, they are
-- of the same procedure.
pub record SamePlace (u v : Flat) : Type 0 where
  pub procedure : u.routine.name ≡ v.routine.name
  pub loops : u.text.loops ≡ v.text.loops
  pub callee : (f g : List ℕ) → callee_name u ≡ Some f → callee_name v ≡ Some g → f ≡ g

-- All statements that both programs have do, and the last procedures have the same name.
pub record KeepPlaces (old new : List Routine) : Type 0 where
  pub main : first_name (reverse old) ≡ first_name (reverse new)
  pub statements : (n : ℕ) (u v : Flat) → find n (flat (reverse old)) ≡ Some u → find n (flat (reverse new)) ≡ Some v → SamePlace u v

-- the blocks on the way have rows by number for their first points
abbrev pub FramesHaveRows : LoopOptions → List Routine → List NameFrame → Type 0
FramesHaveRows engine program [] = Unit {0}
FramesHaveRows engine program (f ∷ w) = ((r : Row) × (flat_row engine (reverse program) (f ∷ w) (start_point (f ∷ w)) ≡ Some r)) × FramesHaveRows engine program w
