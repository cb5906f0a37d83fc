-- What an edit of a statement can empty, whatever it puts in its place.
use Rattle.std.specs.Prelude.{◌≡◌, ◌⊎◌, ℕ, List, Some, true, false, reverse}
use Rattle.std.specs.List.{Contains}
use Rattle.imp_syntax.specs.Plain.{Statement, Statements, Procedure}
use Rattle.imp_slots.specs.Plain.{Routine}
use Rattle.imp_check.specs.Slots.{routines_of}
use Rattle.imp_edit.specs.Changes.{in_program}
use Rattle.domain_laws.specs.Operations.{Operations}
use Rattle.batch_meaning.specs.Batch.{LoopOptions}
use Rattle.cell_names.specs.Paths.{CellName}
use Rattle.edit_keeps.specs.Apart.{AreOneApart}
use Rattle.daig_machine.specs.Machine.{Machine}
use Rattle.daig_machine.specs.Turns.{is_kept, with_program}
use Rattle.daig_machine.specs.Claims.{KeepsCells}
use Rattle.edit_bound_laws.specs.Flow.{FlowPoint, statement_of, node_of, Equation, Begins, Enters, Chooses, Rounds, Acts, Meets, Leaves, Returns, equation, IsReached}
use Rattle.edit_bound_laws.specs.Neighbours.{inside_program, Names, IsInProcedureOf, IsInLoop}

-- the head of a loop m in the procedure of the statement n, or the point behind a loop m around it
abbrev pub IsLoopPoint : List Routine → (m n : ℕ) → Equation → Type 0
IsLoopPoint ps m n (Begins layout) = ⊥
IsLoopPoint ps m n (Enters p entering) = ⊥
IsLoopPoint ps m n (Chooses p guard) = ⊥
IsLoopPoint ps m n (Rounds p guard last thresholds) = IsInProcedureOf ps m n
IsLoopPoint ps m n (Acts p act) = ⊥
IsLoopPoint ps m n (Meets p q) = ⊥
IsLoopPoint ps m n (Leaves guard points numbers) = IsInLoop ps m n
IsLoopPoint ps m n (Returns p returning last) = ⊥

-- A point of the statement n or of one in it, or to which control comes straight from it, or such a point of a loop.
abbrev pub IsSource : LoopOptions → List Procedure → ℕ → FlowPoint → Type 0
IsSource engine old n a =
    (q : Equation) × (equation engine (reverse (routines_of old)) a ≡ Some q) ×
    (Contains (inside_program n old) (statement_of a) ⊎ (Names n q ⊎ IsLoopPoint (reverse (routines_of old)) (statement_of a) n q))

-- Whatever an edit puts in the place of the statement n: to each cell that it empties a path leads from such a point.
abbrev pub EmptiedAreBehind : {S : Type 0} → Operations S → Type 0
EmptiedAreBehind dom =
    (m : Machine) (n : ℕ) (made : Statement → Statements) (past future : List (List Procedure)) (next : ℕ) → AreOneApart m.program (in_program n made m.program) → KeepsCells dom m →
    (x : CellName) → is_kept m x ≡ true → is_kept (with_program dom (in_program n made m.program) past future next m) x ≡ false →
    IsReached m.engine (reverse (routines_of m.program)) (λ a. IsSource m.engine m.program n a.point) (node_of x)
