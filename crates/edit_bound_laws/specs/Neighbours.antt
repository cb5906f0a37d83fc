-- Which points an edit of a statement can change.
use Rattle.std.specs.Prelude.{◌≡◌, ◌⊎◌, ◌==◌, ℕ, List, [], ◌∷◌, ◌++◌, Some, cond, reverse}
use Rattle.std.specs.List.{Contains}
use Rattle.imp_syntax.specs.Plain.{Statement, Statements, Ends, Starts, Simple, Break, Call, If, While, Procedure, number_of, numbers_in}
use Rattle.imp_slots.specs.Plain.{Code, Stop, Routine, code_numbers}
use Rattle.imp_slots.specs.Plain as slot
use Rattle.imp_check.specs.Fine.{IsFine}
use Rattle.imp_check.specs.Slots.{routines_of}
use Rattle.imp_edit.specs.Changes.{in_program}
use Rattle.batch_meaning.specs.Batch.{LoopOptions}
use Rattle.batch_meaning.specs.Places.{find}
use Rattle.cell_rows.specs.Flat.{Flat, flat}
use Rattle.cell_names.specs.declared.frame.Point.{Point}
use Rattle.cell_names.specs.declared.frame.Point.TheVariants.{Entry, Then, Else, Body, Post, Iterate, Fix, Exit, Leap}
use Rattle.edit_bound_laws.specs.Flow.{FlowPoint, statement_of, Equation, Begins, Enters, Chooses, Rounds, Acts, Meets, Leaves, Returns, equation}

-- the numbers of the statement n and of all that stands in it
abbrev mutual
  pub inside_blocks : ℕ → Statement → List ℕ
  inside_blocks n (Simple m a) = []
  inside_blocks n (Break m) = []
  inside_blocks n (Call m x g es) = []
  inside_blocks n (If m c t e) = inside n t ++ inside n e
  inside_blocks n (While m c b) = inside n b

  pub inside : ℕ → Statements → List ℕ
  inside n Ends = []
  inside n (Starts s ss) = cond (number_of s == n) (numbers_in s) (inside_blocks n s) ++ inside n ss

abbrev pub inside_program : ℕ → List Procedure → List ℕ
inside_program n [] = []
inside_program n (p ∷ ps) = inside n p.body ++ inside_program n ps

-- a point of the text at the statement n
abbrev pub IsAt : ℕ → Point → Type 0
IsAt n Entry = ⊥
IsAt n Body = ⊥
IsAt n (Then m) = m ≡ n
IsAt n (Else m) = m ≡ n
IsAt n (Post m) = m ≡ n
IsAt n (Iterate m k) = ⊥
IsAt n (Fix m) = ⊥
IsAt n (Exit m) = ⊥
IsAt n (Leap m k) = ⊥

-- control comes from the statement n: it stands before, or a block or the called procedure ends with it
abbrev pub Names : ℕ → Equation → Type 0
Names n (Begins layout) = ⊥
Names n (Enters p entering) = IsAt n p
Names n (Chooses p guard) = IsAt n p
Names n (Rounds p guard last thresholds) = IsAt n p ⊎ IsAt n last
Names n (Acts p act) = IsAt n p
Names n (Meets p q) = IsAt n p ⊎ IsAt n q
Names n (Leaves guard points numbers) = ⊥
Names n (Returns p returning last) = IsAt n p ⊎ IsAt n last

-- the body of a loop
abbrev pub loop_body : Code → Code
loop_body Stop = Stop
loop_body (slot.Simple m e r) = Stop
loop_body (slot.If m c t e r) = Stop
loop_body (slot.While m c b r) = b
loop_body (slot.Call m i q r) = Stop
loop_body (slot.Break m r) = Stop

-- the statement n stands in the procedure, or in the loop, of the statement m
abbrev pub IsInProcedureOf : List Routine → (m n : ℕ) → Type 0
IsInProcedureOf ps m n = (u : Flat) × (find m (flat ps) ≡ Some u) × Contains (code_numbers u.routine.code) n

abbrev pub IsInLoop : List Routine → (m n : ℕ) → Type 0
IsInLoop ps m n = (u : Flat) × (find m (flat ps) ≡ Some u) × Contains (code_numbers (loop_body u.text.code)) n

-- What changes at a loop m: at its head the thresholds, in the procedure of n; behind it the breaks, where n stands in it.
abbrev pub IsLoopChange : List Routine → (m n : ℕ) → Equation → Equation → Type 0
IsLoopChange ps m n (Rounds p guard last thresholds) (Rounds q other end others) = (p ≡ q) × (guard ≡ other) × (last ≡ end) × IsInProcedureOf ps m n
IsLoopChange ps m n (Leaves guard points numbers) (Leaves other fronts breaks) = (guard ≡ other) × IsInLoop ps m n
IsLoopChange ps m n _ _ = ⊥

-- Whatever is put in the place of the statement n, as by each edit that names a statement: a point that is not of it, nor
-- of a statement in it, and to which control does not come from it, keeps its equation, except for such a change.
abbrev pub OthersKeepEquations : Type 0
OthersKeepEquations =
    (engine : LoopOptions) (n : ℕ) (made : Statement → Statements) (old : List Procedure) (a : FlowPoint) (q : Equation) → IsFine old → IsFine (in_program n made old) →
    equation engine (reverse (routines_of old)) a ≡ Some q → (Contains (inside_program n old) (statement_of a) → ⊥) → (Names n q → ⊥) →
    (r : Equation) × (equation engine (reverse (routines_of (in_program n made old))) a ≡ Some r) × ((q ≡ r) ⊎ IsLoopChange (reverse (routines_of old)) (statement_of a) n q r)
