-- The program that is interpreted, and where a block of it stands.
use Rattle.std.specs.Prelude.{ℕ, ℤ, List, [], reverse, take, slice_get, Option, Some, None}
use Rattle.imp_slots.specs.Plain.{Guard, Code, Stop, Routine}
use Rattle.imp_chains.specs.declared.widening.Widening.{Widening}
use Rattle.imp_chains.specs.Thresholds.{thresholds}
use Rattle.domain_laws.specs.Operations.{Operations}
use Rattle.batch_meaning.specs.Values.{Value}
use Rattle.batch_meaning.specs.Batch.{LoopOptions, Passed, Fixed, batch, calls_of, head_of}

-- A program, and how its loops are interpreted.
pub record Plan : Type 0 where
  pub program : List Routine
  pub engine : LoopOptions

-- the procedures before a place, the last one first
abbrev pub earlier : List Routine → (place : ℕ) → List Routine
earlier program place = reverse (take place program)

abbrev pub thresholds_of : Widening → Option Routine → List ℤ
thresholds_of w None = []
thresholds_of w (Some r) = thresholds w r

-- the thresholds of the procedure at a place
abbrev pub thresholds_at : Plan → (place : ℕ) → List ℤ
thresholds_at plan place = thresholds_of plan.engine.widening (slice_get plan.program place)

-- the body of the procedure at a place
abbrev pub body_of : Option Routine → Code
body_of None = Stop
body_of (Some r) = r.code

abbrev pub body_at : List Routine → (place : ℕ) → Code
body_at program place = body_of (slice_get program place)

module _ {S : Type 0} (dom : Operations S) (plan : Plan) (place : ℕ) (z : List ℕ) where
  -- what calls give in the procedure at a place, under the call sites z
  abbrev pub calls_in : (n q : ℕ) → Value S → Value S
  calls_in = calls_of dom plan.engine (earlier plan.program place) z

  -- a block there
  abbrev pub passed : Code → Value S → Passed S
  passed = batch dom plan.engine (thresholds_at plan place) z calls_in

  -- the value after a block there
  abbrev pub value_after : Code → Value S → Value S
  value_after b v = (passed b v).value

  -- the value after the body of the procedure
  abbrev pub procedure_end : Value S → Value S
  procedure_end = value_after (body_at plan.program place)

  -- what the iterates of a loop there come to
  abbrev pub head_there : (n : ℕ) → Guard → Code → Value S → Fixed S
  head_there n g b = head_of dom plan.engine (thresholds_at plan place) z n g (passed b)

  -- the value at the head of a loop there
  abbrev pub value_at_head : (n : ℕ) → Guard → Code → Value S → Value S
  value_at_head n g b v = (head_there n g b v).value
