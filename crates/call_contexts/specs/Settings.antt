-- How the loops of a program are interpreted.
use Rattle.std.specs.Prelude.{◌≡◌, ℕ, ℤ, Bool, List, [], map, slice_get, Option, Some, None, refl}
use Rattle.std.specs.Coded.{Coded, codes, code_by, coded×, coded_list, coded_ℕ, coded_ℤ}
use Rattle.imp_slots.specs.Plain.{Routine}
use Rattle.imp_chains.specs.declared.widening.Widening.{Widening}
use Rattle.imp_chains.specs.Thresholds.{thresholds}
use Rattle.batch_meaning.specs.Batch.{LoopOptions}
use Rattle.call_contexts.specs.Tallies.{all_tallies, tally_code}
use Rattle.call_contexts.specs.Loops.{all_loops}

-- how often iterates are made, and how
abbrev pub engine_of : (budget : ℕ) → Widening → LoopOptions
engine_of budget widening = record { budget = budget; widening = widening }

-- The engine, and of each procedure, by its place, the thresholds, in how many of its statements each number stands, and its loops.
pub record Setting : Type 0 where
  pub engine : LoopOptions
  pub thresholds : List (List ℤ)
  pub tallies : List (List (ℕ × ℕ))
  pub loops : List (List ℕ)

abbrev pub all_thresholds : Widening → List Routine → List (List ℤ)
all_thresholds w program = map (thresholds w) program

-- the setting of a program
abbrev pub setting_of : LoopOptions → List Routine → Setting
setting_of engine program = record {
  engine = engine;
  thresholds = all_thresholds engine.widening program;
  tallies = all_tallies engine.widening program;
  loops = all_loops program;
}

-- These are the thresholds, the tally and the loops of the procedure at a place.
pub record IsPart (w : Widening) (program : List Routine) (place : ℕ) (thresholds : List ℤ) (tally : List (ℕ × ℕ)) (loops : List ℕ) : Type 0 where
  pub thresholds_are : slice_get (all_thresholds w program) place ≡ Some thresholds
  pub tally_is : slice_get (all_tallies w program) place ≡ Some tally
  pub loops_are : slice_get (all_loops program) place ≡ Some loops

abbrev pub or_no_thresholds : Option (List ℤ) → List ℤ
or_no_thresholds None = []
or_no_thresholds (Some thresholds) = thresholds

-- the thresholds of the procedure at a place, none where there is none
abbrev pub thresholds_at : Setting → (place : ℕ) → List ℤ
thresholds_at setting place = or_no_thresholds (slice_get setting.thresholds place)

abbrev pub or_no_loops : Option (List ℕ) → List ℕ
or_no_loops None = []
or_no_loops (Some loops) = loops

-- the loops of the procedure at a place, none where there is none
abbrev pub loops_at : Setting → (place : ℕ) → List ℕ
loops_at setting place = or_no_loops (slice_get setting.loops place)

pub engine_code : Coded ((ℕ × ℕ) × Bool)
engine_code = hlevel codes

abbrev pub setting_code : Coded Setting
setting_code =
    code_by (((((ℕ × ℕ) × Bool) × List (List ℤ)) × List (List (ℕ × ℕ))) × List (List ℕ)) (coded× (coded× (coded× engine_code (coded_list (coded_list coded_ℤ))) (coded_list tally_code)) (coded_list (coded_list coded_ℕ)))
    (λ s. (((((s.engine.budget, s.engine.widening.delay), s.engine.widening.thresholds), s.thresholds), s.tallies), s.loops))
    (λ q. record { engine = record { budget = q.0.0.0.0.0; widening = record { delay = q.0.0.0.0.1; thresholds = q.0.0.0.1 } }; thresholds = q.0.0.1; tallies = q.0.1; loops = q.1 })
    (λ _. refl)
