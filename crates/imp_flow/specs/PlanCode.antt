-- The code of plans.
use Rattle.std.specs.Prelude.{ℕ, List, Bool, refl}
use Rattle.std.specs.Coded.{Coded, codes, code_by, coded×, coded_list}
use Rattle.imp_slots.specs.Plain.{Routine}
use Rattle.imp_slots.specs.BlockCodes.{routine_code}
use Rattle.imp_flow.specs.Plans.{Plan}

pub loops_code : Coded ((ℕ × ℕ) × Bool)
loops_code = hlevel codes

abbrev pub plan_code : Coded Plan
plan_code =
    code_by (List Routine × ((ℕ × ℕ) × Bool)) (coded× (coded_list routine_code) loops_code)
    (λ p. (p.program, ((p.engine.budget, p.engine.widening.delay), p.engine.widening.thresholds)))
    (λ q. record { program = q.0; engine = record { budget = q.1.0.0; widening = record { delay = q.1.0.1; thresholds = q.1.1 } } })
    (λ _. refl)
