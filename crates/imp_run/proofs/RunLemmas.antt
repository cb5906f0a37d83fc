-- Runs that end, and runs that go on.
use Rattle.std.specs.Prelude.{◌≡◌, ℕ, zero, suc, ◌+◌, List, Bool, true, false, Some, None}
use Rattle.std.proofs.Common.{refl, sym, ap, arith}
use Rattle.imp_slots.specs.Plain.{Routine}
use Rattle.concrete_sem.specs.Steps.{Config}
use Rattle.concrete_sem.specs.Steps as steps
use Rattle.concrete_sem.specs.Runs.{Run, ends, counted, run_from}
use Rattle.imp_run.specs.declared.machine.Stepped.{Stepped}
use Rattle.imp_run.specs.declared.machine.Stepped.TheVariants.{Next, Fault, NoInput, Ended}
use Rattle.imp_words.specs.declared.run_end.RunEnd.{RunEnd}
use Rattle.imp_words.specs.declared.run_end.RunEnd.TheVariants as e
use Rattle.imp_run.specs.Machine.{step_of}
use Rattle.imp_run.specs.Outcome.{IsEndAfter, after_more, bit}
use Rattle.std.proofs.lemmas.Option.{same_Some}

pub count-zero : (n : ℕ) → n ≡ n + 0
count-zero n = omega arith

-- what is counted before is counted with what was counted before
pub after-counted : (n : ℕ) (b : Bool) (r : Run) → after_more n (counted b r) ≡ after_more (n + bit b) r
after-counted n true r = ap (λ m. let q : Run = record { end = r.end; reached = m } in q) (omega arith)
after-counted n false r = ap (λ m. let q : Run = record { end = r.end; reached = m } in q) (omega arith)

module _ (program : List Routine) (here : Config → Bool) where
  abbrev ended_by : Config → RunEnd → Run
  ended_by c end = counted (here c) (ends end)

  -- a step that is the last one of a run
  pub run-ends : (s : Stepped) (left : ℕ) (end : RunEnd) (c c2 : Config) → IsEndAfter s left (Some end) → steps.step program c ≡ step_of s c2 → run_from program here left c ≡ counted (here c) (ends end)
  run-ends Ended zero end c c2 h is = rw is (ap (ended_by c) (sym (same_Some end e.Ended h)))
  run-ends Ended (suc n) end c c2 h is = rw is (ap (ended_by c) (sym (same_Some end e.Ended h)))
  run-ends Next zero end c c2 h is = rw is (ap (ended_by c) (sym (same_Some end e.FuelUsedUp h)))
  run-ends Next (suc n) end c c2 h is = absurd (cc)
  run-ends (Fault n k) zero end c c2 h is = rw is (ap (ended_by c) (sym (same_Some end e.FuelUsedUp h)))
  run-ends (Fault n k) (suc m) end c c2 h is = rw is (ap (ended_by c) (sym (same_Some end (e.Fault n k) h)))
  run-ends (NoInput n) zero end c c2 h is = rw is (ap (ended_by c) (sym (same_Some end e.FuelUsedUp h)))
  run-ends (NoInput n) (suc k) end c c2 h is = rw is (ap (ended_by c) (sym (same_Some end (e.InputsUsedUp n) h)))

  -- a step after which the run goes on
  pub run-goes-on : (s : Stepped) (left : ℕ) (c c2 : Config) → IsEndAfter s left None → steps.step program c ≡ step_of s c2 → (k : ℕ) × (left ≡ suc k) × (run_from program here left c ≡ counted (here c) (run_from program here k c2))
  run-goes-on Ended left c c2 h is = absurd (cc)
  run-goes-on Next zero c c2 h is = absurd (cc)
  run-goes-on Next (suc k) c c2 h is = (k, refl, rw is refl)
  run-goes-on (Fault n k) zero c c2 h is = absurd (cc)
  run-goes-on (Fault n k) (suc j) c c2 h is = absurd (cc)
  run-goes-on (NoInput n) zero c c2 h is = absurd (cc)
  run-goes-on (NoInput n) (suc k) c c2 h is = absurd (cc)
