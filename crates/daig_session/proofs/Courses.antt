-- How far a ticket has come that asks at one place, and what its last step tells.
use Rattle.std.proofs.Common.{◌≡◌, ℕ, ◌+◌, ◌*◌, ◌≤◌, List, map, length, Ok, refl}
use Rattle.imp_syntax.specs.Plain.{Procedure}
use Rattle.imp_syntax.specs.declared.edit.Location.{Location}
use Rattle.concrete_sem.specs.Values.{Variables, Heap}
use Rattle.domain_laws.specs.Operations.{Operations}
use Rattle.batch_meaning.specs.Batch.{LoopOptions}
use Rattle.cell_rows.specs.Targets.{Target}
use Rattle.imp_flow.specs.Plans.{Plan}
use Rattle.imp_flow.specs.Reached.{target_of}
use Rattle.daig_query.specs.declared.store.Store.{Store}
use Rattle.daig_query.specs.declared.walk.Walk.{Walk}
use Rattle.daig_query.specs.Answered.{AreFilled}
use Rattle.daig_machine.specs.Machine.{Machine, Ticket}
use Rattle.daig_machine.specs.Turns.{answer_at, missing_asked, missing_at, refusal_asked, refusal_in}
use Rattle.daig_machine.specs.declared.question.Question.{Question}
use Rattle.daig_machine.specs.declared.question.Question.TheVariants as asks
use Rattle.daig_session.specs.declared.course.Course.TheVariants.{Place}
use Rattle.daig_session.specs.declared.course.Going.{Going}
use Rattle.daig_session.specs.declared.stepping.StepResult.{StepResult}
use Rattle.daig_session.specs.declared.stepping.StepResult.TheVariants as told
use Rattle.daig_session.specs.Going.{HasComeFar, IsAsked, IsAtOne, IsGoing}
use Rattle.daig_session.specs.Turns.{chains_read, work_of, IsDone, IsStep, IsTold, SoundDone}

module _ {S : Type 0} (dom : Operations S) (plan : Plan) (store : Store S) where
  -- It asks at this place, under this call string.
  pub record IsPlaced (q : Question) (g : Going) : Type 0 where
    pub location : Location
    pub string : List ℕ
    pub going : IsGoing dom plan store location string g
    pub missing : (m : Machine) → missing_asked dom q m ≡ missing_at dom location string m
    pub refusal : (m : Machine) → refusal_asked dom q m ≡ refusal_in (answer_at dom location string m)
    pub again : (other : Store S) (h : Going) → IsGoing dom plan other location string h → HasComeFar dom plan other q (Place h)

  pub at_place : (q : Question) (g : Going) → HasComeFar dom plan store q (Place g) → IsPlaced q g
  at_place (asks.State l s) g h = record { location = l; string = s; going = h; missing = λ m. refl; refusal = λ m. refl; again = λ other k i. i }
  at_place (asks.Why l s) g h = record { location = l; string = s; going = h; missing = λ m. refl; refusal = λ m. refl; again = λ other k i. i }
  at_place asks.Report g h = absurd h
  at_place (asks.Faults only) g h = absurd h

  -- nothing is missing there
  pub filled_there : (new : Store S) (walk : Walk) (q : Question) (g : Going) → HasComeFar dom plan store q (Place g) → AreFilled dom new walk plan (map target_of g.targets) →
      IsAtOne q (λ l string. (ts : List Target) × IsAsked plan.program l string ts × AreFilled dom new walk plan ts)
  filled_there new walk (asks.State l s) g h f = (map target_of g.targets, h.asked, f)
  filled_there new walk (asks.Why l s) g h f = (map target_of g.targets, h.asked, f)
  filled_there new walk asks.Report g h f = absurd h
  filled_there new walk (asks.Faults only) g h f = absurd h

module _ {S : Type 0} (dom : Operations S) (m : Machine) where
  not_pending : (q : Question) (n : ℕ) → IsTold dom m q (told.Pending n) → ⊥
  not_pending (asks.State l s) n h = h
  not_pending (asks.Why l s) n h = h
  not_pending asks.Report n h = h
  not_pending (asks.Faults only) n h = h

  -- what is told ends the ticket
  pub done_step : (stands : Machine → Type 0) (t : Ticket) (most : ℕ) (turn : StepResult S) → IsDone dom m stands t most turn → IsStep dom m stands t most (Ok turn)
  done_step stands t most (told.Pending n) d = absurd (not_pending t.question n d.says)
  done_step stands t most (told.State v) d = d
  done_step stands t most (told.Why stmts) d = d
  done_step stands t most (told.Report found) d = d
  done_step stands t most (told.Faults found) d = d

  pub done_work : (q : Question) (turn : StepResult S) (s u each : ℕ) → IsTold dom m q turn → u ≤ s + each * (length (missing_asked dom q m) + 2 * chains_read m q) → u ≤ s + each * work_of dom m q turn
  done_work q (told.Pending n) s u each h w = absurd (not_pending q n h)
  done_work q (told.State v) s u each h w = w
  done_work q (told.Why stmts) s u each h w = w
  done_work q (told.Report found) s u each h w = w
  done_work q (told.Faults found) s u each h w = w

-- what is pending says nothing of runs
pub pending_sound : {S : Type 0} (dom : Operations S) (covers : S → Heap → List Variables → Type 0) (engine : LoopOptions) (program : List Procedure) (q : Question) (n : ℕ) → SoundDone dom covers engine program q (told.Pending n)
pending_sound dom covers engine program (asks.State l s) n = tt
pending_sound dom covers engine program (asks.Why l s) n = tt
pending_sound dom covers engine program asks.Report n = tt
pending_sound dom covers engine program (asks.Faults only) n = tt
