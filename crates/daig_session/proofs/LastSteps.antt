-- The last step of a report's ticket, which judges its statements.
use Rattle.std.proofs.Common.{◌≡◌, ℕ, suc, ◌+◌, ◌*◌, ◌≤◌, List, ◌++◌, length, Option, Some, None, Result, Ok, Err, refl, sym, ap, subst, ◌∙◌, arith}
use Rattle.std.specs.Prelude.{IfSome, MatchOption}
use Rattle.std.proofs.Math.Seq.{take-length}
use Rattle.domain_laws.specs.Operations.{Operations}
use Rattle.cell_names.specs.Paths.{CellName}
use Rattle.daig_query.specs.declared.store.Store.{Store}
use Rattle.daig_machine.specs.Machine.{Machine, Ticket, keeping, ticket_of}
use Rattle.daig_machine.specs.Turns.{after_close, after_last_step, missing_asked, with_names}
use Rattle.daig_machine.specs.declared.question.Question.{Question}
use Rattle.daig_machine.specs.declared.question.Question.TheVariants as asks
use Rattle.daig_tickets.specs.declared.tickets.NoTicket.{NoTicket}
use Rattle.daig_session.specs.declared.book.Book.{Book}
use Rattle.daig_session.specs.declared.course.Kind.{Kind}
use Rattle.daig_session.specs.declared.course.Kind.TheVariants as kind
use Rattle.daig_session.specs.declared.error.StepError.TheVariants as step
use Rattle.daig_session.specs.declared.stepping.StepResult.{StepResult}
use Rattle.daig_session.specs.declared.stepping.StepResult.TheVariants as told
use Rattle.daig_session.specs.declared.stepping.Stepped.TheVariants as stepped
use Rattle.daig_session.specs.Going.{IsOfKind}
use Rattle.daig_session.specs.Holds.{Holds}
use Rattle.daig_session.specs.Turns.{chains_along, chains_read, work_of, Cancels, IsFaults, IsJudged, IsReport, IsStepOf, IsSteppedOf, IsTold}
use Rattle.daig_session.proofs.Answering.{work_both}
use Rattle.daig_session.proofs.Courses.{done_step, done_work}
use Rattle.daig_session.proofs.Reporting.{recosted}

-- a ticket that was open is closed
closed_then : (m : Machine) (stands : Machine → Type 0) (n : ℕ) (t : Ticket) (r : Result (Unit {0}) NoTicket) → Cancels m stands n (Some t) r → stands (after_close n m)
closed_then m stands n t (Ok done) h = h
closed_then m stands n t (Err none) h = absurd h

module _ {S : Type 0} (dom : Operations S) (m : Machine) (xs : List CellName) where
  -- Kept names change no report, ..
  report_told : (turn : StepResult S) → IsReport dom (with_names xs m) turn → IsReport dom m turn
  report_told (told.Pending n) h = h
  report_told (told.State v) h = h
  report_told (told.Why stmts) h = h
  report_told (told.Report found) h = h
  report_told (told.Faults found) h = h

  faults_told : (turn : StepResult S) → IsFaults dom (with_names xs m) turn → IsFaults dom m turn
  faults_told (told.Pending n) h = h
  faults_told (told.State v) h = h
  faults_told (told.Why stmts) h = h
  faults_told (told.Report found) h = h
  faults_told (told.Faults found) h = h

  -- .. so that what is judged is told, ..
  judged_told : (q : Question) (k : Kind) → IsOfKind q k → (turn : StepResult S) → IsJudged dom (with_names xs m) k turn → IsTold dom m q turn
  judged_told (asks.State l s) k h turn j = absurd h
  judged_told (asks.Why l s) k h turn j = absurd h
  judged_told asks.Report kind.Checks h turn j = report_told turn j
  judged_told asks.Report kind.Faults h turn j = absurd h
  judged_told (asks.Faults only) kind.Checks h turn j = absurd h
  judged_told (asks.Faults only) kind.Faults h turn j = faults_told turn j

  -- .. nor the chains that are read for it.
  same_chains : (q : Question) (k : Kind) → IsOfKind q k → chains_along (with_names xs m) k ≡ chains_read m q
  same_chains (asks.State l s) k h = absurd h
  same_chains (asks.Why l s) k h = absurd h
  same_chains asks.Report kind.Checks h = refl
  same_chains asks.Report kind.Faults h = absurd h
  same_chains (asks.Faults only) kind.Checks h = absurd h
  same_chains (asks.Faults only) kind.Faults h = refl

module _ {S : Type 0} (dom : Operations S) (m : Machine) (most number filled : ℕ) (k : Kind) (mid : Machine → Type 0) where
  -- What was missing stays kept where the judging fails.
  pub judging_failed : (o : Option Ticket) (new : Machine → Type 0) → IsSteppedOf dom m mid number most o (Ok (stepped.Full k filled)) → ((z : Machine) → mid z → new z) → IsStepOf dom m new most o (Err step.Memory)
  judging_failed None new s still = absurd (let e = s.0 in cc)
  judging_failed (Some t) new s still =
      let xs = missing_asked dom t.question m in
      record { count = length xs; some = subst (λ ys. new (with_names ys m)) (sym (take-length xs)) (still (with_names xs m) s.1.after) }

  -- Else what is judged is told, and the ticket is closed.
  pub judging_done : (o : Option Ticket) → ticket_of number m.tickets ≡ o → (turn : StepResult S) (last : Operations S) (store : Store S) (book : Book) (closed : Result (Unit {0}) NoTicket) → IsSteppedOf dom m mid number most o (Ok (stepped.Full k filled)) →
      ((z : Machine) → mid z → IsJudged dom z k turn × Cancels (keeping z.kept 0 z) (Holds last store book) number (ticket_of number z.tickets) closed) → IsStepOf dom m (Holds last store (record book { cost = filled })) most o (Ok turn)
  judging_done None is turn last store book closed s told = absurd (let e = s.0 in cc)
  judging_done (Some t) is turn last store book closed s told =
      let xs = missing_asked dom t.question m in
      let here = told (with_names xs m) s.1.after in
      let stands = Holds last store (record book { cost = filled }) in
      let shut = closed_then (keeping (m.kept ++ xs) 0 m) (Holds last store book) number t closed (subst (λ (u : Option Ticket). Cancels (keeping (m.kept ++ xs) 0 m) (Holds last store book) number u closed) is here.1) in
      done_step dom m stands t most turn (record {
        few = s.1.few;
        says = judged_told dom m xs t.question k s.1.kind_is turn here.0;
        after =
            subst (λ n. stands (keeping (m.kept ++ xs) n (after_close t.number m))) s.1.filled_is (
            subst (λ n. stands (keeping (m.kept ++ xs) filled (after_close n m))) (sym s.0) (
            recosted last (after_close number m) store book (m.kept ++ xs) 0 filled shut));
      })

  -- the work for it, ..
  pub judging_work : (o : Option Ticket) (turn : StepResult S) (s t u each : ℕ) → IsSteppedOf dom m mid number most o (Ok (stepped.Full k filled)) → IfSome o (λ a. t ≤ s + each * filled) →
      ((z : Machine) → mid z → IsJudged dom z k turn × (u ≤ t + each * (2 * chains_along z k))) → IfSome o (λ a. u ≤ s + each * work_of dom m a.question turn)
  judging_work None turn s t u each is fill told = tt
  judging_work (Some a) turn s t u each is fill told =
      let xs = missing_asked dom a.question m in
      let here = told (with_names xs m) is.1.after in
      done_work dom m a.question turn s u each (judged_told dom m xs a.question k is.1.kind_is turn here.0) (
      subst (λ n. u ≤ s + each * (n + 2 * chains_read m a.question)) is.1.filled_is (
      work_both s t u each filled (2 * chains_read m a.question) fill (subst (λ n. u ≤ t + each * (2 * n)) (same_chains dom m xs a.question k is.1.kind_is) here.1)))

  -- .. and at most
  pub judging_most : (o : Option Ticket) (s t u each added : ℕ) → IsSteppedOf dom m mid number most o (Ok (stepped.Full k filled)) → IfSome o (λ a. t ≤ s + each * filled) → ((z : Machine) → mid z → u ≤ t + each * suc (2 * chains_along z k)) →
      ((xs : List CellName) → mid (with_names xs m) → added ≡ length xs) → MatchOption o (u ≡ s) (λ a. u ≤ s + each * suc (added + 2 * chains_read m a.question))
  judging_most None s t u each added is fill judge count = absurd (let e = is.0 in cc)
  judging_most (Some a) s t u each added is fill judge count =
      let xs = missing_asked dom a.question m in
      let n = chains_read m a.question in
      let same : filled ≡ added = is.1.filled_is ∙ sym (count xs is.1.after) in
      let all : filled + suc (2 * n) ≡ suc (added + 2 * n) = omega (arith, same) in
      subst (λ j. u ≤ s + each * j) all (work_both s t u each filled (suc (2 * n)) fill (subst (λ j. u ≤ t + each * suc (2 * j)) (same_chains dom m xs a.question k is.1.kind_is) (judge (with_names xs m) is.1.after)))
