use Rattle.std.proofs.Common.{◌≡◌, ◌+◌, ◌*◌, ◌≤◌, ◌++◌, map, take}
use Rattle.imp_check.specs.Slots.{routines_of}
use Rattle.fault_verdicts.specs.Report.{findings_of}
use Rattle.fault_verdicts.specs.Statements.{place_of}
use Rattle.daig_query.specs.Swept.{IsBounded}
use Rattle.daig_machine.specs.Machine.{Machine}
use Rattle.daig_session.specs.Holds.{Holds, IsReady}
use Rattle.daig_session.specs.Places.{work_on, HoldsAll}
use Rattle.daig_session.proofs.session.Session.add_all_faults.Given as goal

-- the session stands for the machine after the statements so far
abbrev pub invariant-loop-x : goal.invariant-loop-x
invariant-loop-x g l =
    let old = l.initial.self in
    let dom = g.D.Domain.operations old.engine.domain in
    record {
      ready : IsReady (g.D.Domain.operations l.self.engine.domain) l.self.engine.store l.self.book;
      domain : l.self.engine.domain ≡ old.engine.domain;
      spare : l.self.engine.spare ≡ old.engine.spare;
      stays_bounded : IsBounded old.engine.spare old.engine.store → IsBounded l.self.engine.spare l.self.engine.store;
      all : (m : Machine) → Holds dom old.engine.store old.book m → HoldsAll dom m l.self.engine.store l.self.book (map place_of (take l.x-index l.xs));
      found : (m : Machine) → Holds dom old.engine.store old.book m → l.found ≡ l.initial.found ++ findings_of dom m.engine (routines_of m.program) (take l.x-index l.xs);
      least : l.initial.steps ≤ l.steps;
      ticked : (m : Machine) → Holds dom old.engine.store old.book m → l.steps ≤ l.initial.steps + g.D.Domain.counted old.engine.domain * work_on dom m (map place_of (take l.x-index l.xs));
    }
