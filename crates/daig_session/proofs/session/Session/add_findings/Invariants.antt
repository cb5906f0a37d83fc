use Rattle.std.proofs.Common.{◌≡◌, ◌+◌, ◌*◌, ◌≤◌, ◌++◌, take}
use Rattle.daig_query.specs.Swept.{IsBounded}
use Rattle.daig_machine.specs.Machine.{Machine}
use Rattle.daig_session.specs.Holds.{Holds, IsReady}
use Rattle.daig_session.specs.Places.{work_on, HoldsAll}
use Rattle.daig_session.specs.Reports.{checked_among, findings, places_of}
use Rattle.daig_session.proofs.session.Session.add_findings.Given as goal

-- the session stands for the machine after the statements so far
abbrev pub invariant-loop-stmt : goal.invariant-loop-stmt
invariant-loop-stmt g l =
    let old = l.initial.self in
    let dom = g.D.Domain.operations old.engine.domain in
    record {
      ready : IsReady (g.D.Domain.operations l.self.engine.domain) l.self.engine.store l.self.book;
      domain : l.self.engine.domain ≡ old.engine.domain;
      spare : l.self.engine.spare ≡ old.engine.spare;
      stays_bounded : IsBounded old.engine.spare old.engine.store → IsBounded l.self.engine.spare l.self.engine.store;
      all : (m : Machine) → Holds dom old.engine.store old.book m → HoldsAll dom m l.self.engine.store l.self.book (places_of (checked_among m.program (take l.stmt-index l.stmts)));
      found : (m : Machine) → Holds dom old.engine.store old.book m → l.found ≡ l.initial.found ++ findings dom m (checked_among m.program (take l.stmt-index l.stmts));
      least : l.initial.steps ≤ l.steps;
      ticked : (m : Machine) → Holds dom old.engine.store old.book m → l.steps ≤ l.initial.steps + g.D.Domain.counted old.engine.domain * work_on dom m (places_of (checked_among m.program (take l.stmt-index l.stmts)));
    }
