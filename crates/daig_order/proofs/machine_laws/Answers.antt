use Rattle.std.proofs.Common.{refl, []}
use Rattle.daig_order.proofs.RunLemmas.{run-start, run-push, run-lower, run-fill, run-smaller, run-more, run-end, run-stops, run-new}
use Rattle.daig_order.proofs.machine_laws.Goals as goal

pub returns-clause-starts : goal.returns-clause-starts
returns-clause-starts g c = λ d old limit h. run-start d.system d.acyclic d.value d.names d.bound d.below old limit h

pub returns-clause-pushes : goal.returns-clause-pushes
returns-clause-pushes g c = λ d old new stack limit count i r h. (
  run-push d.system d.acyclic d.value d.names d.bound d.below old new stack limit count r i h,
  run-lower d.system d.acyclic d.value d.names d.bound d.below old new stack limit count r i h,
)

pub returns-clause-fills : goal.returns-clause-fills
returns-clause-fills g c = λ d old new later x rest limit count r ready puts lt. (
  run-fill d.system d.acyclic d.value d.names d.bound d.below old new x rest limit count r ready later (d.value x) refl puts lt,
  run-smaller d.system d.acyclic d.value d.names d.bound d.below old new x rest limit count r ready,
)

pub returns-clause-new : goal.returns-clause-new
returns-clause-new g c = λ d old new x rest limit count r. run-new d.system d.acyclic d.value d.names d.bound d.below old new x rest limit count r

pub returns-clause-more : goal.returns-clause-more
returns-clause-more g c = λ d old new x rest limit count r ready. run-more d.system d.acyclic d.value d.names d.bound d.below old new x rest limit count r ready

pub returns-clause-ends : goal.returns-clause-ends
returns-clause-ends g c = λ d old new limit count r h. run-end d.system d.acyclic d.value d.names d.bound d.below old new [] limit count r refl h

pub returns-clause-leaves : goal.returns-clause-leaves
returns-clause-leaves g c = λ d old new stack limit count r. run-stops d.system d.acyclic d.value d.names d.bound d.below old new stack limit count r
