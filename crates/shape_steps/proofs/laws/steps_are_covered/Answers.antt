use Rattle.shape_steps.proofs.Concrete.{Covers-null, Covers-copy, Covers-new, Covers-read_any, Covers-write_any, Covers-enter, Covers-pop, Covers-last, Covers-leave}
use Rattle.shape_steps.proofs.laws.steps_are_covered.Goals as goal

pub returns-clause-null : goal.returns-clause-null
returns-clause-null c = Covers-null

pub returns-clause-copied : goal.returns-clause-copied
returns-clause-copied c = Covers-copy

pub returns-clause-allocated : goal.returns-clause-allocated
returns-clause-allocated c = Covers-new

pub returns-clause-read : goal.returns-clause-read
returns-clause-read c = Covers-read_any

pub returns-clause-written : goal.returns-clause-written
returns-clause-written c = Covers-write_any

pub returns-clause-entered : goal.returns-clause-entered
returns-clause-entered c = Covers-enter

pub returns-clause-removed : goal.returns-clause-removed
returns-clause-removed c = Covers-pop

pub returns-clause-left : goal.returns-clause-left
returns-clause-left c = Covers-leave

pub returns-clause-shed : goal.returns-clause-shed
returns-clause-shed c = Covers-last
