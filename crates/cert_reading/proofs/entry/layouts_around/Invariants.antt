use Rattle.std.proofs.Common.{◌≡◌, ◌++◌, drop}
use Rattle.imp_check.specs.Slots.{routines_of}
use Rattle.cert_meaning.specs.Chained.{layouts_around}
use Rattle.cert_reading.proofs.entry.layouts_around.Given as goal

-- the layouts so far, with those to come
abbrev pub invariant-loop-stmt : goal.invariant-loop-stmt
invariant-loop-stmt l = l.layouts ++ layouts_around (routines_of l.prog) (drop l.stmt-index l.stmts) ≡ layouts_around (routines_of l.prog) l.stmts
