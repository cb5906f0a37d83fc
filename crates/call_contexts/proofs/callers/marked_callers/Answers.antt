use Rattle.std.proofs.Common.{◌≡◌, ◌+◌, List, [], Bool, length, sym, subst, arith, rules}
use Rattle.imp_check.specs.Slots.{routines_of}
use Rattle.call_contexts.specs.Marks.{AreMarked}
use Rattle.call_contexts.proofs.Few.{as_many}
use Rattle.call_contexts.proofs.Marking.{marked_first, marked_next}
use Rattle.call_contexts.proofs.callers.marked_callers.Goals as goal

pub loop-k-init : goal.loop-k-init
loop-k-init c = record { to = c.requires.before; are = search (rules, marked_first) }

pub mark_callers-requires-clause-there : goal.mark_callers-requires-clause-there
mark_callers-requires-clause-there c =
    let n : length (routines_of c.args.prog.now) ≡ length c.args.prog.now = as_many [] c.args.prog.now in
    omega (arith, c.requires.last, c.loop-k-test.true)

pub loop-k-preserved : goal.loop-k-preserved
loop-k-preserved c =
    let h = c.loop-k-test.true in
    record {
      to = omega arith;
      are =
          subst (λ (ms : List Bool). AreMarked (routines_of c.args.prog.now) ms c.args.place c.args.main (c.loop-k.k + 1)) (sym c.mark_callers.ensures.is)
          (marked_next c.args.prog.now c.loop-k.marks c.args.place c.args.main c.loop-k.k c.procs.ensures.numbered c.loop-k.invariant.are);
    }
