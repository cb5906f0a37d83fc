use Rattle.std.proofs.Common.{Some, None, false, refl, sym, ◌∙◌}
use Rattle.call_contexts.proofs.Placed.{loop_found}
use Rattle.call_contexts.proofs.places.loop_holder.Goals as goal

pub returns-then-is_loop : goal.returns-then-is_loop
returns-then-is_loop c = record { is = loop_found c.args.prog.now c.args.stmt (Some c.in-Some.entry.now) _ c.procs.ensures.numbered c.in-Some.ensures.is (sym c.is_loop.ensures.is ∙ c.if-is_loop.true) }

pub returns-else-is_loop : goal.returns-else-is_loop
returns-else-is_loop c = record { is = loop_found c.args.prog.now c.args.stmt (Some c.in-Some.entry.now) _ c.procs.ensures.numbered c.in-Some.ensures.is (sym c.is_loop.ensures.is ∙ c.if-is_loop.false) }

pub returns-in-None : goal.returns-in-None
returns-in-None c = record { is = loop_found c.args.prog.now c.args.stmt None false c.procs.ensures.numbered c.in-None.ensures.is refl }
