use Rattle.batch_interp.proofs.values.after_number.Goals as goal

pub seek-requires : goal.seek-requires
seek-requires g c = record { right = c.new-remembered.ensures.right (g.D.Domain.operations c.args.interpreter.now.dom.now) c.args.interpreter.now.plan.now }
