use Rattle.batch_interp.proofs.Walkings.{get_same}
use Rattle.batch_interp.proofs.values.value_in.Goals as goal

pub value_within-requires : goal.value_within-requires
value_within-requires g c =
    record { there = get_same c.routines.result.now c.args.plan.now.program c.args.entered.frame.place c.index-routines-frame.result c.routines.ensures.is c.requires.there c.index-routines-frame.is }
