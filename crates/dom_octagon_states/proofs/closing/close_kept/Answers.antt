use Rattle.dom_octagon_states.proofs.closing.close_kept.Goals as goal

pub close-requires : goal.close-requires
close-requires c = record { can = (c.requires.ready, c.requires.keeps (c.is_whole.ensures.whole c.if-is_whole.true c.requires.tight.closed)) }
