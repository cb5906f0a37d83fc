use Rattle.dbm_incremental.proofs.LawLemmas.{closed-same}
use Rattle.dom_octagon.proofs.added.close_with.Goals as goal

pub returns-in-None-None : goal.returns-in-None-None
returns-in-None-None c = record { exact = rw (c.in-None-None.is-0, c.in-None-None.is-1, closed-same c.args.m.now c.requires.tight.closed) c.closed_copy.ensures.exact }
