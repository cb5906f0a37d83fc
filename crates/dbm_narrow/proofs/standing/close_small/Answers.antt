use Rattle.std.specs.Prelude.{◌≡◌, true}
use Rattle.dbm_narrow.proofs.ClosingLemmas.{finish-total}
use Rattle.dbm_narrow.proofs.StandingLemmas.{stands-narrow, stands-outcome, stands-strong}
use Rattle.dbm_narrow.proofs.standing.close_small.Goals as goal

pub finish_strong-requires-clause-narrow : goal.finish_strong-requires-clause-narrow
finish_strong-requires-clause-narrow gen c =
    let e : c.stand.result ≡ true = cc in
    stands-narrow gen.W.Width.unit gen.W.Width.positive c.args.kinds.now c.args.entries.now c.stand.new.entries c.args.q c.args.y c.args.c c.requires.narrow c.requires.node c.stand.auto.entries (c.stand.ensures.stands e)

pub finish_strong-requires-clause-strong : goal.finish_strong-requires-clause-strong
finish_strong-requires-clause-strong gen c =
    let e : c.stand.result ≡ true = cc in
    stands-strong gen.W.Width.unit gen.W.Width.positive c.args.kinds.now c.args.entries.now c.stand.new.entries c.args.q c.args.y c.args.c c.requires.narrow c.requires.node c.stand.auto.entries (c.stand.ensures.stands e) c.requires.closed c.requires.whole

pub returns : goal.returns
returns gen c =
    let e : c.stand.result ≡ true = cc in
    record {
      outcome = stands-outcome gen.W.Width.unit gen.W.Width.positive c.args.kinds.now c.args.entries.now c.stand.new.entries c.args.q c.args.y c.args.c c.requires.narrow c.requires.node c.stand.auto.entries (c.stand.ensures.stands e) c.requires.closed c.requires.whole
          c.finish_strong.new.entries c.finish_strong.result c.requires.slot c.requires.apart c.finish_strong.ensures.finish;
      total = finish-total gen.W.Width.unit gen.W.Width.positive gen.W.Width.checked c.args.kinds.now c.stand.new.entries c.finish_strong.new.entries c.finish_strong.result c.finish_strong.ensures.finish;
    }
