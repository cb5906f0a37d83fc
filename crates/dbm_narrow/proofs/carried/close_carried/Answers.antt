use Rattle.std.specs.Prelude.{◌*◌, List, Bool, length}
use Rattle.std.proofs.Common.{sym, subst}
use Rattle.std.proofs.lemmas.Int.{to_z-of_z}
use mir.Syntax.{w128}
use Rattle.dbm_core.specs.Half.{HasEntries, entry, nodes}
use Rattle.dbm_incremental.proofs.MoveLemmas.{whole-strong}
use Rattle.dbm_incremental.proofs.StandLemmas.{stood-strong}
use Rattle.dbm_incremental.specs.ClosedMatrices.{IsStrong}
use Rattle.dbm_incremental.specs.Equations.{stood_entry}
use Rattle.dbm_narrow.proofs.StandingLemmas.{agree-strong, stood-closing}
use Rattle.dbm_narrow.proofs.carried.close_carried.Goals as goal

pub close_set-requires : goal.close_set-requires
close_set-requires gen c =
    let h : HasEntries c.args.closed.now.kinds (stood_entry (entry c.args.closed.now) c.args.q c.args.y c.args.c) c.in-Some.set = rw (to_z-of_z w128 c.args.c c.ranges.c, c.in-Some.is) at c.in_ok-stood.ensures.stood in
    let s : IsStrong (nodes c.args.closed.now) (entry c.args.closed.now) = whole-strong c.args.closed.now c.requires.closed c.requires.whole in
    record {
      strong = subst (λ (k : List Bool). IsStrong (2 * length k) (entry c.in-Some.set)) (sym h.same_kinds)
          (agree-strong gen.W.Width.unit gen.W.Width.positive (length c.args.closed.now.kinds) (stood_entry (entry c.args.closed.now) c.args.q c.args.y c.args.c) (entry c.in-Some.set) h.entries
          (stood-strong (entry c.args.closed.now) (length c.args.closed.now.kinds) c.args.q c.args.y c.args.c c.requires.node s));
    }

pub returns-in-Some : goal.returns-in-Some
returns-in-Some gen c =
    let h : HasEntries c.args.closed.now.kinds (stood_entry (entry c.args.closed.now) c.args.q c.args.y c.args.c) c.in-Some.set = rw (to_z-of_z w128 c.args.c c.ranges.c, c.in-Some.is) at c.in_ok-stood.ensures.stood in
    let s : IsStrong (nodes c.args.closed.now) (entry c.args.closed.now) = whole-strong c.args.closed.now c.requires.closed c.requires.whole in
    record {
      closing = stood-closing gen.W.Width.unit gen.W.Width.positive c.args.closed.now c.in-Some.set c.args.q c.args.y c.args.c c.close_set.result h
          (subst (λ (k : List Bool). IsStrong (2 * length k) (entry c.in-Some.set)) (sym h.same_kinds)
          (agree-strong gen.W.Width.unit gen.W.Width.positive (length c.args.closed.now.kinds) (stood_entry (entry c.args.closed.now) c.args.q c.args.y c.args.c) (entry c.in-Some.set) h.entries
          (stood-strong (entry c.args.closed.now) (length c.args.closed.now.kinds) c.args.q c.args.y c.args.c c.requires.node s)))
          c.close_set.ensures.closing;
      total = c.close_set.ensures.total;
    }
