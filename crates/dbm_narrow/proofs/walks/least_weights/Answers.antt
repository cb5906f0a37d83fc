use Rattle.std.specs.Prelude.{◌≡◌, length}
use Rattle.std.proofs.Common.{arith, subst}
use Rattle.dbm_close.proofs.RoundLemmas.{HasLeastWeights-last, IsRounded, IsRounded-first, IsRounded-room, negative-from_diagonal, negative-from_rounded}
use Rattle.dbm_narrow.proofs.RoundLemmas.{next-rounded}
use Rattle.dbm_narrow.proofs.SizeLemmas.{middle-fits}
use Rattle.dbm_narrow.specs.Entries.{held}
use Rattle.dbm_narrow.proofs.walks.least_weights.Goals as goal

pub loop-q-init : goal.loop-q-init
loop-q-init gen c = record { rounded = IsRounded-first (held gen.W.Width.unit c.args.kinds.now c.args.entries.now) c.requires.narrow.matrix c.requires.small; entries = c.requires.narrow.entries; middle = c.no_middle-middle.ensures.entries }

pub loop-q-preserved : goal.loop-q-preserved
loop-q-preserved gen c = record {
  rounded = next-rounded gen.W.Width.unit gen.W.Width.positive c.args.kinds.now c.args.entries.now c.loop-q.entries c.make_round.new.entries c.loop-q.q (omega arith) c.requires.narrow.matrix c.loop-q.invariant.rounded c.in-Done.ensures.round c.make_round.auto.entries;
  entries = c.in-Done.ensures.round.entries;
  middle = c.in-Done.ensures.bounds;
}

pub returns-in-Negative : goal.returns-in-Negative
returns-in-Negative gen c = record { weights = negative-from_rounded (held gen.W.Width.unit c.args.kinds.now c.args.entries.now) (held gen.W.Width.unit c.args.kinds.now c.loop-q.entries) c.loop-q.q (omega arith) c.loop-q.invariant.rounded c.in-Negative.ensures.round; total = tt }

pub returns-then-is_diagonal_negative : goal.returns-then-is_diagonal_negative
returns-then-is_diagonal_negative gen c =
    let k : c.loop-q.q ≡ length c.args.kinds.now = omega arith in
    record {
      weights = negative-from_diagonal (held gen.W.Width.unit c.args.kinds.now c.args.entries.now) (held gen.W.Width.unit c.args.kinds.now c.loop-q.entries)
          (subst (IsRounded (held gen.W.Width.unit c.args.kinds.now c.args.entries.now) (held gen.W.Width.unit c.args.kinds.now c.loop-q.entries)) k c.loop-q.invariant.rounded) c.if-is_diagonal_negative.ensures.negative;
      total = tt;
    }

pub returns : goal.returns
returns gen c =
    let k : c.loop-q.q ≡ length c.args.kinds.now = omega arith in
    record {
      weights = (
        HasLeastWeights-last (held gen.W.Width.unit c.args.kinds.now c.args.entries.now) (held gen.W.Width.unit c.args.kinds.now c.loop-q.entries) c.requires.diagonal c.requires.narrow.matrix.few
            (subst (IsRounded (held gen.W.Width.unit c.args.kinds.now c.args.entries.now) (held gen.W.Width.unit c.args.kinds.now c.loop-q.entries)) k c.loop-q.invariant.rounded) c.if-is_diagonal_negative.ensures.negative,
        c.loop-q.invariant.entries,
      );
      total = tt;
    }

pub no_middle-middle-requires : goal.no_middle-middle-requires
no_middle-middle-requires gen c = middle-fits gen.row.W gen.met.W.Width.light

pub make_round-requires : goal.make_round-requires
make_round-requires gen c = (middle-fits gen.row.W gen.met.W.Width.light, (record { matrix = c.loop-q.invariant.rounded.matrix; entries = c.loop-q.invariant.entries }, (omega arith, (c.loop-q.invariant.middle, IsRounded-room (held gen.W.Width.unit c.args.kinds.now c.args.entries.now) (held gen.W.Width.unit c.args.kinds.now c.loop-q.entries) c.loop-q.q c.loop-q.invariant.rounded (omega (arith, c.requires.narrow.matrix.few))))))
