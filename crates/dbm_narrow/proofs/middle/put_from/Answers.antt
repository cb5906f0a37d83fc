use Rattle.std.specs.Prelude.{◌*◌, refl}
use Rattle.std.proofs.Common.{arith}
use Rattle.dbm_narrow.proofs.EntryLemmas.{entry-more}
use Rattle.dbm_narrow.proofs.PuttingLemmas.{puts-same, read-lesser}
use Rattle.dbm_narrow.proofs.middle.put_from.Goals as goal

pub plus-requires-2-clause-left : goal.plus-requires-2-clause-left
plus-requires-2-clause-left gen c = entry-more gen.W.Width.unit gen.W.Width.positive (2 * gen.W.Width.unit) (8 * gen.W.Width.unit) c.args.back (omega arith) c.requires.back

pub plus-requires-2-clause-right : goal.plus-requires-2-clause-right
plus-requires-2-clause-right gen c = entry-more gen.W.Width.unit gen.W.Width.positive (2 * gen.W.Width.unit) (8 * gen.W.Width.unit) c.args.here.first_odd (omega arith) c.requires.narrow.first_odd

pub returns : goal.returns
returns gen c =
    record {
      put = record {
        first = puts-same gen.W.Width.unit gen.W.Width.positive _ _ _ _ _ _ _ c.put.ensures.put refl refl;
        second = puts-same gen.W.Width.unit gen.W.Width.positive _ _ _ _ _ _ _ c.put-2.ensures.put
            (read-lesser gen.W.Width.unit gen.W.Width.positive c.lesser-even.result c.plus.result c.args.here.second_even c.args.back c.args.here.first_even c.lesser-even.ensures.value c.plus.ensures.sum)
            (read-lesser gen.W.Width.unit gen.W.Width.positive c.lesser-odd.result c.plus-2.result c.args.here.second_odd c.args.back c.args.here.first_odd c.lesser-odd.ensures.value c.plus-2.ensures.sum);
        to_first = refl;
        to_second = refl;
      };
    }
