use Rattle.std.specs.Prelude.{◌≡◌, ◌<◌, ◌*◌, length}
use Rattle.std.proofs.Common.{arith, rules}
use Rattle.dbm_core.specs.Half.{row_start}
use Rattle.dbm_narrow.proofs.EntryLemmas.{entry-more}
use Rattle.dbm_narrow.proofs.MiddleLemmas.{flipped-is_entry}
use Rattle.dbm_narrow.proofs.RoundLemmas.{narrow-size}
use Rattle.dbm_narrow.proofs.SizeLemmas.{row-fits, row_size}
use Rattle.dbm_narrow.proofs.StepLemmas.{finishes, finishes-negative, strengthened-matrix}
use Rattle.dbm_narrow.specs.Entries.{AreEntries, at}
use Rattle.dbm_narrow.proofs.steps.finish.Goals as goal

pub halves_of-halves-requires : goal.halves_of-halves-requires
halves_of-halves-requires gen c =
    let fit : row_size gen.row.W < 9223372036854775808 = row-fits gen.row.W gen.met.W.Width.light in
    search rules

pub flipped-behind-requires : goal.flipped-behind-requires
flipped-behind-requires gen c =
    let fit : row_size gen.row.W < 9223372036854775808 = row-fits gen.row.W gen.met.W.Width.light in
    let more : AreEntries gen.W.Width.unit (2 * gen.W.Width.unit) c.halves_of-halves.result = λ k. entry-more gen.W.Width.unit gen.W.Width.positive gen.W.Width.unit (2 * gen.W.Width.unit) (at gen.W.Width.unit c.halves_of-halves.result k) (omega arith) (c.halves_of-halves.ensures.entries k) in
    search rules

pub has_negative_halves-requires : goal.has_negative_halves-requires
has_negative_halves-requires gen c =
    let fit : row_size gen.row.W < 9223372036854775808 = row-fits gen.row.W gen.met.W.Width.light in
    let behind : AreEntries gen.W.Width.unit gen.W.Width.unit c.flipped-behind.result = flipped-is_entry gen.W.Width.unit gen.W.Width.positive gen.W.Width.unit (2 * length c.args.kinds.now) c.halves_of-halves.result c.flipped-behind.result c.halves_of-halves.ensures.entries c.flipped-behind.ensures.flipped c.flipped-behind.ensures.beyond in
    search rules

pub strengthen_rows-requires : goal.strengthen_rows-requires
strengthen_rows-requires gen c =
    let fit : row_size gen.row.W < 9223372036854775808 = row-fits gen.row.W gen.met.W.Width.light in
    let behind : AreEntries gen.W.Width.unit gen.W.Width.unit c.flipped-behind.result = flipped-is_entry gen.W.Width.unit gen.W.Width.positive gen.W.Width.unit (2 * length c.args.kinds.now) c.halves_of-halves.result c.flipped-behind.result c.halves_of-halves.ensures.entries c.flipped-behind.ensures.flipped c.flipped-behind.ensures.beyond in
    let size : length c.args.entries.now ≡ row_start (2 * length c.args.kinds.now) = narrow-size gen.W.Width.unit gen.W.Width.positive c.args.kinds.now c.args.entries.now c.requires.narrow in
    search rules

pub last_steps-requires : goal.last_steps-requires
last_steps-requires gen c =
    let behind : AreEntries gen.W.Width.unit gen.W.Width.unit c.flipped-behind.result = flipped-is_entry gen.W.Width.unit gen.W.Width.positive gen.W.Width.unit (2 * length c.args.kinds.now) c.halves_of-halves.result c.flipped-behind.result c.halves_of-halves.ensures.entries c.flipped-behind.ensures.flipped c.flipped-behind.ensures.beyond in
    record {
      narrow = record {
        matrix = strengthened-matrix gen.W.Width.unit gen.W.Width.positive c.args.kinds.now c.args.entries.now c.strengthen_rows.new.entries c.halves_of-halves.result c.flipped-behind.result c.halves_of-halves.ensures.entries behind c.strengthen_rows.ensures.entries c.flipped-behind.ensures.flipped
            c.strengthen_rows.ensures.kept c.requires.narrow.matrix c.strengthen_rows.auto.entries;
        entries = c.strengthen_rows.ensures.entries;
      };
    }

pub returns-then-has_negative_halves : goal.returns-then-has_negative_halves
returns-then-has_negative_halves gen c = record { finish = finishes-negative gen.W.Width.unit gen.W.Width.positive c.args.kinds.now c.args.entries.now c.halves_of-halves.result c.halves_of-halves.ensures.halves c.if-has_negative_halves.ensures.negative }

pub returns : goal.returns
returns gen c =
    let behind : AreEntries gen.W.Width.unit gen.W.Width.unit c.flipped-behind.result = flipped-is_entry gen.W.Width.unit gen.W.Width.positive gen.W.Width.unit (2 * length c.args.kinds.now) c.halves_of-halves.result c.flipped-behind.result c.halves_of-halves.ensures.entries c.flipped-behind.ensures.flipped c.flipped-behind.ensures.beyond in
    record {
      finish = finishes gen.W.Width.unit gen.W.Width.positive c.args.kinds.now c.args.entries.now c.strengthen_rows.new.entries c.halves_of-halves.result c.flipped-behind.result c.halves_of-halves.ensures.entries behind c.strengthen_rows.ensures.entries c.flipped-behind.ensures.flipped
          c.strengthen_rows.ensures.kept c.last_steps.new.entries c.last_steps.ensures.cut c.requires.narrow.matrix c.strengthen_rows.auto.entries c.halves_of-halves.ensures.halves c.if-has_negative_halves.ensures.negative c.last_steps.result c.last_steps.ensures.last;
    }
