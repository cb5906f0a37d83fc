use Rattle.std.specs.Prelude.{◌≤◌, ◌+◌, ◌*◌}
use Rattle.std.proofs.Common.{arith, sym, ◌∙◌}
use Rattle.dbm_narrow.proofs.EntryLemmas.{pair-kept}
use Rattle.dbm_narrow.proofs.MiddleLemmas.{turned-even_first, turned-even_second, turned-odd_first, turned-odd_second}
use Rattle.dbm_narrow.proofs.between.bounds_between.Goals as goal

pub returns-then-slot-q : goal.returns-then-slot-q
returns-then-slot-q gen c =
    record {
      bounds = record {
        first_even = c.kept_at.ensures.entry ∙ sym (pair-kept gen.W.Width.unit gen.W.Width.positive c.args.entries.now (2 * c.args.q) (2 * c.args.slot) (omega arith));
        first_odd = c.kept_at-then-slot-q.ensures.entry ∙ sym (pair-kept gen.W.Width.unit gen.W.Width.positive c.args.entries.now (2 * c.args.q) (2 * c.args.slot + 1) (omega arith));
        second_even = c.kept_at-then-slot-q-2.ensures.entry ∙ sym (pair-kept gen.W.Width.unit gen.W.Width.positive c.args.entries.now (2 * c.args.q + 1) (2 * c.args.slot) (omega arith));
        second_odd = c.kept_at-then-slot-q-3.ensures.entry ∙ sym (pair-kept gen.W.Width.unit gen.W.Width.positive c.args.entries.now (2 * c.args.q + 1) (2 * c.args.slot + 1) (omega arith));
      };
    }

pub returns : goal.returns
returns gen c =
    let l : c.args.q + 1 ≤ c.args.slot = omega arith in
    record {
      bounds = record {
        first_even = c.kept_at-2.ensures.entry ∙ sym (turned-even_first gen.W.Width.unit gen.W.Width.positive c.args.entries.now c.args.q c.args.slot l);
        first_odd = c.kept_at-3.ensures.entry ∙ sym (turned-odd_first gen.W.Width.unit gen.W.Width.positive c.args.entries.now c.args.q c.args.slot l);
        second_even = c.kept_at-4.ensures.entry ∙ sym (turned-even_second gen.W.Width.unit gen.W.Width.positive c.args.entries.now c.args.q c.args.slot l);
        second_odd = c.kept_at-5.ensures.entry ∙ sym (turned-odd_second gen.W.Width.unit gen.W.Width.positive c.args.entries.now c.args.q c.args.slot l);
      };
    }
