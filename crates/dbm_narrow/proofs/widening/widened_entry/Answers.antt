use Rattle.std.specs.Prelude.{◌≡◌, ◌*◌, ◌≤ℤ◌, ◌<ℤ◌, int_lt, false, pos, true}
use Rattle.std.proofs.Common.{ap, subst, sym, ◌∙◌}
use Rattle.dbm_narrow.proofs.EntryLemmas.{lt-false, lt-true}
use Rattle.dbm_narrow.proofs.WideningLemmas.{widened-goes, widened-none, widened-stays}
use Rattle.dbm_narrow.specs.Widenings.{IsWidened}
use Rattle.dbm_narrow.proofs.widening.widened_entry.Goals as goal

pub returns-then-not-is_less : goal.returns-then-not-is_less
returns-then-not-is_less gen c =
    let t : c.is_less.result ≡ false = cc in
    let h : c.args.new ≤ℤ c.args.old = lt-false gen.W.Width.unit gen.W.Width.positive c.args.old c.args.new (sym c.is_less.ensures.less ∙ t) in
    record { widened = widened-stays gen.W.Width.unit gen.W.Width.positive c.args.thresholds.now c.args.doubled c.args.old c.args.new c.requires.old h; total = tt }

pub returns-then-not-is_less-2 : goal.returns-then-not-is_less-2
returns-then-not-is_less-2 gen c =
    let t : c.is_less-2.result ≡ false = cc in
    let h : pos (16 * gen.W.Width.unit) ≤ℤ c.args.new = lt-false gen.W.Width.unit gen.W.Width.positive c.args.new (pos (16 * gen.W.Width.unit)) (ap (int_lt c.args.new) (sym c.free.ensures.value) ∙ sym c.is_less-2.ensures.less ∙ t) in
    record {
      widened = subst (IsWidened gen.W.Width.unit c.args.thresholds.now c.args.doubled c.args.old c.args.new) (sym c.none.ensures.value)
          (widened-none gen.W.Width.unit gen.W.Width.positive c.args.thresholds.now c.args.doubled c.args.old c.args.new h);
      total = tt;
    }

pub returns : goal.returns
returns gen c =
    let t : c.is_less.result ≡ true = cc in
    let u : c.is_less-2.result ≡ true = cc in
    let h : c.args.old <ℤ c.args.new = lt-true gen.W.Width.unit gen.W.Width.positive c.args.old c.args.new (sym c.is_less.ensures.less ∙ t) in
    let l : c.args.new <ℤ pos (16 * gen.W.Width.unit) = lt-true gen.W.Width.unit gen.W.Width.positive c.args.new (pos (16 * gen.W.Width.unit)) (ap (int_lt c.args.new) (sym c.free.ensures.value) ∙ sym c.is_less-2.ensures.less ∙ u) in
    record { widened = widened-goes gen.W.Width.unit gen.W.Width.positive c.args.thresholds.now c.args.doubled c.args.old c.args.new c.threshold_entry.result h l c.threshold_entry.ensures.entry; total = c.threshold_entry.ensures.total }
