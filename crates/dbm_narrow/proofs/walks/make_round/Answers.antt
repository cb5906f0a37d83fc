use Rattle.std.specs.Prelude.{◌≡◌, ℕ, ◌<◌, ◌≤◌, ◌<ℤ◌, ◌≤ℤ◌, ◌+◌, ◌*◌, ◌^◌, pos, negsuc, Some}
use Rattle.std.proofs.Common.{arith, rules, length, sym, ◌∙◌, subst, inl, inr}
use Rattle.dbm_close.proofs.RoundLemmas.{IsWithin-more, rounded-within}
use Rattle.dbm_close.specs.Rounds.{rounded}
use Rattle.dbm_core.specs.Half.{entry, row_start, row_width}
use Rattle.dbm_core.specs.Limits.{IsWithin}
use Rattle.dbm_core.specs.Weights.{AtMost}
use Rattle.dbm_narrow.proofs.EntryLemmas.{wide-at, wide-negative, wide-positive, zero-above, zero-below}
use Rattle.dbm_narrow.proofs.GrowthLemmas.{by_checked, within-entries}
use Rattle.dbm_narrow.proofs.MiddleLemmas.{middle-rounded}
use Rattle.dbm_narrow.proofs.RoundLemmas.{narrow-size}
use Rattle.dbm_narrow.specs.Entries.{AreEntries, at, held}
use Rattle.dbm_narrow.proofs.walks.make_round.Goals as goal

pub returns-then-is_less : goal.returns-then-is_less
returns-then-is_less gen c =
    let n : at gen.W.Width.unit c.fill_middle.new.middle.from_first (2 * c.args.q) <ℤ pos 0 =
    subst (λ x. x <ℤ pos 0) c.read-first.ensures.value (zero-above gen.W.Width.unit gen.W.Width.positive c.read-first.result c.zero.result c.is_less.result c.zero.ensures.value c.is_less.ensures.less c.if-is_less.true) in
    record {
      bounds = c.fill_middle.ensures.entries;
      round = inl (subst (λ a. AtMost a (Some (negsuc 0))) (sym (wide-at gen.W.Width.unit gen.W.Width.positive c.fill_middle.new.middle.from_first (2 * c.args.q)) ∙ c.fill_middle.ensures.bounds.from_first (2 * c.args.q) (omega arith))
          (wide-negative gen.W.Width.unit gen.W.Width.positive (at gen.W.Width.unit c.fill_middle.new.middle.from_first (2 * c.args.q)) n));
      total = tt;
    }

pub returns-then-is_less-2 : goal.returns-then-is_less-2
returns-then-is_less-2 gen c =
    let n : at gen.W.Width.unit c.fill_middle.new.middle.from_second (2 * c.args.q + 1) <ℤ pos 0 =
    subst (λ x. x <ℤ pos 0) c.read-second.ensures.value (zero-above gen.W.Width.unit gen.W.Width.positive c.read-second.result c.zero-2.result c.is_less-2.result c.zero-2.ensures.value c.is_less-2.ensures.less c.if-is_less-2.true) in
    record {
      bounds = c.fill_middle.ensures.entries;
      round = inr (subst (λ a. AtMost a (Some (negsuc 0))) (sym (wide-at gen.W.Width.unit gen.W.Width.positive c.fill_middle.new.middle.from_second (2 * c.args.q + 1)) ∙ c.fill_middle.ensures.bounds.from_second (2 * c.args.q + 1) (omega arith))
          (wide-negative gen.W.Width.unit gen.W.Width.positive (at gen.W.Width.unit c.fill_middle.new.middle.from_second (2 * c.args.q + 1)) n));
      total = tt;
    }

pub go_through_rows-requires : goal.go_through_rows-requires
go_through_rows-requires gen c =
    let size : length c.args.entries.now ≡ row_start (2 * length c.args.kinds.now) = narrow-size gen.W.Width.unit gen.W.Width.positive c.args.kinds.now c.args.entries.now c.requires.narrow in
    search rules

pub returns-then-go_through_rows : goal.returns-then-go_through_rows
returns-then-go_through_rows gen c =
    let m : pos 0 ≤ℤ at gen.W.Width.unit c.fill_middle.new.middle.from_first (2 * c.args.q) =
    subst (λ x. pos 0 ≤ℤ x) c.read-first.ensures.value (zero-below gen.W.Width.unit gen.W.Width.positive c.read-first.result c.zero.result c.is_less.result c.zero.ensures.value c.is_less.ensures.less c.if-is_less.false) in
    let n : pos 0 ≤ℤ at gen.W.Width.unit c.fill_middle.new.middle.from_second (2 * c.args.q + 1) =
    subst (λ x. pos 0 ≤ℤ x) c.read-second.ensures.value (zero-below gen.W.Width.unit gen.W.Width.positive c.read-second.result c.zero-2.result c.is_less-2.result c.zero-2.ensures.value c.is_less-2.ensures.less c.if-is_less-2.false) in
    let size : length c.args.entries.now ≡ row_start (2 * length c.args.kinds.now) = narrow-size gen.W.Width.unit gen.W.Width.positive c.args.kinds.now c.args.entries.now c.requires.narrow in
    let kept : (i j : ℕ) → i < 2 * length c.args.kinds.now → j < row_width i → entry (held gen.W.Width.unit c.args.kinds.now c.go_through_rows.new.entries) i j ≡ rounded (entry (held gen.W.Width.unit c.args.kinds.now c.args.entries.now)) c.args.q i j =
    λ i j hi w. middle-rounded gen.W.Width.unit gen.W.Width.positive c.args.kinds.now c.args.entries.now c.go_through_rows.new.entries c.args.q c.fill_middle.new.middle c.fill_middle.ensures.bounds c.fill_middle.ensures.entries i j hi w
    (c.go_through_rows.ensures.kept c.if-go_through_rows.true i j hi w) in
    record {
      bounds = c.fill_middle.ensures.entries;
      round = record {
        sound = (
          subst (AtMost (Some (pos 0))) (sym (wide-at gen.W.Width.unit gen.W.Width.positive c.fill_middle.new.middle.from_first (2 * c.args.q)) ∙ c.fill_middle.ensures.bounds.from_first (2 * c.args.q) (omega arith))
              (wide-positive gen.W.Width.unit gen.W.Width.positive (at gen.W.Width.unit c.fill_middle.new.middle.from_first (2 * c.args.q)) m),
          subst (AtMost (Some (pos 0))) (sym (wide-at gen.W.Width.unit gen.W.Width.positive c.fill_middle.new.middle.from_second (2 * c.args.q + 1)) ∙ c.fill_middle.ensures.bounds.from_second (2 * c.args.q + 1) (omega arith))
              (wide-positive gen.W.Width.unit gen.W.Width.positive (at gen.W.Width.unit c.fill_middle.new.middle.from_second (2 * c.args.q + 1)) n),
        );
        kept = kept;
        entries = by_checked (AreEntries gen.W.Width.unit (2 * gen.W.Width.unit) c.go_through_rows.new.entries) gen.W.Width.checked
            (λ e. c.go_through_rows.ensures.entries e c.if-go_through_rows.true)
            (λ e. let big : 2 ^ 103 ≤ gen.W.Width.unit = gen.W.Width.roomy e in
            within-entries gen.W.Width.unit gen.W.Width.positive (14 * gen.W.Width.unit) (2 * gen.W.Width.unit) c.args.kinds.now c.go_through_rows.new.entries (omega (arith, gen.W.Width.positive)) (c.go_through_rows.auto.entries ∙ size) (c.go_through_rows.ensures.summed c.if-go_through_rows.true)
            (λ i j hi w. let hj : j < 2 * length c.args.kinds.now = omega arith in
            subst (IsWithin (2 * gen.W.Width.unit)) (sym (kept i j hi w))
            (IsWithin-more (2 * (2 * 2 ^ 102)) (2 * gen.W.Width.unit) (rounded (entry (held gen.W.Width.unit c.args.kinds.now c.args.entries.now)) c.args.q i j) (omega arith)
            (rounded-within (length c.args.kinds.now) (2 ^ 102) (entry (held gen.W.Width.unit c.args.kinds.now c.args.entries.now)) c.args.q c.requires.middle c.requires.small i j hi hj))));
      };
      total = tt;
    }
