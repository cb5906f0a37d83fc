use Rattle.std.specs.Prelude.{◌≡◌, ℕ, ◌≤◌, ◌*◌, ◌<ℤ◌, ◌≤ℤ◌, pos, negsuc, Some, length}
use Rattle.std.proofs.Common.{arith, inr, sym, ◌∙◌, ap, subst}
use Rattle.dbm_core.proofs.NodeLemmas.{flip_below}
use Rattle.dbm_core.specs.Half.{row_start}
use Rattle.dbm_core.specs.Nodes.{flip}
use Rattle.dbm_core.specs.Weights.{AtMost}
use Rattle.dbm_narrow.proofs.EntryLemmas.{entry-more, lt-false, wide-negative, wide-positive, zero-above, zero-below}
use Rattle.dbm_narrow.proofs.GrowthLemmas.{by_checked, lowered-within}
use Rattle.dbm_narrow.proofs.LowerLemmas.{ends-inserted, first-sum, has_ends, lowers-first, lowers-kept, lowers-second, lowers-to, second-sum}
use Rattle.dbm_narrow.proofs.RoundLemmas.{narrow-size}
use Rattle.dbm_narrow.proofs.SizeLemmas.{middle-fits}
use Rattle.dbm_narrow.specs.Entries.{AreEntries, at}
use Rattle.dbm_narrow.specs.Lowerings.{HasRoomFor}
use Rattle.dbm_narrow.proofs.lower.lower.Goals as goal

pub entry_at-current-requires-clause-size : goal.entry_at-current-requires-clause-size
entry_at-current-requires-clause-size gen c = narrow-size gen.W.Width.unit gen.W.Width.positive c.args.kinds.now c.args.entries.now c.requires.narrow

pub ends_of-ends-requires : goal.ends_of-ends-requires
ends_of-ends-requires gen c = (middle-fits gen.row.W gen.met.W.Width.light, (c.requires.narrow.matrix.few, (c.requires.row, (c.requires.column, (narrow-size gen.W.Width.unit gen.W.Width.positive c.args.kinds.now c.args.entries.now c.requires.narrow, (c.requires.narrow.entries, (c.requires.low, c.requires.high)))))))

pub go_through_rows-requires : goal.go_through_rows-requires
go_through_rows-requires gen c = (middle-fits gen.row.W gen.met.W.Width.light, (c.requires.narrow.matrix.few, (narrow-size gen.W.Width.unit gen.W.Width.positive c.args.kinds.now c.args.entries.now c.requires.narrow, (c.requires.narrow.entries, c.ends_of-ends.ensures.entries))))

pub returns-then-not-is_less : goal.returns-then-not-is_less
returns-then-not-is_less gen c =
    let h : c.entry_at-current.result ≤ℤ c.args.bound = lt-false gen.W.Width.unit gen.W.Width.positive c.args.bound c.entry_at-current.result (sym c.is_less.ensures.less ∙ c.if-not-is_less.true) in
    record { lowering = lowers-kept gen.W.Width.unit gen.W.Width.positive c.args.kinds.now c.args.entries.now c.args.i c.args.j c.args.bound c.requires.narrow c.requires.row c.requires.column c.requires.low c.requires.high c.requires.weights (subst (λ x. x ≤ℤ c.args.bound) c.entry_at-current.ensures.entry h); within = λ e b r k. entry-more gen.W.Width.unit gen.W.Width.positive b (7 * b) (at gen.W.Width.unit c.args.entries.now k) (omega arith) (r.entries k); total = tt }

pub returns-then-is_less : goal.returns-then-is_less
returns-then-is_less gen c =
    let n : at gen.W.Width.unit c.ends_of-ends.result.from_first c.args.i <ℤ pos 0 = subst (λ x. x <ℤ pos 0) c.read-first.ensures.value (zero-above gen.W.Width.unit gen.W.Width.positive c.read-first.result c.zero.result c.is_less-2.result c.zero.ensures.value c.is_less-2.ensures.less c.if-is_less.true) in
    record { lowering = lowers-first gen.W.Width.unit gen.W.Width.positive c.args.kinds.now c.args.entries.now c.args.i c.args.j c.args.bound c.requires.narrow c.requires.row c.requires.column c.requires.low c.requires.high (subst (λ a. AtMost a (Some (negsuc 0))) (first-sum gen.W.Width.unit gen.W.Width.positive c.args.kinds.now c.args.entries.now c.args.i c.args.j c.args.bound c.requires.narrow c.requires.row c.requires.column c.requires.low c.requires.high c.ends_of-ends.result c.ends_of-ends.ensures.ends) (wide-negative gen.W.Width.unit gen.W.Width.positive (at gen.W.Width.unit c.ends_of-ends.result.from_first c.args.i) n)); within = λ e b r. tt; total = tt }

pub returns-then-is_less-2 : goal.returns-then-is_less-2
returns-then-is_less-2 gen c =
    let n : at gen.W.Width.unit c.ends_of-ends.result.from_second (flip c.args.j) <ℤ pos 0 = subst (λ x. x <ℤ pos 0) (c.read-second.ensures.value ∙ ap (at gen.W.Width.unit c.ends_of-ends.result.from_second) c.other_sign-behind.ensures.flipped) (zero-above gen.W.Width.unit gen.W.Width.positive c.read-second.result c.zero-2.result c.is_less-3.result c.zero-2.ensures.value c.is_less-3.ensures.less c.if-is_less-2.true) in
    record { lowering = lowers-second gen.W.Width.unit gen.W.Width.positive c.args.kinds.now c.args.entries.now c.args.i c.args.j c.args.bound c.requires.narrow c.requires.row c.requires.column c.requires.low c.requires.high (subst (λ a. AtMost a (Some (negsuc 0))) (second-sum gen.W.Width.unit gen.W.Width.positive c.args.kinds.now c.args.entries.now c.args.i c.args.j c.args.bound c.requires.narrow c.requires.row c.requires.column c.requires.low c.requires.high c.ends_of-ends.result c.ends_of-ends.ensures.ends) (wide-negative gen.W.Width.unit gen.W.Width.positive (at gen.W.Width.unit c.ends_of-ends.result.from_second (flip c.args.j)) n)); within = λ e b r. tt; total = tt }

pub returns-then-go_through_rows : goal.returns-then-go_through_rows
returns-then-go_through_rows gen c =
    let m : pos 0 ≤ℤ at gen.W.Width.unit c.ends_of-ends.result.from_first c.args.i = subst (λ x. pos 0 ≤ℤ x) c.read-first.ensures.value (zero-below gen.W.Width.unit gen.W.Width.positive c.read-first.result c.zero.result c.is_less-2.result c.zero.ensures.value c.is_less-2.ensures.less c.if-is_less.false) in
    let n : pos 0 ≤ℤ at gen.W.Width.unit c.ends_of-ends.result.from_second (flip c.args.j) = subst (λ x. pos 0 ≤ℤ x) (c.read-second.ensures.value ∙ ap (at gen.W.Width.unit c.ends_of-ends.result.from_second) c.other_sign-behind.ensures.flipped) (zero-below gen.W.Width.unit gen.W.Width.positive c.read-second.result c.zero-2.result c.is_less-3.result c.zero-2.ensures.value c.is_less-3.ensures.less c.if-is_less-2.false) in
    let size : length c.go_through_rows.new.entries ≡ row_start (2 * length c.args.kinds.now) = c.go_through_rows.auto.entries ∙ narrow-size gen.W.Width.unit gen.W.Width.positive c.args.kinds.now c.args.entries.now c.requires.narrow in
    let grown : (b : ℕ) → HasRoomFor gen.W.Width.unit b c.args.entries.now c.args.bound → AreEntries gen.W.Width.unit (7 * b) c.go_through_rows.new.entries = λ b r.
    (let f : 7 * b ≤ 2 * gen.W.Width.unit = r.fits in
    lowered-within gen.W.Width.unit gen.W.Width.positive b (length c.args.kinds.now) c.args.entries.now c.args.i c.args.j c.args.bound c.ends_of-ends.result (omega (arith, gen.W.Width.positive)) r.entries (inr r.bound) c.requires.row
    (flip_below c.args.j (length c.args.kinds.now) c.requires.column) c.ends_of-ends.ensures.ends c.go_through_rows.new.entries size (c.go_through_rows.ensures.kept c.if-go_through_rows.true)) in
    let limited : AreEntries gen.W.Width.unit (2 * gen.W.Width.unit) c.go_through_rows.new.entries = by_checked (AreEntries gen.W.Width.unit (2 * gen.W.Width.unit) c.go_through_rows.new.entries) gen.W.Width.checked
    (λ e. c.go_through_rows.ensures.entries e c.if-go_through_rows.true)
    (λ e k. (let q : (b : ℕ) × HasRoomFor gen.W.Width.unit b c.args.entries.now c.args.bound = c.requires.room e in
    entry-more gen.W.Width.unit gen.W.Width.positive (7 * q.0) (2 * gen.W.Width.unit) (at gen.W.Width.unit c.go_through_rows.new.entries k) q.1.fits (grown q.0 q.1 k))) in
    record {
      within = λ e. grown;
      total = tt;
      lowering = lowers-to gen.W.Width.unit gen.W.Width.positive c.args.kinds.now c.args.entries.now c.args.i c.args.j c.args.bound c.requires.narrow c.requires.row c.requires.column c.requires.low c.requires.high c.go_through_rows.new.entries c.requires.weights c.go_through_rows.auto.entries limited
          (subst (AtMost (Some (pos 0))) (first-sum gen.W.Width.unit gen.W.Width.positive c.args.kinds.now c.args.entries.now c.args.i c.args.j c.args.bound c.requires.narrow c.requires.row c.requires.column c.requires.low c.requires.high c.ends_of-ends.result c.ends_of-ends.ensures.ends) (wide-positive gen.W.Width.unit gen.W.Width.positive (at gen.W.Width.unit c.ends_of-ends.result.from_first c.args.i) m))
          (subst (AtMost (Some (pos 0))) (second-sum gen.W.Width.unit gen.W.Width.positive c.args.kinds.now c.args.entries.now c.args.i c.args.j c.args.bound c.requires.narrow c.requires.row c.requires.column c.requires.low c.requires.high c.ends_of-ends.result c.ends_of-ends.ensures.ends) (wide-positive gen.W.Width.unit gen.W.Width.positive (at gen.W.Width.unit c.ends_of-ends.result.from_second (flip c.args.j)) n))
          (λ a b ha w. ends-inserted gen.W.Width.unit gen.W.Width.positive c.args.kinds.now c.args.entries.now c.go_through_rows.new.entries c.args.i c.args.j c.args.bound c.ends_of-ends.result (has_ends gen.W.Width.unit gen.W.Width.positive c.args.kinds.now c.args.entries.now c.args.i c.args.j c.args.bound c.requires.narrow c.requires.row c.requires.column c.requires.low c.requires.high c.ends_of-ends.result c.ends_of-ends.ensures.ends) c.ends_of-ends.ensures.entries a b ha w
          (c.go_through_rows.ensures.kept c.if-go_through_rows.true a b ha w));
    }
