use Rattle.std.specs.Prelude.{◌≡◌, ◌<◌, ◌+◌, ◌*◌, ◌+ℤ◌}
use Rattle.std.specs.Int.{int_min}
use Rattle.std.proofs.Common.{arith, sym, ◌∙◌, ap, subst, inr}
use Rattle.dbm_core.proofs.NodeLemmas.{flip-flip, flip_below}
use Rattle.dbm_core.specs.Nodes.{flip}
use Rattle.dbm_narrow.proofs.EntryLemmas.{entry-more}
use Rattle.dbm_narrow.proofs.MiddleLemmas.{flipped-is_entry, row-is_entry}
use Rattle.dbm_narrow.proofs.SizeLemmas.{row-fits}
use Rattle.dbm_narrow.specs.Entries.{AreEntries, IsEntry, at, pair_at, settle}
use Rattle.dbm_narrow.proofs.lower.ends_of.Goals as goal

pub whole_row-last-requires : goal.whole_row-last-requires
whole_row-last-requires gen c = (row-fits gen.row.W gen.met.W.Width.light, (c.requires.few, (c.requires.column, (c.other_sign-behind.ensures.flipped, (c.requires.size, c.requires.entries)))))

pub whole_row-first-requires : goal.whole_row-first-requires
whole_row-first-requires gen c =
    let row : c.other_sign-ahead.result < 2 * c.args.slots = subst (λ k. k < 2 * c.args.slots) (sym c.other_sign-ahead.ensures.flipped) (flip_below c.args.i c.args.slots c.requires.row) in
    (row-fits gen.row.W gen.met.W.Width.light, (c.requires.few, (row, (sym (ap flip c.other_sign-ahead.ensures.flipped ∙ flip-flip c.args.i), (c.requires.size, c.requires.entries)))))

pub flipped-to_first-requires : goal.flipped-to_first-requires
flipped-to_first-requires gen c =
    let first : AreEntries gen.W.Width.unit (2 * gen.W.Width.unit) c.whole_row-first.result = row-is_entry gen.W.Width.unit gen.W.Width.positive (2 * gen.W.Width.unit) (2 * c.args.slots) c.args.entries.now c.whole_row-first.result c.other_sign-ahead.result c.requires.entries c.whole_row-first.ensures.entries c.whole_row-first.ensures.beyond in
    (row-fits gen.row.W gen.met.W.Width.light, (c.requires.few, first))

pub flipped-direct-requires : goal.flipped-direct-requires
flipped-direct-requires gen c =
    let last : AreEntries gen.W.Width.unit (2 * gen.W.Width.unit) c.whole_row-last.result = row-is_entry gen.W.Width.unit gen.W.Width.positive (2 * gen.W.Width.unit) (2 * c.args.slots) c.args.entries.now c.whole_row-last.result c.args.j c.requires.entries c.whole_row-last.ensures.entries c.whole_row-last.ensures.beyond in
    (row-fits gen.row.W gen.met.W.Width.light, (c.requires.few, last))

pub stepped-from_first-requires : goal.stepped-from_first-requires
stepped-from_first-requires gen c =
    let last : AreEntries gen.W.Width.unit (2 * gen.W.Width.unit) c.whole_row-last.result = row-is_entry gen.W.Width.unit gen.W.Width.positive (2 * gen.W.Width.unit) (2 * c.args.slots) c.args.entries.now c.whole_row-last.result c.args.j c.requires.entries c.whole_row-last.ensures.entries c.whole_row-last.ensures.beyond in
    let step : IsEntry gen.W.Width.unit (2 * gen.W.Width.unit) c.args.bound = inr (c.requires.low, c.requires.high) in
    (row-fits gen.row.W gen.met.W.Width.light, (entry-more gen.W.Width.unit gen.W.Width.positive (2 * gen.W.Width.unit) (8 * gen.W.Width.unit) c.args.bound (omega arith) step, (λ k. entry-more gen.W.Width.unit gen.W.Width.positive (2 * gen.W.Width.unit) (8 * gen.W.Width.unit) (at gen.W.Width.unit c.whole_row-last.result k) (omega arith) (last k))))

pub over-to_second-requires : goal.over-to_second-requires
over-to_second-requires gen c =
    let last : AreEntries gen.W.Width.unit (2 * gen.W.Width.unit) c.whole_row-last.result = row-is_entry gen.W.Width.unit gen.W.Width.positive (2 * gen.W.Width.unit) (2 * c.args.slots) c.args.entries.now c.whole_row-last.result c.args.j c.requires.entries c.whole_row-last.ensures.entries c.whole_row-last.ensures.beyond in
    let first : AreEntries gen.W.Width.unit (2 * gen.W.Width.unit) c.whole_row-first.result = row-is_entry gen.W.Width.unit gen.W.Width.positive (2 * gen.W.Width.unit) (2 * c.args.slots) c.args.entries.now c.whole_row-first.result c.other_sign-ahead.result c.requires.entries c.whole_row-first.ensures.entries c.whole_row-first.ensures.beyond in
    let step : IsEntry gen.W.Width.unit (2 * gen.W.Width.unit) c.args.bound = inr (c.requires.low, c.requires.high) in
    let from_first : AreEntries gen.W.Width.unit (4 * gen.W.Width.unit) c.stepped-from_first.result = λ k. entry-more gen.W.Width.unit gen.W.Width.positive (2 * gen.W.Width.unit + 2 * gen.W.Width.unit) (4 * gen.W.Width.unit) (at gen.W.Width.unit c.stepped-from_first.result k) (omega arith) (c.stepped-from_first.ensures.entries (2 * gen.W.Width.unit) (2 * gen.W.Width.unit) (omega (arith, gen.W.Width.positive)) step last k) in
    let to_first : AreEntries gen.W.Width.unit (2 * gen.W.Width.unit) c.flipped-to_first.result = flipped-is_entry gen.W.Width.unit gen.W.Width.positive (2 * gen.W.Width.unit) (2 * c.args.slots) c.whole_row-first.result c.flipped-to_first.result first c.flipped-to_first.ensures.flipped c.flipped-to_first.ensures.beyond in
    let direct : AreEntries gen.W.Width.unit (2 * gen.W.Width.unit) c.flipped-direct.result = flipped-is_entry gen.W.Width.unit gen.W.Width.positive (2 * gen.W.Width.unit) (2 * c.args.slots) c.whole_row-last.result c.flipped-direct.result last c.flipped-direct.ensures.flipped c.flipped-direct.ensures.beyond in
    let around : IsEntry gen.W.Width.unit (4 * gen.W.Width.unit) c.read-around.result = subst (IsEntry gen.W.Width.unit (4 * gen.W.Width.unit)) (sym c.read-around.ensures.value) (from_first c.other_sign-behind.result) in
    (row-fits gen.row.W gen.met.W.Width.light, (direct, (around, (λ k. entry-more gen.W.Width.unit gen.W.Width.positive (2 * gen.W.Width.unit) (4 * gen.W.Width.unit) (at gen.W.Width.unit c.flipped-to_first.result k) (omega arith) (to_first k)))))

pub over-over_first-requires : goal.over-over_first-requires
over-over_first-requires gen c =
    let last : AreEntries gen.W.Width.unit (2 * gen.W.Width.unit) c.whole_row-last.result = row-is_entry gen.W.Width.unit gen.W.Width.positive (2 * gen.W.Width.unit) (2 * c.args.slots) c.args.entries.now c.whole_row-last.result c.args.j c.requires.entries c.whole_row-last.ensures.entries c.whole_row-last.ensures.beyond in
    let first : AreEntries gen.W.Width.unit (2 * gen.W.Width.unit) c.whole_row-first.result = row-is_entry gen.W.Width.unit gen.W.Width.positive (2 * gen.W.Width.unit) (2 * c.args.slots) c.args.entries.now c.whole_row-first.result c.other_sign-ahead.result c.requires.entries c.whole_row-first.ensures.entries c.whole_row-first.ensures.beyond in
    let step : IsEntry gen.W.Width.unit (2 * gen.W.Width.unit) c.args.bound = inr (c.requires.low, c.requires.high) in
    let from_first : AreEntries gen.W.Width.unit (4 * gen.W.Width.unit) c.stepped-from_first.result = λ k. entry-more gen.W.Width.unit gen.W.Width.positive (2 * gen.W.Width.unit + 2 * gen.W.Width.unit) (4 * gen.W.Width.unit) (at gen.W.Width.unit c.stepped-from_first.result k) (omega arith) (c.stepped-from_first.ensures.entries (2 * gen.W.Width.unit) (2 * gen.W.Width.unit) (omega (arith, gen.W.Width.positive)) step last k) in
    let at_i : IsEntry gen.W.Width.unit (2 * gen.W.Width.unit) c.read-back.result = subst (IsEntry gen.W.Width.unit (2 * gen.W.Width.unit)) (sym c.read-back.ensures.value) (first c.args.i) in
    (row-fits gen.row.W gen.met.W.Width.light, (first, (entry-more gen.W.Width.unit gen.W.Width.positive (2 * gen.W.Width.unit) (4 * gen.W.Width.unit) c.read-back.result (omega arith) at_i, from_first)))

pub stepped-from_second-requires : goal.stepped-from_second-requires
stepped-from_second-requires gen c =
    let last : AreEntries gen.W.Width.unit (2 * gen.W.Width.unit) c.whole_row-last.result = row-is_entry gen.W.Width.unit gen.W.Width.positive (2 * gen.W.Width.unit) (2 * c.args.slots) c.args.entries.now c.whole_row-last.result c.args.j c.requires.entries c.whole_row-last.ensures.entries c.whole_row-last.ensures.beyond in
    let first : AreEntries gen.W.Width.unit (2 * gen.W.Width.unit) c.whole_row-first.result = row-is_entry gen.W.Width.unit gen.W.Width.positive (2 * gen.W.Width.unit) (2 * c.args.slots) c.args.entries.now c.whole_row-first.result c.other_sign-ahead.result c.requires.entries c.whole_row-first.ensures.entries c.whole_row-first.ensures.beyond in
    let step : IsEntry gen.W.Width.unit (2 * gen.W.Width.unit) c.args.bound = inr (c.requires.low, c.requires.high) in
    let from_first : AreEntries gen.W.Width.unit (4 * gen.W.Width.unit) c.stepped-from_first.result = λ k. entry-more gen.W.Width.unit gen.W.Width.positive (2 * gen.W.Width.unit + 2 * gen.W.Width.unit) (4 * gen.W.Width.unit) (at gen.W.Width.unit c.stepped-from_first.result k) (omega arith) (c.stepped-from_first.ensures.entries (2 * gen.W.Width.unit) (2 * gen.W.Width.unit) (omega (arith, gen.W.Width.positive)) step last k) in
    let at_i : IsEntry gen.W.Width.unit (2 * gen.W.Width.unit) c.read-back.result = subst (IsEntry gen.W.Width.unit (2 * gen.W.Width.unit)) (sym c.read-back.ensures.value) (first c.args.i) in
    let over_first : AreEntries gen.W.Width.unit (6 * gen.W.Width.unit) c.over-over_first.result = λ k. entry-more gen.W.Width.unit gen.W.Width.positive (2 * gen.W.Width.unit + 4 * gen.W.Width.unit) (6 * gen.W.Width.unit) (at gen.W.Width.unit c.over-over_first.result k) (omega arith) (c.over-over_first.ensures.entries (2 * gen.W.Width.unit) (4 * gen.W.Width.unit) (omega arith) (omega (arith, gen.W.Width.positive)) at_i from_first k) in
    (row-fits gen.row.W gen.met.W.Width.light, (entry-more gen.W.Width.unit gen.W.Width.positive (2 * gen.W.Width.unit) (8 * gen.W.Width.unit) c.args.bound (omega arith) step, (λ k. entry-more gen.W.Width.unit gen.W.Width.positive (6 * gen.W.Width.unit) (8 * gen.W.Width.unit) (at gen.W.Width.unit c.over-over_first.result k) (omega arith) (over_first k))))

pub returns-clause-ends : goal.returns-clause-ends
returns-clause-ends gen c =
    let a : c.read-around.result ≡ at gen.W.Width.unit c.stepped-from_first.result (flip c.args.j) = c.read-around.ensures.value ∙ ap (at gen.W.Width.unit c.stepped-from_first.result) c.other_sign-behind.ensures.flipped in
    let b : c.read-back.result ≡ pair_at gen.W.Width.unit c.args.entries.now (flip c.args.i) c.args.i =
    c.read-back.ensures.value ∙ c.whole_row-first.ensures.entries c.args.i c.requires.row ∙ ap (λ k. pair_at gen.W.Width.unit c.args.entries.now k c.args.i) c.other_sign-ahead.ensures.flipped in
    record {
      from_first = λ x hx. c.stepped-from_first.ensures.sums x (omega arith) ∙ ap (λ s. settle gen.W.Width.unit (c.args.bound +ℤ s)) (c.whole_row-last.ensures.entries x hx);
      to_first = λ x hx. c.flipped-to_first.ensures.flipped x hx ∙ c.whole_row-first.ensures.entries (flip x) (flip_below x c.args.slots hx) ∙ ap (λ k. pair_at gen.W.Width.unit c.args.entries.now k (flip x)) c.other_sign-ahead.ensures.flipped;
      to_second = λ x hx. c.over-to_second.ensures.over x (omega arith)
          ∙ ap (λ s. int_min (at gen.W.Width.unit c.flipped-direct.result x) (settle gen.W.Width.unit (s +ℤ at gen.W.Width.unit c.flipped-to_first.result x))) a
          ∙ ap (λ s. int_min s (settle gen.W.Width.unit (at gen.W.Width.unit c.stepped-from_first.result (flip c.args.j) +ℤ at gen.W.Width.unit c.flipped-to_first.result x))) (c.flipped-direct.ensures.flipped x hx ∙ c.whole_row-last.ensures.entries (flip x) (flip_below x c.args.slots hx));
      from_second = λ x hx. c.stepped-from_second.ensures.sums x (omega arith)
          ∙ ap (λ s. settle gen.W.Width.unit (c.args.bound +ℤ s)) (c.over-over_first.ensures.over x (omega arith)
          ∙ ap (λ s. int_min (at gen.W.Width.unit c.whole_row-first.result x) (settle gen.W.Width.unit (s +ℤ at gen.W.Width.unit c.stepped-from_first.result x))) b
          ∙ ap (λ s. int_min s (settle gen.W.Width.unit (pair_at gen.W.Width.unit c.args.entries.now (flip c.args.i) c.args.i +ℤ at gen.W.Width.unit c.stepped-from_first.result x))) (c.whole_row-first.ensures.entries x hx ∙ ap (λ k. pair_at gen.W.Width.unit c.args.entries.now k x) c.other_sign-ahead.ensures.flipped));
    }

pub returns-clause-entries : goal.returns-clause-entries
returns-clause-entries gen c =
    let last : AreEntries gen.W.Width.unit (2 * gen.W.Width.unit) c.whole_row-last.result = row-is_entry gen.W.Width.unit gen.W.Width.positive (2 * gen.W.Width.unit) (2 * c.args.slots) c.args.entries.now c.whole_row-last.result c.args.j c.requires.entries c.whole_row-last.ensures.entries c.whole_row-last.ensures.beyond in
    let first : AreEntries gen.W.Width.unit (2 * gen.W.Width.unit) c.whole_row-first.result = row-is_entry gen.W.Width.unit gen.W.Width.positive (2 * gen.W.Width.unit) (2 * c.args.slots) c.args.entries.now c.whole_row-first.result c.other_sign-ahead.result c.requires.entries c.whole_row-first.ensures.entries c.whole_row-first.ensures.beyond in
    let to_first : AreEntries gen.W.Width.unit (2 * gen.W.Width.unit) c.flipped-to_first.result = flipped-is_entry gen.W.Width.unit gen.W.Width.positive (2 * gen.W.Width.unit) (2 * c.args.slots) c.whole_row-first.result c.flipped-to_first.result first c.flipped-to_first.ensures.flipped c.flipped-to_first.ensures.beyond in
    let step : IsEntry gen.W.Width.unit (2 * gen.W.Width.unit) c.args.bound = inr (c.requires.low, c.requires.high) in
    let from_first : AreEntries gen.W.Width.unit (4 * gen.W.Width.unit) c.stepped-from_first.result = λ k. entry-more gen.W.Width.unit gen.W.Width.positive (2 * gen.W.Width.unit + 2 * gen.W.Width.unit) (4 * gen.W.Width.unit) (at gen.W.Width.unit c.stepped-from_first.result k) (omega arith) (c.stepped-from_first.ensures.entries (2 * gen.W.Width.unit) (2 * gen.W.Width.unit) (omega (arith, gen.W.Width.positive)) step last k) in
    let around : IsEntry gen.W.Width.unit (4 * gen.W.Width.unit) c.read-around.result = subst (IsEntry gen.W.Width.unit (4 * gen.W.Width.unit)) (sym c.read-around.ensures.value) (from_first c.other_sign-behind.result) in
    let at_i : IsEntry gen.W.Width.unit (2 * gen.W.Width.unit) c.read-back.result = subst (IsEntry gen.W.Width.unit (2 * gen.W.Width.unit)) (sym c.read-back.ensures.value) (first c.args.i) in
    let over_first : AreEntries gen.W.Width.unit (6 * gen.W.Width.unit) c.over-over_first.result = λ k. entry-more gen.W.Width.unit gen.W.Width.positive (2 * gen.W.Width.unit + 4 * gen.W.Width.unit) (6 * gen.W.Width.unit) (at gen.W.Width.unit c.over-over_first.result k) (omega arith) (c.over-over_first.ensures.entries (2 * gen.W.Width.unit) (4 * gen.W.Width.unit) (omega arith) (omega (arith, gen.W.Width.positive)) at_i from_first k) in
    record {
      to_first = (λ k. entry-more gen.W.Width.unit gen.W.Width.positive (2 * gen.W.Width.unit) (6 * gen.W.Width.unit) (at gen.W.Width.unit c.flipped-to_first.result k) (omega arith) (to_first k));
      from_first = (λ k. entry-more gen.W.Width.unit gen.W.Width.positive (4 * gen.W.Width.unit) (8 * gen.W.Width.unit) (at gen.W.Width.unit c.stepped-from_first.result k) (omega arith) (from_first k));
      to_second = λ k. entry-more gen.W.Width.unit gen.W.Width.positive (4 * gen.W.Width.unit + 2 * gen.W.Width.unit) (6 * gen.W.Width.unit) (at gen.W.Width.unit c.over-to_second.result k) (omega arith) (c.over-to_second.ensures.entries (4 * gen.W.Width.unit) (2 * gen.W.Width.unit) (omega arith) (omega (arith, gen.W.Width.positive)) around to_first k);
      from_second = λ k. entry-more gen.W.Width.unit gen.W.Width.positive (2 * gen.W.Width.unit + 6 * gen.W.Width.unit) (8 * gen.W.Width.unit) (at gen.W.Width.unit c.stepped-from_second.result k) (omega arith) (c.stepped-from_second.ensures.entries (2 * gen.W.Width.unit) (6 * gen.W.Width.unit) (omega (arith, gen.W.Width.positive)) step over_first k);
    }
