use Rattle.std.specs.Prelude.{◌≡◌, ◌<◌, ◌+◌, ◌*◌, List, Bool, ℤ, ℕ, length}
use Rattle.std.proofs.Common.{arith, sym, ◌∙◌, ap, subst}
use Rattle.std.specs.Vec.{with_items}
use Rattle.std.proofs.lemmas.List.{with_items_is}
use Rattle.dbm_core.specs.Half.{HalfMatrix, HasEntries, entry, row_start, row_width}
use Rattle.dbm_core.specs.Operations.{forgotten}
use Rattle.dbm_narrow.proofs.ForgetLemmas.{forgotten-held, forgotten-matrix}
use Rattle.dbm_narrow.proofs.RoundLemmas.{narrow-size}
use Rattle.dbm_narrow.specs.Entries.{AreEntries, at, dropped, held}
use Rattle.dbm_narrow.specs.Rounds.{IsNarrow}
use Rattle.dbm_narrow.proofs.dropping.forget.Goals as goal

pub drop_rows-requires-clause-few : goal.drop_rows-requires-clause-few
drop_rows-requires-clause-few gen c = omega (arith, c.narrow.invariant.matrix.few, ap length c.list.ensures.value)

pub drop_rows-requires-clause-size : goal.drop_rows-requires-clause-size
drop_rows-requires-clause-size gen c =
    let x : c.as_mut_slice.result.now ≡ c.narrow.inside.entries.items = c.as_mut_slice.ensures.value ∙ c.in_ok-entries.ensures.items ∙ c.as_slice.ensures.value in
    let k : c.in_ok-kinds.kinds ≡ c.narrow.inside.kinds = c.in_ok-kinds.ensures.items in
    let n : length c.list.result.now ≡ length c.narrow.inside.kinds = ap length c.list.ensures.value in
    ap length x ∙ narrow-size gen.W.Width.unit gen.W.Width.positive c.narrow.inside.kinds c.narrow.inside.entries.items c.narrow.invariant ∙ ap (λ n. row_start (2 * n)) (sym n)

pub drop_rows-requires-clause-entries : goal.drop_rows-requires-clause-entries
drop_rows-requires-clause-entries gen c =
    let x : c.as_mut_slice.result.now ≡ c.narrow.inside.entries.items = c.as_mut_slice.ensures.value ∙ c.in_ok-entries.ensures.items ∙ c.as_slice.ensures.value in
    let k : c.in_ok-kinds.kinds ≡ c.narrow.inside.kinds = c.in_ok-kinds.ensures.items in
    let n : length c.list.result.now ≡ length c.narrow.inside.kinds = ap length c.list.ensures.value in
    subst (AreEntries gen.W.Width.unit (2 * gen.W.Width.unit)) (sym x) c.narrow.invariant.entries

pub invariant_of-result : goal.invariant_of-result
invariant_of-result gen c =
    let x : c.as_mut_slice.result.now ≡ c.narrow.inside.entries.items = c.as_mut_slice.ensures.value ∙ c.in_ok-entries.ensures.items ∙ c.as_slice.ensures.value in
    let k : c.in_ok-kinds.kinds ≡ c.narrow.inside.kinds = c.in_ok-kinds.ensures.items in
    let n : length c.list.result.now ≡ length c.narrow.inside.kinds = ap length c.list.ensures.value in
    let w : (with_items c.in_ok-entries.entries c.drop_rows.new.entries).items ≡ c.drop_rows.new.entries = with_items_is c.in_ok-entries.entries c.drop_rows.new.entries (c.drop_rows.auto.entries ∙ c.as_mut_slice.ensures.len) in
    let kept : (i j : ℕ) → i < 2 * length c.narrow.inside.kinds → j < row_width i → at gen.W.Width.unit c.drop_rows.new.entries (row_start i + j) ≡ dropped gen.W.Width.unit c.args.slot i j (at gen.W.Width.unit c.narrow.inside.entries.items (row_start i + j)) =
    λ i j hi wj. c.drop_rows.ensures.kept i j (omega arith) wj ∙ ap (λ v. dropped gen.W.Width.unit c.args.slot i j (at gen.W.Width.unit v (row_start i + j))) x in
    subst (λ (k : List Bool). IsNarrow gen.W.Width.unit k (with_items c.in_ok-entries.entries c.drop_rows.new.entries).items) (sym k)
    (subst (λ (x : List ℤ). IsNarrow gen.W.Width.unit c.narrow.inside.kinds x) (sym w) (record { matrix = forgotten-matrix gen.W.Width.unit gen.W.Width.positive c.narrow.inside.kinds c.args.slot c.narrow.inside.entries.items c.drop_rows.new.entries c.narrow.invariant.matrix (c.drop_rows.auto.entries ∙ ap length x) kept; entries = c.drop_rows.ensures.entries }))

pub returns : goal.returns
returns gen c =
    let x : c.as_mut_slice.result.now ≡ c.narrow.inside.entries.items = c.as_mut_slice.ensures.value ∙ c.in_ok-entries.ensures.items ∙ c.as_slice.ensures.value in
    let k : c.in_ok-kinds.kinds ≡ c.narrow.inside.kinds = c.in_ok-kinds.ensures.items in
    let n : length c.list.result.now ≡ length c.narrow.inside.kinds = ap length c.list.ensures.value in
    let w : (with_items c.in_ok-entries.entries c.drop_rows.new.entries).items ≡ c.drop_rows.new.entries = with_items_is c.in_ok-entries.entries c.drop_rows.new.entries (c.drop_rows.auto.entries ∙ c.as_mut_slice.ensures.len) in
    let kept : (i j : ℕ) → i < 2 * length c.narrow.inside.kinds → j < row_width i → at gen.W.Width.unit c.drop_rows.new.entries (row_start i + j) ≡ dropped gen.W.Width.unit c.args.slot i j (at gen.W.Width.unit c.narrow.inside.entries.items (row_start i + j)) =
    λ i j hi wj. c.drop_rows.ensures.kept i j (omega arith) wj ∙ ap (λ v. dropped gen.W.Width.unit c.args.slot i j (at gen.W.Width.unit v (row_start i + j))) x in
    record {
      entries = subst (λ (a : HalfMatrix). HasEntries a.kinds (forgotten (entry a) c.args.slot) (held gen.W.Width.unit c.in_ok-kinds.kinds (with_items c.in_ok-entries.entries c.drop_rows.new.entries).items)) c.narrow.view_is
          (subst (λ (k : List Bool). HasEntries c.narrow.inside.kinds (forgotten (entry (held gen.W.Width.unit c.narrow.inside.kinds c.narrow.inside.entries.items)) c.args.slot) (held gen.W.Width.unit k (with_items c.in_ok-entries.entries c.drop_rows.new.entries).items)) (sym k)
          (subst (λ (x : List ℤ). HasEntries c.narrow.inside.kinds (forgotten (entry (held gen.W.Width.unit c.narrow.inside.kinds c.narrow.inside.entries.items)) c.args.slot) (held gen.W.Width.unit c.narrow.inside.kinds x)) (sym w) (forgotten-held gen.W.Width.unit gen.W.Width.positive c.narrow.inside.kinds c.args.slot c.narrow.inside.entries.items c.drop_rows.new.entries c.narrow.invariant.matrix (c.drop_rows.auto.entries ∙ ap length x) kept)));
    }
