use Rattle.std.specs.Prelude.{◌≡◌, ◌+◌, ◌*◌, List, Bool, ℤ, true}
use Rattle.std.proofs.Common.{arith, sym, ◌∙◌, ap, subst, length}
use Rattle.std.specs.Vec.{with_items}
use Rattle.std.proofs.lemmas.List.{with_items_is}
use Rattle.dbm_core.specs.Half.{HalfMatrix, HasEntries, row_start}
use Rattle.dbm_core.specs.Nodes.{is_single}
use Rattle.dbm_core.specs.Operations.{widened}
use Rattle.dbm_narrow.proofs.RoundLemmas.{narrow-size}
use Rattle.dbm_narrow.proofs.WideningLemmas.{widened-held, widened-narrow}
use Rattle.dbm_narrow.specs.Entries.{AreEntries, at, held}
use Rattle.dbm_narrow.specs.Rounds.{IsNarrow}
use Rattle.dbm_narrow.specs.Widenings.{IsWidened, Widens}
use Rattle.dbm_narrow.proofs.widening.widen.Goals as goal

pub raise_rows-requires-clause-few : goal.raise_rows-requires-clause-few
raise_rows-requires-clause-few gen c = omega (arith, c.left.invariant.matrix.few, ap length c.list.ensures.value)

pub raise_rows-requires-clause-size : goal.raise_rows-requires-clause-size
raise_rows-requires-clause-size gen c =
    let x : c.as_mut_slice.result.now ≡ c.left.inside.entries.items = c.as_mut_slice.ensures.value ∙ c.in_ok-entries.ensures.items ∙ c.as_slice.ensures.value in
    let n : length c.list.result.now ≡ length c.left.inside.kinds = ap length c.list.ensures.value in
    ap length x ∙ narrow-size gen.W.Width.unit gen.W.Width.positive c.left.inside.kinds c.left.inside.entries.items c.left.invariant ∙ ap (λ n. row_start (2 * n)) (sym n)

pub raise_rows-requires-clause-as_many : goal.raise_rows-requires-clause-as_many
raise_rows-requires-clause-as_many gen c =
    let x : c.as_mut_slice.result.now ≡ c.left.inside.entries.items = c.as_mut_slice.ensures.value ∙ c.in_ok-entries.ensures.items ∙ c.as_slice.ensures.value in
    let o : c.as_slice-2.result.now ≡ c.right.inside.entries.items = c.as_slice-2.ensures.value in
    let k : c.in_ok-kinds.kinds ≡ c.left.inside.kinds = c.in_ok-kinds.ensures.items in
    let kk : c.right.inside.kinds ≡ c.left.inside.kinds = ap (λ (m : HalfMatrix). m.kinds) c.right.view_is ∙ c.requires.same_kinds ∙ sym (ap (λ (m : HalfMatrix). m.kinds) c.left.view_is) in
    ap length o ∙ narrow-size gen.W.Width.unit gen.W.Width.positive c.right.inside.kinds c.right.inside.entries.items c.right.invariant ∙ ap (λ (k : List Bool). row_start (2 * length k)) kk
    ∙ sym (narrow-size gen.W.Width.unit gen.W.Width.positive c.left.inside.kinds c.left.inside.entries.items c.left.invariant) ∙ sym (ap length x)

pub raise_rows-requires-clause-entries : goal.raise_rows-requires-clause-entries
raise_rows-requires-clause-entries gen c =
    let x : c.as_mut_slice.result.now ≡ c.left.inside.entries.items = c.as_mut_slice.ensures.value ∙ c.in_ok-entries.ensures.items ∙ c.as_slice.ensures.value in
    subst (AreEntries gen.W.Width.unit (2 * gen.W.Width.unit)) (sym x) c.left.invariant.entries

pub raise_rows-requires-clause-others : goal.raise_rows-requires-clause-others
raise_rows-requires-clause-others gen c = subst (AreEntries gen.W.Width.unit (2 * gen.W.Width.unit)) (sym c.as_slice-2.ensures.value) c.right.invariant.entries

pub returns-then-raise_rows : goal.returns-then-raise_rows
returns-then-raise_rows gen c =
    let x : c.as_mut_slice.result.now ≡ c.left.inside.entries.items = c.as_mut_slice.ensures.value ∙ c.in_ok-entries.ensures.items ∙ c.as_slice.ensures.value in
    let o : c.as_slice-2.result.now ≡ c.right.inside.entries.items = c.as_slice-2.ensures.value in
    let k : c.in_ok-kinds.kinds ≡ c.left.inside.kinds = c.in_ok-kinds.ensures.items in
    let kk : c.right.inside.kinds ≡ c.left.inside.kinds = ap (λ (m : HalfMatrix). m.kinds) c.right.view_is ∙ c.requires.same_kinds ∙ sym (ap (λ (m : HalfMatrix). m.kinds) c.left.view_is) in
    let w : (with_items c.in_ok-entries.entries c.raise_rows.new.entries).items ≡ c.raise_rows.new.entries = with_items_is c.in_ok-entries.entries c.raise_rows.new.entries (c.raise_rows.auto.entries ∙ c.as_mut_slice.ensures.len) in
    let n : length c.list.result.now ≡ length c.left.inside.kinds = ap length c.list.ensures.value in
    let true_is : c.raise_rows.result ≡ true = cc in
    let kept : Widens gen.W.Width.unit c.args.thresholds.now (2 * length c.left.inside.kinds) c.left.inside.entries.items c.right.inside.entries.items c.raise_rows.new.entries =
    λ i j hi wj. subst (λ (v : List ℤ). IsWidened gen.W.Width.unit c.args.thresholds.now (is_single i j) (at gen.W.Width.unit v (row_start i + j)) (at gen.W.Width.unit c.right.inside.entries.items (row_start i + j)) (at gen.W.Width.unit c.raise_rows.new.entries (row_start i + j))) x
    (subst (λ (v : List ℤ). IsWidened gen.W.Width.unit c.args.thresholds.now (is_single i j) (at gen.W.Width.unit c.as_mut_slice.result.now (row_start i + j)) (at gen.W.Width.unit v (row_start i + j)) (at gen.W.Width.unit c.raise_rows.new.entries (row_start i + j))) o (subst (λ (ms : List ℤ). IsWidened gen.W.Width.unit ms (is_single i j) (at gen.W.Width.unit c.as_mut_slice.result.now (row_start i + j)) (at gen.W.Width.unit c.as_slice-2.result.now (row_start i + j)) (at gen.W.Width.unit c.raise_rows.new.entries (row_start i + j))) c.new.ensures.are (c.raise_rows.ensures.kept true_is i j (omega arith) wj))) in
    record {
      total = tt;
      widens = subst (λ (a : HalfMatrix). HasEntries a.kinds (widened c.args.thresholds.now a c.args.right.now) (held gen.W.Width.unit c.in_ok-kinds.kinds (with_items c.in_ok-entries.entries c.raise_rows.new.entries).items)) c.left.view_is
          (subst (λ (b : HalfMatrix). HasEntries c.left.inside.kinds (widened c.args.thresholds.now (held gen.W.Width.unit c.left.inside.kinds c.left.inside.entries.items) b) (held gen.W.Width.unit c.in_ok-kinds.kinds (with_items c.in_ok-entries.entries c.raise_rows.new.entries).items)) c.right.view_is
          (subst (λ (k : List Bool). HasEntries c.left.inside.kinds (widened c.args.thresholds.now (held gen.W.Width.unit c.left.inside.kinds c.left.inside.entries.items) (held gen.W.Width.unit c.right.inside.kinds c.right.inside.entries.items)) (held gen.W.Width.unit k (with_items c.in_ok-entries.entries c.raise_rows.new.entries).items)) (sym k)
          (subst (λ (x : List ℤ). HasEntries c.left.inside.kinds (widened c.args.thresholds.now (held gen.W.Width.unit c.left.inside.kinds c.left.inside.entries.items) (held gen.W.Width.unit c.right.inside.kinds c.right.inside.entries.items)) (held gen.W.Width.unit c.left.inside.kinds x)) (sym w)
          (widened-held gen.W.Width.unit gen.W.Width.positive c.args.thresholds.now c.left.inside.kinds c.right.inside.kinds c.left.inside.entries.items c.right.inside.entries.items c.raise_rows.new.entries c.left.invariant c.right.invariant kk (c.raise_rows.auto.entries ∙ ap length x) kept (c.raise_rows.ensures.entries true_is)))));
    }

pub invariant_of-result : goal.invariant_of-result
invariant_of-result gen c =
    let x : c.as_mut_slice.result.now ≡ c.left.inside.entries.items = c.as_mut_slice.ensures.value ∙ c.in_ok-entries.ensures.items ∙ c.as_slice.ensures.value in
    let o : c.as_slice-2.result.now ≡ c.right.inside.entries.items = c.as_slice-2.ensures.value in
    let k : c.in_ok-kinds.kinds ≡ c.left.inside.kinds = c.in_ok-kinds.ensures.items in
    let kk : c.right.inside.kinds ≡ c.left.inside.kinds = ap (λ (m : HalfMatrix). m.kinds) c.right.view_is ∙ c.requires.same_kinds ∙ sym (ap (λ (m : HalfMatrix). m.kinds) c.left.view_is) in
    let w : (with_items c.in_ok-entries.entries c.raise_rows.new.entries).items ≡ c.raise_rows.new.entries = with_items_is c.in_ok-entries.entries c.raise_rows.new.entries (c.raise_rows.auto.entries ∙ c.as_mut_slice.ensures.len) in
    let n : length c.list.result.now ≡ length c.left.inside.kinds = ap length c.list.ensures.value in
    let true_is : c.raise_rows.result ≡ true = cc in
    let kept : Widens gen.W.Width.unit c.args.thresholds.now (2 * length c.left.inside.kinds) c.left.inside.entries.items c.right.inside.entries.items c.raise_rows.new.entries =
    λ i j hi wj. subst (λ (v : List ℤ). IsWidened gen.W.Width.unit c.args.thresholds.now (is_single i j) (at gen.W.Width.unit v (row_start i + j)) (at gen.W.Width.unit c.right.inside.entries.items (row_start i + j)) (at gen.W.Width.unit c.raise_rows.new.entries (row_start i + j))) x
    (subst (λ (v : List ℤ). IsWidened gen.W.Width.unit c.args.thresholds.now (is_single i j) (at gen.W.Width.unit c.as_mut_slice.result.now (row_start i + j)) (at gen.W.Width.unit v (row_start i + j)) (at gen.W.Width.unit c.raise_rows.new.entries (row_start i + j))) o (subst (λ (ms : List ℤ). IsWidened gen.W.Width.unit ms (is_single i j) (at gen.W.Width.unit c.as_mut_slice.result.now (row_start i + j)) (at gen.W.Width.unit c.as_slice-2.result.now (row_start i + j)) (at gen.W.Width.unit c.raise_rows.new.entries (row_start i + j))) c.new.ensures.are (c.raise_rows.ensures.kept true_is i j (omega arith) wj))) in
    subst (λ (k : List Bool). IsNarrow gen.W.Width.unit k (with_items c.in_ok-entries.entries c.raise_rows.new.entries).items) (sym k)
    (subst (λ (x : List ℤ). IsNarrow gen.W.Width.unit c.left.inside.kinds x) (sym w) (widened-narrow gen.W.Width.unit gen.W.Width.positive c.args.thresholds.now c.left.inside.kinds c.right.inside.kinds c.left.inside.entries.items c.right.inside.entries.items c.raise_rows.new.entries c.left.invariant c.right.invariant kk (c.raise_rows.auto.entries ∙ ap length x) kept (c.raise_rows.ensures.entries true_is)))
