use Rattle.std.specs.Prelude.{◌≡◌, ◌<◌, ◌≤ℤ◌, List, Bool, ℤ, FitsSigned, length}
use Rattle.std.proofs.Common.{rules, to_z, of_z, sym, ◌∙◌, ap, subst}
use Rattle.std.proofs.lemmas.Int.{to_z-of_z}
use mir.Syntax.{w128}
use Rattle.dbm_close.proofs.LawLemmas.{range-sound}
use Rattle.dbm_close.specs.Close.{slot_high, slot_low}
use Rattle.dbm_core.specs.Half.{HalfMatrix, entry}
use Rattle.dbm_narrow.specs.Entries.{held}
use Rattle.dbm_narrow.specs.Rounds.{IsNarrow}
use Rattle.dbm_narrow.proofs.ranges.slot_range.Goals as goal

pub low_of-requires-clause-narrow : goal.low_of-requires-clause-narrow
low_of-requires-clause-narrow gen c =
    let k : c.list-kinds.result.now ≡ c.narrow.inside.kinds = c.list-kinds.ensures.value in
    let x : c.as_slice-entries.result.now ≡ c.narrow.inside.entries.items = c.as_slice-entries.ensures.value in
    let e : held gen.W.Width.unit c.list-kinds.result.now c.as_slice-entries.result.now ≡ c.args.narrow.now = ap (λ k. held gen.W.Width.unit k c.as_slice-entries.result.now) k ∙ ap (held gen.W.Width.unit c.narrow.inside.kinds) x ∙ c.narrow.view_is in
    subst (λ (k : List Bool). IsNarrow gen.W.Width.unit k c.as_slice-entries.result.now) (sym k) (subst (λ (x : List ℤ). IsNarrow gen.W.Width.unit c.narrow.inside.kinds x) (sym x) c.narrow.invariant)

pub low_of-requires-clause-slot : goal.low_of-requires-clause-slot
low_of-requires-clause-slot gen c =
    let k : c.list-kinds.result.now ≡ c.narrow.inside.kinds = c.list-kinds.ensures.value in
    let x : c.as_slice-entries.result.now ≡ c.narrow.inside.entries.items = c.as_slice-entries.ensures.value in
    let e : held gen.W.Width.unit c.list-kinds.result.now c.as_slice-entries.result.now ≡ c.args.narrow.now = ap (λ k. held gen.W.Width.unit k c.as_slice-entries.result.now) k ∙ ap (held gen.W.Width.unit c.narrow.inside.kinds) x ∙ c.narrow.view_is in
    subst (λ (m : HalfMatrix). c.args.slot < length m.kinds) (sym e) c.requires.slot

pub high_of-requires-clause-narrow : goal.high_of-requires-clause-narrow
high_of-requires-clause-narrow gen c =
    let k : c.list-kinds.result.now ≡ c.narrow.inside.kinds = c.list-kinds.ensures.value in
    let x : c.as_slice-entries.result.now ≡ c.narrow.inside.entries.items = c.as_slice-entries.ensures.value in
    let e : held gen.W.Width.unit c.list-kinds.result.now c.as_slice-entries.result.now ≡ c.args.narrow.now = ap (λ k. held gen.W.Width.unit k c.as_slice-entries.result.now) k ∙ ap (held gen.W.Width.unit c.narrow.inside.kinds) x ∙ c.narrow.view_is in
    subst (λ (k : List Bool). IsNarrow gen.W.Width.unit k c.as_slice-entries.result.now) (sym k) (subst (λ (x : List ℤ). IsNarrow gen.W.Width.unit c.narrow.inside.kinds x) (sym x) c.narrow.invariant)

pub high_of-requires-clause-slot : goal.high_of-requires-clause-slot
high_of-requires-clause-slot gen c =
    let k : c.list-kinds.result.now ≡ c.narrow.inside.kinds = c.list-kinds.ensures.value in
    let x : c.as_slice-entries.result.now ≡ c.narrow.inside.entries.items = c.as_slice-entries.ensures.value in
    let e : held gen.W.Width.unit c.list-kinds.result.now c.as_slice-entries.result.now ≡ c.args.narrow.now = ap (λ k. held gen.W.Width.unit k c.as_slice-entries.result.now) k ∙ ap (held gen.W.Width.unit c.narrow.inside.kinds) x ∙ c.narrow.view_is in
    subst (λ (m : HalfMatrix). c.args.slot < length m.kinds) (sym e) c.requires.slot

pub returns-clause-low : goal.returns-clause-low
returns-clause-low gen c =
    let k : c.list-kinds.result.now ≡ c.narrow.inside.kinds = c.list-kinds.ensures.value in
    let x : c.as_slice-entries.result.now ≡ c.narrow.inside.entries.items = c.as_slice-entries.ensures.value in
    let e : held gen.W.Width.unit c.list-kinds.result.now c.as_slice-entries.result.now ≡ c.args.narrow.now = ap (λ k. held gen.W.Width.unit k c.as_slice-entries.result.now) k ∙ ap (held gen.W.Width.unit c.narrow.inside.kinds) x ∙ c.narrow.view_is in
    let f : FitsSigned w128 c.low_of.result = search rules in
    let low : to_z w128 (of_z w128 c.low_of.result) ≡ slot_low c.args.narrow.now.kinds (entry c.args.narrow.now) c.args.slot = to_z-of_z w128 c.low_of.result f ∙ c.low_of.ensures.low ∙ ap (λ (m : HalfMatrix). slot_low m.kinds (entry m) c.args.slot) e in
    low

pub returns-clause-high : goal.returns-clause-high
returns-clause-high gen c =
    let k : c.list-kinds.result.now ≡ c.narrow.inside.kinds = c.list-kinds.ensures.value in
    let x : c.as_slice-entries.result.now ≡ c.narrow.inside.entries.items = c.as_slice-entries.ensures.value in
    let e : held gen.W.Width.unit c.list-kinds.result.now c.as_slice-entries.result.now ≡ c.args.narrow.now = ap (λ k. held gen.W.Width.unit k c.as_slice-entries.result.now) k ∙ ap (held gen.W.Width.unit c.narrow.inside.kinds) x ∙ c.narrow.view_is in
    let g : FitsSigned w128 c.high_of.result = search rules in
    let high : to_z w128 (of_z w128 c.high_of.result) ≡ slot_high c.args.narrow.now.kinds (entry c.args.narrow.now) c.args.slot = to_z-of_z w128 c.high_of.result g ∙ c.high_of.ensures.high ∙ ap (λ (m : HalfMatrix). slot_high m.kinds (entry m) c.args.slot) e in
    high

pub returns-clause-covers : goal.returns-clause-covers
returns-clause-covers gen c = λ v h q.
    let k : c.list-kinds.result.now ≡ c.narrow.inside.kinds = c.list-kinds.ensures.value in
    let x : c.as_slice-entries.result.now ≡ c.narrow.inside.entries.items = c.as_slice-entries.ensures.value in
    let e : held gen.W.Width.unit c.list-kinds.result.now c.as_slice-entries.result.now ≡ c.args.narrow.now = ap (λ k. held gen.W.Width.unit k c.as_slice-entries.result.now) k ∙ ap (held gen.W.Width.unit c.narrow.inside.kinds) x ∙ c.narrow.view_is in
    let f : FitsSigned w128 c.low_of.result = search rules in
    let low : to_z w128 (of_z w128 c.low_of.result) ≡ slot_low c.args.narrow.now.kinds (entry c.args.narrow.now) c.args.slot = to_z-of_z w128 c.low_of.result f ∙ c.low_of.ensures.low ∙ ap (λ (m : HalfMatrix). slot_low m.kinds (entry m) c.args.slot) e in
    let g : FitsSigned w128 c.high_of.result = search rules in
    let high : to_z w128 (of_z w128 c.high_of.result) ≡ slot_high c.args.narrow.now.kinds (entry c.args.narrow.now) c.args.slot = to_z-of_z w128 c.high_of.result g ∙ c.high_of.ensures.high ∙ ap (λ (m : HalfMatrix). slot_high m.kinds (entry m) c.args.slot) e in
    let r : (slot_low c.args.narrow.now.kinds (entry c.args.narrow.now) c.args.slot ≤ℤ v c.args.slot) × (v c.args.slot ≤ℤ slot_high c.args.narrow.now.kinds (entry c.args.narrow.now) c.args.slot) =
    range-sound (entry c.args.narrow.now) c.args.narrow.now.kinds v h q c.args.slot c.requires.slot in
    (subst (λ x. x ≤ℤ v c.args.slot) (sym low) r.0, subst (λ x. v c.args.slot ≤ℤ x) (sym high) r.1)
