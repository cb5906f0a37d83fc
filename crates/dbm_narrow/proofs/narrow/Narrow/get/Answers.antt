use Rattle.std.specs.Prelude.{◌≡◌, ◌*◌, length}
use Rattle.std.proofs.Common.{arith, sym, ◌∙◌, ap, subst}
use Rattle.dbm_core.specs.Half.{HalfMatrix, entry, row_start}
use Rattle.dbm_narrow.proofs.EntryLemmas.{held-entry}
use Rattle.dbm_narrow.proofs.RoundLemmas.{narrow-size}
use Rattle.dbm_narrow.specs.Entries.{AreEntries, pair_at, wide}
use Rattle.dbm_narrow.proofs.narrow.Narrow.get.Goals as goal

pub entry_at-requires-clause-few : goal.entry_at-requires-clause-few
entry_at-requires-clause-few gen c = omega (arith, c.self.invariant.matrix.few, ap length c.list.ensures.value)

pub entry_at-requires-clause-row : goal.entry_at-requires-clause-row
entry_at-requires-clause-row gen c = omega (arith, ap (λ (m : HalfMatrix). length m.kinds) c.self.view_is, ap length c.list.ensures.value)

pub entry_at-requires-clause-column : goal.entry_at-requires-clause-column
entry_at-requires-clause-column gen c = omega (arith, ap (λ (m : HalfMatrix). length m.kinds) c.self.view_is, ap length c.list.ensures.value)

pub entry_at-requires-clause-size : goal.entry_at-requires-clause-size
entry_at-requires-clause-size gen c =
    let n : length c.self.inside.kinds ≡ length c.list.result.now = sym (ap length c.list.ensures.value) in
    ap length c.as_slice.ensures.value ∙ narrow-size gen.W.Width.unit gen.W.Width.positive c.self.inside.kinds c.self.inside.entries.items c.self.invariant ∙ ap (λ n. row_start (2 * n)) n

pub entry_at-requires-clause-entries : goal.entry_at-requires-clause-entries
entry_at-requires-clause-entries gen c = subst (AreEntries gen.W.Width.unit (2 * gen.W.Width.unit)) (sym c.as_slice.ensures.value) c.self.invariant.entries

pub returns : goal.returns
returns gen c =
    record {
      bound = c.wide_bound.ensures.bound
          ∙ ap (wide gen.W.Width.unit) (c.entry_at.ensures.entry ∙ ap (λ xs. pair_at gen.W.Width.unit xs c.args.i c.args.j) c.as_slice.ensures.value)
          ∙ sym (held-entry gen.W.Width.unit gen.W.Width.positive c.self.inside.kinds c.self.inside.entries.items c.args.i c.args.j)
          ∙ ap (λ (m : HalfMatrix). entry m c.args.i c.args.j) c.self.view_is;
    }
