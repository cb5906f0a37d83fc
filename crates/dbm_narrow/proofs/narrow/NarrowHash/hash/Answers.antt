use Rattle.std.specs.Prelude.{◌*◌}
use Rattle.std.proofs.Common.{◌∙◌, ap, sym, subst}
use Rattle.std.specs.List.{fold}
use Rattle.dbm_narrow.proofs.SameLemmas.{fed-held}
use Rattle.dbm_narrow.specs.Entries.{AreEntries}
use Rattle.dbm_narrow.specs.Feeding.{entries_fed, matrix_fed}
use Rattle.dbm_narrow.proofs.narrow.NarrowHash.hash.Goals as goal

pub feed_entries-requires : goal.feed_entries-requires
feed_entries-requires gen c = record { entries = subst (AreEntries gen.W.Width.unit (2 * gen.W.Width.unit)) (sym c.as_slice.ensures.value) c.self.invariant.entries }

pub returns : goal.returns
returns gen c = c.feed_entries.ensures.fed
    ∙ ap (fold gen.H.Hasher.write c.args.state.now) (ap (entries_fed gen.W.Width.unit) c.as_slice.ensures.value ∙ fed-held gen.W.Width.unit gen.W.Width.positive c.self.inside.entries.items ∙ ap matrix_fed c.self.view_is)
