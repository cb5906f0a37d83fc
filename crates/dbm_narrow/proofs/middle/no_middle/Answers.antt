use Rattle.std.specs.Prelude.{◌≡◌, ℤ, replicate}
use Rattle.std.proofs.Common.{inl, subst, sym}
use Rattle.dbm_narrow.proofs.EntryLemmas.{none-anywhere}
use Rattle.dbm_narrow.specs.Entries.{at, none}
use Rattle.dbm_narrow.proofs.middle.no_middle.Goals as goal

pub returns : goal.returns
returns gen c = record {
  entries = record {
    to_first = λ k. inl (subst (λ z. at gen.W.Width.unit (replicate {A = ℤ} 32 z) k ≡ none gen.W.Width.unit) (sym c.none.ensures.value) (none-anywhere gen.W.Width.unit gen.W.Width.positive 32 k));
    from_first = λ k. inl (subst (λ z. at gen.W.Width.unit (replicate {A = ℤ} 32 z) k ≡ none gen.W.Width.unit) (sym c.none-2.ensures.value) (none-anywhere gen.W.Width.unit gen.W.Width.positive 32 k));
    to_second = λ k. inl (subst (λ z. at gen.W.Width.unit (replicate {A = ℤ} 32 z) k ≡ none gen.W.Width.unit) (sym c.none-3.ensures.value) (none-anywhere gen.W.Width.unit gen.W.Width.positive 32 k));
    from_second = λ k. inl (subst (λ z. at gen.W.Width.unit (replicate {A = ℤ} 32 z) k ≡ none gen.W.Width.unit) (sym c.none-4.ensures.value) (none-anywhere gen.W.Width.unit gen.W.Width.positive 32 k));
  };
}
