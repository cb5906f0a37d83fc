-- The greater entry at each place stands for the greater bound.
use Rattle.std.specs.Prelude.{◌<◌, ◌≡◌, ℕ, ℤ, None, Bool, List, length, map, refl}
use Rattle.std.specs.Int.{int_max}
use Rattle.std.proofs.Common.{ap, sym, ◌∙◌, get_or}
use Rattle.std.proofs.lemmas.List.{length-map}
use Rattle.dbm_core.proofs.HalfLemmas.{HasEntries-from_kept}
use Rattle.dbm_core.proofs.OperationLemmas.{joined-coherent}
use Rattle.dbm_core.proofs.SlotLemmas.{joined-entries, joined-matrix}
use Rattle.dbm_core.specs.Half.{HalfMatrix, HasEntries, IsMatrix, entry}
use Rattle.dbm_core.specs.Operations.{joined}
use Rattle.dbm_core.specs.Weights.{greatest}
use Rattle.dbm_narrow.proofs.EntryLemmas.{wide-at, wide-max}
use Rattle.dbm_narrow.specs.Entries.{at, held, wide}
use Rattle.dbm_narrow.specs.Rounds.{IsNarrow}

module _ (unit : ℕ) (room : 0 < unit) where
  pub record IsJoin (a b m : HalfMatrix) : Type 0 where
    pub matrix : IsMatrix m
    pub entries : HasEntries a.kinds (joined a b) m

  pub joined-held : (k l : List Bool) (xs ys zs : List ℤ) → IsNarrow unit k xs → IsNarrow unit l ys → l ≡ k → length zs ≡ length xs → ((p : ℕ) → at unit zs p ≡ int_max (at unit xs p) (at unit ys p)) → IsJoin (held unit k xs) (held unit l ys) (held unit k zs)
  joined-held k l xs ys zs p q e s g = record { matrix = matrix; entries = HasEntries-from_kept k (joined (held unit k xs) (held unit l ys)) (held unit k zs) matrix refl (joined-coherent (held unit k xs) (held unit l ys) p.matrix q.matrix (ap length e)) (λ i j hi w. all i j) }
    where
      greater : (n : ℕ) → get_or (map (wide unit) zs) n None ≡ greatest (get_or (map (wide unit) xs) n None) (get_or (map (wide unit) ys) n None)
      greater n = wide-at unit room zs n ∙ ap (wide unit) (g n) ∙ wide-max unit room (at unit xs n) (at unit ys n)
          ∙ ap (λ a. greatest a (wide unit (at unit ys n))) (sym (wide-at unit room xs n)) ∙ ap (greatest (get_or (map (wide unit) xs) n None)) (sym (wide-at unit room ys n))

      all : (i j : ℕ) → entry (held unit k zs) i j ≡ joined (held unit k xs) (held unit l ys) i j
      all = joined-entries (held unit k xs) (held unit l ys) (held unit k zs) greater

      matrix : IsMatrix (held unit k zs)
      matrix = joined-matrix (held unit k xs) (held unit l ys) (held unit k zs) p.matrix q.matrix refl (length-map zs (wide unit) ∙ s ∙ sym (length-map xs (wide unit))) e all
