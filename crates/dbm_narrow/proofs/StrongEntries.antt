-- Strong entries: steps 2 to 4 leave them as they are.
use Rattle.std.specs.Prelude.{◌≡◌, ℕ, ◌<◌, ◌*◌, ℤ, pos, Some, Bool, List, length}
use Rattle.std.proofs.Common.{ap, sym, subst, ◌∙◌}
use Rattle.dbm_close.proofs.HalvesLemmas.{own-single, strong-entry}
use Rattle.dbm_close.specs.Close.{strong}
use Rattle.dbm_close.specs.Steps.{cut, tightened}
use Rattle.dbm_core.proofs.NodeLemmas.{flip-flip, flip_below}
use Rattle.dbm_core.proofs.WeightLemmas.{AtMost-both, AtMost-refl}
use Rattle.dbm_core.specs.Half.{HasEntries, entry}
use Rattle.dbm_core.specs.Nodes.{flip}
use Rattle.dbm_core.specs.Weights.{AtMost, add_weight}
use Rattle.dbm_incremental.proofs.ClosedLemmas.{strong-above}
use Rattle.dbm_incremental.specs.ClosedMatrices.{IsStrong}
use Rattle.dbm_narrow.proofs.StepLemmas.{cut-entries, cut-narrow, last-tells}
use Rattle.dbm_narrow.specs.declared.closing.ClosingResult.{ClosingResult}
use Rattle.dbm_narrow.specs.Entries.{held}
use Rattle.dbm_narrow.specs.Held.{TellsFinish, TellsLast}
use Rattle.dbm_narrow.specs.Rounds.{AreCut, IsNarrow}

module _ (unit : ℕ) (room : 0 < unit) where
  module _ (kinds : List Bool) (xs : List ℤ) (s : IsStrong (2 * length kinds) (entry (held unit kinds xs))) where
    same-strong : (i j : ℕ) → i < 2 * length kinds → j < 2 * length kinds → strong (entry (held unit kinds xs)) i j ≡ entry (held unit kinds xs) i j
    same-strong i j hi hj = AtMost-both (strong (entry (held unit kinds xs)) i j) (entry (held unit kinds xs) i j) (strong-entry (entry (held unit kinds xs)) i j)
        (strong-above (entry (held unit kinds xs)) (entry (held unit kinds xs)) (length kinds) s (λ a b ha hb. AtMost-refl (entry (held unit kinds xs) a b)) i j hi hj)

    same-tight : (i : ℕ) → i < 2 * length kinds → tightened (entry (held unit kinds xs)) i (flip i) ≡ entry (held unit kinds xs) i (flip i)
    same-tight i hi = own-single (entry (held unit kinds xs)) i ∙ s.evens i hi

    same-behind : (i : ℕ) → i < 2 * length kinds → tightened (entry (held unit kinds xs)) (flip i) i ≡ entry (held unit kinds xs) (flip i) i
    same-behind i hi = subst (λ k. tightened (entry (held unit kinds xs)) (flip i) k ≡ entry (held unit kinds xs) (flip i) k) (flip-flip i) (same-tight (flip i) (flip_below i (length kinds) hi))

    consistent : (i : ℕ) → i < 2 * length kinds → AtMost (Some (pos 0)) (add_weight (tightened (entry (held unit kinds xs)) i (flip i)) (tightened (entry (held unit kinds xs)) (flip i) i))
    consistent i hi =
        subst (λ v. AtMost (Some (pos 0)) (add_weight v (tightened (entry (held unit kinds xs)) (flip i) i))) (sym (same-tight i hi))
        (subst (λ v. AtMost (Some (pos 0)) (add_weight (entry (held unit kinds xs) i (flip i)) v)) (sym (same-behind i hi))
        (subst (λ v. AtMost v (add_weight (entry (held unit kinds xs) i (flip i)) (entry (held unit kinds xs) (flip i) i))) (s.diagonal i hi)
        (s.triangles i (flip i) i hi (flip_below i (length kinds) hi) hi)))

    -- whatever steps 5 and 6 answer
    pub strong-tells : (zs : List ℤ) → IsNarrow unit kinds xs → AreCut unit xs zs → (r : ClosingResult) → TellsLast unit kinds zs r → TellsFinish unit kinds xs zs r
    strong-tells zs t c r l =
        let h : HasEntries kinds (λ i j. cut (entry (held unit kinds xs) i j)) (held unit kinds zs) = cut-entries unit room kinds xs zs t c in
        last-tells unit room kinds xs zs (cut-narrow unit room kinds xs zs t c) consistent
        (record { matrix = h.matrix; same_kinds = h.same_kinds; entries = λ i j hi hj. h.entries i j hi hj ∙ ap cut (sym (same-strong i j hi hj)) }) r l
