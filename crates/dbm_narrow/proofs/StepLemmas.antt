-- Steps 2 to 6 over narrow entries are those of `dbm_close`.
use Rattle.std.specs.Prelude.{◌≡◌, ℕ, ◌<◌, ◌≤◌, ◌+◌, ◌*◌, ◌^◌, ℤ, pos, negsuc, neg_ℤ, ◌+ℤ◌, ◌≤ℤ◌, ◌<ℤ◌, int_lt, Some, None, Bool, true, false, List, length, map, slice_set, refl}
use Rattle.std.proofs.Common.{arith, ap, below_more, sym, subst, ◌∙◌, inl, inr, get_or, get_or-set_other, get_or-set_same, length-set}
use Rattle.std.proofs.lemmas.Bool.{cases_lt}
use Rattle.std.proofs.lemmas.Int.{by_lt_z, ints}
use Rattle.std.proofs.lemmas.List.{get_or_past, length-map}
use Rattle.dbm_close.proofs.CloseOfLemmas.{close_of-only}
use Rattle.dbm_close.proofs.FinishLemmas.{close-from_finish, empty_range-here, low-here, none_low-here}
use Rattle.dbm_close.proofs.HalvesLemmas.{fused-entries, halves-consistent, halves-contradictory}
use Rattle.dbm_close.proofs.StrongLemmas.{cut-coherent, no_empty_range-agree}
use Rattle.dbm_close.specs.Close.{IsNotContradictory, IsNotTooLow, IsTooLow, closed_entry}
use Rattle.dbm_close.specs.CloseOf.{close_of}
use Rattle.dbm_close.specs.declared.closed.Closed.{Closed}
use Rattle.dbm_close.specs.declared.closed.Closed.TheVariants.{Empty}
use Rattle.dbm_close.specs.Finish.{IsFinishOf}
use Rattle.dbm_close.specs.Walks.{HasNegativeWalk}
use Rattle.dbm_close.specs.Halves.{HasHalves, HasNegativeHalves, HasNoNegativeHalves, halved_bound}
use Rattle.dbm_close.specs.Rounds.{HasLeastWeights}
use Rattle.dbm_close.specs.Steps.{cut, tightened}
use Rattle.dbm_core.proofs.HalfLemmas.{HasEntries-from_kept, entry-coherent}
use Rattle.dbm_core.proofs.SameLemmas.{place-entry, places-hold}
use Rattle.dbm_core.proofs.WeightLemmas.{add_weight-comm}
use Rattle.dbm_core.specs.Half.{HalfMatrix, HasEntries, IsMatrix, entry, nodes, row_start, row_width}
use Rattle.dbm_core.specs.Limits.{IsZeroAtMost}
use Rattle.dbm_core.specs.Nodes.{flip}
use Rattle.dbm_core.specs.Weights.{AtMost, add_weight, least}
use Rattle.dbm_narrow.proofs.EntryLemmas.{held-kept, wide-at, wide-bound, wide-free, wide-none, wide-settle, wide-strengthened, wide-sum}
use Rattle.dbm_narrow.proofs.MiddleLemmas.{flip-first, flip-second}
use Rattle.dbm_narrow.specs.Closings.{FinishesEmpty}
use Rattle.dbm_narrow.specs.declared.closing.ClosingResult.{ClosingResult}
use Rattle.dbm_narrow.specs.declared.closing.ClosingResult.TheVariants.{Closed as AreClosed, Empty as AreEmpty, TooWide}
use Rattle.dbm_narrow.specs.Entries.{AreEntries, IsEntry, at, held, none, settle, strengthened_by, wide}
use Rattle.dbm_narrow.specs.Held.{TellsFinish, TellsLast}
use Rattle.dbm_narrow.specs.Rounds.{AreCut, HasLowEntry, HasNoLowEntry, IsNarrow}
use Rattle.dbm_narrow.specs.Widths.{cut_number}

module _ (unit : ℕ) (room : 0 < unit) where
  -- ---- step 5

  by_cut : (P : ℤ → Type 0) (x : ℤ) → (x <ℤ pos (2 ^ 64) → P x) → (pos (2 ^ 64) ≤ℤ x → P (none unit)) → P (cut_number unit x)
  by_cut P x p q = by_lt_z x (pos (2 ^ 64))
      (λ h. let e : int_lt x (pos (2 ^ 64)) ≡ true = grind (arith, ints) in rw e (p h))
      (λ h. let e : int_lt x (pos (2 ^ 64)) ≡ false = grind (arith, ints) in rw e (q h))

  cut-entry : (x : ℤ) → IsEntry unit (2 * unit) x → IsEntry unit (2 * unit) (cut_number unit x)
  cut-entry x p = by_cut (IsEntry unit (2 * unit)) x (λ h. p) (λ h. inl refl)

  below : (x : ℤ) → x <ℤ pos (2 ^ 64) → cut (Some x) ≡ Some x
  below x h = let e : int_lt x (pos (2 ^ 64)) ≡ true = grind (arith, ints) in rw e refl

  beyond : (x : ℤ) → pos (2 ^ 64) ≤ℤ x → cut (Some x) ≡ None
  beyond x h = let e : int_lt x (pos (2 ^ 64)) ≡ false = grind (arith, ints) in rw e refl

  -- a cut entry stands for the cut bound
  pub wide-cut : (x : ℤ) → IsEntry unit (2 * unit) x → wide unit (cut_number unit x) ≡ cut (wide unit x)
  wide-cut x (inl e) =
      let f : wide unit x ≡ None = ap (wide unit) e ∙ wide-none unit room in
      by_cut (λ y. wide unit y ≡ cut (wide unit x)) x (λ h. f ∙ sym (ap cut f)) (λ h. wide-none unit room ∙ sym (ap cut f))
  wide-cut x (inr p) =
      let q : x ≤ℤ pos (2 * unit) = p.1 in
      let f : wide unit x ≡ Some x = wide-bound unit room x (omega (arith, ints)) in
      by_cut (λ y. wide unit y ≡ cut (wide unit x)) x
      (λ h. f ∙ sym (below x h) ∙ sym (ap cut f))
      (λ h. wide-none unit room ∙ sym (beyond x h) ∙ sym (ap cut f))

  module _ (kinds : List Bool) (ys zs : List ℤ) (t : IsNarrow unit kinds ys) (c : AreCut unit ys zs) where
    cut-kept : (i j : ℕ) → j < row_width i → entry (held unit kinds zs) i j ≡ cut (entry (held unit kinds ys) i j)
    cut-kept i j w =
        held-kept unit room kinds zs i j w ∙ ap (wide unit) (c.cut (row_start i + j)) ∙ wide-cut (at unit ys (row_start i + j)) (t.entries (row_start i + j))
        ∙ ap cut (sym (held-kept unit room kinds ys i j w))

    pub cut-narrow : IsNarrow unit kinds zs
    cut-narrow = record {
      matrix = record {
        few = t.matrix.few;
        fits = length-map zs (wide unit) ∙ c.size ∙ sym (length-map ys (wide unit)) ∙ t.matrix.fits;
        diagonal = λ h l. cut-kept (2 * h) (2 * h) (omega arith) ∙ ap cut (t.matrix.diagonal h l) ∙ sym (cut-kept (2 * h + 1) (2 * h + 1) (omega arith));
      };
      entries = λ k. subst (IsEntry unit (2 * unit)) (sym (c.cut k)) (cut-entry (at unit ys k) (t.entries k));
    }

    -- the cut matrix has the cut entries
    pub cut-entries : HasEntries kinds (λ i j. cut (entry (held unit kinds ys) i j)) (held unit kinds zs)
    cut-entries = HasEntries-from_kept kinds (λ i j. cut (entry (held unit kinds ys) i j)) (held unit kinds zs) cut-narrow.matrix refl
        (cut-coherent (entry (held unit kinds ys)) (2 * length kinds) (entry-coherent (held unit kinds ys) t.matrix)) (λ i j hi w. cut-kept i j w)

  -- entry after entry: the first k of os are cut, the others stand
  pub record AreCutTo (os xs : List ℤ) (k : ℕ) : Type 0 where
    pub size : length xs ≡ length os
    pub done : (j : ℕ) → j < k → at unit xs j ≡ cut_number unit (at unit os j)
    pub rest : (j : ℕ) → k ≤ j → at unit xs j ≡ at unit os j

  pub cut-first : (xs : List ℤ) → AreCutTo xs xs 0
  cut-first xs = record { size = refl; done = λ j l. absurd (omega arith); rest = λ j l. refl }

  pub cut-next : (os xs : List ℤ) (k : ℕ) (y : ℤ) → k < length xs → AreCutTo os xs k → y ≡ cut_number unit (at unit os k) → AreCutTo os (slice_set xs k y) (k + 1)
  cut-next os xs k y l p e = record {
    size = length-set xs k y ∙ p.size;
    done = below_more (λ j. at unit (slice_set xs k y) j ≡ cut_number unit (at unit os j)) k
        (λ j h. let n : j ≡ k → ⊥ = λ z. absurd (omega arith) in get_or-set_other xs k j y (none unit) n ∙ p.done j h)
        (get_or-set_same xs k y (none unit) l ∙ e);
    rest = λ j h. let n : j ≡ k → ⊥ = λ z. absurd (omega arith) in get_or-set_other xs k j y (none unit) n ∙ p.rest j (omega arith);
  }

  pub cut-all : (os xs : List ℤ) (k : ℕ) → length os ≤ k → AreCutTo os xs k → AreCut unit os xs
  cut-all os xs k l p = record {
    size = p.size;
    cut = λ j. elim (cases_lt j k) [
      | inl h ↦ p.done j h
      | inr h ↦ let e : at unit os j ≡ none unit = get_or_past os j (none unit) (omega arith) in
          p.rest j h ∙ e ∙ by_cut (λ y. none unit ≡ y) (none unit) (λ h. refl) (λ h. refl) ∙ ap (cut_number unit) (sym e)
    ];
  }

  low-bound : (x : ℤ) → x <ℤ neg_ℤ (pos (2 ^ 64)) → AtMost (wide unit x) (Some (negsuc (2 ^ 64)))
  low-bound x h = subst (λ a. AtMost a (Some (negsuc (2 ^ 64)))) (sym (wide-bound unit room x (omega (arith, ints)))) (under x h)
    where
      under : (x : ℤ) → x <ℤ neg_ℤ (pos (2 ^ 64)) → x ≤ℤ negsuc (2 ^ 64)
      under x h = omega (arith, ints)

  high-bound : (x : ℤ) → neg_ℤ (pos (2 ^ 64)) ≤ℤ x → AtMost (Some (neg_ℤ (pos (2 ^ 64)))) (wide unit x)
  high-bound x h = by_lt_z x (pos (16 * unit))
      (λ k. subst (AtMost (Some (neg_ℤ (pos (2 ^ 64))))) (sym (wide-bound unit room x k)) h)
      (λ k. subst (AtMost (Some (neg_ℤ (pos (2 ^ 64))))) (sym (wide-free unit room x k)) tt)

  low-entry : (kinds : List Bool) (zs : List ℤ) → IsNarrow unit kinds zs → HasLowEntry unit zs → IsTooLow (nodes (held unit kinds zs)) (entry (held unit kinds zs))
  low-entry kinds zs t h =
      let q : (i j : ℕ) × ((i < nodes (held unit kinds zs)) × (j < nodes (held unit kinds zs)) × (get_or (map (wide unit) zs) h.0 None ≡ entry (held unit kinds zs) i j)) =
      place-entry (held unit kinds zs) t.matrix h.0 (rw (length-map zs (wide unit)) h.1.0) in
      (q.0, q.1, (q.2.0, q.2.1, subst (λ a. AtMost a (Some (negsuc (2 ^ 64)))) (sym (wide-at unit room zs h.0) ∙ q.2.2) (low-bound (at unit zs h.0) h.1.1)))

  no_low-entry : (kinds : List Bool) (zs : List ℤ) → IsNarrow unit kinds zs → HasNoLowEntry unit zs → IsNotTooLow (nodes (held unit kinds zs)) (entry (held unit kinds zs))
  no_low-entry kinds zs t h = places-hold (AtMost (Some (neg_ℤ (pos (2 ^ 64))))) (held unit kinds zs) t.matrix
      (λ p l. subst (AtMost (Some (neg_ℤ (pos (2 ^ 64))))) (sym (wide-at unit room zs p)) (high-bound (at unit zs p) (h p (rw (← length-map zs (wide unit)) l))))

  -- what steps 5 and 6 answer of the cut entries zs, of a table that step 3 finds consistent
  pub last-tells : (kinds : List Bool) (xs zs : List ℤ) → IsNarrow unit kinds zs → IsNotContradictory (2 * length kinds) (tightened (entry (held unit kinds xs))) →
      HasEntries kinds (closed_entry (entry (held unit kinds xs))) (held unit kinds zs) → (r : ClosingResult) → TellsLast unit kinds zs r → TellsFinish unit kinds xs zs r
  last-tells kinds xs zs t d h AreClosed (u, r) = record {
    finish = record {
      consistent = d;
      in_range = none_low-here kinds (entry (held unit kinds xs)) (held unit kinds zs) h (no_low-entry kinds zs t u);
      ranges = no_empty_range-agree kinds (entry (held unit kinds zs)) (closed_entry (entry (held unit kinds xs))) h.entries r;
      entries = h;
    };
    entries = t.entries;
  }
  last-tells kinds xs zs t d h AreEmpty (inl u) = inr (inl (low-here kinds (entry (held unit kinds xs)) (held unit kinds zs) h (low-entry kinds zs t u)))
  last-tells kinds xs zs t d h AreEmpty (inr r) = inr (inr (empty_range-here kinds (entry (held unit kinds xs)) (held unit kinds zs) h r))
  last-tells kinds xs zs t d h TooWide l = l

  -- ---- steps 2 and 4

  module _ (kinds : List Bool) (xs ys hs bs : List ℤ) (ph : AreEntries unit unit hs) (pb : AreEntries unit unit bs) (py : AreEntries unit (2 * unit) ys)
      (turned : (i : ℕ) → i < 2 * length kinds → at unit bs i ≡ at unit hs (flip i))
      (rows : (i j : ℕ) → i < 2 * length kinds → j < row_width i → at unit ys (row_start i + j) ≡ strengthened_by unit (at unit hs i) (at unit bs j) (at unit xs (row_start i + j))) where
    halved-here : (i j : ℕ) → i < 2 * length kinds → j < row_width i → entry (held unit kinds ys) i j ≡ halved_bound (map (wide unit) hs) i j (entry (held unit kinds xs) i j)
    halved-here i j hi w =
        let hj : j < 2 * length kinds = omega arith in
        held-kept unit room kinds ys i j w
        ∙ ap (wide unit) (rows i j hi w)
        ∙ wide-strengthened unit room (at unit hs i) (at unit bs j) (at unit xs (row_start i + j)) (ph i) (pb j)
        ∙ ap (λ a. least a (add_weight (wide unit (at unit hs i)) (wide unit (at unit bs j)))) (sym (held-kept unit room kinds xs i j w))
        ∙ ap (λ a. least (entry (held unit kinds xs) i j) (add_weight a (wide unit (at unit bs j)))) (sym (wide-at unit room hs i))
        ∙ ap (λ a. least (entry (held unit kinds xs) i j) (add_weight (get_or (map (wide unit) hs) i None) a)) (ap (wide unit) (turned j hj) ∙ sym (wide-at unit room hs (flip j)))

    pub strengthened-matrix : IsMatrix (held unit kinds xs) → length ys ≡ length xs → IsMatrix (held unit kinds ys)
    strengthened-matrix t e = record {
      few = t.few;
      fits = length-map ys (wide unit) ∙ e ∙ sym (length-map xs (wide unit)) ∙ t.fits;
      diagonal = λ h m.
          halved-here (2 * h) (2 * h) (omega arith) (omega arith)
          ∙ ap (λ k. least (entry (held unit kinds xs) (2 * h) (2 * h)) (add_weight (get_or (map (wide unit) hs) (2 * h) None) (get_or (map (wide unit) hs) k None))) (flip-first unit room h)
          ∙ ap (least (entry (held unit kinds xs) (2 * h) (2 * h))) (add_weight-comm (get_or (map (wide unit) hs) (2 * h) None) (get_or (map (wide unit) hs) (2 * h + 1) None))
          ∙ ap (λ a. least a (add_weight (get_or (map (wide unit) hs) (2 * h + 1) None) (get_or (map (wide unit) hs) (2 * h) None))) (t.diagonal h m)
          ∙ ap (λ k. least (entry (held unit kinds xs) (2 * h + 1) (2 * h + 1)) (add_weight (get_or (map (wide unit) hs) (2 * h + 1) None) (get_or (map (wide unit) hs) k None))) (sym (flip-second unit room h))
          ∙ sym (halved-here (2 * h + 1) (2 * h + 1) (omega arith) (omega arith));
    }

    module _ (zs : List ℤ) (c : AreCut unit ys zs) (t : IsMatrix (held unit kinds xs)) (e : length ys ≡ length xs) where
      strengthened-narrow : IsNarrow unit kinds ys
      strengthened-narrow = record { matrix = strengthened-matrix t e; entries = py }

      -- whatever steps 5 and 6 answer
      pub finishes : HasHalves (2 * length kinds) (entry (held unit kinds xs)) (map (wide unit) hs) → HasNoNegativeHalves (2 * length kinds) (map (wide unit) hs) → (r : ClosingResult) → TellsLast unit kinds zs r → TellsFinish unit kinds xs zs r
      finishes p z r l =
          let n : IsNarrow unit kinds zs = cut-narrow kinds ys zs strengthened-narrow c in
          last-tells kinds xs zs n (halves-consistent (entry (held unit kinds xs)) (length kinds) (map (wide unit) hs) p z)
          (fused-entries (held unit kinds xs) (held unit kinds zs) (map (wide unit) hs) t n.matrix refl p (λ i j hi w. cut-kept kinds ys zs strengthened-narrow c i j w ∙ ap cut (halved-here i j hi w))) r l

  pub finishes-negative : (kinds : List Bool) (xs hs : List ℤ) → HasHalves (2 * length kinds) (entry (held unit kinds xs)) (map (wide unit) hs) → HasNegativeHalves (2 * length kinds) (map (wide unit) hs) → FinishesEmpty unit kinds xs
  finishes-negative kinds xs hs p z = inl (halves-contradictory (entry (held unit kinds xs)) (length kinds) (map (wide unit) hs) p z)

  -- step 3, of a slot's two halves
  pub halves-sum : (hs bs : List ℤ) (i : ℕ) (s : ℤ) → AreEntries unit unit hs → AreEntries unit unit bs → at unit bs i ≡ at unit hs (flip i) → s ≡ settle unit (at unit hs i +ℤ at unit bs i) →
      wide unit s ≡ add_weight (get_or (map (wide unit) hs) i None) (get_or (map (wide unit) hs) (flip i) None)
  halves-sum hs bs i s p q t e =
      ap (wide unit) e
      ∙ wide-settle unit room (at unit hs i +ℤ at unit bs i)
      ∙ wide-sum unit room unit unit (at unit hs i) (at unit bs i) (omega arith) (p i) (q i)
      ∙ ap (λ a. add_weight a (wide unit (at unit bs i))) (sym (wide-at unit room hs i))
      ∙ ap (add_weight (get_or (map (wide unit) hs) i None)) (ap (wide unit) t ∙ sym (wide-at unit room hs (flip i)))

  -- ---- the whole

  pub closes-negative : (m : HalfMatrix) → IsMatrix m → IsZeroAtMost (nodes m) (entry m) → HasNegativeWalk (entry m) (nodes m) → close_of m ≡ Empty
  closes-negative m t d z = sym (close_of-only m Empty t d (inl z))

  pub closes : (m s : HalfMatrix) (c : Closed) → IsMatrix m → IsZeroAtMost (nodes m) (entry m) → HasLeastWeights m s → IsFinishOf s.kinds (entry s) c → close_of m ≡ c
  closes m s c t d h p = sym (close_of-only m c t d (close-from_finish m s c h p))
