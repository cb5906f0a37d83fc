-- Widened entries: one, those of a row, those of all rows, and the matrix that they make.
use Rattle.std.specs.Prelude.{◌≡◌, ℕ, ◌<◌, ◌≤◌, ◌+◌, ◌*◌, ℤ, pos, ◌≤ℤ◌, ◌<ℤ◌, ◌⊎◌, Option, Some, None, Bool, cond, int_lt, List, length, slice_set, refl}
use Rattle.std.proofs.Common.{arith, ap, sym, subst, ◌∙◌, inl, inr, suc, add-one}
use Rattle.std.proofs.lemmas.Bool.{cases_lt}
use Rattle.std.proofs.lemmas.Int.{ints}
use Rattle.std.proofs.lemmas.List.{length-map}
use Rattle.dbm_core.proofs.HalfLemmas.{HasEntries-from_kept, row_start-mono}
use Rattle.dbm_core.proofs.ThresholdLemmas.{by_order}
use Rattle.dbm_core.proofs.OperationLemmas.{widened-coherent}
use Rattle.dbm_core.specs.Half.{HasEntries, IsMatrix, entry, row_start, row_width}
use Rattle.dbm_core.specs.Nodes.{IsCoherent, is_single}
use Rattle.dbm_core.specs.Operations.{next_threshold, widen_bound, widened}
use Rattle.dbm_narrow.proofs.EntryLemmas.{held-kept, wide-bound, wide-free, wide-none}
use Rattle.dbm_narrow.proofs.MiddleLemmas.{flip-first}
use Rattle.dbm_narrow.proofs.RowLemmas.{done-set, rest-set}
use Rattle.dbm_narrow.specs.Entries.{AreEntries, IsEntry, at, held, none, wide}
use Rattle.dbm_narrow.specs.Held.{IsEntryOf}
use Rattle.dbm_narrow.specs.Rounds.{IsNarrow}
use Rattle.dbm_narrow.specs.Widenings.{IsThresholdEntry, IsWidened, IsWidenedIf, RowWidens, Widens}

module _ (unit : ℕ) (room : 0 < unit) where
  -- ---- one entry

  order : (x y : ℤ) → (x <ℤ y) ⊎ (y ≤ℤ x)
  order x y = by_order (λ b. (x <ℤ y) ⊎ (y ≤ℤ x)) x y inl inr

  pub not_below : {A : Type 0} (x y : ℤ) (a b : A) → y ≤ℤ x → cond (int_lt x y) a b ≡ b
  not_below x y a b h = by_order (λ t. cond t a b ≡ b) x y (λ l. absurd (omega (arith, ints))) (λ l. refl)

  pub below : {A : Type 0} (x y : ℤ) (a b : A) → x <ℤ y → cond (int_lt x y) a b ≡ a
  below x y a b h = by_order (λ t. cond t a b ≡ a) x y (λ l. refl) (λ l. absurd (omega (arith, ints)))

  -- an entry that the new one is not above stays
  pub widened-stays : (thresholds : List ℤ) (d : Bool) (x y : ℤ) → IsEntry unit (2 * unit) x → y ≤ℤ x → IsWidened unit thresholds d x y x
  widened-stays thresholds d x y p h = record { bound = elim (order x (pos (16 * unit))) [ inl l ↦ small l | inr l ↦ large l ]; entry = p }
    where
      large : pos (16 * unit) ≤ℤ x → wide unit x ≡ widen_bound thresholds d (wide unit x) (wide unit y)
      large l = wide-free unit room x l ∙ sym (ap (λ o. widen_bound thresholds d o (wide unit y)) (wide-free unit room x l))

      small : x <ℤ pos (16 * unit) → wide unit x ≡ widen_bound thresholds d (wide unit x) (wide unit y)
      small l = wide-bound unit room x l ∙ sym (ap (λ o. widen_bound thresholds d o (wide unit y)) (wide-bound unit room x l) ∙ ap (widen_bound thresholds d (Some x)) (wide-bound unit room y (omega (arith, ints)))
          ∙ not_below x y (next_threshold thresholds d y) (Some x) h)

  widen-none : (thresholds : List ℤ) (d : Bool) (o : Option ℤ) → widen_bound thresholds d o None ≡ None
  widen-none thresholds d None = refl
  widen-none thresholds d (Some x) = refl

  -- what is widened by none is none
  pub widened-none : (thresholds : List ℤ) (d : Bool) (x y : ℤ) → pos (16 * unit) ≤ℤ y → IsWidened unit thresholds d x y (none unit)
  widened-none thresholds d x y h = record { bound = wide-none unit room ∙ sym (ap (widen_bound thresholds d (wide unit x)) (wide-free unit room y h) ∙ widen-none thresholds d (wide unit x)); entry = inl refl }

  -- an entry that the new one is above goes to the next threshold
  pub widened-goes : (thresholds : List ℤ) (d : Bool) (x y : ℤ) (o : Option ℤ) → x <ℤ y → y <ℤ pos (16 * unit) → IsThresholdEntry unit (next_threshold thresholds d y) o → IsWidenedIf unit thresholds d x y o
  widened-goes thresholds d x y None h l p = tt
  widened-goes thresholds d x y (Some z) h l p = record {
    bound = p.0 ∙ sym (ap (λ o. widen_bound thresholds d o (wide unit y)) (wide-bound unit room x (omega (arith, ints))) ∙ ap (widen_bound thresholds d (Some x)) (wide-bound unit room y l) ∙ below x y (next_threshold thresholds d y) (Some x) h);
    entry = p.1;
  }

  pub threshold-entry : (b o : Option ℤ) → IsEntryOf unit b o → IsThresholdEntry unit b o
  threshold-entry b None p = tt
  threshold-entry b (Some x) p = p

  -- ---- a row

  -- the first j entries of row i are widened, the others stand
  pub record IsRaised (thresholds : List ℤ) (i : ℕ) (os bs xs : List ℤ) (j : ℕ) : Type 0 where
    pub done : (k : ℕ) → k < j → IsWidened unit thresholds (is_single i k) (at unit os k) (at unit bs k) (at unit xs k)
    pub rest : (k : ℕ) → j ≤ k → at unit xs k ≡ at unit os k

  pub raised-first : (thresholds : List ℤ) (i : ℕ) (os bs : List ℤ) → IsRaised thresholds i os bs os 0
  raised-first thresholds i os bs = record { done = λ k l. absurd (omega arith); rest = λ k l. refl }

  pub raised-next : (thresholds : List ℤ) (i : ℕ) (os bs xs : List ℤ) (j : ℕ) (x : ℤ) → j < length xs → IsRaised thresholds i os bs xs j → IsWidened unit thresholds (is_single i j) (at unit os j) (at unit bs j) x → IsRaised thresholds i os bs (slice_set xs j x) (j + 1)
  raised-next thresholds i os bs xs j x l p w = record {
    done = done-set unit room (λ k z. IsWidened unit thresholds (is_single i k) (at unit os k) (at unit bs k) z) xs j x l p.done w;
    rest = rest-set unit room (λ k z. z ≡ at unit os k) xs j x p.rest;
  }

  pub raised-entries : (thresholds : List ℤ) (i : ℕ) (os bs xs : List ℤ) (j : ℕ) → AreEntries unit (2 * unit) os → IsRaised thresholds i os bs xs j → AreEntries unit (2 * unit) xs
  raised-entries thresholds i os bs xs j h p k = elim (cases_lt k j) [
    | inl m ↦ (p.done k m).entry
    | inr m ↦ subst (IsEntry unit (2 * unit)) (sym (p.rest k m)) (h k)
  ]

  -- ---- row after row

  -- the rows before i are widened, the others stand
  pub record AreRaised (thresholds os bs xs : List ℤ) (i : ℕ) : Type 0 where
    pub size : length xs ≡ length os
    pub done : (a j : ℕ) → a < i → j < row_width a → IsWidened unit thresholds (is_single a j) (at unit os (row_start a + j)) (at unit bs (row_start a + j)) (at unit xs (row_start a + j))
    pub rest : (k : ℕ) → row_start i ≤ k → at unit xs k ≡ at unit os k
    pub entries : AreEntries unit (2 * unit) xs

  pub raised_rows-first : (thresholds os bs : List ℤ) → AreEntries unit (2 * unit) os → AreRaised thresholds os bs os 0
  raised_rows-first thresholds os bs h = record { size = refl; done = λ a j l w. absurd (omega arith); rest = λ k l. refl; entries = h }

  pub raised_rows-next : (thresholds os bs xs ys : List ℤ) (i : ℕ) → AreRaised thresholds os bs xs i → length ys ≡ length xs → RowWidens unit thresholds i xs bs ys →
      ((k : ℕ) → (k < row_start i) ⊎ (row_start i + row_width i ≤ k) → at unit ys k ≡ at unit xs k) → AreEntries unit (2 * unit) ys → AreRaised thresholds os bs ys (i + 1)
  raised_rows-next thresholds os bs xs ys i p e here there all =
      let next : row_start (i + 1) ≡ row_start i + row_width i = ap row_start (add-one i) in
      record {
        size = e ∙ p.size;
        done = λ a j l w. elim (cases_lt a i) [
          | inl m ↦ subst (IsWidened unit thresholds (is_single a j) (at unit os (row_start a + j)) (at unit bs (row_start a + j))) (sym (there (row_start a + j) (inl (omega (arith, row_start-mono i (suc a) (omega arith)))))) (p.done a j m w)
          | inr m ↦ let k : a ≡ i = omega arith in
              rw k (let v : j < row_width i = subst (λ a. j < row_width a) k w in
              subst (λ x. IsWidened unit thresholds (is_single i j) x (at unit bs (row_start i + j)) (at unit ys (row_start i + j))) (p.rest (row_start i + j) (omega arith)) (here j v))
        ];
        rest = λ k l. there k (inr (omega arith)) ∙ p.rest k (omega (arith, next));
        entries = all;
      }

  -- ---- the matrix

  module _ (thresholds : List ℤ) (kinds l : List Bool) (xs ys zs : List ℤ) (p : IsNarrow unit kinds xs) (q : IsNarrow unit l ys) (e : l ≡ kinds) (size : length zs ≡ length xs)
      (kept : Widens unit thresholds (2 * length kinds) xs ys zs) (all : AreEntries unit (2 * unit) zs) where
    raised-kept : (i j : ℕ) → i < 2 * length kinds → j < row_width i → entry (held unit kinds zs) i j ≡ widened thresholds (held unit kinds xs) (held unit l ys) i j
    raised-kept i j hi w = held-kept unit room kinds zs i j w ∙ (kept i j hi w).bound
        ∙ ap (λ o. widen_bound thresholds (is_single i j) o (wide unit (at unit ys (row_start i + j)))) (sym (held-kept unit room kinds xs i j w))
        ∙ ap (widen_bound thresholds (is_single i j) (entry (held unit kinds xs) i j)) (sym (held-kept unit room l ys i j w))

    coherent : IsCoherent (widened thresholds (held unit kinds xs) (held unit l ys)) (2 * length kinds)
    coherent = widened-coherent thresholds (held unit kinds xs) (held unit l ys) p.matrix q.matrix (ap length e)

    matrix : IsMatrix (held unit kinds zs)
    matrix = record {
      few = p.matrix.few;
      fits = length-map zs (wide unit) ∙ size ∙ sym (length-map xs (wide unit)) ∙ p.matrix.fits;
      diagonal = λ k m.
          let a : 2 * k < 2 * length kinds = omega arith in
          raised-kept (2 * k) (2 * k) a (omega arith) ∙ coherent (2 * k) (2 * k) a a
          ∙ ap (λ z. widened thresholds (held unit kinds xs) (held unit l ys) z z) (flip-first unit room k) ∙ sym (raised-kept (2 * k + 1) (2 * k + 1) (omega arith) (omega arith));
    }

    pub widened-narrow : IsNarrow unit kinds zs
    widened-narrow = record { matrix = matrix; entries = all }

    pub widened-held : HasEntries kinds (widened thresholds (held unit kinds xs) (held unit l ys)) (held unit kinds zs)
    widened-held = HasEntries-from_kept kinds (widened thresholds (held unit kinds xs) (held unit l ys)) (held unit kinds zs) matrix refl coherent raised-kept
