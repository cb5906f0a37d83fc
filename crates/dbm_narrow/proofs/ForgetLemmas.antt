-- Entries without the bounds on a slot stand for the bounds without them.
use Rattle.std.specs.Prelude.{◌≡◌, ℕ, ◌<◌, ◌≤◌, ◌+◌, ◌*◌, ◌/◌, ℤ, None, Bool, true, false, cond, eqb, ◌||◌, List, length, refl}
use Rattle.std.proofs.Common.{arith, ap, sym, subst, ◌∙◌, inl, inr}
use Rattle.std.proofs.lemmas.Bool.{cases_lt, eq-eqb}
use Rattle.std.proofs.lemmas.List.{length-map}
use Rattle.dbm_core.proofs.HalfLemmas.{HasEntries-from_kept, entry-coherent}
use Rattle.dbm_core.proofs.OperationLemmas.{forgotten-coherent}
use Rattle.dbm_core.specs.Half.{HasEntries, IsMatrix, entry, row_start, row_width}
use Rattle.dbm_core.specs.Operations.{forgotten}
use Rattle.dbm_narrow.proofs.EntryLemmas.{held-kept, wide-none}
use Rattle.dbm_narrow.specs.Entries.{AreEntries, IsEntry, at, dropped, held, none, wide}

module _ (unit : ℕ) (room : 0 < unit) where
  -- a dropped entry is the entry or none
  pub dropped-cases : (P : ℤ → Type 0) (k i j : ℕ) (x : ℤ) → P x → P (none unit) → P (dropped unit k i j x)
  dropped-cases P k i j x p q = by (eqb i j) (eqb (i / 2) k || eqb (j / 2) k)
    where
      by : (a b : Bool) → P (cond a x (cond b (none unit) x))
      by true b = p
      by false true = q
      by false false = p

  pub dropped-row : (k i : ℕ) (o xs : List ℤ) (j : ℕ) → length o ≤ j → AreEntries unit (2 * unit) o → ((a : ℕ) → a < j → at unit xs a ≡ dropped unit k i a (at unit o a)) → ((a : ℕ) → j ≤ a → at unit xs a ≡ at unit o a) → AreEntries unit (2 * unit) xs
  dropped-row k i o xs j l h done rest a = elim (cases_lt a j) [
    | inl m ↦ subst (IsEntry unit (2 * unit)) (sym (done a m)) (dropped-cases (IsEntry unit (2 * unit)) k i a (at unit o a) (h a) (inl refl))
    | inr m ↦ subst (IsEntry unit (2 * unit)) (sym (rest a m)) (h a)
  ]

  wide-dropped : (k i j : ℕ) (x : ℤ) → wide unit (dropped unit k i j x) ≡ cond (eqb i j) (wide unit x) (cond (eqb (i / 2) k || eqb (j / 2) k) None (wide unit x))
  wide-dropped k i j x = by (eqb i j) (eqb (i / 2) k || eqb (j / 2) k)
    where
      by : (a b : Bool) → wide unit (cond a x (cond b (none unit) x)) ≡ cond a (wide unit x) (cond b None (wide unit x))
      by true b = refl
      by false true = wide-none unit room
      by false false = refl

  module _ (kinds : List Bool) (k : ℕ) (xs ys : List ℤ) (t : IsMatrix (held unit kinds xs)) (size : length ys ≡ length xs)
      (kept : (i j : ℕ) → i < 2 * length kinds → j < row_width i → at unit ys (row_start i + j) ≡ dropped unit k i j (at unit xs (row_start i + j))) where
    forgotten-kept : (i j : ℕ) → i < 2 * length kinds → j < row_width i → entry (held unit kinds ys) i j ≡ forgotten (entry (held unit kinds xs)) k i j
    forgotten-kept i j hi w = held-kept unit room kinds ys i j w ∙ ap (wide unit) (kept i j hi w) ∙ wide-dropped k i j (at unit xs (row_start i + j))
        ∙ ap (λ a. cond (eqb i j) a (cond (eqb (i / 2) k || eqb (j / 2) k) None a)) (sym (held-kept unit room kinds xs i j w))

    own : (i : ℕ) → forgotten (entry (held unit kinds xs)) k i i ≡ entry (held unit kinds xs) i i
    own i = rw (eq-eqb i i refl) refl

    pub forgotten-matrix : IsMatrix (held unit kinds ys)
    forgotten-matrix = record {
      few = t.few;
      fits = length-map ys (wide unit) ∙ size ∙ sym (length-map xs (wide unit)) ∙ t.fits;
      diagonal = λ h l. forgotten-kept (2 * h) (2 * h) (omega arith) (omega arith) ∙ own (2 * h) ∙ t.diagonal h l ∙ sym (own (2 * h + 1)) ∙ sym (forgotten-kept (2 * h + 1) (2 * h + 1) (omega arith) (omega arith));
    }

    pub forgotten-held : HasEntries kinds (forgotten (entry (held unit kinds xs)) k) (held unit kinds ys)
    forgotten-held = HasEntries-from_kept kinds (forgotten (entry (held unit kinds xs)) k) (held unit kinds ys) forgotten-matrix refl
        (forgotten-coherent (entry (held unit kinds xs)) k (2 * length kinds) (entry-coherent (held unit kinds xs) t)) forgotten-kept
