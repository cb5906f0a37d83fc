-- Rounds over narrow entries are those of `dbm_close`.
use Rattle.std.specs.Prelude.{◌≡◌, ℕ, ◌<◌, ◌+◌, ◌*◌, ◌/◌, ℤ, pos, Option, Some, Bool, List, length, refl}
use Rattle.std.proofs.Common.{arith, ap, sym, subst, ◌∙◌, inl, inr}
use Rattle.std.proofs.lemmas.Bool.{cases_eq, eq-eqb, ne_eqb}
use Rattle.std.proofs.lemmas.List.{length-map}
use Rattle.dbm_close.proofs.RoundLemmas.{IsRounded, IsRounded-next, rounded-least}
use Rattle.dbm_close.proofs.WalkLemmas.{AreLeastWalks, IsLeastWalk, least-mirrored, path_weight}
use Rattle.dbm_close.specs.Rounds.{IsDiagonalSound, round_entry, rounded}
use Rattle.dbm_core.proofs.HalfLemmas.{entry-coherent, row_start-double}
use Rattle.dbm_core.proofs.NodeLemmas.{parity}
use Rattle.dbm_core.proofs.WeightLemmas.{AtMost-both, AtMost-trans}
use Rattle.dbm_core.specs.Half.{HalfMatrix, IsMatrix, entry, nodes, row_start, row_width}
use Rattle.dbm_core.specs.Weights.{AtMost}
use Rattle.dbm_narrow.proofs.MiddleLemmas.{flip-second}
use Rattle.dbm_narrow.specs.Entries.{held, wide}
use Rattle.dbm_narrow.specs.Rounds.{IsNarrow, RoundsTo}

module _ (unit : ℕ) (room : 0 < unit) where
  -- a least weight is one
  walk-one : (w : ℕ → ℕ → Option ℤ) (b i j : ℕ) (v u : Option ℤ) → IsLeastWalk w b i j v → IsLeastWalk w b i j u → v ≡ u
  walk-one w b i j v u p q = AtMost-both v u
      (AtMost-trans v (path_weight w i q.reached.0 j) u (p.lower q.reached.0 q.reached.1) q.reached.2)
      (AtMost-trans u (path_weight w i p.reached.0 j) v (q.lower p.reached.0 p.reached.1) p.reached.2)

  module _ (kinds : List Bool) (os xs ys : List ℤ) (q : ℕ) (l : q < length kinds) (im : IsMatrix (held unit kinds os)) (p : IsRounded (held unit kinds os) (held unit kinds xs) q) (r : RoundsTo unit kinds q xs ys) where
    walks : AreLeastWalks (entry (held unit kinds os)) (2 * length kinds) (2 * (q + 1)) (rounded (entry (held unit kinds xs)) q)
    walks = rounded-least (entry (held unit kinds os)) (entry (held unit kinds xs)) (length kinds) q l p.walks r.sound

    -- the round gives a slot's two diagonal entries one bound
    rounded-diagonal : (h : ℕ) → h < length kinds → rounded (entry (held unit kinds xs)) q (2 * h) (2 * h) ≡ rounded (entry (held unit kinds xs)) q (2 * h + 1) (2 * h + 1)
    rounded-diagonal h m =
        let a : 2 * h < 2 * length kinds = omega arith in
        let b : 2 * h + 1 < 2 * length kinds = omega arith in
        walk-one (entry (held unit kinds os)) (2 * (q + 1)) (2 * h + 1) (2 * h + 1) _ _
        (least-mirrored (entry (held unit kinds os)) (length kinds) (q + 1) (entry-coherent (held unit kinds os) im) (omega arith) (2 * h + 1) (2 * h + 1) b b (rounded (entry (held unit kinds xs)) q (2 * h) (2 * h))
        (subst (λ k. IsLeastWalk (entry (held unit kinds os)) (2 * (q + 1)) k k (rounded (entry (held unit kinds xs)) q (2 * h) (2 * h))) (sym (flip-second unit room h)) (walks (2 * h) (2 * h) a a)))
        (walks (2 * h + 1) (2 * h + 1) b b)

    next-matrix : length ys ≡ length xs → IsMatrix (held unit kinds ys)
    next-matrix e = record {
      few = im.few;
      fits = length-map ys (wide unit) ∙ e ∙ sym (length-map xs (wide unit)) ∙ p.matrix.fits;
      diagonal = λ h m. r.kept (2 * h) (2 * h) (omega arith) (omega arith) ∙ rounded-diagonal h m ∙ sym (r.kept (2 * h + 1) (2 * h + 1) (omega arith) (omega arith));
    }

    next-kept : (i j : ℕ) → i < 2 * length kinds → j < row_width i → entry (held unit kinds ys) i j ≡ round_entry (entry (held unit kinds xs)) q i j
    next-kept i j hi w = r.kept i j hi w ∙ elim (cases_eq i j) [
      | inl e ↦ sym (rw (eq-eqb i j e) (even i hi) ∙ ap (rounded (entry (held unit kinds xs)) q i) e)
      | inr e ↦ sym (rw (ne_eqb i j e) refl)
    ]
      where
        even : (i : ℕ) → i < 2 * length kinds → rounded (entry (held unit kinds xs)) q (2 * (i / 2)) (2 * (i / 2)) ≡ rounded (entry (held unit kinds xs)) q i i
        even i hi = elim (parity i) [
          | inl s ↦ let k : 2 * (i / 2) ≡ i = omega arith in ap (λ k. rounded (entry (held unit kinds xs)) q k k) k
          | inr s ↦ let k : 2 * (i / 2) + 1 ≡ i = omega arith in rounded-diagonal (i / 2) (omega arith) ∙ ap (λ k. rounded (entry (held unit kinds xs)) q k k) k
        ]

    pub next-rounded : length ys ≡ length xs → IsRounded (held unit kinds os) (held unit kinds ys) (q + 1)
    next-rounded e = IsRounded-next (held unit kinds os) (held unit kinds xs) (held unit kinds ys) q l im p (next-matrix e) refl r.sound next-kept

  -- the diagonal is 0 or more where its even entries are
  pub diagonal-sound : (m : HalfMatrix) → IsMatrix m → ((h : ℕ) → h < length m.kinds → AtMost (Some (pos 0)) (entry m (2 * h) (2 * h))) → IsDiagonalSound (nodes m) (entry m)
  diagonal-sound m t z i hi = elim (parity i) [
    | inl s ↦ let k : 2 * (i / 2) ≡ i = omega arith in subst (λ k. AtMost (Some (pos 0)) (entry m k k)) k (z (i / 2) (omega arith))
    | inr s ↦ let k : 2 * (i / 2) + 1 ≡ i = omega arith in
        subst (λ k. AtMost (Some (pos 0)) (entry m k k)) k (subst (AtMost (Some (pos 0))) (t.diagonal (i / 2) (omega arith)) (z (i / 2) (omega arith)))
  ]

  pub narrow-size : (kinds : List Bool) (xs : List ℤ) → IsNarrow unit kinds xs → length xs ≡ row_start (2 * length kinds)
  narrow-size kinds xs t = sym (length-map xs (wide unit)) ∙ t.matrix.fits ∙ sym (row_start-double (length kinds))
