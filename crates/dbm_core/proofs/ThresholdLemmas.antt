-- The next threshold is the least that is not less than the bound.
use Rattle.std.specs.Prelude.{◌≡◌, ℕ, ℤ, pos, ◌≤ℤ◌, ◌<ℤ◌, Option, Some, None, Bool, true, false, cond, int_lt, List, [], ◌∷◌, ◌<◌, ◌+◌, length, refl}
use Rattle.std.proofs.Common.{arith, ap, sym, subst, inl, inr, ◌∙◌, get_or, drop, suc, add-one}
use Rattle.std.proofs.Math.Seq.{drop-cons}
use Rattle.std.proofs.lemmas.Int.{ints}
use Rattle.dbm_core.specs.Weights.{AtMost, least}
use Rattle.dbm_core.proofs.WeightLemmas.{least-assoc, least-cases}
use Rattle.dbm_core.specs.Limits.{IsWithin}
use Rattle.dbm_core.specs.Operations.{threshold_value, next_threshold, IsNextThreshold, NextThresholdIsLeast}
use Rattle.base_values.proofs.Integers.{crossed, at_most, equal_at_most}

pub by_order : (P : Bool → Type 0) (x y : ℤ) → (x <ℤ y → P true) → (y ≤ℤ x → P false) → P (int_lt x y)
by_order P x y p q = go (int_lt x y) refl
  where
    go : (b : Bool) → int_lt x y ≡ b → P b
    go true e = p (grind (arith, ints))
    go false e = q (grind (arith, ints))

pub under : (a b : ℤ) → a <ℤ b → a ≤ℤ b
under a b p = omega (arith, ints)

-- a threshold that is less than the bound before changes nothing
skipped : (m : ℤ) (ms : List ℤ) (d : Bool) (x : ℤ) (o : Option ℤ) → IsNextThreshold ms d x o → threshold_value d m <ℤ x → IsNextThreshold (m ∷ ms) d x o
skipped m ms d x None h l = λ k i. elim i [
  | inl e ↦ subst (λ t. threshold_value d t <ℤ x) (sym e) l
  | inr j ↦ h k j
]
skipped m ms d x (Some v) h l = (
  (h.0.0, inr h.0.1, h.0.2),
  (
    h.1.0,
    λ k i q. elim i [
      | inl e ↦ absurd (crossed (threshold_value d m) x l (subst (λ t. x ≤ℤ threshold_value d t) e q))
      | inr j ↦ h.1.1 k j q
    ],
  ),
)

-- any other threshold before is the next one, where no later one is smaller
kept : (m : ℤ) (ms : List ℤ) (d : Bool) (x : ℤ) (o : Option ℤ) → IsNextThreshold ms d x o → x ≤ℤ threshold_value d m → IsNextThreshold (m ∷ ms) d x (least (Some (threshold_value d m)) o)
kept m ms d x None h l = (
  (m, inl refl, refl),
  (
    l,
    λ k i q. elim i [
      | inl e ↦ equal_at_most (threshold_value d m) (threshold_value d k) (ap (threshold_value d) (sym e))
      | inr j ↦ absurd (crossed (threshold_value d k) x (h k j) q)
    ],
  ),
)
kept m ms d x (Some w) h l = by_order (λ b. IsNextThreshold (m ∷ ms) d x (Some (cond b w (threshold_value d m)))) w (threshold_value d m)
    (λ p. (
      (h.0.0, inr h.0.1, h.0.2),
      (
        h.1.0,
        λ k i q. elim i [
          | inl e ↦ at_most w (threshold_value d m) (threshold_value d k) (under w (threshold_value d m) p) (equal_at_most (threshold_value d m) (threshold_value d k) (ap (threshold_value d) (sym e)))
          | inr j ↦ h.1.1 k j q
        ],
      ),
    ))
    (λ p. (
      (m, inl refl, refl),
      (
        l,
        λ k i q. elim i [
          | inl e ↦ equal_at_most (threshold_value d m) (threshold_value d k) (ap (threshold_value d) (sym e))
          | inr j ↦ at_most (threshold_value d m) w (threshold_value d k) p (h.1.1 k j q)
        ],
      ),
    ))

pub next_threshold-is-least : NextThresholdIsLeast
next_threshold-is-least [] d x = λ k i. absurd i
next_threshold-is-least (m ∷ ms) d x = by_order (λ v. IsNextThreshold (m ∷ ms) d x (cond v (next_threshold ms d x) (least (Some (threshold_value d m)) (next_threshold ms d x)))) (threshold_value d m) x
    (λ l. skipped m ms d x (next_threshold ms d x) (next_threshold-is-least ms d x) l)
    (λ l. kept m ms d x (next_threshold ms d x) (next_threshold-is-least ms d x) l)

pub next_threshold-above : (ms : List ℤ) (d : Bool) (x : ℤ) → AtMost (Some x) (next_threshold ms d x)
next_threshold-above ms d x = go (next_threshold ms d x) (next_threshold-is-least ms d x)
  where
    go : (o : Option ℤ) → IsNextThreshold ms d x o → AtMost (Some x) o
    go None h = tt
    go (Some v) h = h.1.0

-- a threshold before, taken in where it is not less than the bound
pub next_threshold-cons : (next : Option ℤ) (m : ℤ) (ms : List ℤ) (d : Bool) (x : ℤ) →
    least (cond (int_lt (threshold_value d m) x) next (least next (Some (threshold_value d m)))) (next_threshold ms d x) ≡ least next (next_threshold (m ∷ ms) d x)
next_threshold-cons next m ms d x = elim (int_lt (threshold_value d m) x)
    as (λ v. least (cond v next (least next (Some (threshold_value d m)))) (next_threshold ms d x) ≡ least next (cond v (next_threshold ms d x) (least (Some (threshold_value d m)) (next_threshold ms d x)))) [
      | true ↦ refl
      | false ↦ least-assoc next (Some (threshold_value d m)) (next_threshold ms d x)
    ]

-- one more threshold read
pub next_threshold-push : (next r : Option ℤ) (thresholds : List ℤ) (k : ℕ) (d : Bool) (x v : ℤ) (t : Option ℤ) → k < length thresholds → v ≡ threshold_value d (get_or thresholds k (pos 0)) →
    r ≡ cond (int_lt v x) next (least next (Some v)) → least next (next_threshold (drop k thresholds) d x) ≡ t → least r (next_threshold (drop (k + 1) thresholds) d x) ≡ t
next_threshold-push next r thresholds k d x v t l e f g =
    ap (λ o. least o (next_threshold (drop (k + 1) thresholds) d x)) (f ∙ ap (λ z. cond (int_lt z x) next (least next (Some z))) e)
    ∙ ap (λ n. least (cond (int_lt (threshold_value d (get_or thresholds k (pos 0))) x) next (least next (Some (threshold_value d (get_or thresholds k (pos 0)))))) (next_threshold (drop n thresholds) d x)) (add-one k)
    ∙ next_threshold-cons next (get_or thresholds k (pos 0)) (drop (suc k) thresholds) d x
    ∙ ap (λ ms. least next (next_threshold ms d x)) (sym (drop-cons thresholds k (pos 0) l))
    ∙ g

pub nearer-within : (b : ℕ) (t : Bool) (next : Option ℤ) (v : ℤ) → IsWithin b next → IsWithin b (Some v) → IsWithin b (cond t next (least next (Some v)))
nearer-within b true next v p q = p
nearer-within b false next v p q = least-cases (IsWithin b) next (Some v) p q
