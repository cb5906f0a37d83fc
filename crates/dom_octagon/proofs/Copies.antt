-- The slots of a frame that is entered: those that are copied keep the triangle law of the caller's matrix.
use Rattle.std.specs.Prelude.{◌≡◌, ℕ, ◌+◌, ◌*◌, ◌/◌, ◌%◌, ℤ, pos, Option, Some, None, List, slice_get, refl}
use Rattle.std.proofs.Common.{arith, ap, sym, ◌∙◌, subst, inl, inr}
use Rattle.std.proofs.lemmas.Bool.{cases_eq, cases_lt, eq-eqb, ne_eqb}
use Rattle.dbm_core.proofs.HalfLemmas.{entry-outside}
use Rattle.dbm_core.specs.Half.{HalfMatrix, IsMatrix, entry, nodes}
use Rattle.dbm_core.specs.Weights.{AtMost, add_weight}
use Rattle.dbm_incremental.proofs.KeepLemmas.{closed-diagonal, add_zero, zero_add}
use Rattle.dbm_incremental.specs.ClosedMatrices.{IsClosed, IsWhole}
use Rattle.dom_octagon_meaning.specs.declared.source.ArgumentSource.{ArgumentSource}
use Rattle.dom_octagon_meaning.specs.declared.source.ArgumentSource.TheVariants.{FromSlot, InRange}
use Rattle.dom_octagon_meaning.specs.Operations.{copied, entered}

-- ---- the sources of slots

abbrev pub source_block : ℕ → Option ArgumentSource → ℕ
source_block k (Some (FromSlot x)) = 0
source_block k None = 1
source_block k (Some (InRange r)) = k + 2

abbrev pub block : List ArgumentSource → ℕ → ℕ
block ss i = source_block (i / 2) (slice_get ss (i / 2))

abbrev pub IsRanged : Option ArgumentSource → Type 0
IsRanged (Some (FromSlot x)) = ⊥
IsRanged None = ⊥
IsRanged (Some (InRange r)) = Unit {0}

pub copy-block : (k : ℕ) (s : Option ArgumentSource) → source_block k s ≡ 0 → (x : ℕ) × (s ≡ Some (FromSlot x))
copy-block k (Some (FromSlot x)) e = (x, refl)
copy-block k None e = absurd (omega (arith, e))
copy-block k (Some (InRange r)) e = absurd (omega (arith, e))

pub zero-block : (k : ℕ) (s : Option ArgumentSource) → source_block k s ≡ 1 → s ≡ None
zero-block k (Some (FromSlot x)) e = absurd (omega (arith, e))
zero-block k None e = refl
zero-block k (Some (InRange r)) e = absurd (omega (arith, e))

pub range-block : (k q : ℕ) (s : Option ArgumentSource) → source_block k s ≡ q + 2 → k ≡ q
range-block k q (Some (FromSlot x)) e = absurd (omega (arith, e))
range-block k q None e = absurd (omega (arith, e))
range-block k q (Some (InRange r)) e = omega (arith, e)

pub copied-none : (m : HalfMatrix) (i j : ℕ) (s t : Option ArgumentSource) → (source_block (i / 2) s ≡ source_block (j / 2) t → ⊥) → copied m i j s t ≡ None
copied-none m i j (Some (FromSlot x)) (Some (FromSlot y)) n = absurd (n refl)
copied-none m i j (Some (FromSlot x)) (Some (InRange r)) n = refl
copied-none m i j (Some (FromSlot x)) None n = refl
copied-none m i j (Some (InRange r)) t n = refl
copied-none m i j None (Some t) n = refl
copied-none m i j None None n = absurd (n refl)

pub entered-same : (m : HalfMatrix) (ss : List ArgumentSource) (i : ℕ) → entered m ss i i ≡ Some (pos 0)
entered-same m ss i = rw (eq-eqb i i refl) refl

pub entered-copied : (m : HalfMatrix) (ss : List ArgumentSource) (i j : ℕ) → (i ≡ j → ⊥) → entered m ss i j ≡ copied m i j (slice_get ss (i / 2)) (slice_get ss (j / 2))
entered-copied m ss i j n = rw (ne_eqb i j n) refl

-- ---- the entries of the caller's matrix, at any numbers

pub none_right : (a b : Option ℤ) → b ≡ None → add_weight a b ≡ None
none_right None b e = refl
none_right (Some x) b e = rw e refl

pub triangle-anywhere : (m : HalfMatrix) → IsMatrix m → IsWhole m → (a b c : ℕ) → AtMost (entry m a c) (add_weight (entry m a b) (entry m b c))
triangle-anywhere m h t a b c = elim (cases_lt a (nodes m)) [
  | inl p ↦ elim (cases_lt b (nodes m)) [
    | inl q ↦ elim (cases_lt c (nodes m)) [
      | inl r ↦ t a b c p q r
      | inr r ↦ subst (AtMost (entry m a c)) (sym (none_right (entry m a b) (entry m b c) (entry-outside m h b c (inr r)))) tt
    ]
    | inr q ↦ subst (λ v. AtMost (entry m a c) (add_weight v (entry m b c))) (sym (entry-outside m h a b (inr q))) tt
  ]
  | inr p ↦ subst (λ v. AtMost (entry m a c) (add_weight v (entry m b c))) (sym (entry-outside m h a b (inl p))) tt
]

pub back-anywhere : (m : HalfMatrix) → IsClosed m → IsWhole m → (a b : ℕ) → AtMost (Some (pos 0)) (add_weight (entry m a b) (entry m b a))
back-anywhere m h t a b = elim (cases_lt a (nodes m)) [
  | inl p ↦ subst (λ v. AtMost v (add_weight (entry m a b) (entry m b a))) (closed-diagonal m h a p) (triangle-anywhere m h.1.matrix t a b a)
  | inr p ↦ subst (λ v. AtMost (Some (pos 0)) (add_weight v (entry m b a))) (sym (entry-outside m h.1.matrix a b (inl p))) tt
]

-- among the slots that are copied
pub copies-triangular : (m : HalfMatrix) (ss : List ArgumentSource) (i k j x y z : ℕ) → IsClosed m → IsWhole m → slice_get ss (i / 2) ≡ Some (FromSlot x) → slice_get ss (k / 2) ≡ Some (FromSlot y) → slice_get ss (j / 2) ≡ Some (FromSlot z) →
    AtMost (entered m ss i j) (add_weight (entered m ss i k) (entered m ss k j))
copies-triangular m ss i k j x y z h t p q r = elim (cases_eq i k) [
  | inl e ↦ subst (λ a. AtMost (entered m ss i j) (add_weight (entered m ss i a) (entered m ss a j))) e (subst (λ v. AtMost (entered m ss i j) (add_weight v (entered m ss i j))) (sym (entered-same m ss i)) (add_zero (entered m ss i j)))
  | inr n ↦ elim (cases_eq k j) [
    | inl e ↦ subst (λ a. AtMost (entered m ss i j) (add_weight (entered m ss i a) (entered m ss a j))) (sym e) (subst (λ v. AtMost (entered m ss i j) (add_weight (entered m ss i j) v)) (sym (entered-same m ss j)) (zero_add (entered m ss i j)))
    | inr l ↦ elim (cases_eq i j) [
      | inl e ↦ subst (λ a. AtMost (entered m ss i a) (add_weight (entered m ss i k) (entered m ss k a))) e
          (subst (λ v. AtMost v (add_weight (entered m ss i k) (entered m ss k i))) (sym (entered-same m ss i))
          (subst (λ v. AtMost (Some (pos 0)) (add_weight v (entered m ss k i))) (sym (at i k x y n p q))
          (subst (λ v. AtMost (Some (pos 0)) (add_weight (entry m (2 * x + i % 2) (2 * y + k % 2)) v)) (sym (at k i y x (λ g. n (sym g)) q p)) (back-anywhere m h t (2 * x + i % 2) (2 * y + k % 2)))))
      | inr o ↦ subst (λ v. AtMost v (add_weight (entered m ss i k) (entered m ss k j))) (sym (at i j x z o p r))
          (subst (λ v. AtMost (entry m (2 * x + i % 2) (2 * z + j % 2)) (add_weight v (entered m ss k j))) (sym (at i k x y n p q))
          (subst (λ v. AtMost (entry m (2 * x + i % 2) (2 * z + j % 2)) (add_weight (entry m (2 * x + i % 2) (2 * y + k % 2)) v)) (sym (at k j y z l q r))
          (triangle-anywhere m h.1.matrix t (2 * x + i % 2) (2 * y + k % 2) (2 * z + j % 2))))
    ]
  ]
]
  where
    at : (a b u v : ℕ) → (a ≡ b → ⊥) → slice_get ss (a / 2) ≡ Some (FromSlot u) → slice_get ss (b / 2) ≡ Some (FromSlot v) → entered m ss a b ≡ entry m (2 * u + a % 2) (2 * v + b % 2)
    at a b u v n e f = entered-copied m ss a b n ∙ ap (λ s. copied m a b s (slice_get ss (b / 2))) e ∙ ap (copied m a b (Some (FromSlot u))) f
