-- The entries determine the matrix.
use Rattle.std.specs.Prelude.{◌≡◌, ℕ, ◌<◌, ◌+◌, ◌-◌, ◌*◌, ℤ, Option, None, Bool, List, length}
use Rattle.std.proofs.Common.{arith, ap, sym, ◌∙◌, zero, suc, inl, inr, get_or, subst}
use Rattle.std.proofs.lemmas.Bool.{cases_lt}
use Rattle.std.proofs.lemmas.List.{same_lists, get_or_default}
use Rattle.dbm_core.proofs.HalfLemmas.{entry-coherent, entry-kept, flip-kept, place-within, row_start-double}
use Rattle.dbm_core.proofs.NodeLemmas.{flip_below}
use Rattle.dbm_core.specs.Half.{HalfMatrix, HasEntries, IsMatrix, entry, nodes, row_start, row_width}
use Rattle.dbm_core.specs.Nodes.{flip}

-- every place of the list is that of a kept pair
pub pair_at : (r p : ℕ) → p < row_start r → (i j : ℕ) × ((i < r) × (j < row_width i) × (p ≡ row_start i + j))
pair_at zero p l = absurd (omega arith)
pair_at (suc r) p l = elim (cases_lt p (row_start r)) [
  | inl q ↦ let s : (i j : ℕ) × ((i < r) × (j < row_width i) × (p ≡ row_start i + j)) = pair_at r p q in
      let b : s.0 < r = s.2.0 in (s.0, s.1, (omega arith, s.2.1, s.2.2))
  | inr q ↦ (r, p - row_start r, (omega arith, omega arith, omega arith))
]

-- what holds of each bound of the list holds of each entry
pub places-hold : (P : Option ℤ → Type 0) (m : HalfMatrix) → IsMatrix m → ((p : ℕ) → p < length m.kept → P (get_or m.kept p None)) → (i j : ℕ) → i < nodes m → j < nodes m → P (entry m i j)
places-hold P m t h i j hi hj = elim (cases_lt j (row_width i)) [
  | inl w ↦ at i j hi w
  | inr w ↦ subst P (sym (entry-coherent m t i j hi hj)) (at (flip j) (flip i) (flip_below j (length m.kinds) hj) (flip-kept i j w))
]
  where
    at : (i j : ℕ) → i < nodes m → j < row_width i → P (entry m i j)
    at i j hi w = subst P (sym (entry-kept m i j w)) (h (row_start i + j) (omega (arith, t.fits, place-within (length m.kinds) i j hi w)))

-- each bound of the list is an entry
pub place-entry : (m : HalfMatrix) → IsMatrix m → (p : ℕ) → p < length m.kept → (i j : ℕ) × ((i < nodes m) × (j < nodes m) × (get_or m.kept p None ≡ entry m i j))
place-entry m t p l =
    let q : (i j : ℕ) × ((i < nodes m) × (j < row_width i) × (p ≡ row_start i + j)) = pair_at (nodes m) p (omega (arith, t.fits, row_start-double (length m.kinds), l)) in
    let i : q.0 < nodes m = q.2.0 in
    let w : q.1 < row_width q.0 = q.2.1 in
    (q.0, q.1, (i, omega (arith, i, w), ap (λ k. get_or m.kept k None) q.2.2 ∙ sym (entry-kept m q.0 q.1 w)))

pub entries-determine : (a b : HalfMatrix) → IsMatrix a → IsMatrix b → a.kinds ≡ b.kinds → ((i j : ℕ) → i < nodes a → j < nodes a → entry a i j ≡ entry b i j) → a ≡ b
entries-determine a b p q k h = ap (λ k. make k a.kept) k ∙ ap (λ n. make b.kinds n) kept
  where
    make : List Bool → List (Option ℤ) → HalfMatrix
    make k n = record { kinds = k; kept = n }

    slots : length a.kinds ≡ length b.kinds
    slots = ap length k

    size : length a.kept ≡ length b.kept
    size = p.fits ∙ ap (λ n. 2 * (n * (n + 1))) slots ∙ sym q.fits

    at_pair : (i j : ℕ) → i < nodes a → j < row_width i → get_or a.kept (row_start i + j) None ≡ get_or b.kept (row_start i + j) None
    at_pair i j l w = sym (entry-kept a i j w) ∙ h i j l (omega arith) ∙ entry-kept b i j w

    at_place : (n : ℕ) → n < length a.kept → get_or a.kept n None ≡ get_or b.kept n None
    at_place n l =
        let s : (i j : ℕ) × ((i < nodes a) × (j < row_width i) × (n ≡ row_start i + j)) = pair_at (nodes a) n (omega (arith, p.fits, row_start-double (length a.kinds))) in
        rw s.2.2 (at_pair s.0 s.1 s.2.0 s.2.1)

    kept : a.kept ≡ b.kept
    kept = same_lists a.kept b.kept size (λ n d l. get_or_default a.kept n d None l ∙ at_place n l ∙ get_or_default b.kept n None d (omega (arith, size)))

-- so a contract by `HasEntries` says which matrix it is
pub HasEntries-one : (kinds : List Bool) (f : ℕ → ℕ → Option ℤ) (a b : HalfMatrix) → HasEntries kinds f a → HasEntries kinds f b → a ≡ b
HasEntries-one kinds f a b p q = entries-determine a b p.matrix q.matrix (p.same_kinds ∙ sym q.same_kinds)
    (λ i j hi hj. let n : length a.kinds ≡ length kinds = ap length p.same_kinds in
    let li : i < 2 * length kinds = omega arith in let lj : j < 2 * length kinds = omega arith in p.entries i j li lj ∙ sym (q.entries i j li lj))
