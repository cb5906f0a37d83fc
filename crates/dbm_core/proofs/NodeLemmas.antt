use Rattle.std.specs.Prelude.{◌≡◌, ℕ, eqb, ◌/◌, ◌<◌, ◌+◌, ◌-◌, ◌*◌, ◌%◌, ◌⊎◌}
use Rattle.std.proofs.Common.{arith, inl, inr}
use Rattle.std.proofs.lemmas.Bool.Decides.{nat_tests}
use Rattle.std.proofs.lemmas.Bool.{cases_eq}
use Rattle.dbm_core.specs.Nodes.{flip, is_single}

pub flip-same : (i j : ℕ) → eqb i j ≡ eqb (flip j) (flip i)
flip-same i j = grind (arith, nat_tests)

pub single-flip : (i j : ℕ) → is_single i j ≡ is_single (flip j) (flip i)
single-flip i j = grind (arith, nat_tests)

pub flip-half : (i : ℕ) → flip i / 2 ≡ i / 2
flip-half i = grind (arith, nat_tests)

pub flip-even : (i : ℕ) → i % 2 ≡ 0 → flip i ≡ i + 1
flip-even i h = grind (arith, nat_tests)

pub flip-odd : (i : ℕ) → i % 2 ≡ 1 → flip i ≡ i - 1
flip-odd i h = grind (arith, nat_tests)

pub parity : (i : ℕ) → (i % 2 ≡ 0) ⊎ (i % 2 ≡ 1)
parity i = let h : i % 2 < 2 = omega arith in elim (cases_eq (i % 2) 0) [ inl e ↦ inl e | inr e ↦ inr (omega arith) ]

pub flip-flip : (i : ℕ) → flip (flip i) ≡ i
flip-flip i = elim (parity i) [
  | inl e ↦ rw (flip-even i e) (let q : (i + 1) % 2 ≡ 1 = omega arith in rw (flip-odd (i + 1) q) (omega arith))
  | inr e ↦ rw (flip-odd i e) (let q : (i - 1) % 2 ≡ 0 = omega arith in rw (flip-even (i - 1) q) (omega arith))
]

pub flip_below : (i h : ℕ) → i < 2 * h → flip i < 2 * h
flip_below i h l = elim (parity i) [
  | inl e ↦ rw (flip-even i e) (omega arith)
  | inr e ↦ rw (flip-odd i e) (omega arith)
]
