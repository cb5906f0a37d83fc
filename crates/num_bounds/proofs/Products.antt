-- Products: each within its corners, and the ends of the corners are products.
use Rattle.std.proofs.Common.{ℕ, suc, ◌*◌, ◌≤◌, ℤ, pos, negsuc, ◌≤ℤ◌, ◌*ℤ◌, int_lt, inl, inr, refl, arith}
use Rattle.std.proofs.Math.Nat.{mul-le-mul_right}
use Rattle.std.proofs.Math.IntN.{*ℤ-negsuc, *ℤ_comm}
use Rattle.std.proofs.lemmas.Int.{ints}
use Rattle.std.specs.Int.{int_max, int_min}
use Rattle.num_bounds.specs.Bounds.{Bounds, Within}
use Rattle.num_bounds.specs.Meaning.{CoversResults, IsTaken, AreEndsTaken}
use Rattle.num_bounds.specs.Operations.{word, products}
use Rattle.num_bounds.proofs.Ends.{word-covers}
use Rattle.num_bounds.proofs.Corners.{IsBetween, corners-hold}
use Rattle.base_values.proofs.Cases.{by_bool}

-- by a number that is not negative the product rises
rises : (x y : ℤ) (n : ℕ) → x ≤ℤ y → (x *ℤ pos n) ≤ℤ (y *ℤ pos n)
rises (pos a) (pos b) n h = let k : a * n ≤ b * n = mul-le-mul_right n (omega (arith, ints)) in omega (arith, ints)
rises (pos a) (negsuc b) n h = absurd (omega (arith, ints))
rises (negsuc a) (pos b) n h = omega (arith, ints)
rises (negsuc a) (negsuc b) n h = let k : suc b * n ≤ suc a * n = mul-le-mul_right n (omega (arith, ints)) in omega (arith, ints)

-- by a negative number it falls
falls : (x y : ℤ) (n : ℕ) → x ≤ℤ y → (y *ℤ negsuc n) ≤ℤ (x *ℤ negsuc n)
falls x y n h = let k = rises x y (suc n) h in rw (*ℤ-negsuc x n, *ℤ-negsuc y n) (omega (arith, ints))

between_lefts : (x y z n : ℤ) → x ≤ℤ y → y ≤ℤ z → IsBetween (x *ℤ n) (y *ℤ n) (z *ℤ n)
between_lefts x y z (pos n) p q = inl (rises x y n p, rises y z n q)
between_lefts x y z (negsuc n) p q = inr (falls y z n q, falls x y n p)

between_rights : (x y z n : ℤ) → x ≤ℤ y → y ≤ℤ z → IsBetween (n *ℤ x) (n *ℤ y) (n *ℤ z)
between_rights x y z n p q = rw (*ℤ_comm n x, *ℤ_comm n y, *ℤ_comm n z) (between_lefts x y z n p q)

pub products-sound : (a b : Bounds) → CoversResults ◌*ℤ◌ a b (word (products a b))
products-sound a b x y p q f =
    word-covers (products a b) (x *ℤ y)
    (corners-hold ◌*ℤ◌ a b x y
    (between_lefts a.lo x a.hi y p.0 p.1)
    (between_rights b.lo y b.hi a.lo q.0 q.1)
    (between_rights b.lo y b.hi a.hi q.0 q.1))
    f

-- the smaller and the greater of two results that are taken are taken
int_min-taken : (P : ℤ → Type 0) (u v : ℤ) → P u → P v → P (int_min u v)
int_min-taken P u v p q = by_bool (int_lt v u) (λ t. rw t q) (λ t. rw t p)

int_max-taken : (P : ℤ → Type 0) (u v : ℤ) → P u → P v → P (int_max u v)
int_max-taken P u v p q = by_bool (int_lt v u) (λ t. rw t p) (λ t. rw t q)

-- the ends of the range of products are products
pub products-best : (a b : Bounds) → a.lo ≤ℤ a.hi → b.lo ≤ℤ b.hi → AreEndsTaken a b
products-best a b p q =
    let P : ℤ → Type 0 = IsTaken ◌*ℤ◌ a b in
    let al : Within a.lo a = (omega (arith, ints), p) in
    let ah : Within a.hi a = (p, omega (arith, ints)) in
    let bl : Within b.lo b = (omega (arith, ints), q) in
    let bh : Within b.hi b = (q, omega (arith, ints)) in
    let ll : P (a.lo *ℤ b.lo) = (a.lo, b.lo, al, bl, refl) in
    let lh : P (a.lo *ℤ b.hi) = (a.lo, b.hi, al, bh, refl) in
    let hl : P (a.hi *ℤ b.lo) = (a.hi, b.lo, ah, bl, refl) in
    let hh : P (a.hi *ℤ b.hi) = (a.hi, b.hi, ah, bh, refl) in
    (int_min-taken P _ _ (int_min-taken P _ _ ll lh) (int_min-taken P _ _ hl hh), int_max-taken P _ _ (int_max-taken P _ _ ll lh) (int_max-taken P _ _ hl hh))
