-- What arrays of entries take in memory.
use Rattle.std.specs.Prelude.{ℕ, ◌<◌, ◌≤◌, ◌+◌, ◌-◌, ◌*◌, ◌%◌}
use Rattle.std.proofs.Common.{arith}
use Rattle.std.proofs.Math.Nat.{mod-le}
use Prim.Native.Nat.{max}
use prog.Memory.{align, size, up}
use denote.Param.{layout}
use denote.RattleType.{RattleType}
use Rattle.dbm_narrow.specs.Widths.{IsLight}

-- rounding up adds at most the alignment
up-le : (k e : ℕ) → up k e ≤ e + k
up-le k e =
    let a : (k - e % k) % k ≤ k - e % k = mod-le (k - e % k) k in
    omega arith

max-le : (a b n : ℕ) → a ≤ n → b ≤ n → max a b ≤ n
max-le a b n h l = omega arith

-- how a number of this alignment and size is aligned in a struct of its own
abbrev own_align : RattleType → ℕ
own_align R = max (align (layout R)) 1

-- and what 32 of them take
abbrev pub row_size : RattleType → ℕ
row_size R = 32 * up (own_align R) (up (align (layout R)) 0 + size (layout R))

own-small : (R : RattleType) → IsLight R → own_align R ≤ 16
own-small R l = max-le (align (layout R)) 1 16 l.1 (omega arith)

row-small : (R : RattleType) → IsLight R → row_size R ≤ 2048
row-small R l =
    let s : size (layout R) ≤ 16 = l.0 in
    let a : align (layout R) ≤ 16 = l.1 in
    let b : up (align (layout R)) 0 ≤ 0 + align (layout R) = up-le (align (layout R)) 0 in
    let k : own_align R ≤ 16 = own-small R l in
    let c : up (own_align R) (up (align (layout R)) 0 + size (layout R)) ≤ (up (align (layout R)) 0 + size (layout R)) + own_align R = up-le (own_align R) (up (align (layout R)) 0 + size (layout R)) in
    omega arith

-- a row of 32 entries fits in memory
pub row-fits : (R : RattleType) → IsLight R → row_size R < 9223372036854775808
row-fits R l = let s : row_size R ≤ 2048 = row-small R l in omega arith

-- four rows one after another, each aligned
four : (k r m : ℕ) → k ≤ 16 → r ≤ 2048 → m ≤ 16 → up m (up k (up k (up k (up k 0 + r) + r) + r) + r) < 9223372036854775808
four k r m hk hr hm =
    let a : up k 0 ≤ 0 + k = up-le k 0 in
    let b : up k (up k 0 + r) ≤ (up k 0 + r) + k = up-le k (up k 0 + r) in
    let c : up k (up k (up k 0 + r) + r) ≤ (up k (up k 0 + r) + r) + k = up-le k (up k (up k 0 + r) + r) in
    let d : up k (up k (up k (up k 0 + r) + r) + r) ≤ (up k (up k (up k 0 + r) + r) + r) + k = up-le k (up k (up k (up k 0 + r) + r) + r) in
    let e : up m (up k (up k (up k (up k 0 + r) + r) + r) + r) ≤ (up k (up k (up k (up k 0 + r) + r) + r) + r) + m = up-le m (up k (up k (up k (up k 0 + r) + r) + r) + r) in
    omega arith

-- the bounds to and from the nodes of a slot do
pub middle-fits : (R : RattleType) → IsLight R →
    up (max (own_align R) (max (own_align R) (max (own_align R) (max (own_align R) 1)))) (up (own_align R) (up (own_align R) (up (own_align R) (up (own_align R) 0 + row_size R) + row_size R) + row_size R) + row_size R) < 9223372036854775808
middle-fits R l =
    let k : own_align R ≤ 16 = own-small R l in
    four (own_align R) (row_size R) (max (own_align R) (max (own_align R) (max (own_align R) (max (own_align R) 1)))) k (row-small R l)
    (max-le (own_align R) (max (own_align R) (max (own_align R) (max (own_align R) 1))) 16 k
    (max-le (own_align R) (max (own_align R) (max (own_align R) 1)) 16 k
    (max-le (own_align R) (max (own_align R) 1) 16 k
    (max-le (own_align R) 1 16 k (omega arith)))))
