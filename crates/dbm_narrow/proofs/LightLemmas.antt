-- Arrays of 32 entries fit in memory.
use Rattle.std.specs.Prelude.{ℕ, ◌<◌, ◌≤◌, ◌+◌, ◌-◌, ◌*◌, ◌%◌, ◌^◌, max}
use Rattle.std.proofs.Common.{arith}
use Rattle.std.proofs.Math.Nat.{mod-le}
use denote.Param.{layout}
use denote.RattleType.{RattleType}
use prog.Memory.{align, pad, size, up}
use Rattle.dbm_narrow.specs.Widths.{IsLight}

pad-le : (k e : ℕ) → pad k e ≤ k
pad-le k e = omega (arith, mod-le (k - e % k) k)

fits : (a s : ℕ) → a ≤ 16 → s ≤ 16 → 32 * up (max a 1) (up a 0 + s) < 2 ^ 63
fits a s h l = omega (arith, pad-le a 0, pad-le (max a 1) (up a 0 + s))

pub rows-fit : (R : RattleType) → IsLight R → 32 * up (max (align (layout R)) 1) (up (align (layout R)) 0 + size (layout R)) < 2 ^ 63
rows-fit R l = fits (align (layout R)) (size (layout R)) l.1 l.0
