-- Matrices of the same kinds, and the same matrices.
use Rattle.std.specs.Prelude.{◌≡◌, true}
use Rattle.std.proofs.Common.{sym}
use Rattle.dbm_core.specs.Half.{HalfMatrix}
use Rattle.dbm_core.specs.Same.{bools_Decide, same_matrix, same_matrix-Decides}
use Rattle.dom_octagon_meaning.specs.Operations.{same_kinds}

pub kinds_alike : (a b : HalfMatrix) → same_kinds a b ≡ true → b.kinds ≡ a.kinds
kinds_alike a b h = sym ((bools_Decide a.kinds b.kinds).0 h)

pub matrices_same : (a b : HalfMatrix) → same_matrix a b ≡ true → a ≡ b
matrices_same a b h = (same_matrix-Decides a b).0 h
