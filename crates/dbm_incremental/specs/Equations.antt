-- A slot that is a node of another slot plus a number.
use Rattle.std.specs.Prelude.{ℕ, ℤ, pos, neg_ℤ, ◌+◌, ◌*◌, ◌-ℤ◌, Option, Some, cond, eqb}
use Rattle.dbm_close.specs.Close.{IsCloseOf}
use Rattle.dbm_close.specs.declared.closed.Closed.{Closed}
use Rattle.dbm_core.specs.Half.{HalfMatrix, HasEntries, entry}
use Rattle.dbm_core.specs.Nodes.{flip}
use Rattle.dbm_core.specs.Operations.{forgotten, lowered}
use Rattle.dbm_core.specs.Weights.{add_weight}

-- the node that node i stands for, where slot q stands for y
abbrev pub stand_node : ℕ → ℕ → ℕ → ℕ
stand_node q y i = cond (eqb i (2 * q)) y (cond (eqb i (2 * q + 1)) (flip y) i)

-- what is added to that
abbrev pub stand_shift : ℕ → ℤ → ℕ → ℤ
stand_shift q c i = cond (eqb i (2 * q)) c (cond (eqb i (2 * q + 1)) (neg_ℤ c) (pos 0))

-- the bound between what two nodes stand for
abbrev pub stood_entry : (ℕ → ℕ → Option ℤ) → ℕ → ℕ → ℤ → ℕ → ℕ → Option ℤ
stood_entry d q y c i j = add_weight (d (stand_node q y i) (stand_node q y j)) (Some (stand_shift q c j -ℤ stand_shift q c i))

-- the bounds on slot q dropped, and the equation added: its value is node y's plus c
abbrev pub equated : (ℕ → ℕ → Option ℤ) → ℕ → ℕ → ℤ → ℕ → ℕ → Option ℤ
equated d q y c = lowered (lowered (forgotten d q) y (2 * q) c) (2 * q) y (neg_ℤ c)

-- a is what closing answers of m with that equation in the place of q's bounds
abbrev pub ClosesEquated : HalfMatrix → ℕ → ℕ → ℤ → Closed → Type 0
ClosesEquated m q y c a = (t : HalfMatrix) → HasEntries m.kinds (equated (entry m) q y c) t → IsCloseOf t a
