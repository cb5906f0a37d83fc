-- Closing as a function of plain data, and that it is the one answer of `IsCloseOf`.
use Rattle.std.specs.Prelude.{◌≡◌, ℕ, ◌*◌, ◌^◌, ℤ, pos, neg_ℤ, int_lt, Option, Some, None, Bool, false, ◌||◌, if◌then◌else◌, List, length}
use Rattle.std.proofs.Common.{suc, zero}
use Rattle.dbm_close.specs.declared.closed.Closed.{Closed}
use Rattle.dbm_close.specs.declared.closed.Closed.TheVariants.{Empty, Matrix}
use Rattle.dbm_close.specs.Close.{IsCloseOf, closed_entry, slot_high, slot_low, strong}
use Rattle.dbm_close.specs.Laws.{IsLimitedAnswer, KeepsKinds, KeepsMeaning}
use Rattle.dbm_close.specs.Rounds.{through}
use Rattle.dbm_close.specs.Steps.{tightened}
use Rattle.dbm_core.specs.Half.{HalfMatrix, IsMatrix, entry, nodes}
use Rattle.dbm_core.specs.Limits.{IsZeroAtMost}
use Rattle.dbm_core.specs.Nodes.{flip}
use Rattle.dbm_core.specs.Tables.{matrix_of}
use Rattle.dbm_core.specs.Weights.{add_weight}

-- the least weights of the walks whose inner nodes are below b: R. W. Floyd, "Algorithm 97: Shortest Path", 1962
unfoldable pub least_below : (ℕ → ℕ → Option ℤ) → ℕ → ℕ → ℕ → Option ℤ
least_below w zero = w
least_below w (suc b) = through (least_below w b) b

-- whether p holds of a number below n
abbrev pub some_below : ℕ → (ℕ → Bool) → Bool
some_below zero p = false
some_below (suc n) p = p n || some_below n p

-- whether a bound is less than z
abbrev pub is_less : Option ℤ → ℤ → Bool
is_less None z = false
is_less (Some x) z = int_lt x z

-- steps 2 to 6, over the least weights s
unfoldable pub finish_of : List Bool → (ℕ → ℕ → Option ℤ) → Closed
finish_of kinds s =
    if some_below (2 * length kinds) (λ i. is_less (add_weight (tightened s i (flip i)) (tightened s (flip i) i)) (pos 0)) then Empty
    else (if some_below (2 * length kinds) (λ i. some_below (2 * length kinds) (λ j. is_less (strong s i j) (neg_ℤ (pos (2 ^ 64))))) then Empty
    else (if some_below (length kinds) (λ k. int_lt (slot_high kinds (closed_entry s) k) (slot_low kinds (closed_entry s) k)) then Empty
    else Matrix (matrix_of kinds (closed_entry s))))

-- what closing m answers
unfoldable pub close_of : HalfMatrix → Closed
close_of m =
    if some_below (nodes m) (λ i. is_less (least_below (entry m) (nodes m) i i) (pos 0)) then Empty
    else finish_of m.kinds (least_below (entry m) (nodes m))

-- where the diagonal is 0 or less, it is an answer of the six steps
abbrev pub CloseOfIsClose : Type 0
CloseOfIsClose = (m : HalfMatrix) → IsMatrix m → IsZeroAtMost (nodes m) (entry m) → IsCloseOf m (close_of m)

-- and they have no other
abbrev pub CloseOfIsOnly : Type 0
CloseOfIsOnly = (m : HalfMatrix) (c : Closed) → IsMatrix m → IsZeroAtMost (nodes m) (entry m) → IsCloseOf m c → c ≡ close_of m

-- what it keeps: the meaning, the kinds, the limits
pub record KeepsAll (m : HalfMatrix) (c : Closed) : Type 0 where
  pub meaning : KeepsMeaning m c
  pub kinds : KeepsKinds m c
  pub limited : IsLimitedAnswer c

abbrev pub CloseOfKeeps : Type 0
CloseOfKeeps = (m : HalfMatrix) → IsMatrix m → IsZeroAtMost (nodes m) (entry m) → KeepsAll m (close_of m)
