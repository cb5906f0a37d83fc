-- What a row asked for, was given and made: the constructive traces of Mokhov, Mitchell and Peyton Jones, Build Systems
-- à la Carte, ICFP 2018.
use Rattle.std.specs.Prelude.{◌≡◌, ℕ, ◌≤◌, List, length, take, slice_get}
use Rattle.daig_order.specs.Asking.{Rows}

-- The row asked for these names, one after another, and for no more; it was given these values, and made this value of them.
pub record IsTrace {T V : Type 0} (t : Rows T V) (x : T) (xs : List T) (vs : List V) (v : V) : Type 0 where
  pub many : length xs ≡ length vs
  pub asked : (k : ℕ) → k ≤ length xs → t.asks x (take k vs) ≡ slice_get xs k
  pub value : v ≡ t.operation x vs
