-- Names whose inputs are asked for one at a time, each by the values of those before it.
use Rattle.std.specs.Prelude.{◌≡◌, ℕ, zero, suc, ◌<◌, ◌≤◌, Bool, true, List, [], ◌∷◌, ◌++◌, map, length, Option, Some, None}
use Rattle.daig_order.specs.Order.{System}

-- a row for each name: its next input by the values of those found so far, its value by the values of all,
-- at most how many are asked for, and a number above those of its inputs
pub record Rows (T V : Type 0) : Type 0 where
  pub same : T → T → Bool
  pub asks : T → List V → Option T
  pub operation : T → List V → V
  pub most : T → ℕ
  pub rank : T → ℕ

-- names are told apart, no name leads back to itself, and the asking ends
pub record AreRows {T V : Type 0} (t : Rows T V) : Type 0 where
  pub same_true : (x y : T) → t.same x y ≡ true → x ≡ y
  pub same_refl : (x : T) → t.same x x ≡ true
  pub falls : (x y : T) (vs : List V) → t.asks x vs ≡ Some y → t.rank y < t.rank x
  pub ends : (x : T) (vs : List V) → t.most x ≤ length vs → t.asks x vs ≡ None

-- the names asked for one after another, where `value` answers: at most n more, after those whose values are vs
abbrev pub gather_next : {T V : Type 0} → (T → V) → (List V → List T) → List V → Option T → List T
gather_next value rest vs None = []
gather_next value rest vs (Some y) = y ∷ rest (vs ++ value y ∷ [])

unfoldable pub gather : {T V : Type 0} → (T → V) → (List V → Option T) → ℕ → List V → List T
gather value asks zero vs = []
gather value asks (suc n) vs = gather_next value (gather value asks n) vs (asks vs)

module _ {T V : Type 0} (t : Rows T V) where
  -- the value of a name, by recursion on its inputs
  unfoldable pub value_at : ℕ → T → V
  value_at zero x = t.operation x []
  value_at (suc fuel) x = t.operation x (map (value_at fuel) (gather (value_at fuel) (t.asks x) (t.most x) []))

  unfoldable pub value_of : T → V
  value_of x = value_at (suc (t.rank x)) x

  -- the names that it asks for in the end
  unfoldable pub inputs_of : T → List T
  inputs_of x = gather value_of (t.asks x) (t.most x) []

  -- the names and their inputs, without the values
  abbrev pub system_of : System T
  system_of = record { same = t.same; inputs = inputs_of; rank = t.rank }

-- two programs have the same row for a name
pub record SameRow {T V : Type 0} (t u : Rows T V) (x : T) : Type 0 where
  pub asks : (vs : List V) → t.asks x vs ≡ u.asks x vs
  pub operation : (vs : List V) → t.operation x vs ≡ u.operation x vs
  pub most : t.most x ≡ u.most x
