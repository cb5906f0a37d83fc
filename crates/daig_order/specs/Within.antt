-- A system on the names that have cells, and no others: the one whose edges are stored.
use Rattle.std.specs.Prelude.{◌≡◌, ℕ, ◌≤◌, Bool, true, false, List, []}
use Rattle.daig_order.specs.Order.{System, member}

-- other names have no inputs
abbrev pub inputs_if : {T : Type 0} → Bool → List T → List T
inputs_if true xs = xs
inputs_if false xs = []

abbrev pub within : {T : Type 0} → System T → (T → Bool) → System T
within s cells = record { same = s.same; inputs = λ x. inputs_if (cells x) (s.inputs x); rank = s.rank }

-- of each name these are the cells that use it; no cell ranks above the peak
pub record AreDependents {T : Type 0} (s : System T) (cells : T → Bool) (users : T → List T) (peak : ℕ) : Type 0 where
  pub uses : (x y : T) → member s.same (users x) y ≡ true → (cells y ≡ true) × (member s.same (s.inputs y) x ≡ true)
  pub used : (x y : T) → cells y ≡ true → member s.same (s.inputs y) x ≡ true → member s.same (users x) y ≡ true
  pub below : (y : T) → cells y ≡ true → s.rank y ≤ peak

-- these are the cells among those
pub record AreCellsOf {T : Type 0} (s : System T) (cells : T → Bool) (those : T → Type 0) (xs : List T) : Type 0 where
  pub only : (x : T) → member s.same xs x ≡ true → (cells x ≡ true) × those x
  pub all : (x : T) → cells x ≡ true → those x → member s.same xs x ≡ true
