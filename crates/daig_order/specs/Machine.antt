-- A machine on a stack that fills first missing inputs first: where the name on top lacks an input, the first such input is
-- pushed; else the name is filled and popped. With an empty stack it looks at the demanded names in the same way.
use Rattle.std.specs.Prelude.{◌≡◌, ℕ, ◌+◌, ◌-◌, ◌*◌, ◌<◌, ◌≤◌, Bool, true, false, List, [], ◌∷◌, ◌++◌, length, Option}
use Rattle.daig_order.specs.Order.{System, IsAcyclic, member, seen, fill_all}
use Rattle.daig_order.specs.Store.{has, Holds, missing_of}

-- each of these names has a rank below the bound
abbrev pub AreBelow : {T : Type 0} → System T → List T → ℕ → Type 0
AreBelow {T} s xs bound = (y : T) → member s.same xs y ≡ true → s.rank y < bound

-- each of these names has a higher rank than r
abbrev pub Above : {T : Type 0} → System T → ℕ → List T → Type 0
Above s r [] = Unit {0}
Above s r (y ∷ ys) = (r < s.rank y) × Above s r ys

-- a stack, its top first: names that are not seen, each of a rank lower than those of the names under it and than the bound
abbrev pub IsStack : {T : Type 0} → System T → (T → Bool) → ℕ → List T → List T → Type 0
IsStack s kept bound done [] = Unit {0}
IsStack s kept bound done (x ∷ rest) = (seen s kept done x ≡ false) × (s.rank x < bound) × Above s (s.rank x) rest × IsStack s kept bound done rest

-- the names that the top waits for, or those demanded where the stack is empty
abbrev pub waits : {T : Type 0} → System T → List T → List T → List T
waits s xs [] = xs
waits s xs (x ∷ rest) = s.inputs x

-- the rank of the top, or the bound
abbrev pub height : {T : Type 0} → System T → ℕ → List T → ℕ
height s bound [] = bound
height s bound (x ∷ rest) = s.rank x

-- the machine with this stack, which has filled `done`, will have filled `final`
pub record Working {T : Type 0} (s : System T) (kept : T → Bool) (xs : List T) (bound : ℕ) (final stack done : List T) : Type 0 where
  pub ends : fill_all s kept done (stack ++ xs) ≡ final
  pub stands : IsStack s kept bound done stack

-- a run of the machine over cells that began as `old` and are `new`: it has filled the first `count` missing names, in order,
-- and each cell holds its value; `stack` has its top first
pub record Run {T V : Type 0} (s : System T) (value : T → V) (xs : List T) (bound : ℕ) (old new : T → Option V) (stack : List T) (limit count : ℕ) : Type 0 where
  pub done : List T
  pub working : Working s (has old) xs bound (missing_of s old xs) stack done
  pub counted : length done ≡ count
  pub within : count ≤ limit
  pub cells_are : (x : T) → has new x ≡ seen s (has old) done x
  pub holds : Holds value new

-- how far a run is from its end: the fills that are left, and within one the rank that the stack has come down to
abbrev pub run_left : {T : Type 0} → System T → ℕ → ℕ → List T → ℕ → ℕ
run_left s bound total stack count = (total - count) * (bound + 1) + height s bound stack

-- what the machine runs for: a system, the value of each name, the demanded names, and a number above their ranks
pub record Demand (T V : Type 0) : Type 0 where
  pub system : System T
  pub value : T → V
  pub names : List T
  pub bound : ℕ
  pub acyclic : IsAcyclic system
  pub below : AreBelow system names bound

-- a run for a demand, and how far it is from its end
abbrev pub RunFor : {T V : Type 0} → Demand T V → (T → Option V) → (T → Option V) → List T → ℕ → ℕ → Type 0
RunFor d old new stack limit count = Run d.system d.value d.names d.bound old new stack limit count

abbrev pub left_of : {T V : Type 0} → Demand T V → (T → Option V) → List T → ℕ → ℕ
left_of d old stack count = run_left d.system d.bound (length (missing_of d.system old d.names)) stack count
