-- Taking cells away.
use Rattle.std.specs.Prelude.{◌≡◌, ℕ, ◌<◌, ◌⊎◌, List, fold, Option, Some, None, IsSome, MatchOption, slice_get}
use Rattle.std.specs.Ordering.{nat_cmp}
use Rattle.std.specs.FinMap.{FinMap, get, remove}
use Rattle.daig_graph.specs.Cells.{Filled, IsUse}
use Rattle.daig_graph.specs.Held.{IsIn, IsOnce}
use Rattle.daig_graph.specs.declared.graph.Use.{Use}

abbrev pub Cells : Type 0 → Type 0
Cells V = FinMap nat_cmp (Filled V)

-- the cells without these
abbrev pub without : {V : Type 0} → Cells V → List ℕ → Cells V
without cells xs = fold remove cells xs

-- y has x as an input
abbrev pub Uses : {V : Type 0} → Cells V → (y x : ℕ) → Type 0
Uses cells y x = (place : ℕ) × IsUse cells x (record { cell = y; place = place })

-- a path of inputs leads from the cell to one of these
pub data LeadsTo {V : Type 0} (cells : Cells V) (those : ℕ → Type 0) : ℕ → Type 0 where
  itself : (x : ℕ) → those x → LeadsTo cells those x
  through : (x y : ℕ) → LeadsTo cells those x → Uses cells y x → LeadsTo cells those y

module _ {V : Type 0} (cells : Cells V) where
  -- no cell leads back to itself: each has a rank above those of its inputs
  pub record IsRising : Type 0 where
    pub rank : ℕ → ℕ
    pub falls : (x y : ℕ) → Uses cells y x → rank x < rank y

  -- cells that can be taken away one after another: each once, and each after those that use it
  pub record IsOrder (plan : List ℕ) : Type 0 where
    pub there : (x : ℕ) → IsIn plan x → IsSome (get cells x)
    pub once : IsOnce plan
    pub users_first : (i x y : ℕ) → slice_get plan i ≡ Some x → Uses cells y x → (j : ℕ) × (j < i) × (slice_get plan j ≡ Some y)

  -- exactly the cells that lead to these, in such an order
  pub record Removes (those : ℕ → Type 0) (plan : List ℕ) : Type 0 where
    pub order : IsOrder plan
    pub only : (x : ℕ) → IsIn plan x → LeadsTo cells those x
    pub each : (x : ℕ) → LeadsTo cells those x → IsIn plan x

  -- one cell more, and some that lead to it
  pub record Adds (cell : ℕ) (old new : List ℕ) : Type 0 where
    pub here : IsIn new cell
    pub kept : (x : ℕ) → IsIn old x → IsIn new x
    pub only : (x : ℕ) → IsIn new x → IsIn old x ⊎ LeadsTo cells (λ y. y ≡ cell) x

-- the first user that is not marked, and what is left after it; all others before are marked
pub record IsFirst (marked : ℕ → Type 0) (users rest : List Use) (cell : ℕ) : Type 0 where
  pub place : ℕ
  pub there : IsIn users (record { cell = cell; place = place })
  pub new : marked cell → ⊥
  pub others : (u : Use) → IsIn users u → marked u.cell ⊎ ((u.cell ≡ cell) ⊎ IsIn rest u)
  pub less : (u : Use) → IsIn rest u → IsIn users u

-- that user; or all are marked
abbrev pub IsNext : (marked : ℕ → Type 0) → (users rest : List Use) → Option ℕ → Type 0
IsNext marked users rest found = MatchOption found ((u : Use) → IsIn users u → marked u.cell) (IsFirst marked users rest)

-- The cells of a plan are gone, and the others are as they were.
abbrev pub RestStays : Type 0 → Type 0
RestStays V = (cells : Cells V) (plan : List ℕ) (n : ℕ) → (IsIn plan n → get (without cells plan) n ≡ None) × ((IsIn plan n → ⊥) → get (without cells plan) n ≡ get cells n)
