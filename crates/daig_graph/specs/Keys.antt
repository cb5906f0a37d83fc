-- A number, or none, as one number.
use Rattle.std.specs.Prelude.{◌≡◌, ℕ, zero, suc, Option, Some, None, refl}
use Rattle.std.proofs.Common.{sym, ap}
use Rattle.daig_graph.specs.declared.graph.Use.{Use}

-- the number that a code stands for, or none
abbrev pub decoded : ℕ → Option ℕ
decoded zero = None
decoded (suc number) = Some number

abbrev pub encoded : Option ℕ → ℕ
encoded None = 0
encoded (Some number) = suc number

pub encoded-decoded : (code : ℕ) → encoded (decoded code) ≡ code
encoded-decoded zero = refl
encoded-decoded (suc number) = refl

-- the use of a cell, if there is one, at a place
abbrev pub use_of : Option ℕ → ℕ → Option Use
use_of None place = None
use_of (Some cell) place = Some (record { cell = cell; place = place })

-- Where there is no cell, the place is 0.
abbrev pub HasNoPlace : Option ℕ → ℕ → Type 0
HasNoPlace cell place = cell ≡ None → place ≡ 0

abbrev pub cell_of_use : Option Use → Option ℕ
cell_of_use None = None
cell_of_use (Some u) = Some u.cell

abbrev pub place_of_use : Option Use → ℕ
place_of_use None = 0
place_of_use (Some u) = u.place

pub inverse-use : {A : Type 0} (cell : Option ℕ) (place : ℕ) → HasNoPlace cell place → (made : Option ℕ → ℕ → A) → made (cell_of_use (use_of cell place)) (place_of_use (use_of cell place)) ≡ made cell place
inverse-use None place h made = ap (made None) (sym (h refl))
inverse-use (Some c) place h made = refl
