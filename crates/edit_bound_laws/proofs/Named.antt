-- The names that a row may ask for.
use Rattle.std.proofs.Common.{◌≡◌, ℕ, List, [], ◌∷◌, length, Option, Some, None, subst, nat_lt}
use Rattle.std.proofs.lemmas.Option.{same_Some, cond_some}
use Rattle.domain_laws.specs.Operations.{Operations}
use Rattle.batch_meaning.specs.Values.{Value, State, Over}
use Rattle.batch_meaning.specs.Batch.{LoopOptions}
use Rattle.cell_names.specs.declared.frame.NameFrame.TheVariants.{InLoop}
use Rattle.cell_names.specs.Paths.{CellName}
use Rattle.cell_rows.specs.Names.{name, bare, iterate_point}
use Rattle.cell_rows.specs.Rows.{Row, Init, One, Two, Fixed, Joins}
use Rattle.cell_rows.specs.Cells.{Cell, asks_row, wants_first, right_of}

module _ (engine : LoopOptions) (P : CellName → Type 0) where
  abbrev pub Named : Row → Type 0
  Named (Init layout) = Unit {0}
  Named (One op a) = P a
  Named (Two op a b) = P a × P b
  Named (Fixed n z w p) = (k : ℕ) → P (name w (iterate_point engine bare n p k))
  Named (Joins stays l n w p) = P l × ((k : ℕ) → P (name (InLoop n k ∷ w) p))

  abbrev pub NamedIf : Option Row → Type 0
  NamedIf None = Unit {0}
  NamedIf (Some r) = Named r

  module _ {S : Type 0} (dom : Operations S) where
    pub asked : (r : Row) (vs : List (Cell S)) (y : CellName) → Named r → asks_row dom engine r vs ≡ Some y → P y
    asked (Init layout) vs y h e = absurd cc
    asked (One op a) [] y h e = subst P (same_Some a y e) h
    asked (One op a) (v ∷ vs) y h e = absurd cc
    asked (Two op a b) [] y h e = subst P (same_Some a y e) h.0
    asked (Two op a b) (v ∷ []) y h e = subst P (same_Some b y e) h.1
    asked (Two op a b) (v ∷ u ∷ vs) y h e = absurd cc
    asked (Fixed n z w p) vs y h e = subst P (cond_some (wants_first dom engine vs) (name w (iterate_point engine bare n p (length vs))) y e).1 (h (length vs))
    asked (Joins stays l n w p) [] y h e = subst P (same_Some l y e) h.0
    asked (Joins stays l n w p) (v ∷ []) y h e = right v.value v.index e
      where
        right : (v : Value S) (k : ℕ) → right_of dom engine n w p v k ≡ Some y → P y
        right (Over m z) k e = absurd cc
        right (State s) k e = subst P (cond_some (nat_lt k engine.budget) (name (InLoop n k ∷ w) p) y e).1 (h.1 k)
    asked (Joins stays l n w p) (v ∷ u ∷ vs) y h e = absurd cc
