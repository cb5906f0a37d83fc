-- A walk asks for the names that targets demand, one after another, and finds the targets' values.
use Rattle.std.proofs.Common.{◌≡◌, List, [], ◌∷◌, ◌++◌, map, Some, slice_get, refl, sym, ap, subst}
use Rattle.batch_meaning.specs.Values.{Value, State, Over}
use Rattle.cell_names.specs.declared.frame.NameFrame.{NameFrame}
use Rattle.cell_names.specs.declared.frame.NameFrame.TheVariants.{InCall, InLoop}
use Rattle.cell_names.specs.declared.frame.Point.{Point}
use Rattle.cell_names.specs.declared.frame.Point.TheVariants.{Fix}
use Rattle.cell_names.specs.Paths.{CellName}
use Rattle.cell_rows.specs.Names.{name}
use Rattle.cell_rows.specs.Cells.{Cell}
use Rattle.cell_rows.specs.Targets.{TargetStep, Take, Go, Target, to_point, unless_over, demanded_in, demanded, value_in_path, value_of_target}
use Rattle.daig_demands.specs.Walks.{Walk, walk, start, asks_in, asks_at, asks, goes_in, goes_at, goes, found_in, found_at, found, names_at, names_left, values_at, values_left}

module _ {S : Type 0} (f : CellName → Cell S) where
  pub start_names : (ts : List Target) → names_at f [] ts ≡ demanded f ts
  start_names [] = refl
  start_names (t ∷ ts) = refl

  pub start_values : (ts : List Target) → values_at f [] ts ≡ map (value_of_target f) ts
  start_values [] = refl
  start_values (t ∷ ts) = refl

  first_in : (ss : List TargetStep) (p : Point) (w : List NameFrame) (more : List CellName) → Some (asks_in ss p w) ≡ slice_get (demanded_in f ss p w ++ more) 0
  first_in [] p w more = refl
  first_in (Go n ∷ ss) p w more = first_in ss p (InCall n ∷ w) more
  first_in (Take n ∷ ss) p w more = refl

  asks_first : (w : List NameFrame) (ts : List Target) → asks_at w ts ≡ slice_get (names_at f w ts) 0
  asks_first w [] = refl
  asks_first w (t ∷ ts) = first_in t.steps t.last w (demanded f ts)

  pub walk_asks : (k : Walk) → asks k ≡ slice_get (names_left f k) 0
  walk_asks k = asks_first k.path k.left

  -- the walk after a name, and what is found there
  abbrev Goes : List CellName → List (Value S) → CellName → List (Value S) → Walk → Type 0
  Goes xs vs y us k = (xs ≡ y ∷ names_left f k) × (vs ≡ us ++ values_left f k)

  step_in : (ss : List TargetStep) (p : Point) (w : List NameFrame) (ts : List Target) →
      Goes (demanded_in f ss p w ++ demanded f ts) (value_in_path f ss p w ∷ map (value_of_target f) ts) (asks_in ss p w) (found_in (f (asks_in ss p w)) ss) (goes_in (f (asks_in ss p w)) ss p w ts)
  step_in [] p w ts = (ap (λ xs. name w p ∷ xs) (sym (start_names ts)), ap (λ vs. (f (name w p)).value ∷ vs) (sym (start_values ts)))
  step_in (Go n ∷ ss) p w ts = step_in ss p (InCall n ∷ w) ts
  step_in (Take n ∷ ss) p w ts = by_value (f (name w (Fix n))).value
    where
      y : CellName
      y = name w (Fix n)

      round : List NameFrame
      round = InLoop n (f (name w (Fix n))).index ∷ w

      by_value : (v : Value S) →
          Goes (y ∷ (unless_over v [] (demanded_in f ss p round) ++ demanded f ts)) (unless_over v v (value_in_path f ss p round) ∷ map (value_of_target f) ts) y (unless_over v (v ∷ []) []) (unless_over v (start ts) (walk round (to_point ss p ∷ ts)))
      by_value (Over m z) = (ap (λ xs. y ∷ xs) (sym (start_names ts)), ap (λ vs. Over m z ∷ vs) (sym (start_values ts)))
      by_value (State s) = (refl, refl)

  step_at : (w : List NameFrame) (ts : List Target) (y : CellName) → asks_at w ts ≡ Some y → Goes (names_at f w ts) (values_at f w ts) y (found_at (f y) ts) (goes_at (f y) w ts)
  step_at w [] y e = absurd cc
  step_at w (t ∷ ts) y e =
      let i : asks_in t.steps t.last w ≡ y = cc in
      subst (λ y. Goes (names_at f w (t ∷ ts)) (values_at f w (t ∷ ts)) y (found_at (f y) (t ∷ ts)) (goes_at (f y) w (t ∷ ts))) i (step_in t.steps t.last w ts)

  pub walk_goes : (k : Walk) (y : CellName) → asks k ≡ Some y → Goes (names_left f k) (values_left f k) y (found (f y) k) (goes (f y) k)
  walk_goes k y e = step_at k.path k.left y e
