-- The demand of targets, walked from one demanded name to the next.
use Rattle.std.specs.Prelude.{List, [], ◌∷◌, ◌++◌, map, Option, Some, None}
use Rattle.batch_meaning.specs.Values.{Value}
use Rattle.cell_names.specs.declared.frame.NameFrame.{NameFrame}
use Rattle.cell_names.specs.declared.frame.NameFrame.TheVariants.{InCall, InLoop}
use Rattle.cell_names.specs.declared.frame.Point.{Point}
use Rattle.cell_names.specs.declared.frame.Point.TheVariants.{Fix}
use Rattle.cell_names.specs.Paths.{CellName}
use Rattle.cell_rows.specs.Names.{name}
use Rattle.cell_rows.specs.Cells.{Cell}
use Rattle.cell_rows.specs.Targets.{TargetStep, Take, Go, Target, to_point, unless_over, demanded_in, demanded, value_in_path, value_of_target}

-- What is left of some targets: the path that leads to the steps of the first, and the targets, the first without the
-- steps that are taken.
pub record Walk : Type 0 where
  pub path : List NameFrame
  pub left : List Target

abbrev pub walk : List NameFrame → List Target → Walk
walk w ts = record { path = w; left = ts }

-- at the start of main, before the first target's steps
abbrev pub start : List Target → Walk
start ts = walk [] ts

-- The name that is demanded next: through the calls on the way, the fixed point of the next loop, or the last point.
abbrev pub asks_in : List TargetStep → Point → List NameFrame → CellName
asks_in [] p w = name w p
asks_in (Go n ∷ ss) p w = asks_in ss p (InCall n ∷ w)
asks_in (Take n ∷ ss) p w = name w (Fix n)

abbrev pub asks_at : List NameFrame → List Target → Option CellName
asks_at w [] = None
asks_at w (t ∷ ts) = Some (asks_in t.steps t.last w)

abbrev pub asks : Walk → Option CellName
asks k = asks_at k.path k.left

module _ {S : Type 0} (c : Cell S) where
  -- On past a name whose cell holds c: into the loop's last round; at the last point, or where the loop is an Over, to the
  -- next target.
  abbrev pub goes_in : List TargetStep → Point → List NameFrame → List Target → Walk
  goes_in [] p w ts = start ts
  goes_in (Go n ∷ ss) p w ts = goes_in ss p (InCall n ∷ w) ts
  goes_in (Take n ∷ ss) p w ts = unless_over c.value (start ts) (walk (InLoop n c.index ∷ w) (to_point ss p ∷ ts))

  abbrev pub goes_at : List NameFrame → List Target → Walk
  goes_at w [] = start []
  goes_at w (t ∷ ts) = goes_in t.steps t.last w ts

  abbrev pub goes : Walk → Walk
  goes k = goes_at k.path k.left

  -- the value of the first target, where c is the last that it asks for
  abbrev pub found_in : List TargetStep → List (Value S)
  found_in [] = c.value ∷ []
  found_in (Go n ∷ ss) = found_in ss
  found_in (Take n ∷ ss) = unless_over c.value (c.value ∷ []) []

  abbrev pub found_at : List Target → List (Value S)
  found_at [] = []
  found_at (t ∷ ts) = found_in t.steps

  abbrev pub found : Walk → List (Value S)
  found k = found_at k.left

module _ {S : Type 0} (f : CellName → Cell S) where
  -- the names that are still to be asked for
  abbrev pub names_at : List NameFrame → List Target → List CellName
  names_at w [] = []
  names_at w (t ∷ ts) = demanded_in f t.steps t.last w ++ demanded f ts

  abbrev pub names_left : Walk → List CellName
  names_left k = names_at k.path k.left

  -- the values of the targets that are left
  abbrev pub values_at : List NameFrame → List Target → List (Value S)
  values_at w [] = []
  values_at w (t ∷ ts) = value_in_path f t.steps t.last w ∷ map (value_of_target f) ts

  abbrev pub values_left : Walk → List (Value S)
  values_left k = values_at k.path k.left
