-- Demands one after another, each over what was kept and what those before it filled.
use Rattle.std.specs.Prelude.{Bool, List, [], ◌∷◌, ◌++◌}
use Rattle.daig_order.specs.Order.{System, seen, fill_all}

-- what they fill, in order
abbrev pub missing_in_turn : {T : Type 0} → System T → (T → Bool) → List (List T) → List T
missing_in_turn s kept [] = []
missing_in_turn s kept (xs ∷ xss) = fill_all s kept [] xs ++ missing_in_turn s (seen s kept (fill_all s kept [] xs)) xss

-- the names of all the demands
abbrev pub all_demanded : {T : Type 0} → List (List T) → List T
all_demanded [] = []
all_demanded (xs ∷ xss) = xs ++ all_demanded xss
