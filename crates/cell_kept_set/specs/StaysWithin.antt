-- What stays of a set of names, told by going down their inputs.
use Rattle.std.specs.Prelude.{ℕ, zero, suc, Bool, true, ◌&&◌, List, [], ◌∷◌}
use Rattle.daig_order.specs.Order.{System}

abbrev pub each : {T : Type 0} → (T → Bool) → List T → Bool
each f [] = true
each f (x ∷ xs) = f x && each f xs

module _ {T : Type 0} (s : System T) (sound cells : T → Bool) where
  -- the name had a cell and is sound, and so are its inputs, and theirs, down so many steps
  abbrev pub stays_within : (steps : ℕ) → T → Bool
  stays_within zero x = cells x && sound x
  stays_within (suc k) x = (cells x && sound x) && each (stays_within k) (s.inputs x)

  -- all the way down
  abbrev pub stays : T → Bool
  stays x = stays_within (s.rank x) x
