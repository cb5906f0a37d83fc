-- What leads to some names by inputs, and what stays of a set without those that do.
use Rattle.std.specs.Prelude.{◌≡◌, Bool, true}
use Rattle.daig_order.specs.Order.{System, member}

-- a path of inputs leads from the name to one of these
pub data LeadsTo {T : Type 0} (s : System T) (those : T → Type 0) : T → Type 0 where
  itself : (x : T) → those x → LeadsTo s those x
  through : (x y : T) → LeadsTo s those x → member s.same (s.inputs y) x ≡ true → LeadsTo s those y

-- a name that had a cell, from which no path of inputs leads to one of these
pub record Stays {T : Type 0} (s : System T) (those : T → Type 0) (cells : T → Bool) (x : T) : Type 0 where
  pub had : cells x ≡ true
  pub free : LeadsTo s those x → ⊥
