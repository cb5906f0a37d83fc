-- The words for what the order of a demand is: each needed name once, after its inputs.
use Rattle.std.specs.Prelude.{◌≡◌, Bool, true, false, List, [], ◌∷◌, ◌++◌}
use Rattle.daig_order.specs.Order.{member, System, seen, fill_all}

-- no name stands twice
abbrev pub IsDistinct : {T : Type 0} → (T → T → Bool) → List T → Type 0
IsDistinct same [] = Unit {0}
IsDistinct same (x ∷ xs) = (member same xs x ≡ false) × IsDistinct same xs

-- the names that a demand for these leads to
pub data Needed {T : Type 0} (s : System T) (xs : List T) : T → Type 0 where
  input : (y : T) → member s.same xs y ≡ true → Needed s xs y
  under : (x y : T) → Needed s xs x → member s.same (s.inputs x) y ≡ true → Needed s xs y

-- the inputs of each kept name are kept
abbrev pub IsClosed : {T : Type 0} → System T → (T → Bool) → Type 0
IsClosed {T} s kept = (x y : T) → kept x ≡ true → member s.same (s.inputs x) y ≡ true → kept y ≡ true

-- each of these names comes after its inputs, where those of `before` came first
abbrev pub Follows : {T : Type 0} → System T → (T → Bool) → List T → List T → Type 0
Follows s kept before [] = Unit {0}
Follows {T} s kept before (x ∷ xs) = ((y : T) → member s.same (s.inputs x) y ≡ true → seen s kept before y ≡ true) × Follows s kept (before ++ x ∷ []) xs

-- every name that a demand for these leads to, in the order in which they are filled
abbrev pub order : {T : Type 0} → System T → List T → List T
order s xs = fill_all s (λ _. false) [] xs
