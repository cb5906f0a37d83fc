-- What is added at the end of a list.
use Rattle.std.specs.Prelude.{◌≡◌, List, ◌++◌, map}

-- A list is longer at its end by items that are told as these.
abbrev pub Adds : {A B : Type 0} → (tell : A → B) → (old new : List A) → List B → Type 0
Adds tell old new more = map tell new ≡ map tell old ++ more
