-- Three lists, options or choices of which a relation holds place by place.
use Rattle.std.specs.Prelude.{List, [], ◌∷◌, ◌++◌, Option, Some, None, Bool, true, false, if◌then◌else◌}
use Rattle.batch_meaning.specs.Places.{if_some}

module _ {A B C : Type 0} (R : A → B → C → Type 0) where
  abbrev pub InTurn : List A → List B → List C → Type 0
  InTurn [] [] [] = Unit {0}
  InTurn [] [] (z ∷ zs) = ⊥
  InTurn [] (y ∷ ys) zs = ⊥
  InTurn (x ∷ xs) [] zs = ⊥
  InTurn (x ∷ xs) (y ∷ ys) [] = ⊥
  InTurn (x ∷ xs) (y ∷ ys) (z ∷ zs) = R x y z × InTurn xs ys zs

  pub turn_both : (xs : List A) (ys : List B) (zs : List C) (us : List A) (vs : List B) (ws : List C) → InTurn xs ys zs → InTurn us vs ws → InTurn (xs ++ us) (ys ++ vs) (zs ++ ws)
  turn_both [] [] [] us vs ws h k = k
  turn_both [] [] (z ∷ zs) us vs ws h k = absurd h
  turn_both [] (y ∷ ys) zs us vs ws h k = absurd h
  turn_both (x ∷ xs) [] zs us vs ws h k = absurd h
  turn_both (x ∷ xs) (y ∷ ys) [] us vs ws h k = absurd h
  turn_both (x ∷ xs) (y ∷ ys) (z ∷ zs) us vs ws h k = (h.0, turn_both xs ys zs us vs ws h.1 k)

  -- all three are there, or none is
  abbrev pub WhereThere : Option A → Option B → Option C → Type 0
  WhereThere None None None = Unit {0}
  WhereThere None None (Some c) = ⊥
  WhereThere None (Some b) c = ⊥
  WhereThere (Some a) None c = ⊥
  WhereThere (Some a) (Some b) None = ⊥
  WhereThere (Some a) (Some b) (Some c) = R a b c

pub there_then : {A B C X Y Z : Type 0} (R : A → B → C → Type 0) (Q : X → Y → Z → Type 0) (f : A → Option X) (g : B → Option Y) (h : C → Option Z) (a : Option A) (b : Option B) (c : Option C) →
    ((a : A) (b : B) (c : C) → R a b c → WhereThere Q (f a) (g b) (h c)) → WhereThere R a b c → WhereThere Q (if_some a f) (if_some b g) (if_some c h)
there_then R Q f g h None None None k r = tt
there_then R Q f g h None None (Some c) k r = absurd r
there_then R Q f g h None (Some b) c k r = absurd r
there_then R Q f g h (Some a) None c k r = absurd r
there_then R Q f g h (Some a) (Some b) None k r = absurd r
there_then R Q f g h (Some a) (Some b) (Some c) k r = k a b c r

-- whichever of two is chosen
pub chosen : {A B C : Type 0} (R : A → B → C → Type 0) (t : Bool) (a x : A) (b y : B) (c z : C) → R a b c → R x y z → R (if t then a else x) (if t then b else y) (if t then c else z)
chosen R true a x b y c z h k = h
chosen R false a x b y c z h k = k
