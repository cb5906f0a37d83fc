-- What code builds of lists of sources, place by place.
use Rattle.std.specs.Prelude.{◌≡◌, ◌≤ℤ◌, refl, List, [], ◌∷◌, ◌++◌, Option, Some, None}
use Rattle.std.proofs.Common.{ap, append_assoc}
use Rattle.dom_octagon_meaning.specs.Operations.{in_front}
use Rattle.dom_octagon_meaning.specs.declared.source.ArgumentSource.{ArgumentSource}
use Rattle.dom_octagon_meaning.specs.declared.source.ArgumentSource.TheVariants.{FromSlot, InRange}

-- the one list after the other, if it is there
abbrev pub behind_these : List ArgumentSource → Option (List ArgumentSource) → Option (List ArgumentSource)
behind_these xs None = None
behind_these xs (Some ys) = Some (xs ++ ys)

-- the ends of each range are in order
abbrev pub AreOrdered : List ArgumentSource → Type 0
AreOrdered [] = Unit {0}
AreOrdered (FromSlot x ∷ ss) = AreOrdered ss
AreOrdered (InRange r ∷ ss) = (r.lo ≤ℤ r.hi) × AreOrdered ss

pub behind_front : (xs : List ArgumentSource) (r : ArgumentSource) (o : Option (List ArgumentSource)) → behind_these (xs ++ r ∷ []) o ≡ behind_these xs (in_front r o)
behind_front xs r None = refl
behind_front xs r (Some ys) = ap Some (append_assoc xs (r ∷ []) ys)
