-- What slot forms feed a hasher.
use Rattle.std.specs.Prelude.{ℕ, suc, length, List, [], ◌∷◌, ◌++◌, map, Option, None, Some, ◌≡◌, refl}
use Rattle.std.proofs.Common.{ap}
use Rattle.std.specs.List.{flat_map}
use Rattle.std.specs.Hash as fed
use Rattle.imp_syntax.specs.declared.words.Operator.{Operator}
use Rattle.imp_syntax.specs.declared.words.Operator.TheVariants.{Add, Subtract, Multiply, Divide, Remainder}
use Rattle.imp_syntax.specs.declared.words.Relation.{Relation}
use Rattle.imp_syntax.specs.declared.words.Relation.TheVariants.{Equal, NotEqual, Less, AtMost, Greater, AtLeast}
use Rattle.imp_slots.specs.Plain.{Numeric, Layout, Term, Literal, Slot, Length, Negative, Binary, Guard, Compare, CompareLinks, Not, And, Or, Effect, Skip, Assert, SetInt, Input, ReadElement, ReadItem, MakeArray, CopyArray, WriteElement, SetNull, MakeCell, CopyLink, ReadNext, WriteNext, WriteItem, Act, DoBreak, Does, Argument, IntArgument, ArrayArgument, LinkArgument, Entering}

abbrev pub operator_tag : Operator → ℕ
operator_tag Add = 4
operator_tag Subtract = 5
operator_tag Multiply = 6
operator_tag Divide = 7
operator_tag Remainder = 8

abbrev pub relation_tag : Relation → ℕ
relation_tag Equal = 0
relation_tag NotEqual = 1
relation_tag Less = 2
relation_tag AtMost = 3
relation_tag Greater = 4
relation_tag AtLeast = 5

abbrev pub term_fed : Term → List (List ℕ)
term_fed (Literal n) = fed.u8 0 ++ fed.u64 n
term_fed (Slot x) = fed.u8 1 ++ fed.u32 x
term_fed (Length a) = fed.u8 2 ++ fed.u32 a
term_fed (Negative e) = fed.u8 3 ++ term_fed e
term_fed (Binary o e f) = (fed.u8 (operator_tag o) ++ term_fed e) ++ term_fed f

-- a slot, or none
abbrev pub slot_fed : Option ℕ → List (List ℕ)
slot_fed None = fed.u8 0
slot_fed (Some x) = fed.u8 1 ++ fed.u32 x

abbrev pub guard_fed : Guard → List (List ℕ)
guard_fed (Compare r e f) = (fed.u8 (relation_tag r) ++ term_fed e) ++ term_fed f
guard_fed (CompareLinks equal p q) = ((fed.u8 6 ++ fed.bool equal) ++ slot_fed p) ++ slot_fed q
guard_fed (Not c) = fed.u8 7 ++ guard_fed c
guard_fed (And c d) = (fed.u8 8 ++ guard_fed c) ++ guard_fed d
guard_fed (Or c d) = (fed.u8 9 ++ guard_fed c) ++ guard_fed d

abbrev pub effect_fed : Effect → List (List ℕ)
effect_fed Skip = fed.u8 0
effect_fed (Assert c) = fed.u8 1 ++ guard_fed c
effect_fed (SetInt x e) = (fed.u8 2 ++ fed.u32 x) ++ term_fed e
effect_fed (Input x) = fed.u8 3 ++ fed.u32 x
effect_fed (ReadElement x a e) = ((fed.u8 4 ++ fed.u32 x) ++ fed.u32 a) ++ term_fed e
effect_fed (ReadItem x q) = (fed.u8 5 ++ fed.u32 x) ++ fed.u32 q
effect_fed (MakeArray a e) = (fed.u8 6 ++ fed.u32 a) ++ term_fed e
effect_fed (CopyArray a b) = (fed.u8 7 ++ fed.u32 a) ++ fed.u32 b
effect_fed (WriteElement a e f) = ((fed.u8 8 ++ fed.u32 a) ++ term_fed e) ++ term_fed f
effect_fed (SetNull p) = fed.u8 9 ++ fed.u32 p
effect_fed (MakeCell p) = fed.u8 10 ++ fed.u32 p
effect_fed (CopyLink p q) = (fed.u8 11 ++ fed.u32 p) ++ fed.u32 q
effect_fed (ReadNext p q) = (fed.u8 12 ++ fed.u32 p) ++ fed.u32 q
effect_fed (WriteNext p q) = (fed.u8 13 ++ fed.u32 p) ++ fed.u32 q
effect_fed (WriteItem p e) = (fed.u8 14 ++ fed.u32 p) ++ term_fed e

abbrev pub act_fed : Act → List (List ℕ)
act_fed DoBreak = fed.u8 15
act_fed (Does e) = effect_fed e

abbrev pub text_fed : List ℕ → List (List ℕ)
text_fed = fed.slice fed.u8

abbrev pub numeric_fed : Numeric → List (List ℕ)
numeric_fed n = text_fed n.name ++ fed.bool n.is_array

abbrev pub layout_fed : Layout → List (List ℕ)
layout_fed l = fed.slice numeric_fed l.numbers ++ fed.slice text_fed l.links

abbrev pub argument_fed : Argument → List (List ℕ)
argument_fed (IntArgument e) = fed.u8 0 ++ term_fed e
argument_fed (ArrayArgument a) = fed.u8 1 ++ fed.u32 a
argument_fed (LinkArgument p) = fed.u8 2 ++ slot_fed p

abbrev pub entering_fed : Entering → List (List ℕ)
entering_fed e = layout_fed e.layout ++ fed.slice argument_fed e.arguments

-- a mapped list feeds what the list feeds through the function
flat_map-map : {A B : Type 0} (feed : B → List (List ℕ)) (f : A → B) (xs : List A) → flat_map (λ x. feed (f x)) xs ≡ flat_map feed (map f xs)
flat_map-map feed f [] = refl
flat_map-map feed f (x ∷ xs) = ap (λ r. feed (f x) ++ r) (flat_map-map feed f xs)

map_length : {A B : Type 0} (f : A → B) (xs : List A) → length xs ≡ length (map f xs)
map_length f [] = refl
map_length f (x ∷ xs) = ap suc (map_length f xs)

pub slice-map : {A B : Type 0} (feed : B → List (List ℕ)) (f : A → B) (xs : List A) → fed.slice (λ x. feed (f x)) xs ≡ fed.slice feed (map f xs)
slice-map feed f xs = λ i. fed.usize (map_length f xs i) ++ flat_map-map feed f xs i
