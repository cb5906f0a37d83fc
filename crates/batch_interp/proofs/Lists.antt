-- Results, and lists in them, along equations.
use Rattle.std.proofs.Common.{◌≡◌, ◌++◌, Bool, true, false, List, [], map, Result, Ok, Err, IfOk, OnOk, sym, ap, ◌∙◌, append_assoc}
use Rattle.std.specs.Prelude.{if◌then◌else◌}
use Rattle.std.proofs.lemmas.List.{append-nil}

pub if_ok_along : {A B E : Type 0} (r : Result A E) (f : A → B) (a b : B) → IfOk r (λ x. f x ≡ a) → a ≡ b → IfOk r (λ x. f x ≡ b)
if_ok_along (Err e) f a b h k = h
if_ok_along (Ok x) f a b h k = h ∙ k

pub if_ok_map : {A B E : Type 0} (r : Result (List A) E) (f : A → B) (xs : List A) → IfOk r (λ ys. ys ≡ xs) → IfOk r (λ ys. map f ys ≡ map f xs)
if_ok_map (Err e) f xs h = h
if_ok_map (Ok ys) f xs h = ap (map f) h

pub if_true : {A : Type 0} (c : Bool) (x y z : A) → c ≡ true → x ≡ y → x ≡ (if c then y else z)
if_true true x y z e h = h
if_true false x y z e h = absurd cc

pub if_false : {A : Type 0} (c : Bool) (x y z : A) → c ≡ false → x ≡ z → x ≡ (if c then y else z)
if_false true x y z e h = absurd cc
if_false false x y z e h = h

pub on_ok_along : {A B E : Type 0} (r : Result A E) (x y a b : List B) → OnOk r (x ≡ y ++ a) → a ≡ b → OnOk r (x ≡ y ++ b)
on_ok_along (Err e) x y a b h k = h
on_ok_along (Ok i) x y a b h k = h ∙ ap (λ c. y ++ c) k

-- two parts that are added one after the other
pub on_ok_behind : {A B E : Type 0} (r : Result A E) (old middle new a b c : List B) → OnOk r (new ≡ middle ++ b) → middle ≡ old ++ a → a ++ b ≡ c → OnOk r (new ≡ old ++ c)
on_ok_behind (Err e) old middle new a b c h m k = h
on_ok_behind (Ok i) old middle new a b c h m k = h ∙ ap (λ xs. xs ++ b) m ∙ append_assoc old a b ∙ ap (λ xs. old ++ xs) k

pub on_ok_as : {A E : Type 0} (r : Result A E) (P Q : Type 0) → OnOk r P → (P → Q) → OnOk r Q
on_ok_as (Err e) P Q h f = h
on_ok_as (Ok x) P Q h f = f h

-- the first part of what is left, added to what there is
pub part_added : {A : Type 0} (old new part rest left : List A) → new ≡ old ++ part → left ≡ part ++ rest → new ++ rest ≡ old ++ left
part_added old new part rest left h k = ap (λ xs. xs ++ rest) h ∙ append_assoc old part rest ∙ ap (λ xs. old ++ xs) (sym k)

pub nothing_left : {A : Type 0} (all left : List A) → left ≡ [] → all ++ left ≡ all
nothing_left all left k = ap (λ xs. all ++ xs) k ∙ append-nil all
