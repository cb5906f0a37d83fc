-- What is missing over more kept names is the rest of what was missing.
use Rattle.std.proofs.Common.{◌≡◌, ◌∙◌, ◌≤◌, Bool, true, false, List, [], ◌∷◌, filter, length, if◌then◌else◌, refl, sym, ap, subst, arith}
use Rattle.std.specs.Prelude.{not}
use Rattle.std.proofs.lemmas.Bool.{false_from_ne_true}
use Rattle.std.proofs.lemmas.List.Filters.{length-filter_both}
use Rattle.daig_order.specs.Order.{fill_all}
use Rattle.daig_order.specs.OrderLaws.{order}
use Rattle.daig_order.proofs.TheoremProofs.{missing}
use Rattle.reuse_laws.specs.Rest.{IsRest, MissesRest}

-- what is not in the larger set is not in the smaller one
outside : (few many : Bool) → (few ≡ true → many ≡ true) → not many ≡ true → not few ≡ true
outside false many more out = refl
outside true false more out = let h = more refl in cc
outside true true more out = out

-- a filter by a test before one that holds of no more changes nothing
filter_again : {T : Type 0} (p q : T → Bool) → ((x : T) → q x ≡ true → p x ≡ true) → (xs : List T) → filter q (filter p xs) ≡ filter q xs
filter_again p q within [] = refl
filter_again {T} p q within (x ∷ xs) = go (filter_again p q within xs) (p x) refl
  where
    go : filter q (filter p xs) ≡ filter q xs → (b : Bool) → p x ≡ b → filter q (if b then x ∷ filter p xs else filter p xs) ≡ filter q (x ∷ xs)
    go rest true e = ap (λ (ys : List T). if q x then x ∷ ys else ys) rest
    go rest false e =
        let out : q x ≡ false = false_from_ne_true (q x) (λ t. let h = within x t in cc) in
        rest ∙ ap (λ (b : Bool). if b then x ∷ filter q xs else filter q xs) (sym out)

no_more : {T : Type 0} (p : T → Bool) (xs : List T) → length (filter p xs) ≤ length xs
no_more p xs = let both = length-filter_both p (λ x. not (p x)) (λ x. refl) xs in omega arith

-- a list that is a filter of another
pub rest_of : {T : Type 0} (kept : T → Bool) (rest all : List T) → rest ≡ filter (λ x. not (kept x)) all → IsRest kept rest all
rest_of kept rest all e = record { is = e; most = subst (λ ys. length ys ≤ length all) (sym e) (no_more (λ x. not (kept x)) all) }

pub misses_rest : {T : Type 0} → MissesRest T
misses_rest {T} s acyclic few many few_closed many_closed more xs =
    let in_few : T → Bool = λ x. not (few x) in
    let in_many : T → Bool = λ x. not (many x) in
    rest_of many (fill_all s many [] xs) (fill_all s few [] xs) (
    missing s acyclic many many_closed xs
    ∙ sym (ap (filter in_many) (missing s acyclic few few_closed xs) ∙ filter_again in_few in_many (λ x. outside (few x) (many x) (more x)) (order s xs)))
