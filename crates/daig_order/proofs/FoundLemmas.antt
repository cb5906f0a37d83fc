-- The inputs of a name that were found so far.
use Rattle.std.proofs.Common.{◌≡◌, ℕ, zero, suc, ◌<◌, true, List, [], ◌∷◌, ◌++◌, length, map, take, drop, Option, Some, None, is_some, slice_get, refl, ap, ◌∙◌, arith, length-append, take_all}
use Rattle.daig_order.specs.Store.{has, first_absent}
use Rattle.daig_order.specs.Found.{AreFound, Grown}
use Rattle.std.proofs.lemmas.List.{map_push, drop_all}
use Rattle.base_values.proofs.Cases.{by_bool}
use Rattle.base_values.proofs.Lists.{drop_next, take_next, none_past}
use Rattle.std.proofs.lemmas.Option.{slice_get_within}

-- where the first n have cells, the first that has none is among the rest
absent-rest : {T V : Type 0} (get : T → Option V) (xs : List T) (n : ℕ) → first_absent get (take n xs) ≡ None → first_absent get xs ≡ first_absent get (drop n xs)
absent-rest get xs zero h = refl
absent-rest get [] (suc n) h = refl
absent-rest get (x ∷ xs) (suc n) h =
    by_bool (has get x)
    (λ k. let m : first_absent get (take n xs) ≡ None = rw k at h in rw k (absent-rest get xs n m))
    (λ k. let m = rw k at h in absurd (cc))

absent-push : {T V : Type 0} (get : T → Option V) (xs : List T) (x : T) → first_absent get xs ≡ None → has get x ≡ true → first_absent get (xs ++ x ∷ []) ≡ None
absent-push get [] x h k = rw k refl
absent-push get (y ∷ ys) x h k =
    by_bool (has get y)
    (λ t. let m : first_absent get ys ≡ None = rw t at h in rw t (absent-push get ys x m k))
    (λ t. let m = rw t at h in absurd (cc))

has_grown : {T V : Type 0} (old new : T → Option V) → Grown old new → (x : T) → has old x ≡ true → has new x ≡ true
has_grown {T} {V} old new g x h = by (old x) refl
  where
    by : (o : Option V) → old x ≡ o → has new x ≡ true
    by None e = let n = rw e at h in absurd (cc)
    by (Some v) e = ap is_some (g x v e)

absent-grown : {T V : Type 0} (old new : T → Option V) → Grown old new → (xs : List T) → first_absent old xs ≡ None → first_absent new xs ≡ None
absent-grown old new g [] h = refl
absent-grown old new g (x ∷ xs) h =
    by_bool (has old x)
    (λ k. let m : first_absent old xs ≡ None = rw k at h in rw (has_grown old new g x k) (absent-grown old new g xs m))
    (λ k. let m = rw k at h in absurd (cc))

pub found-start : {T V : Type 0} (value : T → V) (get : T → Option V) (xs : List T) → AreFound value get xs []
found-start value get xs = record { within = omega arith; values = refl; there = refl }

-- what was found stays found where cells are only added
pub found-stays : {T V : Type 0} (value : T → V) (old new : T → Option V) (xs : List T) (found : List V) → AreFound value old xs found → Grown old new → AreFound value new xs found
found-stays value old new xs found f g = record { within = f.within; values = f.values; there = absent-grown old new g (take (length found) xs) f.there }

module _ {T V : Type 0} (value : T → V) (get : T → Option V) (xs : List T) (found : List V) (f : AreFound value get xs found) where
  pub found-step : (x : T) (v : V) → slice_get xs (length found) ≡ Some x → get x ≡ Some v → v ≡ value x → AreFound value get xs (found ++ v ∷ [])
  found-step x v at held is =
      let next = take_next xs (length found) x at in
      let len : length (found ++ v ∷ []) ≡ suc (length found) = omega (arith, length-append found (v ∷ [])) in
      record {
        within = let lt : length found < length xs = slice_get_within xs (length found) x at in omega arith;
        values =
            rw (len, next, map_push value (take (length found) xs) x)
            (ap (λ w. w ++ v ∷ []) f.values ∙ ap (λ w. map value (take (length found) xs) ++ w ∷ []) is);
        there = rw (len, next) (absent-push get (take (length found) xs) x f.there (ap is_some held));
      }

  pub found-missing : (x : T) → slice_get xs (length found) ≡ Some x → get x ≡ None → first_absent get xs ≡ Some x
  found-missing x at held =
      absent-rest get xs (length found) f.there ∙ ap (first_absent get) (drop_next xs (length found) x at) ∙ rw held refl

  pub found-all : slice_get xs (length found) ≡ None → (first_absent get xs ≡ None) × (found ≡ map value xs)
  found-all at =
      let h = none_past xs (length found) at in
      (absent-rest get xs (length found) f.there ∙ ap (first_absent get) (drop_all (length found) xs h), f.values ∙ ap (map value) (take_all (length found) xs h))
