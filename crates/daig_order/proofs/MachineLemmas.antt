-- A turn of the machine is one unfolding of what is left to fill.
use Rattle.std.proofs.Common.{◌≡◌, ℕ, ◌<◌, ◌≤◌, Bool, false, ◌||◌, List, [], ◌∷◌, ◌++◌, length, Some, None, refl, sym, ap, ◌∙◌, subst, inl, inr, arith, length-append}
use Rattle.daig_order.specs.Order.{member, System, IsAcyclic, seen, fill_all, first_missing}
use Rattle.daig_order.specs.Machine.{AreBelow, Above, IsStack, waits, height, Working}
use Rattle.std.proofs.lemmas.Bool.{or_left, or_right, false_from_ne_true, or_cases}
use Rattle.daig_order.proofs.OrderLemmas.{member-append, Grows, fill-new, fill_all-grows, push-inputs, push-name, all-seen, missing-member}
use Rattle.base_values.proofs.Cases.{not_both}

Above-lower : {T : Type 0} (s : System T) (q r : ℕ) (xs : List T) → q < r → Above s r xs → Above s q xs
Above-lower s q r [] h a = tt
Above-lower s q r (x ∷ xs) h a = (omega (arith, a.0), Above-lower s q r xs h a.1)

module _ {T : Type 0} (s : System T) (law : IsAcyclic s) (kept : T → Bool) (xs : List T) (bound : ℕ) (low : AreBelow s xs bound) where
  pub working-start : Working s kept xs bound (fill_all s kept [] xs) [] []
  working-start = record { ends = refl; stands = tt }

  pub working-push : (final stack done : List T) (i : T) → Working s kept xs bound final stack done → first_missing s kept done (waits s xs stack) ≡ Some i → Working s kept xs bound final (i ∷ stack) done
  working-push final [] done i w m =
      let r = missing-member s law kept done xs i m in
      record {
        ends = push-inputs s law kept done xs i m ∙ w.ends;
        stands = (r.1, low i r.0, tt, tt);
      }
  working-push final (x ∷ rest) done i w m =
      let r = missing-member s law kept done (s.inputs x) i m in
      let lt : s.rank i < s.rank x = law.falls x i r.0 in
      let below : s.rank x < bound = w.stands.1 in
      record {
        ends = ap (λ v. fill_all s kept v (rest ++ xs)) (push-name s law kept done x i w.stands.0 m) ∙ w.ends;
        stands = (r.1, omega arith, (lt, Above-lower s (s.rank i) (s.rank x) rest lt w.stands.2), w.stands);
      }

  stack-filled : (done rest : List T) (x : T) → Above s (s.rank x) rest → IsStack s kept bound done rest → IsStack s kept bound (done ++ x ∷ []) rest
  stack-filled done [] x a h = tt
  stack-filled done (y ∷ ys) x a h = (
    false_from_ne_true (seen s kept (done ++ x ∷ []) y) (λ t. elim (or_cases (kept y) (member s.same (done ++ x ∷ []) y) t) [
      | inl k ↦ not_both _ (or_left (kept y) _ k) h.0
      | inr k ↦ elim (or_cases (member s.same done y) (s.same y x || false) (rw (member-append s.same done (x ∷ []) y) at k)) [
        | inl m ↦ not_both _ (or_right (kept y) _ m) h.0
        | inr m ↦ elim (or_cases (s.same y x) false m) [
          | inl e ↦ let q : s.rank y ≡ s.rank x = ap s.rank (law.same_true y x e) in let lt : s.rank x < s.rank y = a.0 in absurd (omega arith)
          | inr e ↦ absurd (cc)
        ]
      ]
    ]),
    h.1,
    h.2,
    stack-filled done ys x a.1 h.3,
  )

  pub working-fill : (final rest done : List T) (x : T) → Working s kept xs bound final (x ∷ rest) done → first_missing s kept done (s.inputs x) ≡ None → Working s kept xs bound final rest (done ++ x ∷ [])
  working-fill final rest done x w m = record {
    ends =
        ap (λ v. fill_all s kept v (rest ++ xs))
        (sym (fill-new s law kept done x w.stands.0 ∙ ap (λ v. v ++ x ∷ []) (all-seen s law kept done (s.inputs x) m)))
        ∙ w.ends;
    stands = stack-filled done rest x w.stands.2 w.stands.3;
  }

  pub working-end : (final done : List T) → Working s kept xs bound final [] done → first_missing s kept done xs ≡ None → done ≡ final
  working-end final done w m = sym (all-seen s law kept done xs m) ∙ w.ends

  pub working-grows : (final stack done : List T) → Working s kept xs bound final stack done → Grows done final
  working-grows final stack done w = subst (λ v. Grows done v) w.ends (fill_all-grows s law kept done (stack ++ xs))

  -- a name that is ready shows that more are missing than were filled
  pub working-more : (final rest done : List T) (x : T) → Working s kept xs bound final (x ∷ rest) done → first_missing s kept done (s.inputs x) ≡ None → length done < length final
  working-more final rest done x w m =
      let g = working-grows final rest (done ++ x ∷ []) (working-fill final rest done x w m) in
      let e : length final ≡ length ((done ++ x ∷ []) ++ g.more) = ap length g.is in
      omega (arith, simp length-append at e)

  pub height-low : (final stack done : List T) → Working s kept xs bound final stack done → height s bound stack ≤ bound
  height-low final [] done w = omega arith
  height-low final (x ∷ rest) done w = let h : s.rank x < bound = w.stands.1 in omega arith

  -- the measure falls at a push, and at a fill
  pub height-push : (stack done : List T) (i : T) → first_missing s kept done (waits s xs stack) ≡ Some i → s.rank i < height s bound stack
  height-push [] done i m = low i (missing-member s law kept done xs i m).0
  height-push (x ∷ rest) done i m = law.falls x i (missing-member s law kept done (s.inputs x) i m).0
