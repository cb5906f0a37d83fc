-- The equations of the order: what is filled when a name is demanded, seen or not.
use Rattle.std.proofs.Common.{◌≡◌, ℕ, zero, suc, ◌<◌, ◌≤◌, Bool, true, false, cond, ◌||◌, List, [], ◌∷◌, ◌++◌, fold, Some, None, refl, sym, ap, ◌∙◌, ◌⊎◌, inl, inr, arith, append_assoc, append-nil}
use Rattle.std.proofs.lemmas.Bool.{or_left, or_right, false_from_ne_true, or_cases}
use Rattle.daig_order.specs.Order.{member, System, IsAcyclic, seen, visit, fill, fill_all, first_missing}
use Rattle.base_values.proofs.Cases.{by_bool, not_both}
use Rattle.std.proofs.Math.Bool.{or_assoc}

pub member-append : {T : Type 0} (same : T → T → Bool) (xs ys : List T) (x : T) → member same (xs ++ ys) x ≡ (member same xs x || member same ys x)
member-append same [] ys x = refl
member-append same (y ∷ xs) ys x = rw (member-append same xs ys x) (sym (or_assoc (same x y) (member same xs x) (member same ys x)))

-- one list is the start of another
pub record Grows {T : Type 0} (a b : List T) : Type 0 where
  pub more : List T
  pub is : b ≡ a ++ more

pub grows-refl : {T : Type 0} (a : List T) → Grows a a
grows-refl a = record { more = []; is = sym (append-nil a) }

pub grows-trans : {T : Type 0} (a b c : List T) → Grows a b → Grows b c → Grows a c
grows-trans a b c g h = record { more = g.more ++ h.more; is = h.is ∙ ap (λ v. v ++ h.more) g.is ∙ append_assoc a g.more h.more }

pub fold-grows : {T : Type 0} (g : List T → T → List T) → ((d : List T) (x : T) → Grows d (g d x)) → (d xs : List T) → Grows d (fold g d xs)
fold-grows g step d [] = grows-refl d
fold-grows g step d (x ∷ xs) = grows-trans d (g d x) (fold g (g d x) xs) (step d x) (fold-grows g step (g d x) xs)

pub fold-same : {T : Type 0} (same : T → T → Bool) (g h : List T → T → List T) (d xs : List T) → ((x : T) → same x x ≡ true) → ((d : List T) (y : T) → member same xs y ≡ true → g d y ≡ h d y) → fold g d xs ≡ fold h d xs
fold-same same g h d [] r e = refl
fold-same same g h d (x ∷ xs) r e =
    ap (λ v. fold g v xs) (e d x (or_left (same x x) (member same xs x) (r x)))
    ∙ fold-same same g h (h d x) xs r (λ d' y m. e d' y (or_right (same y x) (member same xs y) m))

module _ {T : Type 0} (s : System T) (law : IsAcyclic s) (kept : T → Bool) where
  pub seen-grows : (a b : List T) (x : T) → Grows a b → seen s kept a x ≡ true → seen s kept b x ≡ true
  seen-grows a b x g h =
      rw (g.is, member-append s.same a g.more x)
      (elim (or_cases (kept x) (member s.same a x) h) [
        | inl k ↦ or_left (kept x) _ k
        | inr m ↦ or_right (kept x) _ (or_left (member s.same a x) _ m)
      ])

  pub visit-suc : (f : ℕ) (done : List T) (x : T) → visit s kept (suc f) done x ≡ cond (seen s kept done x) done (fold (visit s kept f) done (s.inputs x) ++ x ∷ [])
  unfolding visit
  visit-suc f done x = refl

  pub visit-seen : (f : ℕ) (done : List T) (x : T) → seen s kept done x ≡ true → visit s kept f done x ≡ done
  unfolding visit
  visit-seen zero done x h = refl
  visit-seen (suc f) done x h = rw h refl

  pub visit-new : (f : ℕ) (done : List T) (x : T) → seen s kept done x ≡ false → visit s kept (suc f) done x ≡ fold (visit s kept f) done (s.inputs x) ++ x ∷ []
  visit-new f done x h = visit-suc f done x ∙ ap (λ b. cond b done (fold (visit s kept f) done (s.inputs x) ++ x ∷ [])) h

  pub visit-grows : (f : ℕ) (done : List T) (x : T) → Grows done (visit s kept f done x)
  visit-grows zero done x = unfold visit in grows-refl done
  visit-grows (suc f) done x =
      by_bool (seen s kept done x)
      (λ h. rw (visit-seen (suc f) done x h) (grows-refl done))
      (λ h. rw (visit-new f done x h)
      (grows-trans done (fold (visit s kept f) done (s.inputs x)) _
      (fold-grows (visit s kept f) (visit-grows f) done (s.inputs x))
      (record { more = x ∷ []; is = refl })))

  pub fold-low : (f r : ℕ) → ((d : List T) (y z : T) → member s.same (visit s kept f d y) z ≡ true → (member s.same d z ≡ true) ⊎ (s.rank z ≤ s.rank y)) → (d xs : List T) (z : T) → ((y : T) → member s.same xs y ≡ true → s.rank y < r) → member s.same (fold (visit s kept f) d xs) z ≡ true → (member s.same d z ≡ true) ⊎ (s.rank z < r)
  fold-low f r low d [] z below h = inl h
  fold-low f r low d (y ∷ ys) z below h =
      elim (fold-low f r low (visit s kept f d y) ys z (λ w m. below w (or_right (s.same w y) (member s.same ys w) m)) h) [
        | inl m ↦ elim (low d y z m) [
          | inl k ↦ inl k
          | inr k ↦ let b : s.rank y < r = below y (or_left (s.same y y) (member s.same ys y) (law.same_refl y)) in inr (omega arith)
        ]
        | inr k ↦ inr k
      ]

  pub visit-low : (f : ℕ) (d : List T) (x z : T) → member s.same (visit s kept f d x) z ≡ true → (member s.same d z ≡ true) ⊎ (s.rank z ≤ s.rank x)
  visit-low zero d x z h = inl (unfold visit in h)
  visit-low (suc f) d x z h =
      by_bool (seen s kept d x)
      (λ k. inl (rw (visit-seen (suc f) d x k) at h))
      (λ k.
      let h2 = rw (visit-new f d x k, member-append s.same (fold (visit s kept f) d (s.inputs x)) (x ∷ []) z) at h in
      elim (or_cases (member s.same (fold (visit s kept f) d (s.inputs x)) z) (s.same z x || false) h2) [
        | inl m ↦ elim (fold-low f (s.rank x) (visit-low f) d (s.inputs x) z (law.falls x) m) [
          | inl a ↦ inl a
          | inr a ↦ inr (omega arith)
        ]
        | inr m ↦ elim (or_cases (s.same z x) false m) [
          | inl e ↦ let q : s.rank z ≡ s.rank x = ap s.rank (law.same_true z x e) in inr (omega arith)
          | inr e ↦ inr (cc)
        ]
      ])

  pub visit-fuel : (f g : ℕ) (d : List T) (x : T) → s.rank x < f → s.rank x < g → visit s kept f d x ≡ visit s kept g d x
  visit-fuel zero g d x h k = absurd (omega arith)
  visit-fuel (suc f) zero d x h k = absurd (omega arith)
  visit-fuel (suc f) (suc g) d x h k =
      visit-suc f d x
      ∙ ap (λ v. cond (seen s kept d x) d (v ++ x ∷ []))
      (fold-same s.same (visit s kept f) (visit s kept g) d (s.inputs x) law.same_refl
      (λ d' y m. let b : s.rank y < s.rank x = law.falls x y m in visit-fuel f g d' y (omega arith) (omega arith)))
      ∙ sym (visit-suc g d x)

  -- the equations of `fill`, after which nothing speaks of fuel
  pub fill-seen : (d : List T) (x : T) → seen s kept d x ≡ true → fill s kept d x ≡ d
  unfolding fill
  fill-seen d x h = visit-seen (suc (s.rank x)) d x h

  pub fill-new : (d : List T) (x : T) → seen s kept d x ≡ false → fill s kept d x ≡ fill_all s kept d (s.inputs x) ++ x ∷ []
  unfolding fill
  fill-new d x h =
      visit-new (s.rank x) d x h
      ∙ ap (λ v. v ++ x ∷ [])
      (fold-same s.same (visit s kept (s.rank x)) (fill s kept) d (s.inputs x) law.same_refl
      (λ d' y m. let b : s.rank y < s.rank x = law.falls x y m in visit-fuel (s.rank x) (suc (s.rank y)) d' y b (omega arith)))

  pub fill-grows : (d : List T) (x : T) → Grows d (fill s kept d x)
  unfolding fill
  fill-grows d x = visit-grows (suc (s.rank x)) d x

  pub fill_all-grows : (d xs : List T) → Grows d (fill_all s kept d xs)
  fill_all-grows d xs = fold-grows (fill s kept) fill-grows d xs

  pub fill-low : (d : List T) (x z : T) → member s.same (fill s kept d x) z ≡ true → (member s.same d z ≡ true) ⊎ (s.rank z ≤ s.rank x)
  unfolding fill
  fill-low d x z h = visit-low (suc (s.rank x)) d x z h

  pub fill-filled : (d : List T) (x : T) → seen s kept (fill s kept d x) x ≡ true
  fill-filled d x =
      by_bool (seen s kept d x)
      (λ h. rw (fill-seen d x h) h)
      (λ h. rw (fill-new d x h, member-append s.same (fill_all s kept d (s.inputs x)) (x ∷ []) x)
      (or_right (kept x) _ (or_right (member s.same (fill_all s kept d (s.inputs x)) x) _ (or_left (s.same x x) false (law.same_refl x)))))

  -- a name whose demand is pushed first changes nothing
  pub push-inputs : (d xs : List T) (i : T) → first_missing s kept d xs ≡ Some i → fill_all s kept (fill s kept d i) xs ≡ fill_all s kept d xs
  push-inputs d [] i h = cc
  push-inputs d (y ∷ ys) i h =
      by_bool (seen s kept d y)
      (λ k.
      let h2 = rw k at h in
      rw (fill-seen d y k, fill-seen (fill s kept d i) y (seen-grows d (fill s kept d i) y (fill-grows d i) k))
      (push-inputs d ys i h2))
      (λ k.
      let h2 = rw k at h in
      let e : y ≡ i = cc in
      rw (e, fill-seen (fill s kept d i) i (fill-filled d i)) refl)

  pub all-seen : (d xs : List T) → first_missing s kept d xs ≡ None → fill_all s kept d xs ≡ d
  all-seen d [] h = refl
  all-seen d (y ∷ ys) h =
      by_bool (seen s kept d y)
      (λ k. let h2 = rw k at h in rw (fill-seen d y k) (all-seen d ys h2))
      (λ k. let h2 = rw k at h in absurd (cc))

  pub missing-member : (d xs : List T) (i : T) → first_missing s kept d xs ≡ Some i → (member s.same xs i ≡ true) × (seen s kept d i ≡ false)
  missing-member d [] i h = absurd (cc)
  missing-member d (y ∷ ys) i h =
      by_bool (seen s kept d y)
      (λ k. let h2 = rw k at h in let r = missing-member d ys i h2 in (or_right (s.same i y) _ r.0, r.1))
      (λ k. let h2 = rw k at h in let e : y ≡ i = cc in (rw e (or_left (s.same i i) _ (law.same_refl i)), rw (← e) k))

  pub push-name : (d : List T) (x i : T) → seen s kept d x ≡ false → first_missing s kept d (s.inputs x) ≡ Some i → fill s kept (fill s kept d i) x ≡ fill s kept d x
  push-name d x i h m =
      let r = missing-member d (s.inputs x) i m in
      let low : s.rank i < s.rank x = law.falls x i r.0 in
      let k : seen s kept (fill s kept d i) x ≡ false =
      false_from_ne_true _ (λ t. elim (or_cases (kept x) _ t) [
        | inl a ↦ not_both _ (or_left (kept x) _ a) h
        | inr a ↦ elim (fill-low d i x a) [
          | inl b ↦ not_both _ (or_right (kept x) _ b) h
          | inr b ↦ absurd (omega arith)
        ]
      ]) in
      fill-new (fill s kept d i) x k
      ∙ ap (λ v. v ++ x ∷ []) (push-inputs d (s.inputs x) i m)
      ∙ sym (fill-new d x h)
