-- What the order is, proved along the recursion that makes it.
use Rattle.std.proofs.Common.{◌≡◌, ℕ, zero, suc, ◌<◌, Bool, true, false, not, ◌||◌, List, [], ◌∷◌, ◌++◌, filter, take, refl, sym, ap, ◌∙◌, ◌⊎◌, inl, inr, arith, append_assoc, append-nil}
use Rattle.std.proofs.lemmas.Bool.{or_parts, or_left, or_right, or_from, false_from_ne_true, or_cases}
use Rattle.daig_order.specs.Order.{member, System, IsAcyclic, seen, fill, fill_all}
use Rattle.daig_order.specs.Machine.{AreBelow}
use Rattle.daig_order.specs.OrderLaws.{IsDistinct, Needed, input, under, IsClosed, Follows, order}
use Rattle.daig_order.proofs.OrderLemmas.{member-append, fill-seen, fill-new, fill_all-grows, fill-low, fill-filled, seen-grows}
use Rattle.base_values.proofs.Cases.{by_bool, not_both}
use Rattle.std.proofs.lemmas.List.Elements.{filter-append}

distinct-push : {T : Type 0} (same : T → T → Bool) → ((x y : T) → same x y ≡ true → x ≡ y) → ((x : T) → same x x ≡ true) → (xs : List T) (x : T) → IsDistinct same xs → member same xs x ≡ false → IsDistinct same (xs ++ x ∷ [])
distinct-push same eq re [] x d h = (refl, tt)
distinct-push same eq re (y ∷ ys) x d h =
    let k = or_parts (same x y) (member same ys x) h in (
      rw (member-append same ys (x ∷ []) y, d.0) (or_from (same y x) false (false_from_ne_true (same y x) (λ t. not_both (same x y) (rw (eq y x t) (re x)) k.0)) refl),
      distinct-push same eq re ys x d.1 k.1,
    )

follows-push : {T : Type 0} (s : System T) (kept : T → Bool) (before xs : List T) (x : T) → Follows s kept before xs → ((y : T) → member s.same (s.inputs x) y ≡ true → seen s kept (before ++ xs) y ≡ true) → Follows s kept before (xs ++ x ∷ [])
follows-push s kept before [] x f h = (λ y m. rw append-nil at (h y m), tt)
follows-push s kept before (z ∷ zs) x f h = (f.0, follows-push s kept (before ++ z ∷ []) zs x f.1 (λ y m. rw (append_assoc before (z ∷ []) zs) (h y m)))

follows-take : {T : Type 0} (s : System T) (kept : T → Bool) (n : ℕ) (before xs : List T) → Follows s kept before xs → Follows s kept before (take n xs)
follows-take s kept zero before xs f = tt
follows-take s kept (suc n) before [] f = tt
follows-take s kept (suc n) before (x ∷ xs) f = (f.0, follows-take s kept n (before ++ x ∷ []) xs f.1)

member-filter : {T : Type 0} (same : T → T → Bool) → ((x y : T) → same x y ≡ true → x ≡ y) → (p : T → Bool) (xs : List T) (x : T) → p x ≡ true → member same (filter p xs) x ≡ member same xs x
member-filter same eq p [] x h = refl
member-filter same eq p (y ∷ ys) x h =
    by_bool (p y)
    (λ k. rw k (ap (λ v. same x y || v) (member-filter same eq p ys x h)))
    (λ k.
    let ne : same x y ≡ false = false_from_ne_true (same x y) (λ t. not_both (p y) (rw (← eq x y t) h) k) in
    rw (k, ne) (member-filter same eq p ys x h))

module _ {T : Type 0} (s : System T) (law : IsAcyclic s) (kept : T → Bool) where
  fill_all-filled : (d xs : List T) (y : T) → member s.same xs y ≡ true → seen s kept (fill_all s kept d xs) y ≡ true
  fill_all-filled d [] y h = cc
  fill_all-filled d (x ∷ xs) y h =
      elim (or_cases (s.same y x) (member s.same xs y) h) [
        | inl e ↦ seen-grows s law kept (fill s kept d x) (fill_all s kept (fill s kept d x) xs) y (fill_all-grows s law kept (fill s kept d x) xs) (rw (law.same_true y x e) (fill-filled s law kept d x))
        | inr m ↦ fill_all-filled (fill s kept d x) xs y m
      ]

  fill_all-low : (r : ℕ) (d xs : List T) (z : T) → ((y : T) → member s.same xs y ≡ true → s.rank y < r) → member s.same (fill_all s kept d xs) z ≡ true → (member s.same d z ≡ true) ⊎ (s.rank z < r)
  fill_all-low r d [] z below h = inl h
  fill_all-low r d (y ∷ ys) z below h =
      elim (fill_all-low r (fill s kept d y) ys z (λ w m. below w (or_right (s.same w y) (member s.same ys w) m)) h) [
        | inl m ↦ elim (fill-low s law kept d y z m) [
          | inl k ↦ inl k
          | inr k ↦ let b : s.rank y < r = below y (or_left (s.same y y) (member s.same ys y) (law.same_refl y)) in inr (omega arith)
        ]
        | inr k ↦ inr k
      ]

  -- the rule for facts of the order: what one fill keeps, a demand keeps
  module _ (N : T → Type 0) (down : (x y : T) → N x → member s.same (s.inputs x) y ≡ true → N y) (Q : List T → Type 0) (step : (d : List T) (x : T) → N x → Q d → seen s kept d x ≡ false → ((y : T) → member s.same (s.inputs x) y ≡ true → seen s kept d y ≡ true) → Q (d ++ x ∷ [])) where
    list-keeps : (r : ℕ) → ((d : List T) (x : T) → s.rank x < r → N x → Q d → Q (fill s kept d x)) → (d xs : List T) → ((y : T) → member s.same xs y ≡ true → s.rank y < r) → ((y : T) → member s.same xs y ≡ true → N y) → Q d → Q (fill_all s kept d xs)
    list-keeps r one d [] low ns q = q
    list-keeps r one d (x ∷ xs) low ns q =
        let here = or_left (s.same x x) (member s.same xs x) (law.same_refl x) in
        list-keeps r one (fill s kept d x) xs (λ y m. low y (or_right (s.same y x) (member s.same xs y) m)) (λ y m. ns y (or_right (s.same y x) (member s.same xs y) m)) (one d x (low x here) (ns x here) q)

    fill-keeps : (r : ℕ) (d : List T) (x : T) → s.rank x < r → N x → Q d → Q (fill s kept d x)
    fill-keeps zero d x h n q = absurd (omega arith)
    fill-keeps (suc r) d x h n q =
        by_bool (seen s kept d x)
        (λ k. rw (fill-seen s law kept d x k) q)
        (λ k.
        let all : List T = fill_all s kept d (s.inputs x) in
        rw (fill-new s law kept d x k)
        (step (fill_all s kept d (s.inputs x)) x n
        (list-keeps r (fill-keeps r) d (s.inputs x) (λ y m. let b : s.rank y < s.rank x = law.falls x y m in omega arith) (λ y m. down x y n m) q)
        (false_from_ne_true (seen s kept (fill_all s kept d (s.inputs x)) x) (λ t. elim (or_cases (kept x) (member s.same (fill_all s kept d (s.inputs x)) x) t) [
          | inl a ↦ not_both (seen s kept d x) (or_left (kept x) (member s.same d x) a) k
          | inr a ↦ elim (fill_all-low (s.rank x) d (s.inputs x) x (law.falls x) a) [
            | inl b ↦ not_both (seen s kept d x) (or_right (kept x) (member s.same d x) b) k
            | inr b ↦ absurd (omega arith)
          ]
        ]))
        (fill_all-filled d (s.inputs x))))

    pub inputs-keeps : (xs : List T) (bound : ℕ) (low : AreBelow s xs bound) (d : List T) → ((y : T) → member s.same xs y ≡ true → N y) → Q d → Q (fill_all s kept d xs)
    inputs-keeps xs bound low d ns q = list-keeps bound (fill-keeps bound) d xs low ns q

  -- no name is filled twice
  pub order-distinct : (xs : List T) (bound : ℕ) (low : AreBelow s xs bound) → IsDistinct s.same (fill_all s kept [] xs)
  order-distinct xs bound low =
      inputs-keeps (λ _. Unit {0}) (λ x y n m. tt) (IsDistinct s.same)
      (λ d x n q k all. distinct-push s.same law.same_true law.same_refl d x q (or_parts (kept x) (member s.same d x) k).1)
      xs bound low [] (λ y m. tt) tt

  -- each name is filled after its inputs
  pub order-follows : (xs : List T) (bound : ℕ) (low : AreBelow s xs bound) → Follows s kept [] (fill_all s kept [] xs)
  order-follows xs bound low =
      inputs-keeps (λ _. Unit {0}) (λ x y n m. tt) (λ d. Follows s kept [] d)
      (λ d x n q k all. follows-push s kept [] d x q all)
      xs bound low [] (λ y m. tt) tt

  -- what is filled is needed, and was not kept
  pub order-needed : (xs : List T) (bound : ℕ) (low : AreBelow s xs bound) (x : T) → member s.same (fill_all s kept [] xs) x ≡ true → Needed s xs x × (kept x ≡ false)
  order-needed xs bound low x h =
      inputs-keeps (λ y. Needed s xs y) (λ a b n m. under a b n m) (λ d. (z : T) → member s.same d z ≡ true → Needed s xs z × (kept z ≡ false))
      (λ d y n q k all z m. elim (or_cases (member s.same d z) (s.same z y || false) (rw (member-append s.same d (y ∷ []) z) at m)) [
        | inl a ↦ q z a
        | inr a ↦ elim (or_cases (s.same z y) false a) [
          | inl e ↦ rw (law.same_true z y e) (n, (or_parts (kept y) (member s.same d y) k).0)
          | inr e ↦ absurd (cc)
        ]
      ])
      xs bound low [] (λ y m. input y m) (λ z m. absurd (cc)) x h

  closed-push : (d : List T) (x : T) → IsClosed s (seen s kept d) → ((y : T) → member s.same (s.inputs x) y ≡ true → seen s kept d y ≡ true) → IsClosed s (seen s kept (d ++ x ∷ []))
  closed-push d x c all a b h m =
      let grow : (y : T) → seen s kept d y ≡ true → seen s kept (d ++ x ∷ []) y ≡ true = λ y. seen-grows s law kept d (d ++ x ∷ []) y (record { more = x ∷ []; is = refl }) in
      elim (or_cases (kept a) (member s.same (d ++ x ∷ []) a) h) [
        | inl k ↦ grow b (c a b (or_left (kept a) (member s.same d a) k) m)
        | inr k ↦ elim (or_cases (member s.same d a) (s.same a x || false) (rw (member-append s.same d (x ∷ []) a) at k)) [
          | inl e ↦ grow b (c a b (or_right (kept a) (member s.same d a) e) m)
          | inr e ↦ elim (or_cases (s.same a x) false e) [
            | inl q ↦ grow b (all b (rw (law.same_true a x q) at m))
            | inr q ↦ absurd (cc)
          ]
        ]
      ]

  follows-closed : (before xs : List T) → Follows s kept before xs → IsClosed s (seen s kept before) → IsClosed s (seen s kept (before ++ xs))
  follows-closed before [] f c = rw append-nil c
  follows-closed before (x ∷ xs) f c = rw (← append_assoc before (x ∷ []) xs) (follows-closed (before ++ x ∷ []) xs f.1 (closed-push before x c f.0))

  -- a kept set that is closed stays so after each fill
  pub closed-after : (xs : List T) (bound : ℕ) (low : AreBelow s xs bound) (n : ℕ) → IsClosed s kept → IsClosed s (seen s kept (take n (fill_all s kept [] xs)))
  closed-after xs bound low n c =
      follows-closed [] (take n (fill_all s kept [] xs)) (follows-take s kept n [] (fill_all s kept [] xs) (order-follows xs bound low))
      (λ a b h m. elim (or_cases (kept a) false h) [ inl k ↦ or_left (kept b) false (c a b k m) | inr k ↦ absurd (cc) ])

  closed-end : (xs : List T) (bound : ℕ) (low : AreBelow s xs bound) → IsClosed s kept → IsClosed s (seen s kept (fill_all s kept [] xs))
  closed-end xs bound low c =
      follows-closed [] (fill_all s kept [] xs) (order-follows xs bound low)
      (λ a b h m. elim (or_cases (kept a) false h) [ inl k ↦ or_left (kept b) false (c a b k m) | inr k ↦ absurd (cc) ])

  -- each needed name is kept or filled
  pub needed-seen : (xs : List T) (bound : ℕ) (low : AreBelow s xs bound) (x : T) → IsClosed s kept → Needed s xs x → seen s kept (fill_all s kept [] xs) x ≡ true
  needed-seen xs bound low x c (input _ m) = fill_all-filled [] xs x m
  needed-seen xs bound low x c (under y _ n m) = closed-end xs bound low c y x (needed-seen xs bound low y c n) m

  -- a demand for kept names fills nothing
  pub all_kept : (d xs : List T) → ((y : T) → member s.same xs y ≡ true → kept y ≡ true) → fill_all s kept d xs ≡ d
  all_kept d [] h = refl
  all_kept d (x ∷ xs) h =
      let k : kept x ≡ true = h x (or_left (s.same x x) (member s.same xs x) (law.same_refl x)) in
      rw (fill-seen s law kept d x (or_left (kept x) (member s.same d x) k))
      (all_kept d xs (λ y m. h y (or_right (s.same y x) (member s.same xs y) m)))

  fresh : List T → List T
  fresh xs = filter (λ x. not (kept x)) xs

module _ {T : Type 0} (s : System T) (law : IsAcyclic s) (kept : T → Bool) (closed : IsClosed s kept) where
  -- with a kept set that is closed, what is filled is the whole order without the kept names
  fresh-list : (r : ℕ) → ((d : List T) (x : T) → s.rank x < r → fill s kept (fresh s law kept d) x ≡ fresh s law kept (fill s (λ _. false) d x)) → (d xs : List T) → ((y : T) → member s.same xs y ≡ true → s.rank y < r) → fill_all s kept (fresh s law kept d) xs ≡ fresh s law kept (fill_all s (λ _. false) d xs)
  fresh-list r one d [] low = refl
  fresh-list r one d (x ∷ xs) low =
      ap (λ v. fill_all s kept v xs) (one d x (low x (or_left (s.same x x) (member s.same xs x) (law.same_refl x))))
      ∙ fresh-list r one (fill s (λ _. false) d x) xs (λ y m. low y (or_right (s.same y x) (member s.same xs y) m))

  fresh-fill : (r : ℕ) (d : List T) (x : T) → s.rank x < r → fill s kept (fresh s law kept d) x ≡ fresh s law kept (fill s (λ _. false) d x)
  unfolding fresh
  fresh-fill zero d x h = absurd (omega arith)
  fresh-fill (suc r) d x h =
      let not_in : (xs : List T) → kept x ≡ false → member s.same (filter (λ y. not (kept y)) xs) x ≡ member s.same xs x = λ xs k. member-filter s.same law.same_true (λ y. not (kept y)) xs x (ap not k) in
      by_bool (member s.same d x)
      (λ m.
      rw (fill-seen s law (λ _. false) d x m)
      (fill-seen s law kept (filter (λ y. not (kept y)) d) x
      (by_bool (kept x)
      (λ k. or_left (kept x) (member s.same (filter (λ y. not (kept y)) d) x) k)
      (λ k. or_right (kept x) (member s.same (filter (λ y. not (kept y)) d) x) (not_in d k ∙ m)))))
      (λ m.
      let before = fresh-list r (fresh-fill r) d (s.inputs x) (λ y q. let b : s.rank y < s.rank x = law.falls x y q in omega arith) in
      rw (fill-new s law (λ _. false) d x m, filter-append (λ y. not (kept y)) (fill_all s (λ _. false) d (s.inputs x)) (x ∷ []))
      (by_bool (kept x)
      (λ k.
      rw (k, append-nil, fill-seen s law kept (filter (λ y. not (kept y)) d) x (or_left (kept x) (member s.same (filter (λ y. not (kept y)) d) x) k))
      (sym (all_kept s law kept (filter (λ y. not (kept y)) d) (s.inputs x) (λ y q. closed x y k q)) ∙ before))
      (λ k.
      rw (k, fill-new s law kept (filter (λ y. not (kept y)) d) x (or_from (kept x) (member s.same (filter (λ y. not (kept y)) d) x) k (not_in d k ∙ m)))
      (ap (λ v. v ++ x ∷ []) before))))

  pub missing-order : (xs : List T) (bound : ℕ) (low : AreBelow s xs bound) → fill_all s kept [] xs ≡ filter (λ x. not (kept x)) (order s xs)
  unfolding fresh
  missing-order xs bound low = fresh-list bound (fresh-fill bound) [] xs low
