-- What entries stand for: sums, halves and lesser ones of entries are those of their bounds.
use Rattle.std.specs.Prelude.{negsuc, Bool, ◌≡◌, ℕ, ◌<◌, ◌≤◌, ◌+◌, ◌*◌, ℤ, pos, neg_ℤ, ◌+ℤ◌, ◌≤ℤ◌, ◌<ℤ◌, int_lt, Some, None, true, false, List, length, map, replicate, refl, Option}
use Rattle.std.specs.Int.{int_div_euclid, int_max, int_min}
use lib.Signed.{le_z, lt_z}
use Rattle.std.proofs.Common.{arith, ap, sym, subst, suc, zero, ◌∙◌, inl, inr, get_or}
use Rattle.std.proofs.lemmas.Int.{ints, by_lt_z}
use Rattle.std.proofs.lemmas.Bool.{cases_lt, le-ltb, lt-ltb}
use Rattle.std.proofs.lemmas.List.{get_or-map, get_or_past, length-map}
use Rattle.dbm_core.proofs.HalfLemmas.{entry-kept, entry-other}
use Rattle.dbm_core.specs.Half.{entry, row_start, row_width}
use Rattle.dbm_core.specs.Limits.{AreWithin, IsWithin}
use Rattle.dbm_core.specs.Nodes.{flip}
use Rattle.dbm_core.specs.Weights.{AtMost, add_weight, greatest, least}
use Rattle.dbm_close.specs.Steps.{half}
use Rattle.dbm_narrow.specs.Widths.{HasRoom, IsBound}
use Rattle.dbm_narrow.specs.Entries.{AreEntries, IsEntry, at, half_entry, held, none, or_zero, pair_at, settle, strengthened_by, through_both, wide}

module _ (unit : ℕ) (room : 0 < unit) where
  -- ---- tests

  lt-yes : (x y : ℤ) → x <ℤ y → int_lt x y ≡ true
  lt-yes x y h = grind (arith, ints)

  lt-no : (x y : ℤ) → y ≤ℤ x → int_lt x y ≡ false
  lt-no x y h = grind (arith, ints)

  -- ---- one entry

  pub wide-bound : (x : ℤ) → x <ℤ pos (16 * unit) → wide unit x ≡ Some x
  unfolding wide
  wide-bound x h = rw (lt-yes x (pos (16 * unit)) h) refl

  pub wide-free : (x : ℤ) → pos (16 * unit) ≤ℤ x → wide unit x ≡ None
  unfolding wide
  wide-free x h = rw (lt-no x (pos (16 * unit)) h) refl

  pub settle-bound : (x : ℤ) → x <ℤ pos (16 * unit) → settle unit x ≡ x
  unfolding settle
  settle-bound x h = rw (lt-yes x (pos (16 * unit)) h) refl

  pub settle-free : (x : ℤ) → pos (16 * unit) ≤ℤ x → settle unit x ≡ none unit
  unfolding settle
  settle-free x h = rw (lt-no x (pos (16 * unit)) h) refl

  pub wide-none : wide unit (none unit) ≡ None
  wide-none = wide-free (none unit) (omega (arith, ints))

  pub wide-settle : (x : ℤ) → wide unit (settle unit x) ≡ wide unit x
  wide-settle x = by_lt_z x (pos (16 * unit))
      (λ h. ap (wide unit) (settle-bound x h))
      (λ h. ap (wide unit) (settle-free x h) ∙ wide-none ∙ sym (wide-free x h))

  -- ---- the lesser

  min-left : (x y : ℤ) → x ≤ℤ y → int_min x y ≡ x
  min-left x y h = rw (lt-no y x h) refl

  min-right : (x y : ℤ) → y <ℤ x → int_min x y ≡ y
  min-right x y h = rw (lt-yes y x h) refl

  pub wide-min : (x y : ℤ) → wide unit (int_min x y) ≡ least (wide unit x) (wide unit y)
  wide-min x y = by_lt_z x (pos (16 * unit))
      (λ h. by_lt_z y (pos (16 * unit))
      (λ k. by_lt_z y x
      (λ l. ap (wide unit) (min-right x y l) ∙ wide-bound y k ∙ sym (ap Some (min-right x y l)) ∙ sym (both x y h k))
      (λ l. ap (wide unit) (min-left x y l) ∙ wide-bound x h ∙ sym (ap Some (min-left x y l)) ∙ sym (both x y h k)))
      (λ k. ap (wide unit) (min-left x y (omega (arith, ints))) ∙ wide-bound x h ∙ sym (rw (wide-bound x h, wide-free y k) refl)))
      (λ h. by_lt_z y (pos (16 * unit))
      (λ k. ap (wide unit) (min-right x y (omega (arith, ints))) ∙ wide-bound y k ∙ sym (rw (wide-free x h, wide-bound y k) refl))
      (λ k. wide-free (int_min x y) (above x y h k) ∙ sym (rw (wide-free x h, wide-free y k) refl)))
    where
      both : (x y : ℤ) → x <ℤ pos (16 * unit) → y <ℤ pos (16 * unit) → least (wide unit x) (wide unit y) ≡ Some (int_min x y)
      both x y h k = rw (wide-bound x h, wide-bound y k) refl

      above : (x y : ℤ) → pos (16 * unit) ≤ℤ x → pos (16 * unit) ≤ℤ y → pos (16 * unit) ≤ℤ int_min x y
      above x y h k = grind (arith, ints)

  -- ---- the greater

  max-left : (x y : ℤ) → y <ℤ x → int_max x y ≡ x
  max-left x y h = rw (lt-yes y x h) refl

  max-right : (x y : ℤ) → x ≤ℤ y → int_max x y ≡ y
  max-right x y h = rw (lt-no y x h) refl

  greatest-right : (a b : Option ℤ) → AtMost a b → greatest a b ≡ b
  greatest-right None None h = refl
  greatest-right None (Some y) h = absurd h
  greatest-right (Some x) None h = refl
  greatest-right (Some x) (Some y) h = ap Some (max-right x y h)

  greatest-left : (a b : Option ℤ) → AtMost b a → greatest a b ≡ a
  greatest-left None b h = refl
  greatest-left (Some x) None h = absurd h
  greatest-left (Some x) (Some y) h = by_lt_z y x (λ k. ap Some (max-left x y k)) (λ k. let e : y ≡ x = omega (arith, ints) in ap Some (max-right x y (omega (arith, ints)) ∙ e))

  pub wide-mono : (x y : ℤ) → x ≤ℤ y → AtMost (wide unit x) (wide unit y)
  wide-mono x y h = by_lt_z y (pos (16 * unit))
      (λ k. subst (AtMost (wide unit x)) (sym (wide-bound y k)) (subst (λ a. AtMost a (Some y)) (sym (wide-bound x (omega (arith, ints)))) h))
      (λ k. subst (AtMost (wide unit x)) (sym (wide-free y k)) tt)

  pub wide-max : (x y : ℤ) → wide unit (int_max x y) ≡ greatest (wide unit x) (wide unit y)
  wide-max x y = by_lt_z y x
      (λ h. ap (wide unit) (max-left x y h) ∙ sym (greatest-left (wide unit x) (wide unit y) (wide-mono y x (omega (arith, ints)))))
      (λ h. ap (wide unit) (max-right x y h) ∙ sym (greatest-right (wide unit x) (wide unit y) (wide-mono x y h)))

  pub max-entry : (b : ℕ) (x y : ℤ) → IsEntry unit b x → IsEntry unit b y → IsEntry unit b (int_max x y)
  max-entry b x y p q = by_lt_z y x
      (λ h. subst (IsEntry unit b) (sym (max-left x y h)) p)
      (λ h. subst (IsEntry unit b) (sym (max-right x y h)) q)

  pub max-none : int_max (none unit) (none unit) ≡ none unit
  max-none = max-right (none unit) (none unit) (omega (arith, ints))

  -- ---- the sum

  pub entry-low : (b : ℕ) (x : ℤ) → b ≤ 8 * unit → IsEntry unit b x → neg_ℤ (pos (8 * unit)) ≤ℤ x
  entry-low b x l (inl e) = omega (arith, ints)
  entry-low b x l (inr p) = let q : neg_ℤ (pos b) ≤ℤ x = p.0 in omega (arith, ints)

  pub entry-top : (b : ℕ) (x : ℤ) → b ≤ 8 * unit → IsEntry unit b x → x ≤ℤ none unit
  entry-top b x l (inl e) = omega (arith, ints)
  entry-top b x l (inr p) = let q : x ≤ℤ pos b = p.1 in omega (arith, ints)

  pub entry-more : (b c : ℕ) (x : ℤ) → b ≤ c → IsEntry unit b x → IsEntry unit c x
  entry-more b c x l (inl e) = inl e
  entry-more b c x l (inr p) = let q : neg_ℤ (pos b) ≤ℤ x = p.0 in let r : x ≤ℤ pos b = p.1 in inr (omega (arith, ints), omega (arith, ints))

  pub sum-room : (x y : ℤ) → IsEntry unit (8 * unit) x → IsEntry unit (8 * unit) y → HasRoom unit (x +ℤ y)
  sum-room x y p q =
      let a : neg_ℤ (pos (8 * unit)) ≤ℤ x = entry-low (8 * unit) x (omega arith) p in
      let b : neg_ℤ (pos (8 * unit)) ≤ℤ y = entry-low (8 * unit) y (omega arith) q in
      let c : x ≤ℤ none unit = entry-top (8 * unit) x (omega arith) p in
      let d : y ≤ℤ none unit = entry-top (8 * unit) y (omega arith) q in
      omega (arith, ints)

  -- a sum of entries is that of their bounds, where it stays below 16 units
  pub wide-sum : (b c : ℕ) (x y : ℤ) → b + c < 16 * unit → IsEntry unit b x → IsEntry unit c y → wide unit (x +ℤ y) ≡ add_weight (wide unit x) (wide unit y)
  wide-sum b c x y l (inl e) (inl f) = wide-free (x +ℤ y) (omega (arith, ints)) ∙ sym (rw (wide-free x (omega (arith, ints))) refl)
  wide-sum b c x y l (inl e) (inr q) =
      let r : neg_ℤ (pos c) ≤ℤ y = q.0 in
      wide-free (x +ℤ y) (omega (arith, ints)) ∙ sym (rw (wide-free x (omega (arith, ints))) refl)
  wide-sum b c x y l (inr p) (inl f) =
      let r : neg_ℤ (pos b) ≤ℤ x = p.0 in
      let s : x ≤ℤ pos b = p.1 in
      wide-free (x +ℤ y) (omega (arith, ints)) ∙ sym (rw (wide-bound x (omega (arith, ints)), wide-free y (omega (arith, ints))) refl)
  wide-sum b c x y l (inr p) (inr q) =
      let r : x ≤ℤ pos b = p.1 in
      let s : y ≤ℤ pos c = q.1 in
      wide-bound (x +ℤ y) (omega (arith, ints)) ∙ sym (rw (wide-bound x (omega (arith, ints)), wide-bound y (omega (arith, ints))) refl)

  -- ---- an entry when walks may go over two more

  pub wide-through_both : (u v f g x : ℤ) → IsEntry unit (6 * unit) u → IsEntry unit (6 * unit) v → IsEntry unit (8 * unit) f → IsEntry unit (8 * unit) g →
      wide unit (through_both unit u v f g x) ≡ least (least (wide unit x) (add_weight (wide unit u) (wide unit f))) (add_weight (wide unit v) (wide unit g))
  wide-through_both u v f g x p q r s =
      wide-settle (int_min (int_min x (u +ℤ f)) (v +ℤ g))
      ∙ wide-min (int_min x (u +ℤ f)) (v +ℤ g)
      ∙ ap (λ a. least a (wide unit (v +ℤ g))) (wide-min x (u +ℤ f))
      ∙ ap (λ a. least (least (wide unit x) a) (wide unit (v +ℤ g))) (wide-sum (6 * unit) (8 * unit) u f (omega arith) p r)
      ∙ ap (λ a. least (least (wide unit x) (add_weight (wide unit u) (wide unit f))) a) (wide-sum (6 * unit) (8 * unit) v g (omega arith) q s)

  pub settled-entry : (b : ℕ) (s : ℤ) → neg_ℤ (pos b) ≤ℤ settle unit s → or_zero unit (settle unit s) ≤ℤ pos b → IsEntry unit b (settle unit s)
  settled-entry b s l h = by_lt_z s (pos (16 * unit))
      (λ k. let e : settle unit s ≡ s = settle-bound s k in
      let t : int_lt (settle unit s) (pos (16 * unit)) ≡ true = rw e (lt-yes s (pos (16 * unit)) k) in
      inr (l, rw t at h))
      (λ k. inl (settle-free s k))

  pub none-entry : (b : ℕ) → IsEntry unit b (none unit)
  none-entry b = inl refl

  pub settle-sum : (b c : ℕ) (x y : ℤ) → b + c < 16 * unit → IsEntry unit b x → IsEntry unit c y → IsEntry unit (b + c) (settle unit (x +ℤ y))
  settle-sum b c x y l (inl e) (inl f) = inl (settle-free (x +ℤ y) (omega (arith, ints)))
  settle-sum b c x y l (inl e) (inr q) = let r : neg_ℤ (pos c) ≤ℤ y = q.0 in inl (settle-free (x +ℤ y) (omega (arith, ints)))
  settle-sum b c x y l (inr p) (inl f) = let r : neg_ℤ (pos b) ≤ℤ x = p.0 in inl (settle-free (x +ℤ y) (omega (arith, ints)))
  settle-sum b c x y l (inr p) (inr q) =
      let p0 : neg_ℤ (pos b) ≤ℤ x = p.0 in
      let p1 : x ≤ℤ pos b = p.1 in
      let q0 : neg_ℤ (pos c) ≤ℤ y = q.0 in
      let q1 : y ≤ℤ pos c = q.1 in
      subst (IsEntry unit (b + c)) (sym (settle-bound (x +ℤ y) (omega (arith, ints)))) (inr (omega (arith, ints), omega (arith, ints)))

  pub min-entry : (b : ℕ) (x y : ℤ) → IsEntry unit b x → IsEntry unit b y → IsEntry unit b (int_min x y)
  min-entry b x y p q = by_lt_z y x
      (λ h. subst (IsEntry unit b) (sym (min-right x y h)) q)
      (λ h. subst (IsEntry unit b) (sym (min-left x y h)) p)

  -- the lesser of an entry and a sum is settled as the lesser of the entry and the settled sum
  settle-entry : (b : ℕ) (x : ℤ) → b < 16 * unit → IsEntry unit b x → settle unit x ≡ x
  settle-entry b x l (inl e) = settle-free x (omega (arith, ints)) ∙ sym e
  settle-entry b x l (inr p) = let q : x ≤ℤ pos b = p.1 in settle-bound x (omega (arith, ints))

  pub settle-min : (b : ℕ) (x s : ℤ) → b < 16 * unit → IsEntry unit b x → IsEntry unit b (settle unit s) → IsEntry unit b (settle unit (int_min x s))
  settle-min b x s l p q = by_lt_z s x
      (λ h. subst (λ y. IsEntry unit b (settle unit y)) (sym (min-right x s h)) q)
      (λ h. subst (λ y. IsEntry unit b (settle unit y)) (sym (min-left x s h)) (subst (IsEntry unit b) (sym (settle-entry b x l p)) p))

  pub strengthened-entry : (u f x : ℤ) → IsEntry unit unit u → IsEntry unit unit f → IsEntry unit (2 * unit) x → IsEntry unit (2 * unit) (strengthened_by unit u f x)
  strengthened-entry u f x p q r = settle-min (2 * unit) x (u +ℤ f) (omega arith) r (entry-more (unit + unit) (2 * unit) (settle unit (u +ℤ f)) (omega arith) (settle-sum unit unit u f (omega arith) p q))

  pub wide-strengthened : (u f x : ℤ) → IsEntry unit unit u → IsEntry unit unit f → wide unit (strengthened_by unit u f x) ≡ least (wide unit x) (add_weight (wide unit u) (wide unit f))
  wide-strengthened u f x p q =
      wide-settle (int_min x (u +ℤ f))
      ∙ wide-min x (u +ℤ f)
      ∙ ap (least (wide unit x)) (wide-sum unit unit u f (omega arith) p q)

  -- the lesser of what is not settled and a sum settles as if it were
  pub settle-again : (a s : ℤ) → settle unit (int_min a s) ≡ settle unit (int_min (settle unit a) s)
  settle-again a s = by_lt_z a (pos (16 * unit))
      (λ h. ap (λ z. settle unit (int_min z s)) (sym (settle-bound a h)))
      (λ h. by_lt_z s (pos (16 * unit)) (λ k. below h k) (λ k. settle-free (int_min a s) (above a s h k) ∙ sym (settle-free (int_min (settle unit a) s) (above (settle unit a) s (subst (λ z. pos (16 * unit) ≤ℤ z) (sym (settle-free a h)) (omega (arith, ints))) k))))
    where
      above : (x y : ℤ) → pos (16 * unit) ≤ℤ x → pos (16 * unit) ≤ℤ y → pos (16 * unit) ≤ℤ int_min x y
      above x y h k = grind (arith, ints)

      below : pos (16 * unit) ≤ℤ a → s <ℤ pos (16 * unit) → settle unit (int_min a s) ≡ settle unit (int_min (settle unit a) s)
      below h k =
          let e : settle unit a ≡ none unit = settle-free a h in
          let l : s <ℤ a = omega (arith, ints) in
          let m : s <ℤ none unit = omega (arith, ints) in
          ap (settle unit) (min-right a s l ∙ sym (min-right (none unit) s m) ∙ ap (λ z. int_min z s) (sym e))

  -- an entry that goes over both ways
  pub through-entry : (u v f g x : ℤ) → IsEntry unit (6 * unit) u → IsEntry unit (6 * unit) v → IsEntry unit (8 * unit) f → IsEntry unit (8 * unit) g → IsEntry unit (2 * unit) x → IsEntry unit (14 * unit) (through_both unit u v f g x)
  through-entry u v f g x pu pv pf pg px =
      let a : IsEntry unit (14 * unit) (settle unit (int_min x (u +ℤ f))) = settle-min (14 * unit) x (u +ℤ f) (omega arith) (entry-more (2 * unit) (14 * unit) x (omega arith) px) (entry-more (6 * unit + 8 * unit) (14 * unit) (settle unit (u +ℤ f)) (omega arith) (settle-sum (6 * unit) (8 * unit) u f (omega arith) pu pf)) in
      subst (IsEntry unit (14 * unit)) (sym (settle-again (int_min x (u +ℤ f)) (v +ℤ g)))
      (settle-min (14 * unit) (settle unit (int_min x (u +ℤ f))) (v +ℤ g) (omega arith) a (entry-more (6 * unit + 8 * unit) (14 * unit) (settle unit (v +ℤ g)) (omega arith) (settle-sum (6 * unit) (8 * unit) v g (omega arith) pv pg)))

  -- where neither way leads anywhere an entry stays
  pub through_both-free : (u v f g x : ℤ) → pos (16 * unit) ≤ℤ u → pos (16 * unit) ≤ℤ v → IsEntry unit (6 * unit) u → IsEntry unit (6 * unit) v → IsEntry unit (8 * unit) f → IsEntry unit (8 * unit) g → IsEntry unit (2 * unit) x →
      through_both unit u v f g x ≡ x
  through_both-free u v f g x hu hv pu pv pf pg px = stays (u +ℤ f) (v +ℤ g) px (far u f hu pu pf) (far v g hv pv pg)
    where
      far : (u f : ℤ) → pos (16 * unit) ≤ℤ u → IsEntry unit (6 * unit) u → IsEntry unit (8 * unit) f → pos (16 * unit) ≤ℤ (u +ℤ f)
      far u f h (inl e) q = let r : neg_ℤ (pos (8 * unit)) ≤ℤ f = entry-low (8 * unit) f (omega arith) q in omega (arith, ints)
      far u f h (inr p) q = let r : u ≤ℤ pos (6 * unit) = p.1 in absurd (omega (arith, ints))

      stays : (s t : ℤ) → IsEntry unit (2 * unit) x → pos (16 * unit) ≤ℤ s → pos (16 * unit) ≤ℤ t → settle unit (int_min (int_min x s) t) ≡ x
      stays s t (inl e) h k = settle-free (int_min (int_min x s) t) (above (int_min x s) t (above x s (omega (arith, ints)) h) k) ∙ sym e
        where
          above : (x y : ℤ) → pos (16 * unit) ≤ℤ x → pos (16 * unit) ≤ℤ y → pos (16 * unit) ≤ℤ int_min x y
          above x y h k = grind (arith, ints)
      stays s t (inr p) h k =
          let q : x ≤ℤ pos (2 * unit) = p.1 in
          let a : int_min x s ≡ x = min-left x s (omega (arith, ints)) in
          let b : int_min (int_min x s) t ≡ x = ap (λ z. int_min z t) a ∙ min-left x t (omega (arith, ints)) in
          ap (settle unit) b ∙ settle-bound x (omega (arith, ints))

  -- the same of strengthening
  pub strengthened-free : (u f x : ℤ) → pos (16 * unit) ≤ℤ u → IsEntry unit unit u → IsEntry unit unit f → IsEntry unit (2 * unit) x → strengthened_by unit u f x ≡ x
  strengthened-free u f x h p q r = stays (u +ℤ f) r (far u h p q)
    where
      far : (u : ℤ) → pos (16 * unit) ≤ℤ u → IsEntry unit unit u → IsEntry unit unit f → pos (16 * unit) ≤ℤ (u +ℤ f)
      far u h (inl e) (inl g) = omega (arith, ints)
      far u h (inl e) (inr g) = let r : neg_ℤ (pos unit) ≤ℤ f = g.0 in omega (arith, ints)
      far u h (inr p) q = let r : u ≤ℤ pos unit = p.1 in absurd (omega (arith, ints))

      stays : (s : ℤ) → IsEntry unit (2 * unit) x → pos (16 * unit) ≤ℤ s → settle unit (int_min x s) ≡ x
      stays s (inl e) k = settle-free (int_min x s) (above x s (omega (arith, ints)) k) ∙ sym e
        where
          above : (x y : ℤ) → pos (16 * unit) ≤ℤ x → pos (16 * unit) ≤ℤ y → pos (16 * unit) ≤ℤ int_min x y
          above x y h k = grind (arith, ints)
      stays s (inr p) k =
          let q : x ≤ℤ pos (2 * unit) = p.1 in
          ap (settle unit) (min-left x s (omega (arith, ints))) ∙ settle-bound x (omega (arith, ints))

  -- ---- signs and halves

  pub wide-negative : (x : ℤ) → x <ℤ pos 0 → AtMost (wide unit x) (Some (negsuc 0))
  wide-negative x h = subst (λ a. AtMost a (Some (negsuc 0))) (sym (wide-bound x (omega (arith, ints)))) (below x h)
    where
      below : (x : ℤ) → x <ℤ pos 0 → x ≤ℤ negsuc 0
      below x h = omega (arith, ints)

  pub wide-positive : (x : ℤ) → pos 0 ≤ℤ x → AtMost (Some (pos 0)) (wide unit x)
  wide-positive x h = by_lt_z x (pos (16 * unit))
      (λ k. subst (λ a. AtMost (Some (pos 0)) a) (sym (wide-bound x k)) h)
      (λ k. subst (λ a. AtMost (Some (pos 0)) a) (sym (wide-free x k)) tt)

  half-yes : (x : ℤ) → x <ℤ pos (16 * unit) → half_entry unit x ≡ int_div_euclid x (pos 2)
  unfolding half_entry
  half-yes x h = rw (lt-yes x (pos (16 * unit)) h) refl

  half-no : (x : ℤ) → pos (16 * unit) ≤ℤ x → half_entry unit x ≡ none unit
  unfolding half_entry
  half-no x h = rw (lt-no x (pos (16 * unit)) h) refl

  halved-bound : (x h : ℤ) → h ≡ int_div_euclid x (pos 2) → x <ℤ pos (16 * unit) → h <ℤ pos (16 * unit)
  halved-bound (pos n) h e l = omega (arith, ints)
  halved-bound (negsuc n) h e l = omega (arith, ints)

  pub wide-half : (x : ℤ) → wide unit (half_entry unit x) ≡ half (wide unit x)
  wide-half x = by_lt_z x (pos (16 * unit))
      (λ h. ap (wide unit) (half-yes x h) ∙ wide-bound (int_div_euclid x (pos 2)) (halved-bound x (int_div_euclid x (pos 2)) refl h) ∙ sym (ap half (wide-bound x h)))
      (λ h. ap (wide unit) (half-no x h) ∙ wide-none ∙ sym (ap half (wide-free x h)))

  halved-low : (x h : ℤ) → h ≡ int_div_euclid x (pos 2) → neg_ℤ (pos (2 * unit)) ≤ℤ x → neg_ℤ (pos unit) ≤ℤ h
  halved-low (pos n) h e l = omega (arith, ints)
  halved-low (negsuc n) h e l = omega (arith, ints)

  halved-high : (x h : ℤ) → h ≡ int_div_euclid x (pos 2) → x ≤ℤ pos (2 * unit) → h ≤ℤ pos unit
  halved-high (pos n) h e l = omega (arith, ints)
  halved-high (negsuc n) h e l = omega (arith, ints)

  pub half-entry : (x : ℤ) → IsEntry unit (2 * unit) x → IsEntry unit unit (half_entry unit x)
  half-entry x (inl e) = inl (half-no x (omega (arith, ints)))
  half-entry x (inr p) =
      let q : x ≤ℤ pos (2 * unit) = p.1 in
      subst (IsEntry unit unit) (sym (half-yes x (omega (arith, ints))))
      (inr (halved-low x (int_div_euclid x (pos 2)) refl p.0, halved-high x (int_div_euclid x (pos 2)) refl p.1))

  -- ---- lists

  pub wide-at : (xs : List ℤ) (k : ℕ) → get_or (map (wide unit) xs) k None ≡ wide unit (at unit xs k)
  wide-at xs k = elim (cases_lt k (length xs)) [
    | inl l ↦ get_or-map (wide unit) xs k (none unit) None l
    | inr l ↦ get_or_past (map (wide unit) xs) k None (rw (length-map xs (wide unit)) l) ∙ sym (ap (wide unit) (get_or_past xs k (none unit) l) ∙ wide-none)
  ]

  pub pair-kept : (xs : List ℤ) (i j : ℕ) → j < row_width i → pair_at unit xs i j ≡ at unit xs (row_start i + j)
  unfolding pair_at
  pair-kept xs i j h = rw (lt-ltb j (row_width i) h) refl

  pub pair-other : (xs : List ℤ) (i j : ℕ) → row_width i ≤ j → pair_at unit xs i j ≡ at unit xs (row_start (flip j) + flip i)
  unfolding pair_at
  pair-other xs i j h = rw (le-ltb j (row_width i) h) refl

  -- the matrix has the bounds that the entries stand for
  pub held-entry : (kinds : List Bool) (xs : List ℤ) (i j : ℕ) → entry (held unit kinds xs) i j ≡ wide unit (pair_at unit xs i j)
  held-entry kinds xs i j = elim (cases_lt j (row_width i)) [
    | inl l ↦ entry-kept (held unit kinds xs) i j l ∙ wide-at xs (row_start i + j) ∙ sym (ap (wide unit) (pair-kept xs i j l))
    | inr l ↦ entry-other (held unit kinds xs) i j l ∙ wide-at xs (row_start (flip j) + flip i) ∙ sym (ap (wide unit) (pair-other xs i j l))
  ]

  pub held-kept : (kinds : List Bool) (xs : List ℤ) (i j : ℕ) → j < row_width i → entry (held unit kinds xs) i j ≡ wide unit (at unit xs (row_start i + j))
  held-kept kinds xs i j l = entry-kept (held unit kinds xs) i j l ∙ wide-at xs (row_start i + j)

  pub pair-is_entry : (b : ℕ) (xs : List ℤ) (i j : ℕ) → AreEntries unit b xs → IsEntry unit b (pair_at unit xs i j)
  pair-is_entry b xs i j h = elim (cases_lt j (row_width i)) [
    | inl l ↦ subst (IsEntry unit b) (sym (pair-kept xs i j l)) (h (row_start i + j))
    | inr l ↦ subst (IsEntry unit b) (sym (pair-other xs i j l)) (h (row_start (flip j) + flip i))
  ]

  -- a list whose first n entries are those of f, and which has none beyond
  pub entries-from : (b n : ℕ) (xs : List ℤ) (f : ℕ → ℤ) → ((k : ℕ) → k < n → at unit xs k ≡ f k) → ((k : ℕ) → n ≤ k → at unit xs k ≡ none unit) → ((k : ℕ) → IsEntry unit b (f k)) → AreEntries unit b xs
  entries-from b n xs f p q h k = elim (cases_lt k n) [
    | inl l ↦ subst (IsEntry unit b) (sym (p k l)) (h k)
    | inr l ↦ inl (q k l)
  ]

  pub none-anywhere : (n k : ℕ) → at unit (replicate {A = ℤ} n (none unit)) k ≡ none unit
  none-anywhere zero k = refl
  none-anywhere (suc n) zero = refl
  none-anywhere (suc n) (suc k) = none-anywhere n k

  -- ---- what code reads

  pub lt-true : (x y : ℤ) → lt_z x y ≡ true → x <ℤ y
  lt-true x y e = grind (arith, ints)

  pub lt-false : (x y : ℤ) → lt_z x y ≡ false → y ≤ℤ x
  lt-false x y e = grind (arith, ints)

  pub le-true : (x y : ℤ) → le_z x y ≡ true → x ≤ℤ y
  le-true x y e = grind (arith, ints)

  pub le-false : (x y : ℤ) → le_z x y ≡ false → y <ℤ x
  le-false x y e = grind (arith, ints)

  -- what is not less than the least sum that is no bound
  pub free-above : (x f : ℤ) (b : Bool) → f ≡ pos (16 * unit) → b ≡ lt_z x f → b ≡ false → pos (16 * unit) ≤ℤ x
  free-above x f b e l n = subst (λ z. z ≤ℤ x) e (lt-false x f (sym l ∙ n))

  -- an entry is none, or a bound
  pub none-above : (b : ℕ) (x : ℤ) → b < 16 * unit → IsEntry unit b x → pos (16 * unit) ≤ℤ x → x ≡ none unit
  none-above b x l (inl e) h = e
  none-above b x l (inr p) h = let q : x ≤ℤ pos b = p.1 in absurd (omega (arith, ints))

  pub bound-below : (b : ℕ) (x : ℤ) → IsEntry unit b x → x <ℤ pos (16 * unit) → IsBound b x
  bound-below b x (inl e) h = absurd (omega (arith, ints))
  bound-below b x (inr p) h = p

  pub free-below : (x f : ℤ) (b : Bool) → f ≡ pos (16 * unit) → b ≡ lt_z x f → b ≡ true → x <ℤ pos (16 * unit)
  free-below x f b e l n = subst (λ z. x <ℤ z) e (lt-true x f (sym l ∙ n))

  -- what is less than 0, or not
  pub zero-above : (x z : ℤ) (b : Bool) → z ≡ pos 0 → b ≡ lt_z x z → b ≡ true → x <ℤ pos 0
  zero-above x z b e l n = subst (λ z. x <ℤ z) e (lt-true x z (sym l ∙ n))

  pub zero-below : (x z : ℤ) (b : Bool) → z ≡ pos 0 → b ≡ lt_z x z → b ≡ false → pos 0 ≤ℤ x
  zero-below x z b e l n = subst (λ z. z ≤ℤ x) e (lt-false x z (sym l ∙ n))

  -- ---- limits

  pub entry-within : (b : ℕ) (x : ℤ) → b < 16 * unit → IsEntry unit b x → IsWithin b (wide unit x)
  entry-within b x l (inl e) = subst (IsWithin b) (sym (ap (wide unit) e ∙ wide-none)) tt
  entry-within b x l (inr p) = let q : x ≤ℤ pos b = p.1 in subst (IsWithin b) (sym (wide-bound x (omega (arith, ints)))) p

  pub held-within : (b : ℕ) (kinds : List Bool) (xs : List ℤ) (n : ℕ) → b < 16 * unit → AreEntries unit b xs → AreWithin n b (entry (held unit kinds xs))
  held-within b kinds xs n l h i j hi hj = subst (IsWithin b) (sym (held-entry kinds xs i j)) (entry-within b (pair_at unit xs i j) l (pair-is_entry b xs i j h))
