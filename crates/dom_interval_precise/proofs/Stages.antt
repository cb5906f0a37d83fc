-- Cuts of two sides, one after the other: what is taken at the ends of what is left.
use Rattle.std.proofs.Common.{◌≡◌, ◌≢◌, refl, sym, ap, ◌∙◌, subst, ℕ, zero, suc, ◌<◌, ℤ, pos, ◌≤ℤ◌, ◌<ℤ◌, ◌+ℤ◌, ◌-ℤ◌, int_le, int_lt, Bool, true, false, not, ◌&&◌, List, [], ◌∷◌, length, Option, Some, None, IfSome, arith, if◌then◌else◌}
use Rattle.std.proofs.lemmas.Int.{ints, clamps}
use Rattle.std.proofs.lemmas.Bool.{and_from}
use Rattle.std.proofs.lemmas.Bool.Decides.{Decides-int_eq}
use Rattle.std.proofs.lemmas.List.{length-set}
use Rattle.std.specs.Int.{int_max, int_min}
use Rattle.std.specs.Ordering.{int_eq}
use Rattle.base_values.proofs.Cases.{by_bool, by_test, not_both}
use Rattle.imp_syntax.specs.declared.words.Relation.{Relation}
use Rattle.imp_syntax.specs.declared.words.Relation.TheVariants.{Equal, NotEqual, Less, AtMost, Greater, AtLeast}
use Rattle.concrete_sem.specs.Evaluation.{relates}
use Rattle.num_bounds.specs.Bounds.{Bounds, IsRange, Within as Lies, least, greatest}
use Rattle.num_bounds.specs.Operations.{cut_of}
use Rattle.num_bounds.proofs.Ends.{between-left, le-false, true-le}
use Rattle.dom_interval_meaning.specs.State.{Intervals, Empty, Within}
use Rattle.dom_interval_meaning.specs.Ranges.{slot_at, range_at, with_range}
use Rattle.dom_interval_meaning.specs.Operations.{needs, unless_empty, cut_side, cut_both, less, at_most, equal, is_single, lose_end, not_equal, related}
use Rattle.dom_interval_meaning.specs.declared.slot_range.SlotRange.{SlotRange}
use Rattle.dom_interval_precise.proofs.Tight.{Each}

pub range-here : (rs : List SlotRange) (x : ℕ) (r : Bounds) → x < length rs → range_at (with_range rs x r) x ≡ r
range-here [] x r lt = absurd (omega arith)
range-here (s ∷ rs) zero r lt = refl
range-here (s ∷ rs) (suc x) r lt = range-here rs x r (omega arith)

pub range-else : (rs : List SlotRange) (x y : ℕ) (r : Bounds) → x ≢ y → range_at (with_range rs x r) y ≡ range_at rs y
range-else [] x y r ne = refl
range-else (s ∷ rs) zero zero r ne = absurd (ne refl)
range-else (s ∷ rs) zero (suc y) r ne = refl
range-else (s ∷ rs) (suc x) zero r ne = refl
range-else (s ∷ rs) (suc x) (suc y) r ne = range-else rs x y r (λ e. ne (ap suc e))

pub with-length : (rs : List SlotRange) (x : ℕ) (r : Bounds) → length (with_range rs x r) ≡ length rs
with-length rs x r = length-set rs x (record { is_array = (slot_at rs x).is_array; range = r })

pub by-slot : {P : Type 0} (x y : ℕ) → (x ≡ y → P) → (x ≢ y → P) → P
by-slot {P} x y f g = by_test x y (λ _. P) f g

pub by-side : {P : Type 0} (a : Option ℕ) (x : ℕ) → (a ≡ Some x → P) → (a ≢ Some x → P) → P
by-side None x f g = g (λ e. cc)
by-side (Some y) x f g = by-slot y x (λ e. f (ap Some e)) (λ ne. g (λ e. ne (cc)))

-- what becomes true of a side's range, and stays true of the others
abbrev Side : Option ℕ → Bounds → (ℕ → Bounds → Type 0) → ℕ → Bounds → Type 0
Side a l Q x r = (a ≡ Some x → r ≡ l) × (a ≢ Some x → Q x r)

abbrev cut_ends : Bounds → ℤ → ℤ → Bounds
cut_ends l lo hi = record { lo = int_max l.lo lo; hi = int_min l.hi hi }

module _ (X : Type 0) (n : ℕ) where
  needs-each : (Q : ℕ → Bounds → Type 0) (o : Option Bounds) (f : Bounds → Intervals) → IfSome o (λ r. Each X n Q (f r)) → Each X n Q (needs o f)
  needs-each Q None f h = tt
  needs-each Q (Some r) f h = h

  after-each : (P Q : ℕ → Bounds → Type 0) (s : Intervals) (f : List SlotRange → Intervals) → Each X n P s → ((rs : List SlotRange) → Each X n P (Within rs) → Each X n Q (f rs)) → Each X n Q (unless_empty s f)
  after-each P Q Empty f h g = tt
  after-each P Q (Within rs) f h g = g rs h

  if-each : (Q : ℕ → Bounds → Type 0) (b : Bool) (s : Intervals) → (b ≡ false → Each X n Q s) → Each X n Q (if b then Empty else s)
  if-each Q true s f = tt
  if-each Q false s f = f refl

  choice-each : (Q : ℕ → Bounds → Type 0) (b : Bool) (s t : Intervals) → (b ≡ true → Each X n Q s) → (b ≡ false → Each X n Q t) → Each X n Q (if b then s else t)
  choice-each Q true s t f g = f refl
  choice-each Q false s t f g = g refl

  cut-each : (Q : ℕ → Bounds → Type 0) (a : Option ℕ) (l : Bounds) (lo hi : ℤ) (rs : List SlotRange) → Each X n (Side a l Q) (Within rs) → ((x : ℕ) → a ≡ Some x → x < n → int_max l.lo lo ≤ℤ int_min l.hi hi → Q x (cut_ends l lo hi)) → Each X n Q (cut_side a lo hi rs)
  cut-each Q None l lo hi rs h f = (h.0, h.1, λ x lt. (h.2 x lt).1 (λ e. cc))
  cut-each Q (Some x) l lo hi rs h f =
      let b = range_at rs x in
      needs-each Q (cut_of b lo hi) (λ r. Within (with_range rs x r))
      (between-left (int_max b.lo lo) (int_min b.hi hi) (λ r. Each X n Q (Within (with_range rs x r))) (λ ord. (
        h.0,
        with-length rs x (cut_ends b lo hi) ∙ h.1,
        λ y lt. by-slot x y
            (λ e. subst (λ m. Q m (range_at (with_range rs x (cut_ends b lo hi)) m)) e (here (subst (λ m. m < n) (sym e) lt) ord))
            (λ ne. subst (Q y) (sym (range-else rs x y (cut_ends b lo hi) ne)) ((h.2 y lt).1 (λ e. ne (cc)))),
      )))
    where
      here : x < n → int_max (range_at rs x).lo lo ≤ℤ int_min (range_at rs x).hi hi → Q x (range_at (with_range rs x (cut_ends (range_at rs x) lo hi)) x)
      here lt ord =
          let same : range_at rs x ≡ l = (h.2 x lt).0 refl in
          subst (Q x) (sym (range-here rs x (cut_ends (range_at rs x) lo hi) (subst (λ m. x < m) (sym h.1) lt)))
          (subst (λ b. Q x (cut_ends b lo hi)) (sym same) (f x refl lt (subst (λ b. int_max b.lo lo ≤ℤ int_min b.hi hi) same ord)))

  stay-each : (Q : ℕ → Bounds → Type 0) (a : Option ℕ) (l : Bounds) (rs : List SlotRange) → Each X n (Side a l Q) (Within rs) → ((x : ℕ) → a ≡ Some x → x < n → Q x l) → Each X n Q (Within rs)
  stay-each Q a l rs h f = (h.0, h.1, λ x lt. by-side a x (λ e. subst (Q x) (sym ((h.2 x lt).0 e)) (f x e lt)) (λ ne. (h.2 x lt).1 ne))

-- Two sides of a comparison, what is taken by them where they are related, and by the others then.
pub record Suits (X : Type 0) (n : ℕ) (G : ℕ → ℤ → Type 0) (a b : Option ℕ) (l r : Bounds) (Rel : ℤ → ℤ → Type 0) (rs : List SlotRange) : Type 0 where
  pub apart : (x : ℕ) → a ≡ Some x → b ≡ Some x → ⊥
  pub count : length rs ≡ n
  pub at_left : (x : ℕ) → a ≡ Some x → range_at rs x ≡ l
  pub at_right : (x : ℕ) → b ≡ Some x → range_at rs x ≡ r
  pub left_range : IsRange l
  pub right_range : IsRange r
  pub ordered : (x : ℕ) → (range_at rs x).lo ≤ℤ (range_at rs x).hi
  pub some : (p q : ℤ) → Lies p l → Lies q r → Rel p q → X
  pub left : (x : ℕ) (p q : ℤ) → a ≡ Some x → x < n → Lies p l → Lies q r → Rel p q → G x p
  pub right : (x : ℕ) (p q : ℤ) → b ≡ Some x → x < n → Lies p l → Lies q r → Rel p q → G x q
  pub other : (x : ℕ) (p q z : ℤ) → a ≢ Some x → b ≢ Some x → x < n → Lies p l → Lies q r → Rel p q → Lies z (range_at rs x) → G x z

abbrev pub Ends : (ℕ → ℤ → Type 0) → ℕ → Bounds → Type 0
Ends G x r = G x r.lo × G x r.hi

pub turned : {X : Type 0} {n : ℕ} {G : ℕ → ℤ → Type 0} {a b : Option ℕ} {l r : Bounds} {Rel : ℤ → ℤ → Type 0} {rs : List SlotRange} → Suits X n G a b l r Rel rs → Suits X n G b a r l (λ p q. Rel q p) rs
turned s = record {
  apart = λ x e f. s.apart x f e;
  count = s.count;
  at_left = s.at_right;
  at_right = s.at_left;
  left_range = s.right_range;
  right_range = s.left_range;
  ordered = s.ordered;
  some = λ p q i j k. s.some q p j i k;
  left = λ x p q e lt i j k. s.right x q p e lt j i k;
  right = λ x p q e lt i j k. s.left x q p e lt j i k;
  other = λ x p q z e f lt i j k. s.other x q p z f e lt j i k;
}

pub for_relation : {X : Type 0} {n : ℕ} {G : ℕ → ℤ → Type 0} {a b : Option ℕ} {l r : Bounds} {Rel : ℤ → ℤ → Type 0} {rs : List SlotRange} (R : ℤ → ℤ → Type 0) → ((p q : ℤ) → R p q → Rel p q) → Suits X n G a b l r Rel rs → Suits X n G a b l r R rs
for_relation R f s = record {
  apart = s.apart;
  count = s.count;
  at_left = s.at_left;
  at_right = s.at_right;
  left_range = s.left_range;
  right_range = s.right_range;
  ordered = s.ordered;
  some = λ p q i j k. s.some p q i j (f p q k);
  left = λ x p q e lt i j k. s.left x p q e lt i j (f p q k);
  right = λ x p q e lt i j k. s.right x p q e lt i j (f p q k);
  other = λ x p q z e g lt i j k. s.other x p q z e g lt i j (f p q k);
}

-- a number of the one range with one of the other that it is related to
abbrev Paired : Bounds → Bounds → (ℤ → ℤ → Type 0) → ℤ → Type 0
Paired l r Rel z = Lies z l × ((q : ℤ) × Lies q r × Rel z q)

pub eq-false : (x y : ℤ) → int_eq x y ≡ false → x ≢ y
eq-false x y t e = let u : int_eq x y ≡ true = (Decides-int_eq x y).1 e in cc

apart : (x y : ℤ) → x ≤ℤ y → x ≢ y → x <ℤ y
apart x y o ne = let no : x ≡ y → ⊥ = ne in omega (arith, ints)

lt-true : (x y : ℤ) → x <ℤ y → int_lt x y ≡ true
lt-true x y h = grind (arith, ints)

false-eq : (x y : ℤ) → x ≢ y → not (int_eq x y) ≡ true
false-eq x y ne = by_bool (int_eq x y) (λ t. absurd (ne ((Decides-int_eq x y).0 t))) (λ t. ap not t)

module _ (X : Type 0) (n : ℕ) (G : ℕ → ℤ → Type 0) where
  -- before the cuts
  start : (a b : Option ℕ) (l r : Bounds) (Rel : ℤ → ℤ → Type 0) (rs : List SlotRange) → Suits X n G a b l r Rel rs → (p q : ℤ) → Lies p l → Lies q r → Rel p q → Each X n (Side a l (Side b r (Ends G))) (Within rs)
  start a b l r Rel rs s p q i j k = (
    s.some p q i j k,
    s.count,
    λ x lt. (
      s.at_left x,
      λ ne. (
        s.at_right x,
        λ nb.
            let o = s.ordered x in
            (s.other x p q (range_at rs x).lo ne nb lt i j k (omega (arith, ints), o), s.other x p q (range_at rs x).hi ne nb lt i j k (o, omega (arith, ints))),
      ),
    ),
  )

  give-left : (a b : Option ℕ) (l r : Bounds) (Rel : ℤ → ℤ → Type 0) (rs : List SlotRange) → Suits X n G a b l r Rel rs → (x : ℕ) → a ≡ Some x → x < n → (c : Bounds) → Paired l r Rel c.lo → Paired l r Rel c.hi → Side b r (Ends G) x c
  give-left a b l r Rel rs s x e lt c low high =
      (λ f. absurd (s.apart x e f), λ _. (s.left x c.lo low.1.0 e lt low.0 low.1.1 low.1.2, s.left x c.hi high.1.0 e lt high.0 high.1.1 high.1.2))

  give-right : (a b : Option ℕ) (l r : Bounds) (Rel : ℤ → ℤ → Type 0) (rs : List SlotRange) → Suits X n G a b l r Rel rs → (x : ℕ) → b ≡ Some x → x < n → (c : Bounds) → Paired r l (λ q p. Rel p q) c.lo → Paired r l (λ q p. Rel p q) c.hi → Ends G x c
  give-right a b l r Rel rs s x e lt c low high = (s.right x low.1.0 c.lo e lt low.1.1 low.0 low.1.2, s.right x high.1.0 c.hi e lt high.1.1 high.0 high.1.2)

  both-each : (a b : Option ℕ) (l r : Bounds) (Rel : ℤ → ℤ → Type 0) (rs : List SlotRange) (u v : Bounds) → Suits X n G a b l r Rel rs → (p q : ℤ) → Lies p l → Lies q r → Rel p q → (int_max l.lo u.lo ≤ℤ int_min l.hi u.hi → Paired l r Rel (int_max l.lo u.lo) × Paired l r Rel (int_min l.hi u.hi)) → (int_max r.lo v.lo ≤ℤ int_min r.hi v.hi → Paired r l (λ y x. Rel x y) (int_max r.lo v.lo) × Paired r l (λ y x. Rel x y) (int_min r.hi v.hi)) → Each X n (Ends G) (cut_both a b u v rs)
  both-each a b l r Rel rs u v s p q i j k f g =
      after-each X n (Side b r (Ends G)) (Ends G) (cut_side a u.lo u.hi rs) (cut_side b v.lo v.hi)
      (cut-each X n (Side b r (Ends G)) a l u.lo u.hi rs (start a b l r Rel rs s p q i j k) (λ x e lt o. give-left a b l r Rel rs s x e lt (cut_ends l u.lo u.hi) (f o).0 (f o).1))
      (λ qs h. cut-each X n (Ends G) b r v.lo v.hi qs h (λ x e lt o. give-right a b l r Rel rs s x e lt (cut_ends r v.lo v.hi) (g o).0 (g o).1))

  less-each : (a b : Option ℕ) (l r : Bounds) (rs : List SlotRange) → Suits X n G a b l r ◌<ℤ◌ rs → Each X n (Ends G) (less a b l r rs)
  less-each a b l r rs s =
      let i = s.left_range in
      let j = s.right_range in
      let low : least ≤ℤ l.lo = i.low in
      let left : l.lo ≤ℤ l.hi = i.ordered in
      let right : r.lo ≤ℤ r.hi = j.ordered in
      let high : r.hi ≤ℤ greatest = j.high in
      if-each X n (Ends G) (int_le r.hi l.lo) _ (λ t.
      let lt : l.lo <ℤ r.hi = le-false r.hi l.lo t in
      both-each a b l r ◌<ℤ◌ rs (record { lo = least; hi = r.hi -ℤ pos 1 }) (record { lo = l.lo +ℤ pos 1; hi = greatest }) s l.lo r.hi (omega (arith, ints), left) (right, omega (arith, ints)) lt
      (λ o. (
        ((omega (arith, ints, clamps), omega (arith, ints, clamps)), (r.hi, (right, omega (arith, ints)), omega (arith, ints, clamps))),
        ((omega (arith, ints, clamps), omega (arith, ints, clamps)), (r.hi, (right, omega (arith, ints)), omega (arith, ints, clamps))),
      ))
      (λ o. (
        ((omega (arith, ints, clamps), omega (arith, ints, clamps)), (l.lo, (omega (arith, ints), left), omega (arith, ints, clamps))),
        ((omega (arith, ints, clamps), omega (arith, ints, clamps)), (l.lo, (omega (arith, ints), left), omega (arith, ints, clamps))),
      )))

  at_most-each : (a b : Option ℕ) (l r : Bounds) (rs : List SlotRange) → Suits X n G a b l r ◌≤ℤ◌ rs → Each X n (Ends G) (at_most a b l r rs)
  at_most-each a b l r rs s =
      let i = s.left_range in
      let j = s.right_range in
      let low : least ≤ℤ l.lo = i.low in
      let left : l.lo ≤ℤ l.hi = i.ordered in
      let right : r.lo ≤ℤ r.hi = j.ordered in
      let high : r.hi ≤ℤ greatest = j.high in
      if-each X n (Ends G) (int_lt r.hi l.lo) _ (λ t.
      let le : l.lo ≤ℤ r.hi = lt-false r.hi l.lo t in
      both-each a b l r ◌≤ℤ◌ rs (record { lo = least; hi = r.hi }) (record { lo = l.lo; hi = greatest }) s l.lo r.hi (omega (arith, ints), left) (right, omega (arith, ints)) le
      (λ o. (
        ((omega (arith, ints, clamps), omega (arith, ints, clamps)), (r.hi, (right, omega (arith, ints)), omega (arith, ints, clamps))),
        ((omega (arith, ints, clamps), omega (arith, ints, clamps)), (r.hi, (right, omega (arith, ints)), omega (arith, ints, clamps))),
      ))
      (λ o. (
        ((omega (arith, ints, clamps), omega (arith, ints, clamps)), (l.lo, (omega (arith, ints), left), omega (arith, ints, clamps))),
        ((omega (arith, ints, clamps), omega (arith, ints, clamps)), (l.lo, (omega (arith, ints), left), omega (arith, ints, clamps))),
      )))
    where
      lt-false : (x y : ℤ) → int_lt x y ≡ false → y ≤ℤ x
      lt-false x y h = grind (arith, ints)

  -- a number that lies in both is paired with itself
  same-paired : (l r : Bounds) (z : ℤ) → Lies z l → Lies z r → Paired l r ◌≡◌ z
  same-paired l r z i j = (i, (z, j, refl))

  equal-each : (a b : Option ℕ) (l r : Bounds) (rs : List SlotRange) → Suits X n G a b l r ◌≡◌ rs → Each X n (Ends G) (equal a b l r rs)
  equal-each a b l r rs s =
      needs-each X n (Ends G) (cut_of l r.lo r.hi) (λ c. cut_both a b c c rs)
      (between-left (int_max l.lo r.lo) (int_min l.hi r.hi) (λ c. Each X n (Ends G) (cut_both a b c c rs)) (λ ord.
      let lo = int_max l.lo r.lo in
      let hi = int_min l.hi r.hi in
      both-each a b l r ◌≡◌ rs (record { lo = lo; hi = hi }) (record { lo = lo; hi = hi }) s lo lo (omega (arith, ints, clamps), omega (arith, ints, clamps)) (omega (arith, ints, clamps), omega (arith, ints, clamps)) refl
      (λ o. (
        same-paired l r (int_max l.lo lo) (omega (arith, ints, clamps), omega (arith, ints, clamps)) (omega (arith, ints, clamps), omega (arith, ints, clamps)),
        same-paired l r (int_min l.hi hi) (omega (arith, ints, clamps), omega (arith, ints, clamps)) (omega (arith, ints, clamps), omega (arith, ints, clamps)),
      ))
      (λ o. (
        back (int_max r.lo lo) (omega (arith, ints, clamps), omega (arith, ints, clamps)) (omega (arith, ints, clamps), omega (arith, ints, clamps)),
        back (int_min r.hi hi) (omega (arith, ints, clamps), omega (arith, ints, clamps)) (omega (arith, ints, clamps), omega (arith, ints, clamps)),
      ))))
    where
      back : (z : ℤ) → Lies z r → Lies z l → Paired r l (λ y x. x ≡ y) z
      back z i j = (i, (z, j, refl))

  -- a range of two numbers or more has one that is not this
  another : (r : Bounds) → r.lo <ℤ r.hi → (z : ℤ) → (q : ℤ) × Lies q r × (z ≢ q)
  another r lt z =
      by_bool (int_eq z r.lo)
      (λ t. let e : z ≡ r.lo = (Decides-int_eq z r.lo).0 t in (r.hi, (omega (arith, ints), omega (arith, ints)), λ (f : z ≡ r.hi). absurd (omega (arith, ints))))
      (λ t. (r.lo, (omega (arith, ints), omega (arith, ints)), eq-false z r.lo t))

  -- a number of the one range that is not the only number of the other
  beside : (l r : Bounds) (z : ℤ) → Lies z l → r.lo ≤ℤ r.hi → (r.lo ≡ r.hi → z ≢ r.lo) → Paired l r ◌≢◌ z
  beside l r z i o f =
      by_bool (int_eq r.lo r.hi)
      (λ t. (i, (r.lo, (omega (arith, ints), o), f ((Decides-int_eq r.lo r.hi).0 t))))
      (λ t. let ne = eq-false r.lo r.hi t in let lt : r.lo <ℤ r.hi = apart r.lo r.hi o ne in (i, another r lt z))

  lose-each : (Q : ℕ → Bounds → Type 0) (a : Option ℕ) (l r : Bounds) (rs : List SlotRange) → IsRange l → IsRange r → Each X n (Side a l Q) (Within rs) → ((x : ℕ) → a ≡ Some x → x < n → (c : Bounds) → Paired l r ◌≢◌ c.lo → Paired l r ◌≢◌ c.hi → Q x c) → Each X n Q (lose_end a l r rs)
  lose-each Q a l r rs i j h f =
      let low : least ≤ℤ l.lo = i.low in
      let left : l.lo ≤ℤ l.hi = i.ordered in
      let high : l.hi ≤ℤ greatest = i.high in
      let right : r.lo ≤ℤ r.hi = j.ordered in
      choice-each X n Q (is_single r) _ _
      (λ t. choice-each X n Q (int_eq l.lo r.lo) _ _
      (λ t2. let at : l.lo ≡ r.lo = (Decides-int_eq l.lo r.lo).0 t2 in
      cut-each X n Q a l (l.lo +ℤ pos 1) greatest rs h (λ x e lt o. f x e lt (cut_ends l (l.lo +ℤ pos 1) greatest)
      (beside l r (int_max l.lo (l.lo +ℤ pos 1)) (omega (arith, ints, clamps), omega (arith, ints, clamps)) right (λ _ (e : int_max l.lo (l.lo +ℤ pos 1) ≡ r.lo). absurd (omega (arith, ints, clamps))))
      (beside l r (int_min l.hi greatest) (omega (arith, ints, clamps), omega (arith, ints, clamps)) right (λ _ (e : int_min l.hi greatest ≡ r.lo). absurd (omega (arith, ints, clamps))))))
      (λ t2. let un = eq-false l.lo r.lo t2 in choice-each X n Q (int_eq l.hi r.lo) _ _
      (λ t3. let at : l.hi ≡ r.lo = (Decides-int_eq l.hi r.lo).0 t3 in
      cut-each X n Q a l least (l.hi -ℤ pos 1) rs h (λ x e lt o. f x e lt (cut_ends l least (l.hi -ℤ pos 1))
      (beside l r (int_max l.lo least) (omega (arith, ints, clamps), omega (arith, ints, clamps)) right (λ _ (e : int_max l.lo least ≡ r.lo). absurd (omega (arith, ints, clamps))))
      (beside l r (int_min l.hi (l.hi -ℤ pos 1)) (omega (arith, ints, clamps), omega (arith, ints, clamps)) right (λ _ (e : int_min l.hi (l.hi -ℤ pos 1) ≡ r.lo). absurd (omega (arith, ints, clamps))))))
      (λ t3. stay-each X n Q a l rs h (λ x e lt. f x e lt l
      (beside l r l.lo (omega (arith, ints), left) right (λ _. un))
      (beside l r l.hi (left, omega (arith, ints)) right (λ _. eq-false l.hi r.lo t3))))))
      (λ t. let un = eq-false r.lo r.hi t in stay-each X n Q a l rs h (λ x e lt. f x e lt l
      (beside l r l.lo (omega (arith, ints), left) right (λ one. absurd (un one)))
      (beside l r l.hi (left, omega (arith, ints)) right (λ one. absurd (un one)))))

  -- two ranges that are not one and the same number have numbers that differ
  differing : (l r : Bounds) → l.lo ≤ℤ l.hi → r.lo ≤ℤ r.hi → (is_single l && (is_single r && int_eq l.lo r.lo)) ≡ false → (p : ℤ) × Paired l r ◌≢◌ p
  differing l r i j distinct =
      by_bool (int_eq l.lo l.hi)
      (λ t. by_bool (int_eq r.lo r.hi)
      (λ t2. by_bool (int_eq l.lo r.lo)
      (λ t3. let all : (is_single l && (is_single r && int_eq l.lo r.lo)) ≡ true = and_from (is_single l) (is_single r && int_eq l.lo r.lo) t (and_from (is_single r) (int_eq l.lo r.lo) t2 t3) in not_both (is_single l && (is_single r && int_eq l.lo r.lo)) all distinct)
      (λ t3. (l.lo, beside l r l.lo (omega (arith, ints), i) j (λ _. eq-false l.lo r.lo t3))))
      (λ t2. (l.lo, beside l r l.lo (omega (arith, ints), i) j (λ one. absurd (eq-false r.lo r.hi t2 one)))))
      (λ t. let lt : l.lo <ℤ l.hi = apart l.lo l.hi i (eq-false l.lo l.hi t) in let p = another l lt r.lo in (p.0, (p.1, (r.lo, (omega (arith, ints), j), λ e. p.2 (sym e)))))

  not_equal-each : (a b : Option ℕ) (l r : Bounds) (rs : List SlotRange) → Suits X n G a b l r ◌≢◌ rs → Each X n (Ends G) (not_equal a b l r rs)
  not_equal-each a b l r rs s =
      let i = s.left_range in
      let j = s.right_range in
      if-each X n (Ends G) (is_single l && (is_single r && int_eq l.lo r.lo)) _ (λ no.
      let d = differing l r i.ordered j.ordered no in
      after-each X n (Side b r (Ends G)) (Ends G) (lose_end a l r rs) (lose_end b r l)
      (lose-each (Side b r (Ends G)) a l r rs i j (start a b l r ◌≢◌ rs s d.0 d.1.1.0 d.1.0 d.1.1.1 d.1.1.2) (λ x e lt c low high. give-left a b l r ◌≢◌ rs s x e lt c low high))
      (λ qs h. lose-each (Ends G) b r l qs j i h (λ x e lt c low high. give-right a b l r ◌≢◌ rs s x e lt c (turn r l c.lo low) (turn r l c.hi high))))
    where
      turn : (r l : Bounds) (z : ℤ) → Paired r l ◌≢◌ z → Paired r l (λ y x. x ≢ y) z
      turn r l z p = (p.0, (p.1.0, p.1.1, λ e. p.1.2 (sym e)))

  pub related-each : (c : Relation) (a b : Option ℕ) (l r : Bounds) (rs : List SlotRange) → Suits X n G a b l r (λ p q. relates c p q ≡ true) rs → Each X n (Ends G) (related c a b l r rs)
  related-each Equal a b l r rs s = equal-each a b l r rs (for_relation ◌≡◌ (λ p q e. (Decides-int_eq p q).1 e) s)
  related-each NotEqual a b l r rs s = not_equal-each a b l r rs (for_relation ◌≢◌ (λ p q ne. false-eq p q ne) s)
  related-each Less a b l r rs s = less-each a b l r rs (for_relation ◌<ℤ◌ lt-true s)
  related-each AtMost a b l r rs s = at_most-each a b l r rs (for_relation ◌≤ℤ◌ true-le s)
  related-each Greater a b l r rs s = less-each b a r l rs (for_relation ◌<ℤ◌ lt-true (turned s))
  related-each AtLeast a b l r rs s = at_most-each b a r l rs (for_relation ◌≤ℤ◌ true-le (turned s))
