-- From the first item of a list, a walk meets each of its items once.
use Rattle.std.proofs.Common.{◌≡◌, ◌≢◌, ℕ, zero, suc, ◌+◌, ◌<◌, ◌≤◌, ◌↔◌, List, [], ◌∷◌, Option, Some, None, slice_get, refl, sym, ap, ◌∙◌, subst, arith, inl, inr, true, false, map, length, eqb}
use Rattle.daig_graph.specs.Linked.{Member, AreLinked}
use Rattle.daig_graph.specs.Walks.{IsWalk, walk}
use Rattle.daig_graph.specs.Held.{IsIn, IsOnce}
use Rattle.daig_graph.proofs.Cases.{none-some, nat_eq-false}
use Rattle.std.specs.List.{IsDistinct, AllByRecursion, list_any}
use Rattle.std.proofs.lemmas.List.{length-map}
use Rattle.std.proofs.lemmas.Map.Steps.{length-le_from_distinct_below}
use Rattle.std.proofs.lemmas.Option.{same_Some}
use Rattle.std.proofs.lemmas.Bool.{cases_eq}

module _ {K : Type 0} (next : K → Option K) where
  length-walk : (n : ℕ) (at : Option K) → length (walk next n at) ≤ n
  length-walk zero at = omega arith
  length-walk (suc n) None = omega arith
  length-walk (suc n) (Some k) = let h = length-walk n (next k) in omega (arith, h)

  walk-is : (n : ℕ) (at : Option K) (ks : List K) → IsWalk next at ks → length ks ≤ n → walk next n at ≡ ks
  walk-is zero at [] w l = refl
  walk-is zero at (k ∷ ks) w l = absurd (omega (arith, l))
  walk-is (suc n) None [] w l = refl
  walk-is (suc n) None (k ∷ ks) w l = none-some w.0
  walk-is (suc n) (Some k) [] w l = none-some (sym w)
  walk-is (suc n) (Some k) (j ∷ ks) w l =
      let same : k ≡ j = same_Some _ _ w.0 in
      ap (λ i. i ∷ walk next n (next i)) same ∙ ap (λ r. j ∷ r) (walk-is n (next j) ks w.1 (omega (arith, l)))

  -- one item on
  pub walk-step : (n : ℕ) (k : K) → IsWalk next (Some k) (walk next n (Some k)) → (walk next n (Some k) ≡ k ∷ walk next n (next k)) × IsWalk next (next k) (walk next n (next k))
  walk-step zero k w = none-some (sym w)
  walk-step (suc n) k w =
      let l = length-walk n (next k) in
      let same : walk next (suc n) (next k) ≡ walk next n (next k) = walk-is (suc n) (next k) (walk next n (next k)) w.1 (omega (arith, l)) in
      let P : List K → Type 0 = IsWalk next (next k) in
      (ap (λ r. k ∷ r) (sym same), subst P (sym same) w.1)

  -- the walk goes on after each item
  walk-next : (at : Option K) (ks : List K) → IsWalk next at ks → (i : ℕ) (k : K) → slice_get ks i ≡ Some k → (j : K) → next k ≡ Some j → slice_get ks (suc i) ≡ Some j
  walk-next at [] w i k e j h = cc
  walk-next at (q ∷ ks) w zero k e j h = starts ks (ap next (same_Some q k e) ∙ h) w.1
    where
      starts : (ks : List K) {o : Option K} → o ≡ Some j → IsWalk next o ks → slice_get ks zero ≡ Some j
      starts [] e v = none-some (sym v ∙ e)
      starts (r ∷ rest) e v = sym v.0 ∙ e
  walk-next at (q ∷ ks) w (suc i) k e j h = walk-next (next q) ks w.1 i k e j h

  module _ (members : K → Option (Member K)) (firsts : ℕ → Option K) (linked : AreLinked members firsts)
      (after : (k : K) (m : Member K) → members k ≡ Some m → next k ≡ m.next)
      (code : K → ℕ) (most : ℕ)
      (within : (k : K) (m : Member K) → members k ≡ Some m → code k < most)
      (apart : (j k : K) (m n : Member K) → members j ≡ Some m → members k ≡ Some n → code j ≡ code k → j ≡ k)
      (list : ℕ) where
    abbrev Listed : K → Type 0
    Listed k = (m : Member K) × (members k ≡ Some m) × (m.list ≡ list)

    -- from an item, or none, on
    walk_behind : (o : Option K) → ((j : K) → o ≡ Some j → (ks : List K) × IsWalk next (Some j) ks) → (ks : List K) × IsWalk next o ks
    walk_behind None h = ([], refl)
    walk_behind (Some j) h = h j refl

    walk_from : (n : ℕ) (k : K) (m : Member K) → members k ≡ Some m → linked.rank k < n → (ks : List K) × IsWalk next (Some k) ks
    walk_from zero k m e low = absurd (omega (arith, low))
    walk_from (suc n) k m e low =
        let rest = walk_behind (next k) (λ j a.
        let b = linked.ahead k j m e (sym (after k m e) ∙ a) in
        let f = linked.falls k j m e (sym (after k m e) ∙ a) in
        walk_from n j b.0 b.1 (omega (arith, f, low))) in
        (k ∷ rest.0, (refl, rest.1))

    own_walk : (ks : List K) × IsWalk next (firsts list) ks
    own_walk = walk_behind (firsts list) (λ k e. let h = linked.first list k e in walk_from (suc (linked.rank k)) k h.0 h.1 (omega arith))

    -- an item after one of the list, which has a lower rank
    listed_after : (k j : K) → Listed k → next k ≡ Some j → Listed j × (linked.rank j < linked.rank k)
    listed_after k j h a =
        let some : h.0.next ≡ Some j = sym (after k h.0 h.1) ∙ a in
        let n = linked.ahead k j h.0 h.1 some in
        ((n.0, n.1, n.2 ∙ h.2), linked.falls k j h.0 h.1 some)

    -- all of a walk are of the list, and ranks fall along it
    walk-below : (n : ℕ) (at : Option K) (ks : List K) → IsWalk next at ks → ((k : K) → at ≡ Some k → Listed k × (linked.rank k < n)) → (i : ℕ) (k : K) → slice_get ks i ≡ Some k → Listed k × (linked.rank k < n)
    walk-below n at [] w h i k e = cc
    walk-below n at (q ∷ ks) w h zero k e = h k (w.0 ∙ e)
    walk-below n at (q ∷ ks) w h (suc i) k e =
        let here = h q w.0 in
        walk-below n (next q) ks w.1 (λ j a. let b = listed_after q j here.0 a in (b.0, omega (arith, b.1, here.1))) i k e

    lower : (q : K) (ks : List K) → Listed q → IsWalk next (next q) ks → (i : ℕ) (k : K) → slice_get ks i ≡ Some k → Listed k × (linked.rank k < linked.rank q)
    lower q ks h w i k e = walk-below (linked.rank q) (next q) ks w (λ j a. listed_after q j h a) i k e

    rest_listed : (q : K) → Listed q → (k : K) → next q ≡ Some k → Listed k
    rest_listed q h k a = (listed_after q k h a).0

    walk-once : (at : Option K) (ks : List K) → IsWalk next at ks → ((k : K) → at ≡ Some k → Listed k) → (i j : ℕ) (k : K) → slice_get ks i ≡ Some k → slice_get ks j ≡ Some k → i ≡ j
    walk-once at [] w h i j k e f = cc
    walk-once at (q ∷ ks) w h zero zero k e f = refl
    walk-once at (q ∷ ks) w h zero (suc j) k e f =
        let low = (lower q ks (h q w.0) w.1 j k f).1 in
        absurd (omega (arith, low, ap linked.rank (same_Some q k e)))
    walk-once at (q ∷ ks) w h (suc i) zero k e f =
        let low = (lower q ks (h q w.0) w.1 i k e).1 in
        absurd (omega (arith, low, ap linked.rank (same_Some q k f)))
    walk-once at (q ∷ ks) w h (suc i) (suc j) k e f = ap suc (walk-once (next q) ks w.1 (rest_listed q (h q w.0)) i j k e f)

    -- each item of the list is met
    walk_up : (ks : List K) → IsWalk next (firsts list) ks → (k : K) (m : Member K) → members k ≡ Some m → m.list ≡ list
        → ((j : K) (n : Member K) → members j ≡ Some n → n.list ≡ list → linked.rank k < linked.rank j → IsIn ks j) → (o : Option K) → m.before ≡ o → IsIn ks k
    walk_up ks w k m e s higher None b = starts ks (ap firsts (sym s) ∙ linked.front k m e b) w
      where
        starts : (ks : List K) {o : Option K} → o ≡ Some k → IsWalk next o ks → IsIn ks k
        starts [] f v = none-some (sym v ∙ f)
        starts (r ∷ rest) f v = (zero, sym v.0 ∙ f)
    walk_up ks w k m e s higher (Some j) b =
        let up = linked.back k j m e b in
        let met = higher j up.0 up.1 (up.2 ∙ s) (linked.falls j k up.0 up.1 up.3) in
        (suc met.0, walk-next (firsts list) ks w met.0 j met.1 k (after j up.0 up.1 ∙ up.3))

    walk-all : (ks : List K) → IsWalk next (firsts list) ks → (n : ℕ) (k : K) (m : Member K) → members k ≡ Some m → m.list ≡ list → linked.peak < linked.rank k + n → IsIn ks k
    walk-all ks w zero k m e s h = absurd (omega (arith, h, linked.low k m e))
    walk-all ks w (suc n) k m e s h = walk_up ks w k m e s (λ j o f t up. walk-all ks w n j o f t (omega (arith, h, up))) m.before refl

    -- no code comes twice
    walk-distinct : (at : Option K) (ks : List K) → IsWalk next at ks → ((k : K) → at ≡ Some k → Listed k) → IsDistinct eqb (map code ks)
    unfolding IsDistinct
    walk-distinct at [] w h = tt
    walk-distinct at (q ∷ ks) w h = (
      others ks (λ i k e same.
          let own = h q w.0 in
          let low = lower q ks own w.1 i k e in
          absurd (omega (arith, low.1, ap linked.rank (apart q k own.0 low.0.0 own.1 low.0.1 same)))),
      walk-distinct (next q) ks w.1 (rest_listed q (h q w.0)),
    )
      where
        others : (ks : List K) → ((i : ℕ) (k : K) → slice_get ks i ≡ Some k → code q ≢ code k) → AllByRecursion (λ y. eqb (code q) y ≡ false) (map code ks)
        others [] h = tt
        others (k ∷ ks) h = (nat_eq-false (code q) (code k) (h zero k refl), others ks (λ i j e. h (suc i) j e))

    codes_below : (at : Option K) (ks : List K) → IsWalk next at ks → ((k : K) → at ≡ Some k → Listed k) → (n : ℕ) → list_any (eqb n) (map code ks) ≡ true → n < most
    codes_below at [] w h n t = absurd (cc)
    codes_below at (q ∷ ks) w h n t = elim (cases_eq n (code q)) [
      | inl same ↦ let own = h q w.0 in omega (arith, within q own.0 own.1, same)
      | inr ne ↦ codes_below (next q) ks w.1 (rest_listed q (h q w.0)) n (rw (nat_eq-false n (code q) ne) at t)
    ]

    first_listed : (k : K) → firsts list ≡ Some k → Listed k
    first_listed k e = let h = linked.first list k e in (h.0, h.1, h.2)

    own_length : length own_walk.0 ≤ most
    own_length =
        let below = length-le_from_distinct_below (map code own_walk.0) most (walk-distinct (firsts list) own_walk.0 own_walk.1 first_listed) (codes_below (firsts list) own_walk.0 own_walk.1 first_listed) in
        omega (arith, below, length-map own_walk.0 code)

    walk-own : walk next most (firsts list) ≡ own_walk.0
    walk-own = walk-is most (firsts list) own_walk.0 own_walk.1 own_length

    -- from the first of a list on
    pub whole-list : IsWalk next (firsts list) (walk next most (firsts list))
    whole-list = let P : List K → Type 0 = IsWalk next (firsts list) in subst P (sym walk-own) own_walk.1

    pub once-list : IsOnce (walk next most (firsts list))
    once-list m n k e f = walk-once (firsts list) (walk next most (firsts list)) whole-list first_listed m n k e f

    shown : (k : K) → IsIn (walk next most (firsts list)) k → Listed k
    shown k h = (walk-below linked.peak (firsts list) (walk next most (firsts list)) whole-list (λ j e. let l = first_listed j e in (l, linked.low j l.0 l.1)) h.0 k h.1).0

    pub items-list : (k : K) → IsIn (walk next most (firsts list)) k ↔ ((m : Member K) × (members k ≡ Some m) × (m.list ≡ list))
    items-list k = (shown k, λ h. walk-all (walk next most (firsts list)) whole-list (suc linked.peak) k h.0 h.1 h.2 (omega arith))
