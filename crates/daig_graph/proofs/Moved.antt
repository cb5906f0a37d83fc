-- Cells that move down to new numbers.
use Rattle.std.proofs.Common.{◌≡◌, ◌≢◌, ◌⊎◌, ℕ, zero, suc, ◌+◌, ◌<◌, ◌≤◌, cond, false, List, [], ◌∷◌, length, map, Option, Some, None, is_some, count_by, slice_get, get_or, set, refl, sym, ap, ◌∙◌, subst, arith, inl, inr}
use Rattle.std.specs.List.{swap}
use Rattle.daig_graph.specs.Numbers.{renumbered, AreRising, AreBelow, EndsBy, Moves, Moving}
use Rattle.daig_graph.proofs.Cases.{none-some}
use Rattle.daig_graph.proofs.Filled.{count-set}
use Rattle.std.proofs.lemmas.Bool.{cases_eq}
use Rattle.std.proofs.lemmas.List.{get_or-set_same, get_or-set_other, length-set}
use Rattle.std.proofs.lemmas.List.Edits.{swap_is}
use Rattle.std.proofs.lemmas.Option.{same_Some}

-- one number's item is taken away, and another gets one
module _ {A : Type 0} (items : List A) (n to : ℕ) (a b d : A) where
  abbrev pub moved_item : List A
  moved_item = set (set items n a) to b

  pub moved-here : to < length items → get_or moved_item to d ≡ b
  moved-here h = get_or-set_same (set items n a) to b d (omega (arith, h, length-set items n a))

  pub moved-from : n < length items → n ≢ to → get_or moved_item n d ≡ a
  moved-from h ne = get_or-set_other (set items n a) to n b d ne ∙ get_or-set_same items n a d h

  pub moved-other : (q : ℕ) → q ≢ to → q ≢ n → get_or moved_item q d ≡ get_or items q d
  moved-other q nt nn = get_or-set_other (set items n a) to q b d nt ∙ get_or-set_other items n q a d nn

  pub moved-places : length moved_item ≡ length items
  moved-places = length-set (set items n a) to b ∙ length-set items n a

-- two numbers swap what they have
pub count-swap : {A : Type 0} (items : List (Option A)) (n to : ℕ) → n < length items → to < length items → count_by is_some (swap items n to) ≡ count_by is_some items
count-swap {A} items n to h l =
    let first = count-set items n (get_or items to None) h in
    let second = count-set (set items n (get_or items to None)) to (get_or items n None) (omega (arith, l, length-set items n (get_or items to None))) in
    let same = ap {B = ℕ} (λ (o : Option A). cond (is_some o) 1 0) (still (cases_eq to n)) in
    ap (λ xs. count_by is_some xs) (sym (swap_is items n to None h l)) ∙ omega (arith, first, second, same)
  where
    still : (to ≡ n) ⊎ (to ≢ n) → get_or (set items n (get_or items to None)) to None ≡ get_or items to None
    still (inl same) = ap (λ m. get_or (set items n (get_or items to None)) m None) same ∙ get_or-set_same items n (get_or items to None) None h
    still (inr ne) = get_or-set_other items n to (get_or items to None) None ne

-- what stands at the numbers, while it moves
module _ {A : Type 0} (change : A → A) (old mid : ℕ → Option A) (new_of : List ℕ) (count room : ℕ) where
  module _ (m : Moving change old mid new_of count room) where
    -- nothing stands there, and nothing moves
    pub moving-none : mid count ≡ None → Moving change old mid new_of (count + 1) room
    moving-none none = record {
      there = λ n a l e. elim (cases_eq n count) [
        | inl same ↦ absent n a same e
        | inr ne ↦ m.there n a (omega (arith, l, ne)) e
      ];
      back = λ q b l e. elim (cases_eq q count) [
        | inl same ↦ none-some (sym none ∙ ap mid (sym same) ∙ e)
        | inr ne ↦ let w = m.back q b (omega (arith, l, ne)) e in (w.0, w.1, omega (arith, w.2), w.3, w.4)
      ];
      rest = λ n l. m.rest n (omega (arith, l));
      ends = λ n a l e. elim (cases_eq n count) [
        | inl same ↦ absent n a same e
        | inr ne ↦ m.ends n a (omega (arith, l, ne)) e
      ];
    }
      where
        absent : (n : ℕ) (a : A) {P : Type 0} → n ≡ count → old n ≡ Some a → P
        absent n a same e = none-some (sym none ∙ m.rest count (omega arith) ∙ ap old (sym same) ∙ e)

    module _ (rising : AreRising old new_of) (below : AreBelow old new_of) (a : A) (is : mid count ≡ Some a) where
      was : old count ≡ Some a
      was = sym (m.rest count (omega arith)) ∙ is

      pub low : renumbered new_of count ≤ count
      low = below count a was

      -- nothing stands at the new number yet
      pub vacant : renumbered new_of count ≢ count → mid (renumbered new_of count) ≡ None
      vacant ne = by (mid (renumbered new_of count)) refl
        where
          by : (o : Option A) → mid (renumbered new_of count) ≡ o → mid (renumbered new_of count) ≡ None
          by None e = e
          by (Some b) e =
              let w = m.back (renumbered new_of count) b (omega (arith, low, ne)) e in
              let up = rising w.0 count w.1 a w.2 w.3 was in
              absurd (omega (arith, up, w.4))

      -- what stands there moves
      pub moving-some : (new : ℕ → Option A) → new (renumbered new_of count) ≡ Some (change a) → (count ≢ renumbered new_of count → new count ≡ None)
          → ((q : ℕ) → q ≢ renumbered new_of count → q ≢ count → new q ≡ mid q) → Moving change old new new_of (count + 1) (renumbered new_of count + 1)
      moving-some new here gone others = record {
        there = λ n b l f. elim (cases_eq n count) [
          | inl same ↦ ap (λ i. new (renumbered new_of i)) same ∙ here ∙ ap (λ x. Some (change x)) (same_Some _ _ (sym was ∙ ap old (sym same) ∙ f))
          | inr ne ↦
              let before : n < count = omega (arith, l, ne) in
              let up = rising n count b a before f was in
              others (renumbered new_of n) (λ s. absurd (omega (arith, up, s))) (λ s. absurd (omega (arith, up, low, s))) ∙ m.there n b before f
        ];
        back = λ q b l f. elim (cases_eq q (renumbered new_of count)) [
          | inl same ↦ (count, a, omega arith, was, sym same)
          | inr ne ↦ elim (cases_eq q count) [
            | inl s ↦ none-some (sym (gone (λ t. ne (s ∙ t))) ∙ ap new (sym s) ∙ f)
            | inr nc ↦ let w = m.back q b (omega (arith, l, nc)) (sym (others q ne nc) ∙ f) in (w.0, w.1, omega (arith, w.2), w.3, w.4)
          ]
        ];
        rest = λ n l. others n (λ s. absurd (omega (arith, l, low, s))) (λ s. absurd (omega (arith, l, s))) ∙ m.rest n (omega (arith, l));
        ends = λ n b l f. elim (cases_eq n count) [
          | inl same ↦ omega (arith, ap (renumbered new_of) same)
          | inr ne ↦ let up = rising n count b a (omega (arith, l, ne)) f was in omega (arith, up)
        ];
      }

    -- all has moved
    module _ (old_low : (n : ℕ) (a : A) → old n ≡ Some a → n < count) (mid_low : (n : ℕ) (a : A) → mid n ≡ Some a → n < count) where
      pub moved : Moves change old mid new_of
      moved = record {
        there = λ n a e. m.there n a (old_low n a e) e;
        back = λ q b e. let w = m.back q b (mid_low q b e) e in (w.0, w.1, w.3, w.4);
      }

      pub moved-ends : EndsBy mid room
      moved-ends q b e =
          let w = m.back q b (mid_low q b e) e in
          let l = m.ends w.0 w.1 w.2 w.3 in
          omega (arith, l, w.4)

pub moving-start : {A : Type 0} (change : A → A) (old : ℕ → Option A) (new_of : List ℕ) (room : ℕ) → Moving change old old new_of 0 room
moving-start change old new_of room = record {
  there = λ n a l e. absurd (omega (arith, l));
  back = λ q b l e. absurd (omega (arith, l));
  rest = λ n l. refl;
  ends = λ n a l e. absurd (omega (arith, l));
}

-- a number among new ones is that of a number at the same place
pub number-was : (new_of xs : List ℕ) (i y : ℕ) → slice_get (map (renumbered new_of) xs) i ≡ Some y → (x : ℕ) × (slice_get xs i ≡ Some x) × (renumbered new_of x ≡ y)
number-was new_of [] i y e = none-some e
number-was new_of (x ∷ xs) zero y e = (x, refl, same_Some _ _ e)
number-was new_of (x ∷ xs) (suc i) y e = number-was new_of xs i y e

-- an item that is there is read whatever the default is
pub same-default : {A : Type 0} (items : List A) (n : ℕ) (d e : A) → n < length items → get_or items n d ≡ get_or items n e
same-default [] n d e h = absurd (omega (arith, h))
same-default (x ∷ items) zero d e h = refl
same-default (x ∷ items) (suc n) d e h = same-default items n d e (omega (arith, h))

-- what holds of four things holds of their equals
pub along : {A B C D : Type 0} (P : A → B → C → D → Type 0) (a e : A) (b f : B) (c g : C) (d h : D) → a ≡ e → b ≡ f → c ≡ g → d ≡ h → P a b c d → P e f g h
along {A} {B} {C} {D} P a e b f c g d h ae bf cg dh p =
    let Q : A → Type 0 = λ x. P x b c d in
    let R : B → Type 0 = λ x. P e x c d in
    let S : C → Type 0 = λ x. P e f x d in
    let T : D → Type 0 = λ x. P e f g x in
    subst T dh (subst S cg (subst R bf (subst Q ae p)))

pub none-of : {A : Type 0} (o : Option A) → is_some o ≡ false → o ≡ None
none-of None e = refl
none-of (Some a) e = absurd (cc)
