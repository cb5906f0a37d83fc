-- The join is the least upper bound.
use Rattle.std.proofs.Common.{◌≡◌, refl, sym, ap, subst, ℕ, zero, suc, ◌<◌, ℤ, int_le, true, List, [], ◌∷◌, map, length, arith, inl, inr}
use Rattle.std.proofs.lemmas.Int.{ints, clamps}
use Rattle.std.specs.Int.{int_max, int_min}
use Rattle.std.specs.List.{AllZip, zip}
use Rattle.base_values.proofs.Cases.{by_bool}
use Rattle.imp_slots.specs.Plain.{Numeric, Layout}
use Rattle.num_bounds.specs.Operations.{hull_of}
use Rattle.dom_interval_meaning.specs.State.{Intervals, Empty, Within}
use Rattle.dom_interval_meaning.specs.Ranges.{range_at}
use Rattle.dom_interval_meaning.specs.Operations.{join, hull_slot}
use Rattle.dom_interval_meaning.specs.Covers.{fits}
use Rattle.dom_interval_meaning.specs.declared.slot_range.SlotRange.{SlotRange}
use Rattle.dom_interval_meaning.proofs.SlotLaws.{FitsSlot}
use Rattle.dom_interval_meaning.proofs.CompareLaws.{FitsState}
use Rattle.dom_interval_meaning.proofs.Laws.{fits-state, interval_laws}
use Rattle.dom_interval_precise.specs.Best.{IsBest}
use Rattle.dom_interval_precise.specs.Sets.{Of, OfEither}
use Rattle.dom_interval_precise.proofs.Tight.{Takes, TakesEnds, Tight, tight-smallest, tight-more, more-takes, more-some}
use Rattle.dom_interval_precise.proofs.Own.{own-tight}

abbrev hulls : List SlotRange → List SlotRange → List SlotRange
hulls rs qs = map (λ p. hull_slot p.0 p.1) (zip rs qs)

hulls-length : (ks : List Numeric) (rs qs : List SlotRange) → AllZip FitsSlot ks rs → AllZip FitsSlot ks qs → length (hulls rs qs) ≡ length ks
hulls-length [] [] [] h k = refl
hulls-length [] [] (q ∷ qs) h k = absurd k
hulls-length [] (r ∷ rs) qs h k = absurd h
hulls-length (n ∷ ks) [] qs h k = absurd h
hulls-length (n ∷ ks) (r ∷ rs) [] h k = absurd k
hulls-length (n ∷ ks) (r ∷ rs) (q ∷ qs) h k = ap suc (hulls-length ks rs qs h.1 k.1)

hulls-at : (ks : List Numeric) (rs qs : List SlotRange) (x : ℕ) → x < length ks → AllZip FitsSlot ks rs → AllZip FitsSlot ks qs → range_at (hulls rs qs) x ≡ hull_of (range_at rs x) (range_at qs x)
hulls-at [] rs qs x lt h k = absurd (omega arith)
hulls-at (n ∷ ks) [] qs x lt h k = absurd h
hulls-at (n ∷ ks) (r ∷ rs) [] x lt h k = absurd k
hulls-at (n ∷ ks) (r ∷ rs) (q ∷ qs) zero lt h k = refl
hulls-at (n ∷ ks) (r ∷ rs) (q ∷ qs) (suc x) lt h k = hulls-at ks rs qs x (omega arith) h.1 k.1

-- each end of a hull is an end of one of the two
lower : (P : ℤ → Type 0) (a b : ℤ) → P a → P b → P (int_min a b)
lower P a b p q = by_bool (int_le a b) (λ t. let e : a ≡ int_min a b = grind (arith, ints, clamps) in subst P e p) (λ t. let e : b ≡ int_min a b = grind (arith, ints, clamps) in subst P e q)

higher : (P : ℤ → Type 0) (a b : ℤ) → P a → P b → P (int_max a b)
higher P a b p q = by_bool (int_le a b) (λ t. let e : b ≡ int_max a b = grind (arith, ints, clamps) in subst P e q) (λ t. let e : a ≡ int_max a b = grind (arith, ints, clamps) in subst P e p)

-- what the ends of either take, the ends of both take
either-tight : (l : Layout) (ls : List Layout) (s t : Intervals) → FitsState l s → FitsState l t → Tight (OfEither (l ∷ ls) s t) (length l.numbers) (join s t)
unfolding join
either-tight l ls Empty Empty h k = tt
either-tight l ls Empty (Within qs) h k = tight-more (Of (l ∷ ls) (Within qs)) (OfEither (l ∷ ls) Empty (Within qs)) (λ g vs d. inr d) (length l.numbers) (Within qs) (own-tight l ls (Within qs) k)
either-tight l ls (Within rs) Empty h k = tight-more (Of (l ∷ ls) (Within rs)) (OfEither (l ∷ ls) (Within rs) Empty) (λ g vs d. inl d) (length l.numbers) (Within rs) (own-tight l ls (Within rs) h)
either-tight l ls (Within rs) (Within qs) h k =
    let a = Of (l ∷ ls) (Within rs) in
    let c = Of (l ∷ ls) (Within qs) in
    let b = OfEither (l ∷ ls) (Within rs) (Within qs) in
    let one = own-tight l ls (Within rs) h in
    let two = own-tight l ls (Within qs) k in (
      more-some a b (λ g vs d. inl d) (length l.numbers) one.0,
      hulls-length l.numbers rs qs h k,
      λ x lt.
          subst (TakesEnds b x) (sym (hulls-at l.numbers rs qs x lt h k)) (
            lower (Takes b x) (range_at rs x).lo (range_at qs x).lo (more-takes a b (λ g vs d. inl d) x (range_at rs x).lo (one.2 x lt).0) (more-takes c b (λ g vs d. inr d) x (range_at qs x).lo (two.2 x lt).0),
            higher (Takes b x) (range_at rs x).hi (range_at qs x).hi (more-takes a b (λ g vs d. inl d) x (range_at rs x).hi (one.2 x lt).1) (more-takes c b (λ g vs d. inr d) x (range_at qs x).hi (two.2 x lt).1),
          ),
    )

pub join-best : (l : Layout) (ls : List Layout) (s t : Intervals) → fits s (l ∷ ls) ≡ true → fits t (l ∷ ls) ≡ true → IsBest (OfEither (l ∷ ls) s t) (join s t)
join-best l ls s t f g = record {
  sound = λ h vs d. elim d [
    | inl e ↦ interval_laws.join_left (l ∷ ls) s t h vs f g e.0 e.1
    | inr e ↦ interval_laws.join_right (l ∷ ls) s t h vs f g e.0 e.1
  ];
  smallest = λ w c. tight-smallest (OfEither (l ∷ ls) s t) (length l.numbers) (join s t) w (either-tight l ls s t (fits-state s l ls f) (fits-state t l ls g)) c;
}
