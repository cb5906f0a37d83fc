-- Something put among the entries of a change, whose numbers fall.
use Rattle.std.proofs.lemmas.Bool.Decides.{nat_tests}
use Rattle.std.proofs.Common.{◌≡◌, ◌≢◌, ℕ, zero, suc, ◌-◌, ◌<◌, ◌≤◌, ◌==◌, cond, Bool, true, false, List, [], ◌∷◌, length, slice_index_or, slice_set, Option, refl, sym, ap, ◌∙◌, subst, arith}
use Rattle.std.proofs.lemmas.List.{get_or_default}
use Rattle.std.specs.List.{All, insert}
use Rattle.imp_table.specs.Changes.{overlay, AreFalling, AreWithin}
use Rattle.imp_check.specs.declared.entry.Entry.{Entry}
use Rattle.imp_table.specs.declared.change.Put.{Put}
use Rattle.imp_table.proofs.FallingLemmas.{AreGreater, AreLess, greater_more, falling_tail}

-- Where nothing is put.
pub none_fall : AreFalling []
none_fall i j d h l = absurd (omega arith)

pub none_within : (b : ℕ) → AreWithin b []
none_within b = record { falling = none_fall; below = λ i d l. absurd (omega arith) }

falling_cons : (p : Put) (ps : List Put) → All (λ (q : Put). q.number < p.number) ps → AreFalling ps → AreFalling (p ∷ ps)
falling_cons p ps a f zero zero d h l = absurd (omega arith)
falling_cons p ps a f zero (suc j) d h l = a j d (omega arith)
falling_cons p ps a f (suc i) zero d h l = absurd (omega arith)
falling_cons p ps a f (suc i) (suc j) d h l = f i j d (omega arith) (omega arith)

less_all : (p : Put) (ps : List Put) → AreFalling (p ∷ ps) → All (λ (q : Put). q.number < p.number) ps
less_all p ps f i d h = f 0 (suc i) d (omega arith) (omega arith)

all_cons : (P : Put → Type 0) (p : Put) (ps : List Put) → P p → All P ps → All P (p ∷ ps)
all_cons P p ps h a zero d l = h
all_cons P p ps h a (suc i) d l = a i d (omega arith)

all_tail : (P : Put → Type 0) (p : Put) (ps : List Put) → All P (p ∷ ps) → All P ps
all_tail P p ps a i d l = a (suc i) d (omega arith)

all_head : (P : Put → Type 0) (p : Put) (ps : List Put) → All P (p ∷ ps) → P p
all_head P p ps a = a 0 p (omega arith)

-- two tests of a number that exclude each other
swapped : (n k m : ℕ) (x y : Option Entry) (z : Option Entry) → k < n → cond (n == m) x (cond (k == m) y z) ≡ cond (k == m) y (cond (n == m) x z)
swapped n k m x y z h = go (n == m) refl
  where
    go : (b : Bool) → (n == m) ≡ b → cond b x (cond (k == m) y z) ≡ cond (k == m) y (cond b x z)
    go true e =
        let q : (k == m) ≡ false = grind (arith, nat_tests) in
        ap (λ t. cond t y x) (sym q)
    go false e = refl

-- One more, where all before it have greater numbers and all after it less.
pub added_overlay : (ps : List Put) (i : ℕ) (p : Put) (at : ℕ → Option Entry) (m : ℕ) → AreGreater ps p.number i → overlay (insert ps i p) at m ≡ cond (p.number == m) p.entry (overlay ps at m)
added_overlay ps zero p at m h = refl
added_overlay [] (suc i) p at m h = refl
added_overlay (q ∷ ps) (suc i) p at m h =
    let l : p.number < q.number = h 0 q (omega arith) (omega arith) in
    ap (cond (q.number == m) q.entry) (added_overlay ps i p at m (λ j d k o. h (suc j) d (omega arith) (omega arith)))
    ∙ swapped q.number p.number m q.entry p.entry (overlay ps at m) l

added_all : (P : Put → Type 0) (ps : List Put) (i : ℕ) (p : Put) → P p → All P ps → All P (insert ps i p)
added_all P ps zero p h a = all_cons P p ps h a
added_all P [] (suc i) p h a = all_cons P p [] h a
added_all P (q ∷ ps) (suc i) p h a = all_cons P q (insert ps i p) (all_head P q ps a) (added_all P ps i p h (all_tail P q ps a))

pub added_falling : (ps : List Put) (i : ℕ) (p : Put) → AreFalling ps → AreGreater ps p.number i → AreLess ps p.number i → AreFalling (insert ps i p)
added_falling ps zero p f h l = falling_cons p ps (λ j d k. l j d (omega arith) k) f
added_falling [] (suc i) p f h l = falling_cons p [] (λ j d k. absurd (omega arith)) f
added_falling (q ∷ ps) (suc i) p f h l =
    falling_cons q (insert ps i p) (added_all (λ (z : Put). z.number < q.number) ps i p (h 0 q (omega arith) (omega arith)) (less_all q ps f))
    (added_falling ps i p (falling_tail q ps f) (λ j d k o. h (suc j) d (omega arith) (omega arith)) (λ j d k o. l (suc j) d (omega arith) (omega arith)))

pub added_within : (b : ℕ) (ps : List Put) (i : ℕ) (p : Put) → AreGreater ps p.number i → AreLess ps p.number i → p.number < b → AreWithin b ps → AreWithin b (insert ps i p)
added_within b ps i p h l k w = record { falling = added_falling ps i p w.falling h l; below = added_all (λ (z : Put). z.number < b) ps i p k w.below }

-- In place of one of the same number.
pub exchanged_overlay : (ps : List Put) (i : ℕ) (p q : Put) (at : ℕ → Option Entry) (m : ℕ) → AreFalling ps → i < length ps → q ≡ slice_index_or ps i q → q.number ≡ p.number → overlay (slice_set ps i p) at m ≡ cond (p.number == m) p.entry (overlay ps at m)
exchanged_overlay [] i p q at m f h e s = absurd (omega arith)
exchanged_overlay (x ∷ ps) zero p q at m f h e s = go (p.number == m) refl
  where
    go : (b : Bool) → (p.number == m) ≡ b → cond b p.entry (overlay ps at m) ≡ cond b p.entry (cond (x.number == m) x.entry (overlay ps at m))
    go true t = refl
    go false t = let k : x.number ≡ p.number = ap (λ (z : Put). z.number) (sym e) ∙ s in let w : (x.number == m) ≡ false = ap (λ n. n == m) k ∙ t in ap (λ c. cond c x.entry (overlay ps at m)) (sym w)
exchanged_overlay (x ∷ ps) (suc i) p q at m f h e s =
    let l : (slice_index_or ps i q).number < x.number = less_all x ps f i q (omega arith) in
    let k : p.number < x.number = omega (arith, l, s, ap (λ (z : Put). z.number) e) in
    ap (cond (x.number == m) x.entry) (exchanged_overlay ps i p q at m (falling_tail x ps f) (omega arith) e s)
    ∙ swapped x.number p.number m x.entry p.entry (overlay ps at m) k

exchanged_all : (P : Put → Type 0) (ps : List Put) (i : ℕ) (p : Put) → P p → All P ps → All P (slice_set ps i p)
exchanged_all P [] i p h a = a
exchanged_all P (x ∷ ps) zero p h a = all_cons P p ps h (all_tail P x ps a)
exchanged_all P (x ∷ ps) (suc i) p h a = all_cons P x (slice_set ps i p) (all_head P x ps a) (exchanged_all P ps i p h (all_tail P x ps a))

pub exchanged_falling : (ps : List Put) (i : ℕ) (p q : Put) → AreFalling ps → i < length ps → q ≡ slice_index_or ps i q → q.number ≡ p.number → AreFalling (slice_set ps i p)
exchanged_falling [] i p q f h e s = absurd (omega arith)
exchanged_falling (x ∷ ps) zero p q f h e s =
    let k : x.number ≡ p.number = ap (λ (z : Put). z.number) (sym e) ∙ s in
    falling_cons p ps (subst (λ n. All (λ (z : Put). z.number < n) ps) k (less_all x ps f)) (falling_tail x ps f)
exchanged_falling (x ∷ ps) (suc i) p q f h e s =
    let l : (slice_index_or ps i q).number < x.number = less_all x ps f i q (omega arith) in
    let k : p.number < x.number = omega (arith, l, s, ap (λ (z : Put). z.number) e) in
    falling_cons x (slice_set ps i p) (exchanged_all (λ (z : Put). z.number < x.number) ps i p k (less_all x ps f)) (exchanged_falling ps i p q (falling_tail x ps f) (omega arith) e s)

pub exchanged_within : (b : ℕ) (ps : List Put) (i : ℕ) (p q : Put) → i < length ps → q ≡ slice_index_or ps i q → q.number ≡ p.number → p.number < b → AreWithin b ps → AreWithin b (slice_set ps i p)
exchanged_within b ps i p q h e s k w = record { falling = exchanged_falling ps i p q w.falling h e s; below = exchanged_all (λ (z : Put). z.number < b) ps i p k w.below }

-- The place of a number: the last one before it is none less, and another one.
pub greater_before : (ps : List Put) (n at : ℕ) (p q : Put) → AreFalling ps → 0 < at → at ≤ length ps → p ≡ slice_index_or ps (at - 1) p → q ≡ slice_index_or ps (at - 1) q → n ≤ p.number → q.number ≢ n → AreGreater ps n at
greater_before ps n at p q f h l e d k o i x j m =
    let h1 : at - 1 < length ps = omega (arith, h, l) in
    let same : q.number ≡ p.number = ap (λ (z : Put). z.number) (d ∙ get_or_default ps (at - 1) q p h1 ∙ sym e) in
    let more : n < p.number = omega (arith, same, k, o) in
    greater_more ps n (at - 1) p f h1 e more i x (omega (arith, j, h)) m

pub none_before : (ps : List Put) (n at : ℕ) → at ≤ 0 → AreGreater ps n at
none_before ps n at h i d j m = absurd (omega (arith, h, j))
