-- What stands at the places of recent results, and what filling one makes of them.
use Rattle.std.proofs.Common.{◌≡◌, ℕ, zero, suc, ◌<◌, ◌≤◌, List, [], ◌∷◌, length, get_or, slice_get, Option, Some, None, Contains, ◌⊎◌, inl, inr, refl, sym, ap, ◌∙◌, subst, arith}
use Rattle.std.proofs.Math.ListN.{set, replicate}
use Rattle.std.proofs.lemmas.List.Elements.{Contains-append_right, Contains-append_cases}
use Rattle.memo_table.specs.declared.memo.Key.{Key}
use Rattle.memo_table.specs.declared.recent.Place.{Place}
use Rattle.std.proofs.lemmas.List.{length-set, length-replicate}
use Rattle.std.proofs.lemmas.Option.{same_Some, get_or_from_slice_get}
use Rattle.memo_table.specs.Recent.{number_of, key_with, key_of, entry_before, entries_of, index_of, HasSameNumbers, ArePlaced}

alone : (x y : Key × ℕ) → Contains (x ∷ []) y → x ≡ y
alone x y (zero, l, e) = e
alone x y (suc k, l, e) = absurd (omega arith)

head : (key : Option Key) (state : ℕ) (rest : List (Key × ℕ)) (k : Key) → key ≡ Some k → Contains (entry_before key state rest) (k, state)
head key state rest k is = subst (λ o. Contains (entry_before o state rest) (k, state)) (sym is) (0, omega arith, refl)

tail : (key : Option Key) (state : ℕ) (rest : List (Key × ℕ)) (x : Key × ℕ) → Contains rest x → Contains (entry_before key state rest) x
tail None state rest x h = h
tail (Some key) state rest x h = Contains-append_right ((key, state) ∷ []) rest x h

cases : (key : Option Key) (state : ℕ) (rest : List (Key × ℕ)) (k : Key) (n : ℕ) → Contains (entry_before key state rest) (k, n) → ((key ≡ Some k) × (n ≡ state)) ⊎ Contains rest (k, n)
cases None state rest k n h = inr h
cases (Some key) state rest k n h = elim (Contains-append_cases ((key, state) ∷ []) rest (k, n) h) [
  | inl first ↦ let e = alone (key, state) (k, n) first in inl (ap (λ p. Some p.0) e, ap (λ p. p.1) (sym e))
  | inr more ↦ inr more
]

-- a place that has a key holds an entry
pub entry-at : (ps : List Place) (i : ℕ) (d : Place) (key : Key) → i < length ps → key_of (get_or ps i d) ≡ Some key → Contains (entries_of ps) (key, (get_or ps i d).state)
entry-at [] i d key l is = absurd (omega arith)
entry-at (p ∷ ps) zero d key l is = head (key_of p) p.state (entries_of ps) key is
entry-at (p ∷ ps) (suc i) d key l is = tail (key_of p) p.state (entries_of ps) (key, (get_or ps i d).state) (entry-at ps i d key (omega arith) is)

-- a place that is filled has its entry, ..
pub entry-set : (ps : List Place) (i : ℕ) (q : Place) (key : Key) → i < length ps → key_of q ≡ Some key → Contains (entries_of (set ps i q)) (key, q.state)
entry-set [] i q key l is = absurd (omega arith)
entry-set (p ∷ ps) zero q key l is = head (key_of q) q.state (entries_of ps) key is
entry-set (p ∷ ps) (suc i) q key l is = tail (key_of p) p.state (entries_of (set ps i q)) (key, q.state) (entry-set ps i q key (omega arith) is)

-- .. and every other was there
pub entries-set : (ps : List Place) (i : ℕ) (q : Place) (k : Key) (n : ℕ) → Contains (entries_of (set ps i q)) (k, n) → Contains (entries_of ps) (k, n) ⊎ ((key_of q ≡ Some k) × (n ≡ q.state))
entries-set [] i q k n h = inl h
entries-set (p ∷ ps) zero q k n h = elim (cases (key_of q) q.state (entries_of ps) k n h) [
  | inl is ↦ inr is
  | inr old ↦ inl (tail (key_of p) p.state (entries_of ps) (k, n) old)
]
entries-set (p ∷ ps) (suc i) q k n h = elim (cases (key_of p) p.state (entries_of (set ps i q)) k n h) [
  | inl is ↦ inl (subst (λ m. Contains (entries_of (p ∷ ps)) (k, m)) (sym is.1) (head (key_of p) p.state (entries_of ps) k is.0))
  | inr more ↦ elim (entries-set ps i q k n more) [
    | inl old ↦ inl (tail (key_of p) p.state (entries_of ps) (k, n) old)
    | inr new ↦ inr new
  ]
]

one-more : (key : Option Key) (state : ℕ) (rest : List (Key × ℕ)) → length (entry_before key state rest) ≤ suc (length rest)
one-more None state rest = omega arith
one-more (Some key) state rest = omega arith

-- there are no more entries than places
pub entries-few : (ps : List Place) → length (entries_of ps) ≤ length ps
entries-few [] = omega arith
entries-few (p ∷ ps) = let one = one-more (key_of p) p.state (entries_of ps) in let more = entries-few ps in omega arith

-- empty places hold nothing
pub entries-empty : (p : Place) (count : ℕ) → key_of p ≡ None → entries_of (replicate count p) ≡ []
entries-empty p zero is = refl
entries-empty p (suc count) is = ap (λ o. entry_before o p.state (entries_of (replicate count p))) is ∙ entries-empty p count is

-- an entry is that of a place
entry-from : (ps : List Place) (key : Key) (n : ℕ) → Contains (entries_of ps) (key, n) → (i : ℕ) × (p : Place) × (slice_get ps i ≡ Some p) × (key_of p ≡ Some key) × (n ≡ p.state)
entry-from [] key n h = absurd (let l : h.0 < 0 = h.1 in omega arith)
entry-from (p ∷ ps) key n h = elim (cases (key_of p) p.state (entries_of ps) key n h) [
  | inl is ↦ (0, p, refl, is.0, is.1)
  | inr more ↦ let w = entry-from ps key n more in (suc w.0, w.1, w.2, w.3, w.4)
]

same-number : (m n : ℕ) → number_of m ≡ number_of n → m ≡ n
same-number zero zero e = refl
same-number zero (suc n) e = absurd cc
same-number (suc m) zero e = absurd cc
same-number (suc m) (suc n) e = ap suc (same_Some m n e)

key-parts : (operation left right : Option ℕ) (key : Key) → key_with operation left right ≡ Some key → (operation ≡ Some key.operation) × (left ≡ key.left) × (right ≡ key.right)
key-parts None left right key e = absurd cc
key-parts (Some operation) left right key e =
    let is = same_Some _ key e in
    (ap (λ (k : Key). Some k.operation) is, ap (λ (k : Key). k.left) is, ap (λ (k : Key). k.right) is)

same-numbers : (p q : Place) (key : Key) → key_of p ≡ Some key → key_of q ≡ Some key → HasSameNumbers p q
same-numbers p q key e f =
    let a = key-parts (number_of p.operation) (number_of p.left) (number_of p.right) key e in
    let b = key-parts (number_of q.operation) (number_of q.left) (number_of q.right) key f in
    record {
      operation = same-number p.operation q.operation (a.0 ∙ sym b.0);
      left = same-number p.left q.left (a.1 ∙ sym b.1);
      right = same-number p.right q.right (a.2 ∙ sym b.2);
    }

pub same-key : (p q : Place) → HasSameNumbers p q → key_of p ≡ key_of q
same-key p q same = cc

same-index : (last : ℕ) (p q : Place) → HasSameNumbers p q → index_of last p ≡ index_of last q
unfolding index_of
same-index last p q same = cc

-- what is held for a key stands at the key's place
pub stands-at : (last : ℕ) (ps : List Place) (entries : List (Key × ℕ)) (key : Key) (n : ℕ) (q place : Place) (index : ℕ) → entries_of ps ≡ entries → ArePlaced last ps → key_of q ≡ Some key → index ≡ index_of last q → place ≡ get_or ps index place → Contains entries (key, n) → HasSameNumbers place q × (n ≡ place.state)
stands-at last ps entries key n q place index view placed is at read h =
    let w = entry-from ps key n (subst (λ (es : List (Key × ℕ)). Contains es (key, n)) (sym view) h) in
    let p = w.1 in
    let same : HasSameNumbers p q = same-numbers p q key w.3 is in
    let here : index ≡ w.0 = at ∙ sym (placed.placed w.0 p key w.2 w.3 ∙ same-index last p q same) in
    let one : place ≡ p = read ∙ get_or_from_slice_get ps index p place (ap (slice_get ps) here ∙ w.2) in
    (subst (λ x. HasSameNumbers x q) (sym one) same, w.4 ∙ ap (λ (x : Place). x.state) (sym one))

at-set : (ps : List Place) (i : ℕ) (q : Place) (j : ℕ) (p : Place) → slice_get (set ps i q) j ≡ Some p → (slice_get ps j ≡ Some p) ⊎ ((j ≡ i) × (p ≡ q))
at-set [] i q j p e = inl e
at-set (x ∷ ps) zero q zero p e = inr (refl, same_Some p q (sym e))
at-set (x ∷ ps) zero q (suc j) p e = inl e
at-set (x ∷ ps) (suc i) q zero p e = inl e
at-set (x ∷ ps) (suc i) q (suc j) p e = elim (at-set ps i q j p e) [
  | inl old ↦ inl old
  | inr new ↦ inr (ap suc new.0, new.1)
]

-- a key is filled in at its own place
pub placed-set : (last : ℕ) (ps : List Place) (i : ℕ) (q : Place) → i ≡ index_of last q → ArePlaced last ps → ArePlaced last (set ps i q)
placed-set last ps i q at placed = record {
  count = length-set ps i q ∙ placed.count;
  placed = λ j p key e is. elim (at-set ps i q j p e) [
    | inl old ↦ placed.placed j p key old is
    | inr new ↦ new.0 ∙ at ∙ ap (index_of last) (sym new.1)
  ];
}

at-replicate : (p : Place) (count i : ℕ) (q : Place) → slice_get (replicate count p) i ≡ Some q → q ≡ p
at-replicate p zero i q e = absurd cc
at-replicate p (suc count) zero q e = same_Some q p (sym e)
at-replicate p (suc count) (suc i) q e = at-replicate p count i q e

pub placed-empty : (p : Place) (count last : ℕ) → count ≡ suc last → key_of p ≡ None → ArePlaced last (replicate count p)
placed-empty p count last size is = record {
  count = length-replicate count p ∙ size;
  placed = λ i q key e has. absurd (let none : None ≡ Some key = sym is ∙ ap key_of (sym (at-replicate p count i q e)) ∙ has in cc);
}
