-- Entries exchanged into a table.
use Rattle.std.proofs.lemmas.Bool.Decides.{nat_tests}
use Rattle.std.proofs.Common.{◌≡◌, ℕ, zero, suc, ◌+◌, ◌<◌, ◌==◌, cond, Bool, true, false, List, [], ◌∷◌, ◌++◌, ◌≤◌, length, map, take, drop, slice_get, slice_index_or, slice_set, Option, Some, refl, sym, ap, ◌∙◌, subst, arith, add-one}
use Rattle.std.proofs.lemmas.List.{take_all}
use Rattle.imp_slots.specs.Fits.{Absent, Distinct}
use Rattle.imp_table.specs.Changes.{overlay}
use Rattle.imp_table.specs.Pages.{HasPlace, HavePlaces}
use Rattle.imp_check.specs.declared.entry.Entry.{Entry}
use Rattle.imp_table.specs.declared.change.Put.{Put}
use Rattle.imp_check.proofs.PutLemmas.{other}

abbrev pub put_numbers : List Put → List ℕ
put_numbers ps = map (λ (p : Put). p.number) ps

-- the change back of a table
abbrev pub back_of : (ℕ → Option Entry) → List Put → List Put
back_of at [] = []
back_of at (p ∷ ps) = record { number = p.number; entry = at p.number } ∷ back_of at ps

pub overlay_alike : (ps : List Put) (f g : ℕ → Option Entry) → ((m : ℕ) → f m ≡ g m) → (m : ℕ) → overlay ps f m ≡ overlay ps g m
overlay_alike [] f g h m = h m
overlay_alike (p ∷ ps) f g h m = ap (cond (p.number == m) p.entry) (overlay_alike ps f g h m)

-- one more, of a number that is not among the others
pub overlay_more : (ps : List Put) (p : Put) (at : ℕ → Option Entry) (m : ℕ) → Absent p.number (put_numbers ps) → overlay (ps ++ p ∷ []) at m ≡ cond (p.number == m) p.entry (overlay ps at m)
overlay_more [] p at m a = refl
overlay_more (q ∷ ps) p at m a = ap (cond (q.number == m) q.entry) (overlay_more ps p at m a.1) ∙ go (q.number == m) refl
  where
    go : (b : Bool) → (q.number == m) ≡ b → cond b q.entry (cond (p.number == m) p.entry (overlay ps at m)) ≡ cond (p.number == m) p.entry (cond b q.entry (overlay ps at m))
    go true e =
        let r : q.number ≡ m = grind (arith, nat_tests) in
        ap (λ b. cond b p.entry q.entry) (sym (other p.number m (λ s. a.0 (s ∙ sym r))))
    go false e = refl

-- what stands at a number that is not among them
pub overlay_other : (ps : List Put) (at : ℕ → Option Entry) (n : ℕ) → Absent n (put_numbers ps) → overlay ps at n ≡ at n
overlay_other [] at n a = refl
overlay_other (p ∷ ps) at n a = ap (λ b. cond b p.entry (overlay ps at n)) (other p.number n (λ r. a.0 (sym r))) ∙ overlay_other ps at n a.1

restored : (ps : List Put) (at g : ℕ → Option Entry) (m : ℕ) → (Absent m (put_numbers ps) → g m ≡ at m) → overlay (back_of at ps) g m ≡ at m
restored [] at g m h = h tt
restored (p ∷ ps) at g m h = go (p.number == m) refl (restored ps at g m)
  where
    go : (b : Bool) → (p.number == m) ≡ b → ((Absent m (put_numbers ps) → g m ≡ at m) → overlay (back_of at ps) g m ≡ at m) → cond b (at p.number) (overlay (back_of at ps) g m) ≡ at m
    go true e ih = let r : p.number ≡ m = grind (arith, nat_tests) in ap at r
    go false e ih = ih (λ a. h ((λ q. let r : p.number ≡ m = sym q in absurd (grind (arith, nat_tests))), a))

-- a change and then the change back
pub overlay_back : (ps : List Put) (at after : ℕ → Option Entry) → ((m : ℕ) → after m ≡ overlay ps at m) → (m : ℕ) → overlay (back_of at ps) after m ≡ at m
overlay_back ps at after h m = restored ps at after m (λ a. h m ∙ overlay_other ps at m a)

below_back : (at : ℕ → Option Entry) (ps : List Put) (i : ℕ) (d : Put) → i < length (back_of at ps) → (slice_index_or (back_of at ps) i d).number ≡ (slice_index_or ps i d).number
below_back at [] i d h = absurd (omega arith)
below_back at (p ∷ ps) zero d h = refl
below_back at (p ∷ ps) (suc i) d h = below_back at ps i d (omega arith)

back_length : (at : ℕ → Option Entry) (ps : List Put) → length (back_of at ps) ≡ length ps
back_length at [] = refl
back_length at (p ∷ ps) = ap suc (back_length at ps)

-- the change back has the same numbers
pub back_there : (at : ℕ → Option Entry) (ps : List Put) (places : List ℕ) → HavePlaces places ps → HavePlaces places (back_of at ps)
back_there at ps places w = record {
  falling = λ i j d h l.
      let k : j < length ps = omega (arith, l, back_length at ps) in
      omega (arith, below_back at ps i d (omega arith), below_back at ps j d l, w.falling i j d h k);
  there = λ i d h.
      let k : i < length ps = omega (arith, h, back_length at ps) in
      subst (HasPlace places) (sym (below_back at ps i d h)) (w.there i d k);
}

-- Places of lists.
pub at_same : (xs ys : List Put) (i : ℕ) (d : Put) → i < length xs → i < length ys → drop i xs ≡ drop i ys → slice_index_or xs i d ≡ slice_index_or ys i d
at_same [] ys i d h k e = absurd (omega arith)
at_same (x ∷ xs) [] i d h k e = absurd (omega arith)
at_same (x ∷ xs) (y ∷ ys) zero d h k e = let q : x ≡ y = cc in q
at_same (x ∷ xs) (y ∷ ys) (suc i) d h k e = at_same xs ys i d (omega arith) (omega arith) e

next_drop : (xs : List Put) (i : ℕ) → drop (suc i) xs ≡ drop 1 (drop i xs)
next_drop [] zero = refl
next_drop [] (suc i) = refl
next_drop (x ∷ xs) zero = refl
next_drop (x ∷ xs) (suc i) = next_drop xs i

set_past : (xs : List Put) (i : ℕ) (v : Put) → drop (suc i) (slice_set xs i v) ≡ drop (suc i) xs
set_past [] zero v = refl
set_past [] (suc i) v = refl
set_past (x ∷ xs) zero v = refl
set_past (x ∷ xs) (suc i) v = set_past xs i v

pub drop_more : (xs ys : List Put) (i : ℕ) (v : Put) → drop i xs ≡ drop i ys → drop (i + 1) (slice_set xs i v) ≡ drop (i + 1) ys
drop_more xs ys i v e = rw add-one (set_past xs i v ∙ next_drop xs i ∙ ap (drop 1) e ∙ sym (next_drop ys i))

set_take : (xs : List Put) (i : ℕ) (v : Put) → i < length xs → take (suc i) (slice_set xs i v) ≡ take i xs ++ v ∷ []
set_take [] i v h = absurd (omega arith)
set_take (x ∷ xs) zero v h = refl
set_take (x ∷ xs) (suc i) v h = ap (λ zs. x ∷ zs) (set_take xs i v (omega arith))

take_more : (ys : List Put) (i : ℕ) (d : Put) → i < length ys → take (suc i) ys ≡ take i ys ++ slice_index_or ys i d ∷ []
take_more [] i d h = absurd (omega arith)
take_more (y ∷ ys) zero d h = refl
take_more (y ∷ ys) (suc i) d h = ap (λ zs. y ∷ zs) (take_more ys i d (omega arith))

set_length : (xs : List Put) (i : ℕ) (v : Put) → length (slice_set xs i v) ≡ length xs
set_length [] i v = refl
set_length (x ∷ xs) zero v = refl
set_length (x ∷ xs) (suc i) v = ap suc (set_length xs i v)

pub as_long : (xs ys : List Put) (i : ℕ) (v : Put) → length xs ≡ length ys → length (slice_set xs i v) ≡ length ys
as_long xs ys i v e = set_length xs i v ∙ e

apart_at : (n : ℕ) (ps : List Put) (i : ℕ) (d : Put) → i < length ps → Absent n (put_numbers ps) → n ≡ (slice_index_or ps i d).number → ⊥
apart_at n [] i d h a = absurd (omega arith)
apart_at n (p ∷ ps) zero d h a = a.0
apart_at n (p ∷ ps) (suc i) d h a = apart_at n ps i d (omega arith) a.1

apart_before : (ps : List Put) (i : ℕ) (d : Put) → i < length ps → Distinct (put_numbers ps) → Absent (slice_index_or ps i d).number (put_numbers (take i ps))
apart_before [] i d h u = absurd (omega arith)
apart_before (p ∷ ps) zero d h u = tt
apart_before (p ∷ ps) (suc i) d h u = ((λ e. apart_at p.number ps i d (omega arith) u.0 (sym e)), apart_before ps i d (omega arith) u.1)

back_both : (at : ℕ → Option Entry) (ps qs : List Put) → back_of at (ps ++ qs) ≡ back_of at ps ++ back_of at qs
back_both at [] qs = refl
back_both at (p ∷ ps) qs = ap (λ zs. record { number = p.number; entry = at p.number } ∷ zs) (back_both at ps qs)

-- One more is put in, where the first i of these are.
module _ (ps : List Put) (at : ℕ → Option Entry) (i : ℕ) (d p : Put) (h : i < length ps) (e : p ≡ slice_index_or ps i d) (u : Distinct (put_numbers ps)) where
  apart : Absent p.number (put_numbers (take i ps))
  apart = subst (λ (q : Put). Absent q.number (put_numbers (take i ps))) (sym e) (apart_before ps i d h u)

  one_more : take (i + 1) ps ≡ take i ps ++ p ∷ []
  one_more = rw add-one (take_more ps i d h ∙ ap (λ (q : Put). take i ps ++ q ∷ []) (sym e))

  pub overlay_step : (f g : ℕ → Option Entry) → ((m : ℕ) → g m ≡ overlay (p ∷ []) f m) → ((m : ℕ) → f m ≡ overlay (take i ps) at m) → (m : ℕ) → g m ≡ overlay (take (i + 1) ps) at m
  overlay_step f g q r m =
      q m ∙ ap (cond (p.number == m) p.entry) (r m)
      ∙ sym (ap (λ zs. overlay zs at m) one_more ∙ overlay_more (take i ps) p at m apart)

  pub back_step : (cs : List Put) (f : ℕ → Option Entry) (v : Put) → i < length cs → v.number ≡ p.number → v.entry ≡ f p.number → ((m : ℕ) → f m ≡ overlay (take i ps) at m) → take i cs ≡ back_of at (take i ps) → take (i + 1) (slice_set cs i v) ≡ back_of at (take (i + 1) ps)
  back_step cs f v l n o r t =
      let w : v.entry ≡ at p.number = o ∙ r p.number ∙ overlay_other (take i ps) at p.number apart in
      let z : v ≡ record { number = p.number; entry = at p.number } = λ j. record { number = n j; entry = w j } in
      rw add-one (set_take cs i v l) ∙ ap (λ zs. zs ++ v ∷ []) t ∙ ap (λ (y : Put). back_of at (take i ps) ++ y ∷ []) z
      ∙ sym (ap (back_of at) one_more ∙ back_both at (take i ps) (p ∷ []))

-- all are put in
pub all_back : (ps cs : List Put) (at : ℕ → Option Entry) (i : ℕ) → length ps ≤ i → length cs ≡ length ps → take i cs ≡ back_of at (take i ps) → cs ≡ back_of at ps
all_back ps cs at i h l t = sym (take_all i cs (omega (arith, h, l))) ∙ t ∙ ap (back_of at) (take_all i ps h)

pub all_in : (ps : List Put) (at f : ℕ → Option Entry) (i : ℕ) → length ps ≤ i → ((m : ℕ) → f m ≡ overlay (take i ps) at m) → (m : ℕ) → f m ≡ overlay ps at m
all_in ps at f i h r m = r m ∙ ap (λ zs. overlay zs at m) (take_all i ps h)

-- What a change does not bring was there.
pub overlay_kept : (puts : List Put) (at : ℕ → Option Entry) (n : ℕ) (x : Entry) → overlay puts at n ≡ Some x → ((i : ℕ) (p : Put) → slice_get puts i ≡ Some p → p.entry ≡ Some x → ⊥) → at n ≡ Some x
overlay_kept [] at n x h none = h
overlay_kept (p ∷ ps) at n x h none = go (p.number == n) h (λ k. overlay_kept ps at n x k (λ i q. none (suc i) q))
  where
    go : (b : Bool) → cond b p.entry (overlay ps at n) ≡ Some x → (overlay ps at n ≡ Some x → at n ≡ Some x) → at n ≡ Some x
    go true h more = absurd (none 0 p refl h)
    go false h more = more h
