-- Numbers of a change, which fall.
use Rattle.std.proofs.lemmas.Bool.{cases_lt}
use Rattle.std.proofs.Common.{◌≡◌, ℕ, zero, suc, ◌+◌, ◌<◌, ◌≤◌, ◌==◌, ◌⊎◌, inl, inr, cond, List, [], ◌∷◌, ◌++◌, length, slice_index_or, Option, refl, sym, ap, ◌∙◌, arith}
use Rattle.std.specs.List.{All}
use Rattle.std.proofs.lemmas.List.Elements.{All-push}
use Rattle.imp_slots.specs.Fits.{Absent, Distinct}
use Rattle.imp_table.specs.Changes.{overlay, AreFalling}
use Rattle.imp_check.specs.declared.entry.Entry.{Entry}
use Rattle.imp_table.specs.declared.change.Put.{Put}
use Rattle.imp_check.proofs.PutLemmas.{other, same}
use Rattle.imp_table.proofs.OverlayLemmas.{put_numbers, overlay_other}

pub falling_tail : (p : Put) (ps : List Put) → AreFalling (p ∷ ps) → AreFalling ps
falling_tail p ps f i j d h l = f (suc i) (suc j) d (omega arith) (omega arith)

-- the numbers after the first are less
less_behind : (p : Put) (ps : List Put) → AreFalling (p ∷ ps) → (j : ℕ) (d : Put) → j < length ps → (slice_index_or ps j d).number < p.number
less_behind p ps f j d l = f 0 (suc j) d (omega arith) (omega arith)

apart_all : (n : ℕ) (ps : List Put) → ((j : ℕ) (d : Put) → j < length ps → (slice_index_or ps j d).number ≡ n → ⊥) → Absent n (put_numbers ps)
apart_all n [] h = tt
apart_all n (p ∷ ps) h = ((λ e. h 0 p (omega arith) (sym e)), apart_all n ps (λ j d l. h (suc j) d (omega arith)))

-- so each stands once
pub falling_once : (ps : List Put) → AreFalling ps → Distinct (put_numbers ps)
falling_once [] f = tt
falling_once (p ∷ ps) f = (apart_all p.number ps (λ j d l e. omega (arith, e, less_behind p ps f j d l)), falling_once ps (falling_tail p ps f))

pub any_default : (ps : List Put) (i : ℕ) (d e : Put) → i < length ps → slice_index_or ps i d ≡ slice_index_or ps i e
any_default [] i d e h = absurd (omega arith)
any_default (p ∷ ps) zero d e h = refl
any_default (p ∷ ps) (suc i) d e h = any_default ps i d e (omega arith)

-- What comes at a number that the change has.
pub overlay_at : (ps : List Put) (at : ℕ → Option Entry) (i n : ℕ) (p : Put) → AreFalling ps → i < length ps → p ≡ slice_index_or ps i p → p.number ≡ n → overlay ps at n ≡ p.entry
overlay_at [] at i n p f h e q = absurd (omega arith)
overlay_at (x ∷ ps) at zero n p f h e q = ap (λ b. cond b x.entry (overlay ps at n)) (ap (λ m. m == n) (ap (λ (z : Put). z.number) (sym e) ∙ q) ∙ same n) ∙ ap (λ (z : Put). z.entry) (sym e)
overlay_at (x ∷ ps) at (suc i) n p f h e q =
    let l : p.number < x.number = omega (arith, ap (λ (z : Put). z.number) e, less_behind x ps f i p (omega arith)) in
    ap (λ b. cond b x.entry (overlay ps at n)) (other x.number n (λ r. omega (arith, r, l, q)))
    ∙ overlay_at ps at i n p (falling_tail x ps f) (omega arith) e q

-- A search among falling numbers: those before a place are greater than this one, those from another place on are less.
abbrev pub AreGreater : List Put → (n to : ℕ) → Type 0
AreGreater ps n to = (i : ℕ) (d : Put) → i < to → i < length ps → n < (slice_index_or ps i d).number

abbrev pub AreLess : List Put → (n from : ℕ) → Type 0
AreLess ps n from = (i : ℕ) (d : Put) → from ≤ i → i < length ps → (slice_index_or ps i d).number < n

module _ (ps : List Put) (n m : ℕ) (p : Put) (f : AreFalling ps) (h : m < length ps) (e : p ≡ slice_index_or ps m p) where
  here : (d : Put) → (slice_index_or ps m d).number ≡ p.number
  here d = ap (λ (z : Put). z.number) (any_default ps m d p h ∙ sym e)

  pub greater_more : n < p.number → AreGreater ps n (m + 1)
  greater_more l i d k j = go (cases_lt i m)
    where
      go : (i < m) ⊎ (m ≤ i) → n < (slice_index_or ps i d).number
      go (inl s) = omega (arith, l, here d, f i m d s h)
      go (inr s) = let q : i ≡ m = omega arith in omega (arith, l, here d, ap (λ (k : ℕ). (slice_index_or ps k d).number) q)

  pub less_more : p.number < n → AreLess ps n m
  less_more l i d k j = go (cases_lt m i)
    where
      go : (m < i) ⊎ (i ≤ m) → (slice_index_or ps i d).number < n
      go (inl s) = omega (arith, l, here d, f m i d s j)
      go (inr s) = let q : i ≡ m = omega arith in omega (arith, l, here d, ap (λ (k : ℕ). (slice_index_or ps k d).number) q)

-- What comes at a number that the change has not.
pub overlay_gone : (ps : List Put) (n low high : ℕ) → AreGreater ps n low → AreLess ps n high → high ≤ low → (at : ℕ → Option Entry) → overlay ps at n ≡ at n
overlay_gone ps n low high g l h at = overlay_other ps at n (apart_all n ps (λ j d k e. go j d k e (cases_lt j low)))
  where
    go : (j : ℕ) (d : Put) → j < length ps → (slice_index_or ps j d).number ≡ n → (j < low) ⊎ (low ≤ j) → ⊥
    go j d k e (inl s) = omega (arith, e, g j d s k)
    go j d k e (inr s) = omega (arith, e, l j d (omega (arith, s, h)) k)

pub falling_more : (ps : List Put) (p : Put) → AreFalling ps → All (λ (q : Put). p.number < q.number) ps → AreFalling (ps ++ p ∷ [])
falling_more [] p f a i j d h l = absurd (omega arith)
falling_more (q ∷ ps) p f a zero zero d h l = absurd (omega arith)
falling_more (q ∷ ps) p f a zero (suc j) d h l = All-push (λ (z : Put). z.number < q.number) ps p (λ i e k. less_behind q ps f i e k) (a 0 q (omega arith)) j d (omega arith)
falling_more (q ∷ ps) p f a (suc i) zero d h l = absurd (omega arith)
falling_more (q ∷ ps) p f a (suc i) (suc j) d h l = falling_more ps p (falling_tail q ps f) (λ k e m. a (suc k) e (omega arith)) i j d (omega arith) (omega arith)
