-- A state is the smallest where both ends of each of its ranges are taken.
use Rattle.std.proofs.Common.{◌≡◌, refl, sym, ap, ◌∙◌, subst, ℕ, suc, ◌<◌, ℤ, List, [], ◌∷◌, length, Option, Some, None, IfSome, arith}
use Rattle.std.specs.List.{AllZip}
use Rattle.concrete_sem.specs.Values.{Number, Variables, Heap, number_at}
use Rattle.num_bounds.specs.Bounds.{Bounds, IsPart, Within as Lies}
use Rattle.dom_numeric.specs.Measures.{measure}
use Rattle.dom_interval_meaning.specs.State.{Intervals, Empty, Within}
use Rattle.dom_interval_meaning.specs.Ranges.{range_at}
use Rattle.dom_interval_meaning.specs.Operations.{needs}
use Rattle.dom_interval_meaning.specs.Covers.{Holds}
use Rattle.dom_interval_meaning.specs.declared.slot_range.SlotRange.{SlotRange}
use Rattle.dom_interval_meaning.proofs.SlotLaws.{at-holds}
use Rattle.dom_interval_precise.specs.Best.{IsSlotPart, IsPartOf, Covers}

-- some configuration of the set has a last frame of so many slots
abbrev pub HasSome : (Heap → List Variables → Type 0) → ℕ → Type 0
HasSome among n = (h : Heap) × (v : Variables) × (vs : List Variables) × among h (v ∷ vs) × (length v.numbers ≡ n)

-- in some configuration of the set the slot measures this number
abbrev pub Takes : (Heap → List Variables → Type 0) → ℕ → ℤ → Type 0
Takes among x z = (h : Heap) × (v : Variables) × (vs : List Variables) × among h (v ∷ vs) × (measure (number_at v x) ≡ z)

-- where the state is not Empty, a fact holds, it has so many slots, and something is true of the range of each
abbrev pub Each : Type 0 → ℕ → (ℕ → Bounds → Type 0) → Intervals → Type 0
Each X n P Empty = Unit {0}
Each X n P (Within rs) = X × (length rs ≡ n) × ((x : ℕ) → x < n → P x (range_at rs x))

-- both ends of the range are taken
abbrev pub TakesEnds : (Heap → List Variables → Type 0) → ℕ → Bounds → Type 0
TakesEnds among x r = Takes among x r.lo × Takes among x r.hi

abbrev pub Tight : (Heap → List Variables → Type 0) → ℕ → Intervals → Type 0
Tight among n s = Each (HasSome among n) n (TakesEnds among) s

holds-length : (rs : List SlotRange) (ns : List Number) → AllZip Holds rs ns → length rs ≡ length ns
holds-length [] [] h = refl
holds-length [] (n ∷ ns) h = absurd h
holds-length (r ∷ rs) [] h = absurd h
holds-length (r ∷ rs) (n ∷ ns) h = ap suc (holds-length rs ns h.1)

parts : (rs qs : List SlotRange) → length rs ≡ length qs → ((x : ℕ) → x < length rs → IsPart (range_at rs x) (range_at qs x)) → AllZip IsSlotPart rs qs
parts [] [] e f = tt
parts [] (q ∷ qs) e f = let no : 0 ≡ suc (length qs) = e in absurd (omega arith)
parts (r ∷ rs) [] e f = let no : suc (length rs) ≡ 0 = e in absurd (omega arith)
parts (r ∷ rs) (q ∷ qs) e f = let same : suc (length rs) ≡ suc (length qs) = e in (f 0 (omega arith), parts rs qs (omega arith) (λ x lt. f (suc x) (omega arith)))

-- a number that is taken lies in the range of every state that covers the set
taken-lies : (among : Heap → List Variables → Type 0) (qs : List SlotRange) (x : ℕ) (z : ℤ) → Covers among (Within qs) → Takes among x z → Lies z (range_at qs x)
taken-lies among qs x z c t = subst (λ y. Lies y (range_at qs x)) t.4 (at-holds qs t.1.numbers x (c t.0 (t.1 ∷ t.2) t.3))

pub tight-smallest : (among : Heap → List Variables → Type 0) (n : ℕ) (s t : Intervals) → Tight among n s → Covers among t → IsPartOf s t
tight-smallest among n Empty t h c = tt
tight-smallest among n (Within rs) Empty h c = c h.0.0 (h.0.1 ∷ h.0.2) h.0.3
tight-smallest among n (Within rs) (Within qs) h c =
    let some = h.0 in
    let e : length qs ≡ n = holds-length qs some.1.numbers (c some.0 (some.1 ∷ some.2) some.3) ∙ some.4 in
    parts rs qs (h.1 ∙ sym e) (λ x lt.
    let ends = h.2 x (subst (λ m. x < m) h.1 lt) in
    let low = taken-lies among qs x (range_at rs x).lo c ends.0 in
    let high = taken-lies among qs x (range_at rs x).hi c ends.1 in
    (low.0, high.1))

-- a set with more configurations takes as much
pub more-takes : (a b : Heap → List Variables → Type 0) → ((h : Heap) (vs : List Variables) → a h vs → b h vs) → (x : ℕ) (z : ℤ) → Takes a x z → Takes b x z
more-takes a b f x z t = (t.0, t.1, t.2, f t.0 (t.1 ∷ t.2) t.3, t.4)

pub more-some : (a b : Heap → List Variables → Type 0) → ((h : Heap) (vs : List Variables) → a h vs → b h vs) → (n : ℕ) → HasSome a n → HasSome b n
more-some a b f n t = (t.0, t.1, t.2, f t.0 (t.1 ∷ t.2) t.3, t.4)

pub tight-more : (a b : Heap → List Variables → Type 0) → ((h : Heap) (vs : List Variables) → a h vs → b h vs) → (n : ℕ) (s : Intervals) → Tight a n s → Tight b n s
tight-more a b f n Empty h = tt
tight-more a b f n (Within rs) h = (more-some a b f n h.0, h.1, λ x lt. (more-takes a b f x (range_at rs x).lo (h.2 x lt).0, more-takes a b f x (range_at rs x).hi (h.2 x lt).1))

pub needs-tight : (among : Heap → List Variables → Type 0) (n : ℕ) (o : Option Bounds) (P : Bounds → Type 0) (f : Bounds → Intervals) → IfSome o P → ((r : Bounds) → P r → Tight among n (f r)) → Tight among n (needs o f)
needs-tight among n None P f h g = tt
needs-tight among n (Some r) P f h g = g r h
