-- What a state describes takes every number of its ranges, and the best state of what it describes is itself.
use Rattle.std.proofs.Common.{◌≡◌, sym, ◌∙◌, subst, ℕ, ◌<◌, ℤ, ◌≤ℤ◌, true, List, [], ◌∷◌, length, arith, All}
use Rattle.std.proofs.lemmas.Int.{ints}
use Rattle.std.proofs.lemmas.List.Elements.{All-nil}
use Rattle.std.specs.List.{AllZip}
use Rattle.imp_slots.specs.Plain.{Layout}
use Rattle.concrete_sem.specs.Values.{Number, Variables, Heap, IsWord}
use Rattle.num_bounds.specs.Bounds.{Bounds, IsPart, Within as Lies}
use Rattle.dom_numeric.specs.Measures.{measure}
use Rattle.dom_interval_meaning.specs.State.{Intervals, Empty, Within}
use Rattle.dom_interval_meaning.specs.Ranges.{range_at}
use Rattle.dom_interval_meaning.specs.Covers as states
use Rattle.dom_interval_meaning.specs.Covers.{Holds, fits}
use Rattle.dom_interval_meaning.specs.declared.slot_range.SlotRange.{SlotRange}
use Rattle.dom_interval_meaning.proofs.SlotLaws.{FitsSlot, at-fits}
use Rattle.dom_interval_meaning.proofs.CompareLaws.{FitsState}
use Rattle.dom_interval_meaning.proofs.Laws.{fits-state}
use Rattle.dom_interval_precise.specs.Best.{IsSlotPart, IsPartOf, Covers}
use Rattle.dom_interval_precise.specs.Sets.{Of}
use Rattle.dom_interval_precise.proofs.Frames.{LieAll, frame, first_frames, bare, fill-holds, fill-length, fits-length, frame-measures, frame-proper, lows, lows-lie, put, put-here, put-lies}
use Rattle.dom_interval_precise.proofs.Tight.{HasSome, Takes, Tight, tight-smallest}

-- a frame of our choice is described
pub frame-of : (l : Layout) (ls : List Layout) (zs : List ℤ) (rs : List SlotRange) (f : ℕ → ℤ) → All IsWord zs → AllZip FitsSlot l.numbers rs → LieAll rs f → Of (l ∷ ls) (Within rs) (bare zs) (frame l f ∷ first_frames ls)
frame-of l ls zs rs f i h w = (frame-proper l ls zs rs f i h w, fill-holds l.numbers rs f h w)

pub own-takes : (l : Layout) (ls : List Layout) (rs : List SlotRange) (x : ℕ) (z : ℤ) → AllZip FitsSlot l.numbers rs → x < length rs → Lies z (range_at rs x) → Takes (Of (l ∷ ls) (Within rs)) x z
own-takes l ls rs x z h lt w =
    let f = put x z (lows rs) in
    let c = put-lies rs x z (lows rs) w (lows-lie l.numbers rs h) in
    (bare [], frame l f, first_frames ls, frame-of l ls [] rs f (All-nil IsWord) h c, frame-measures l rs f x lt h c ∙ put-here x z (lows rs))

pub own-some : (l : Layout) (ls : List Layout) (rs : List SlotRange) → AllZip FitsSlot l.numbers rs → HasSome (Of (l ∷ ls) (Within rs)) (length l.numbers)
own-some l ls rs h = (bare [], frame l (lows rs), first_frames ls, frame-of l ls [] rs (lows rs) (All-nil IsWord) h (lows-lie l.numbers rs h), fill-length l.numbers (lows rs))

pub own-tight : (l : Layout) (ls : List Layout) (s : Intervals) → FitsState l s → Tight (Of (l ∷ ls) s) (length l.numbers) s
own-tight l ls Empty h = tt
own-tight l ls (Within rs) h =
    let n = fits-length l.numbers rs h in (
      own-some l ls rs h,
      n,
      λ x lt.
          let here = subst (λ m. x < m) (sym n) lt in
          let o = (at-fits l.numbers rs x h).ordered in
          (own-takes l ls rs x (range_at rs x).lo h here (omega (arith, ints), o), own-takes l ls rs x (range_at rs x).hi h here (o, omega (arith, ints))),
    )

pub part-holds : (rs qs : List SlotRange) (ns : List Number) → AllZip IsSlotPart rs qs → AllZip Holds rs ns → AllZip Holds qs ns
part-holds [] [] ns p h = h
part-holds [] (q ∷ qs) ns p h = absurd p
part-holds (r ∷ rs) [] ns p h = absurd p
part-holds (r ∷ rs) (q ∷ qs) [] p h = absurd h
part-holds (r ∷ rs) (q ∷ qs) (n ∷ ns) p h = (wider (measure n) r.range q.range p.0 h.0, part-holds rs qs ns p.1 h.1)
  where
    wider : (z : ℤ) (a b : Bounds) → IsPart a b → Lies z a → Lies z b
    wider z a b p w =
        let i : b.lo ≤ℤ a.lo = p.0 in
        let j : a.hi ≤ℤ b.hi = p.1 in
        let k : a.lo ≤ℤ z = w.0 in
        let m : z ≤ℤ a.hi = w.1 in
        (omega (arith, ints), omega (arith, ints))

part-covers : (s t : Intervals) (h : Heap) (vs : List Variables) → IsPartOf s t → states.covers s h vs → states.covers t h vs
part-covers Empty t h vs p c = absurd c
part-covers (Within rs) Empty h vs p c = absurd p
part-covers (Within rs) (Within qs) h [] p c = c
part-covers (Within rs) (Within qs) h (v ∷ vs) p c = part-holds rs qs v.numbers p c

pub part-is-inclusion : (l : Layout) (ls : List Layout) (s t : Intervals) → fits s (l ∷ ls) ≡ true → (IsPartOf s t → Covers (Of (l ∷ ls) s) t) × (Covers (Of (l ∷ ls) s) t → IsPartOf s t)
part-is-inclusion l ls s t f =
    (λ p h vs d. part-covers s t h vs p d.1, λ c. tight-smallest (Of (l ∷ ls) s) (length l.numbers) s t (own-tight l ls s (fits-state s l ls f)) c)
