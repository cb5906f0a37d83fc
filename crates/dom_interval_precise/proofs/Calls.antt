-- Calls: what is taken at the ends of the ranges after them.
use Rattle.std.proofs.Common.{◌≡◌, refl, sym, ap, ◌∙◌, subst, ℕ, ◌<◌, ℤ, pos, Bool, true, false, ◌&&◌, List, [], ◌∷◌, length, slice_get, Option, Some, None, inl, inr, arith}
use Rattle.std.proofs.lemmas.Int.{ints}
use Rattle.std.proofs.lemmas.Bool.{and_parts, or_cases}
use Rattle.std.proofs.lemmas.List.{length-set, get_or-set_same, get_or-set_other}
use Rattle.std.proofs.lemmas.List.Elements.{All-nil}
use Rattle.std.specs.List.{AllZip}
use Rattle.imp_slots.specs.Plain.{Layout, Returning, NumericResult, LinkResult, Invoke}
use Rattle.imp_slots.specs.Fits.{is_kind, is_int, is_array, fits_arguments, fits_returning, fits_invoke}
use Rattle.concrete_sem.specs.Values.{Int, Variables, Heap, IsWord, number_at}
use Rattle.concrete_sem.specs.Passing.{back}
use Rattle.concrete_sem.specs.Proper.{IsCell}
use Rattle.num_bounds.specs.Bounds.{Within as Lies}
use Rattle.dom_numeric.specs.Measures.{measure}
use Rattle.dom_interval_meaning.specs.State.{Intervals, Empty, Within}
use Rattle.dom_interval_meaning.specs.Ranges.{range_at, with_range}
use Rattle.dom_interval_meaning.specs.Operations.{leave}
use Rattle.dom_interval_meaning.specs.Covers.{covers, fits}
use Rattle.dom_interval_meaning.specs.declared.slot_range.SlotRange.{SlotRange}
use Rattle.dom_interval_meaning.proofs.SlotLaws.{FitsSlot, at-fits}
use Rattle.dom_interval_meaning.proofs.CompareLaws.{FitsState, Describes}
use Rattle.dom_interval_meaning.proofs.Laws.{fits-state}
use Rattle.dom_interval_meaning.proofs.CallLaws.{leave-describes}
use Rattle.dom_interval_precise.specs.Best.{Covers, IsBest}
use Rattle.dom_interval_precise.specs.Sets.{Of, Returned}
use Rattle.dom_interval_precise.proofs.Frames.{LieAll, frame, first_frames, bare, fill, frame-proper, fill-holds, fill-length, fits-length, frame-measures, lows, lows-lie, put, put-here, put-lies}
use Rattle.dom_interval_precise.proofs.Tight.{HasSome, Takes, TakesEnds, Tight, tight-smallest}
use Rattle.dom_interval_precise.proofs.Own.{frame-of}
use Rattle.dom_interval_precise.proofs.Stages.{range-here, range-else, with-length, by-slot}
use Rattle.dom_interval_precise.proofs.Statements.{slot-there}

module _ (c l : Layout) (ls : List Layout) (rs qs : List SlotRange) (fit : AllZip FitsSlot l.numbers rs) (callee : AllZip FitsSlot c.numbers qs) where
  -- frames of our choice, the callee's above the caller's
  both-frames : (f g : ℕ → ℤ) → LieAll rs f → LieAll qs g → Of (c ∷ l ∷ ls) (Within qs) (bare []) (frame c g ∷ frame l f ∷ first_frames ls)
  both-frames f g w u =
      let below = frame-proper l ls [] rs f (All-nil IsWord) fit w in
      let above = frame-proper c [] [] qs g (All-nil IsWord) callee u in
      (record { cells = All-nil (IsCell 0); inputs = All-nil IsWord; frames = (above.frames.0, below.frames) }, fill-holds c.numbers qs g callee u)

  abbrev returned : Option Returning → Heap → List Variables → Type 0
  returned o = Returned c (l ∷ ls) o (Within rs) (Within qs)

  reached : (o : Option Returning) (f g : ℕ → ℤ) → LieAll rs f → LieAll qs g → returned o (bare []) (back o (frame l f) (frame c g) ∷ first_frames ls)
  reached o f g w u = (bare [], frame l f, frame c g, frame-of l ls [] rs f (All-nil IsWord) fit w, both-frames f g w u, refl)

  low : LieAll rs (lows rs)
  low = lows-lie l.numbers rs fit

  callee_low : LieAll qs (lows qs)
  callee_low = lows-lie c.numbers qs callee

  there : (x : ℕ) → x < length l.numbers → x < length rs
  there x lt = subst (λ n. x < n) (sym (fits-length l.numbers rs fit)) lt

  -- The caller's slots that take nothing.
  kept : (o : Option Returning) (x : ℕ) → x < length l.numbers → ((f g : ℕ → ℤ) → measure (number_at (back o (frame l f) (frame c g)) x) ≡ measure (number_at (frame l f) x)) → TakesEnds (returned o) x (range_at rs x)
  kept o x lt same =
      let k = (at-fits l.numbers rs x fit).ordered in
      (at (range_at rs x).lo (omega (arith, ints), k), at (range_at rs x).hi (k, omega (arith, ints)))
    where
      at : (z : ℤ) → Lies z (range_at rs x) → Takes (returned o) x z
      at z w =
          let f = put x z (lows rs) in
          let h = put-lies rs x z (lows rs) w low in
          (bare [], back o (frame l f) (frame c (lows qs)), first_frames ls, reached o f (lows qs) h callee_low, same f (lows qs) ∙ frame-measures l rs f x (there x lt) fit h ∙ put-here x z (lows rs))

  -- The slot that takes the result.
  taken : (to from : ℕ) → to < length l.numbers → from < length qs → TakesEnds (returned (Some (NumericResult to from))) to (range_at qs from)
  unfolding back
  taken to from lt is =
      let k = (at-fits c.numbers qs from callee).ordered in
      (at (range_at qs from).lo (omega (arith, ints), k), at (range_at qs from).hi (k, omega (arith, ints)))
    where
      at : (z : ℤ) → Lies z (range_at qs from) → Takes (returned (Some (NumericResult to from))) to z
      at z w =
          let g = put from z (lows qs) in
          let h = put-lies qs from z (lows qs) w callee_low in (
            bare [],
            back (Some (NumericResult to from)) (frame l (lows rs)) (frame c g),
            first_frames ls,
            reached (Some (NumericResult to from)) (lows rs) g low h,
            ap measure (get_or-set_same (fill l.numbers (lows rs)) to (number_at (frame c g) from) (Int (pos 0)) (subst (λ n. to < n) (sym (fill-length l.numbers (lows rs))) lt)) ∙ frame-measures c qs g from is callee h ∙ put-here from z (lows qs),
          )

  some : (o : Option Returning) → ((v d : Variables) → length (back o v d).numbers ≡ length v.numbers) → HasSome (returned o) (length l.numbers)
  some o count = (bare [], back o (frame l (lows rs)) (frame c (lows qs)), first_frames ls, reached o (lows rs) (lows qs) low callee_low, count (frame l (lows rs)) (frame c (lows qs)) ∙ fill-length l.numbers (lows rs))

  -- the slots of a result are there
  result-there : (to from : ℕ) → fits_returning c l (Some (NumericResult to from)) ≡ true → (to < length l.numbers) × (from < length qs)
  result-there to from f =
      elim (or_cases (is_int c from && is_int l to) (is_array c from && is_array l to) f) [
        | inl k ↦ both false (and_parts (is_int c from) (is_int l to) k)
        | inr k ↦ both true (and_parts (is_array c from) (is_array l to) k)
      ]
    where
      both : (b : Bool) → (is_kind b (slice_get c.numbers from) ≡ true) × (is_kind b (slice_get l.numbers to) ≡ true) → (to < length l.numbers) × (from < length qs)
      both b p = (slot-there l.numbers b to p.1, subst (λ n. from < n) (sym (fits-length c.numbers qs callee)) (slot-there c.numbers b from p.0))

  leave-tight : (o : Option Returning) → fits_returning c l o ≡ true → Tight (returned o) (length l.numbers) (leave o (Within rs) (Within qs))
  unfolding leave back
  leave-tight None f = (some None (λ v d. refl), fits-length l.numbers rs fit, λ x lt. kept None x lt (λ f g. refl))
  leave-tight (Some (LinkResult to from)) f =
      (some (Some (LinkResult to from)) (λ v d. refl), fits-length l.numbers rs fit, λ x lt. kept (Some (LinkResult to from)) x lt (λ f g. refl))
  leave-tight (Some (NumericResult to from)) f =
      let o : Option Returning = Some (NumericResult to from) in
      let r = range_at qs from in
      let is = result-there to from f in (
        some (Some (NumericResult to from)) (λ v d. length-set v.numbers to (number_at d from)),
        with-length rs to r ∙ fits-length l.numbers rs fit,
        λ x lt. by-slot to x
            (λ same. subst (λ m. TakesEnds (returned o) m (range_at (with_range rs to r) m)) same
            (subst (TakesEnds (returned o) to) (sym (range-here rs to r (there to is.0))) (taken to from is.0 is.1)))
            (λ ne. subst (TakesEnds (returned o) x) (sym (range-else rs to x r ne))
            (kept o x lt (λ f g. ap measure (get_or-set_other (fill l.numbers f) to x (number_at (frame c g) from) (Int (pos 0)) (λ e. ne (sym e)))))),
      )

pub to_describes : (s : Intervals) (h : Heap) (v : Variables) (vs : List Variables) → covers s h (v ∷ vs) → Describes v s
to_describes Empty h v vs d = d
to_describes (Within rs) h v vs d = d

pub to_covers : (s : Intervals) (h : Heap) (v : Variables) (vs : List Variables) → Describes v s → covers s h (v ∷ vs)
to_covers Empty h v vs d = d
to_covers (Within rs) h v vs d = d

leave-sound : (c : Layout) (ls : List Layout) (o : Option Returning) (s t : Intervals) → Covers (Returned c ls o s t) (leave o s t)
leave-sound c ls o s t k [] d = absurd d
leave-sound c ls o s t k (u ∷ vs) d =
    subst (λ w. covers (leave o s t) k (w ∷ vs)) d.5
    (to_covers (leave o s t) k (back o d.1 d.2) vs (leave-describes o s t d.1 d.2 (to_describes s d.0 d.1 vs d.3.1) (to_describes t k d.2 (d.1 ∷ vs) d.4.1)))

leave-tight-of : (c l : Layout) (ls : List Layout) (o : Option Returning) (s t : Intervals) → fits_returning c l o ≡ true → FitsState l s → FitsState c t → Tight (Returned c (l ∷ ls) o s t) (length l.numbers) (leave o s t)
unfolding leave
leave-tight-of c l ls o Empty t f h k = tt
leave-tight-of c l ls o (Within rs) Empty f h k = tt
leave-tight-of c l ls o (Within rs) (Within qs) f h k = leave-tight c l ls rs qs h k o f

returning-fits : (l : Layout) (i : Invoke) → fits_invoke l i ≡ true → fits_returning i.entering.layout l i.returning ≡ true
unfolding fits_invoke
returning-fits l i f = (and_parts (fits_arguments l i.entering.arguments i.entering.layout.numbers i.entering.layout.links) (fits_returning i.entering.layout l i.returning) f).1

pub leave-best : (i : Invoke) (l : Layout) (ls : List Layout) (s t : Intervals) → fits_invoke l i ≡ true → fits s (l ∷ ls) ≡ true → fits t (i.entering.layout ∷ l ∷ ls) ≡ true → IsBest (Returned i.entering.layout (l ∷ ls) i.returning s t) (leave i.returning s t)
leave-best i l ls s t f g h = record {
  sound = leave-sound i.entering.layout (l ∷ ls) i.returning s t;
  smallest = λ r c. tight-smallest (Returned i.entering.layout (l ∷ ls) i.returning s t) (length l.numbers) (leave i.returning s t) r
      (leave-tight-of i.entering.layout l ls i.returning s t (returning-fits l i f) (fits-state s l ls g) (fits-state t i.entering.layout (l ∷ ls) h)) c;
}
