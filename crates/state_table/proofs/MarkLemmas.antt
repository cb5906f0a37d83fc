-- Marks that are set, counted, and told as numbers.
use Rattle.std.proofs.Common.{◌≡◌, ◌≢◌, ℕ, zero, suc, ◌+◌, ◌<◌, ◌≤◌, List, [], ◌∷◌, length, Some, slice_get, inl, inr, refl, sym, ap, ◌∙◌, subst, add-one, arith}
use Rattle.indexmap.specs.IndexMap.{set_value_at}
use Rattle.std.proofs.lemmas.Option.{same_Some}
use Rattle.std.proofs.lemmas.Bool.{cases_eq}
use Rattle.std.proofs.Math.Nat.{suc_inj}
use Rattle.base_values.proofs.Lists.{get_some}
use Rattle.state_table.specs.Marks.{counted, mark_count, marked_states, rank, states_in, AreNumberedBelow, IsMarked}

counted-at-most : (mark a b : ℕ) → a ≤ b → counted mark a ≤ counted mark b
counted-at-most zero a b h = h
counted-at-most (suc mark) a b h = omega (arith, h)

counted-suc : (mark a : ℕ) → counted mark (suc a) ≡ suc (counted mark a)
counted-suc zero a = refl
counted-suc (suc mark) a = refl

counted-swap : (a b c : ℕ) → counted a (counted b c) ≡ counted b (counted a c)
counted-swap zero b c = refl
counted-swap (suc a) zero c = refl
counted-swap (suc a) (suc b) c = refl

counted-low : (mark a n : ℕ) → a ≤ n → counted mark a ≤ suc n
counted-low zero a n h = omega (arith, h)
counted-low (suc mark) a n h = omega (arith, h)

module _ {T : Type 0} where
  pub rank-zero : (es : List (T × ℕ)) → rank es 0 ≡ 0
  rank-zero [] = refl
  rank-zero (e ∷ es) = refl

  pub states-set : (es : List (T × ℕ)) (n mark : ℕ) → states_in (set_value_at es n mark) ≡ states_in es
  states-set [] n mark = refl
  states-set (e ∷ es) zero mark = refl
  states-set (e ∷ es) (suc n) mark = ap (λ l. e.0 ∷ l) (states-set es n mark)

  pub length-set : (es : List (T × ℕ)) (n mark : ℕ) → length (set_value_at es n mark) ≡ length es
  length-set [] n mark = refl
  length-set (e ∷ es) zero mark = refl
  length-set (e ∷ es) (suc n) mark = ap suc (length-set es n mark)

  -- a mark that is set is there, ..
  pub set-here : (es : List (T × ℕ)) (n mark : ℕ) (s : T) (old : ℕ) → slice_get es n ≡ Some (s, old) → slice_get (set_value_at es n mark) n ≡ Some (s, mark)
  set-here [] n mark s old e = cc
  set-here (x ∷ es) zero mark s old e = ap (λ (p : T × ℕ). Some (p.0, mark)) (same_Some x (s, old) e)
  set-here (x ∷ es) (suc n) mark s old e = set-here es n mark s old e

  -- .. and the others are as they were
  pub set-other : (es : List (T × ℕ)) (n mark k : ℕ) → k ≢ n → slice_get (set_value_at es n mark) k ≡ slice_get es k
  set-other [] n mark k ne = refl
  set-other (x ∷ es) zero mark zero ne = absurd (ne refl)
  set-other (x ∷ es) zero mark (suc k) ne = refl
  set-other (x ∷ es) (suc n) mark zero ne = refl
  set-other (x ∷ es) (suc n) mark (suc k) ne = set-other es n mark k (λ e. ne (ap suc e))

  -- one mark more at most
  pub count-set : (es : List (T × ℕ)) (n : ℕ) → mark_count (set_value_at es n 1) ≤ suc (mark_count es)
  count-set [] n = omega arith
  count-set (e ∷ es) zero = at e.1
    where
      at : (mark : ℕ) → suc (mark_count es) ≤ suc (counted mark (mark_count es))
      at zero = omega arith
      at (suc mark) = omega arith
  count-set (e ∷ es) (suc n) =
      let h = counted-at-most e.1 (mark_count (set_value_at es n 1)) (suc (mark_count es)) (count-set es n) in
      omega (arith, h, counted-suc e.1 (mark_count es))

  -- another mark in place of one changes no rank, ..
  pub rank-set : (es : List (T × ℕ)) (n mark k : ℕ) (s : T) (old : ℕ) → slice_get es n ≡ Some (s, suc old) → rank (set_value_at es n (suc mark)) k ≡ rank es k
  rank-set [] n mark k s old e = refl
  rank-set (x ∷ es) n mark zero s old e = at n
    where
      at : (n : ℕ) → rank (set_value_at (x ∷ es) n (suc mark)) zero ≡ zero
      at zero = refl
      at (suc n) = refl
  rank-set (x ∷ es) zero mark (suc k) s old e = ap (λ (p : T × ℕ). counted p.1 (rank es k)) (sym (same_Some x (s, suc old) e))
  rank-set (x ∷ es) (suc n) mark (suc k) s old e = ap (counted x.1) (rank-set es n mark k s old e)

  -- .. and no count
  pub count-same : (es : List (T × ℕ)) (n mark : ℕ) (s : T) (old : ℕ) → slice_get es n ≡ Some (s, suc old) → mark_count (set_value_at es n (suc mark)) ≡ mark_count es
  count-same [] n mark s old e = refl
  count-same (x ∷ es) zero mark s old e = ap (λ (p : T × ℕ). counted p.1 (mark_count es)) (sym (same_Some x (s, suc old) e))
  count-same (x ∷ es) (suc n) mark s old e = ap (counted x.1) (count-same es n mark s old e)

  -- a mark that is set changes no rank up to its place
  pub rank-before : (es : List (T × ℕ)) (n mark : ℕ) → rank (set_value_at es n mark) n ≡ rank es n
  rank-before [] n mark = refl
  rank-before (x ∷ es) zero mark = refl
  rank-before (x ∷ es) (suc n) mark = ap (counted x.1) (rank-before es n mark)

  pub rank-suc : (es : List (T × ℕ)) (n : ℕ) (s : T) (mark : ℕ) → slice_get es n ≡ Some (s, mark) → rank es (suc n) ≡ counted mark (rank es n)
  rank-suc [] n s mark e = cc
  rank-suc (x ∷ es) zero s mark e = ap (counted x.1) (rank-zero es) ∙ ap (λ (p : T × ℕ). counted p.1 0) (same_Some x (s, mark) e)
  rank-suc (x ∷ es) (suc n) s mark e = ap (counted x.1) (rank-suc es n s mark e) ∙ counted-swap x.1 mark (rank es n)

  -- all ranks end in the count
  pub rank-all : (es : List (T × ℕ)) → rank es (length es) ≡ mark_count es
  rank-all [] = refl
  rank-all (x ∷ es) = ap (counted x.1) (rank-all es)

  pub rank-low : (es : List (T × ℕ)) (n : ℕ) → rank es n ≤ n
  rank-low [] n = omega arith
  rank-low (x ∷ es) zero = omega arith
  rank-low (x ∷ es) (suc n) = counted-low x.1 (rank es n) n (rank-low es n)

  -- as many states as marks
  pub length-marked : (es : List (T × ℕ)) → length (marked_states es) ≡ mark_count es
  length-marked [] = refl
  length-marked ((s, zero) ∷ es) = length-marked es
  length-marked ((s, suc mark) ∷ es) = ap suc (length-marked es)

  -- a marked state stands at its rank among the marked ones
  pub marked-at : (es : List (T × ℕ)) (n : ℕ) → IsMarked es n → slice_get (marked_states es) (rank es n) ≡ slice_get (states_in es) n
  marked-at [] n m = let e = m.2 in cc
  marked-at ((s, zero) ∷ es) zero m = absurd (no_mark (suc m.1) (ap (λ (p : T × ℕ). p.1) (same_Some (s, 0) (m.0, suc m.1) m.2)))
    where
      no_mark : (mark : ℕ) → 0 ≡ suc m.1 → ⊥
      no_mark mark e = omega (arith, e)
  marked-at ((s, suc mark) ∷ es) zero m = refl
  marked-at ((s, zero) ∷ es) (suc n) m = marked-at es n m
  marked-at ((s, suc mark) ∷ es) (suc n) m = marked-at es n m

  -- a state that is there can be marked
  pub mark-there : (es : List (T × ℕ)) (n mark : ℕ) → n < length es → IsMarked (set_value_at es n (suc mark)) n
  mark-there es n mark h = let p = get_some es n h in (p.0.0, mark, set-here es n (suc mark) p.0.0 p.0.1 p.1)

  -- and all others keep theirs
  pub marks-stay : (es : List (T × ℕ)) (n mark k : ℕ) → IsMarked es k → IsMarked (set_value_at es n (suc mark)) k
  marks-stay es n mark k m = elim (cases_eq k n) [
    | inl same ↦ (m.0, mark, ap (slice_get (set_value_at es n (suc mark))) same ∙ set-here es n (suc mark) m.0 (suc m.1) (ap (slice_get es) (sym same) ∙ m.2))
    | inr ne ↦ (m.0, m.1, set-other es n (suc mark) k ne ∙ m.2)
  ]

  pub marks-back : (es : List (T × ℕ)) (n mark k : ℕ) → IsMarked es n → IsMarked (set_value_at es n (suc mark)) k → IsMarked es k
  marks-back es n mark k here m = elim (cases_eq k n) [
    | inl same ↦ (here.0, here.1, ap (slice_get es) same ∙ here.2)
    | inr ne ↦ (m.0, m.1, sym (set-other es n (suc mark) k ne) ∙ m.2)
  ]

  -- A loop that numbers the marked states: from these entries it came to those, after so many places.
  pub record Numbers (old new : List (T × ℕ)) (place next : ℕ) : Type 0 where
    pub states : states_in new ≡ states_in old
    pub same : mark_count new ≡ mark_count old
    pub marks : (n : ℕ) → IsMarked new n → IsMarked old n
    pub back : (n : ℕ) → IsMarked old n → IsMarked new n
    pub numbered : AreNumberedBelow new place
    pub next_is : next ≡ rank new place

  pub numbers-first : (es : List (T × ℕ)) → Numbers es es 0 0
  numbers-first es = record { states = refl; same = refl; marks = λ n m. m; back = λ n m. m; numbered = λ n s mark h e. absurd (omega (arith, h)); next_is = sym (rank-zero es) }

  -- a state that is not marked is passed over
  pub numbers-over : (old new : List (T × ℕ)) (place next : ℕ) (s : T) → Numbers old new place next → slice_get new place ≡ Some (s, 0) → Numbers old new (suc place) next
  numbers-over old new place next s h at = record {
    states = h.states;
    same = h.same;
    marks = h.marks;
    back = h.back;
    numbered = λ n t mark below e. elim (cases_eq n place) [
      | inl same ↦ let is : Some (t, suc mark) ≡ Some (s, 0) = sym e ∙ ap (slice_get new) same ∙ at in absurd (no_mark mark (ap (λ (p : T × ℕ). p.1) (same_Some (t, suc mark) (s, 0) is)))
      | inr other ↦ h.numbered n t mark (omega (arith, below, other)) e
    ];
    next_is = h.next_is ∙ sym (rank-suc new place s 0 at);
  }
    where
      no_mark : (mark : ℕ) → suc mark ≡ 0 → ⊥
      no_mark mark e = omega (arith, e)

  -- and a marked one gets the next number
  pub numbers-on : (old new : List (T × ℕ)) (place next : ℕ) (s : T) (was : ℕ) → Numbers old new place next → slice_get new place ≡ Some (s, suc was) → Numbers old (set_value_at new place (suc next)) (suc place) (suc next)
  numbers-on old new place next s was h at =
      let here : IsMarked new place = (s, was, at) in
      let later = set_value_at new place (suc next) in
      record {
        states = states-set new place (suc next) ∙ h.states;
        same = count-same new place next s was at ∙ h.same;
        marks = λ n m. h.marks n (marks-back new place next n here m);
        back = λ n m. marks-stay new place next n (h.back n m);
        numbered = λ n t mark below e. elim (cases_eq n place) [
          | inl same ↦
              let is : Some (t, suc mark) ≡ Some (s, suc next) = sym e ∙ ap (slice_get later) same ∙ set-here new place (suc next) s (suc was) at in
              let mark_is : mark ≡ next = suc_inj (ap (λ (p : T × ℕ). p.1) (same_Some (t, suc mark) (s, suc next) is)) in
              mark_is ∙ h.next_is ∙ sym (rank-set new place next place s was at) ∙ ap (rank later) (sym same)
          | inr ne ↦
              h.numbered n t mark (omega (arith, below, ne)) (sym (set-other new place (suc next) n ne) ∙ e) ∙ sym (rank-set new place next n s was at)
        ];
        next_is =
            let r : rank later (suc place) ≡ suc (rank later place) = rank-suc later place s (suc next) (set-here new place (suc next) s (suc was) at) in
            ap suc (h.next_is ∙ sym (rank-set new place next place s was at)) ∙ sym r;
      }

  pub numbers-unmarked : (old new : List (T × ℕ)) (place next : ℕ) (s : T) (mark : ℕ) → Numbers old new place next → slice_get new place ≡ Some (s, mark) → mark ≤ 0 → Numbers old new (suc place) next
  numbers-unmarked old new place next s zero h at low = numbers-over old new place next s h at
  numbers-unmarked old new place next s (suc mark) h at low = absurd (omega (arith, low))

  pub numbers-marked : (old new : List (T × ℕ)) (place next : ℕ) (s : T) (mark : ℕ) → Numbers old new place next → slice_get new place ≡ Some (s, mark) → 0 < mark → Numbers old (set_value_at new place (suc next)) (suc place) (suc next)
  numbers-marked old new place next s zero h at some = absurd (omega (arith, some))
  numbers-marked old new place next s (suc mark) h at some = numbers-on old new place next s mark h at

  -- the same, as a loop has it
  pub numbers-then : (old es later new : List (T × ℕ)) (place next after : ℕ) → Numbers old (set_value_at es place (suc next)) (suc place) (suc next) → later ≡ set_value_at es place (next + 1) → new ≡ later → after ≡ next + 1 → Numbers old new (place + 1) after
  numbers-then old es later new place next after h set is after_is =
      let entries : set_value_at es place (suc next) ≡ new = ap (set_value_at es place) (sym (add-one next)) ∙ sym (is ∙ set) in
      let next_is : suc next ≡ after = sym (add-one next) ∙ sym after_is in
      subst (λ p. Numbers old new p after) (sym (add-one place)) (subst (λ n. Numbers old new (suc place) n) next_is (subst (λ l. Numbers old l (suc place) (suc next)) entries h))

  pub length-then : (es later new : List (T × ℕ)) (place next count : ℕ) → later ≡ set_value_at es place (next + 1) → new ≡ later → length es ≡ count → length new ≡ count
  length-then es later new place next count set is same = ap length (is ∙ set) ∙ length-set es place (next + 1) ∙ same

  pub numbers-else : (old es new : List (T × ℕ)) (place next after : ℕ) → Numbers old es (suc place) next → new ≡ es → after ≡ next → Numbers old new (place + 1) after
  numbers-else old es new place next after h is after_is =
      subst (λ p. Numbers old new p after) (sym (add-one place)) (subst (λ n. Numbers old new (suc place) n) (sym after_is) (subst (λ l. Numbers old l (suc place) next) (sym is) h))
