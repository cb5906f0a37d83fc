-- A loop comes to its end within the budget.
use Rattle.std.specs.Prelude.{◌≡◌, ◌≢◌, ℕ, zero, suc, ◌≤◌, ◌<◌, ◌+◌, ◌⊎◌, nat_lt, ℤ, List, ◌∷◌, length, Bool, true, false, if◌then◌else◌}
use Rattle.std.proofs.Common.{refl, sym, ◌∙◌, arith, inl, inr}
use Rattle.std.proofs.lemmas.Bool.Decides.{nat_tests}
use Rattle.imp_slots.specs.Plain.{Layout}
use Rattle.concrete_sem.specs.Values.{Variables, Heap}
use Rattle.imp_chains.specs.Thresholds.{IsRising}
use Rattle.domain_laws.specs.Operations.{Operations}
use Rattle.domain_laws.specs.Laws.{Laws}
use Rattle.batch_meaning.specs.Values.{Value, State, Over, lift}
use Rattle.batch_meaning.specs.Batch.{LoopOptions, Fixed, next_of, settle, iterate, fix}
use Rattle.batch_sound.proofs.Values.{Fit}
use Rattle.batch_converges.specs.Converges.{Ending}
use Rattle.batch_converges.proofs.Known.{Known}

module _ {S : Type 0} (dom : Operations S) (engine : LoopOptions) (covers : S → Heap → List Variables → Type 0) (laws : Laws dom covers) (wait : ℕ → ℕ) (most : ℕ → ℕ → ℕ) (ending : Ending dom wait most) where
  -- The budget is enough for a procedure of this layout, with these thresholds.
  abbrev pub IsRoomy : Layout → List ℤ → Type 0
  IsRoomy l ms = most (length l.numbers) (length ms) + wait engine.widening.delay + 2 ≤ engine.budget

  -- the rounds before changes are counted
  abbrev waits : ℕ
  waits = wait engine.widening.delay

  module _ (l : Layout) (ls : List Layout) (ms : List ℤ) (rising : IsRising ms) where
    -- The rounds that are left are enough from the k-th iterate on, which is s.
    record Room (left k : ℕ) (s : S) : Type 0 where
      early : k < waits → most (length l.numbers) (length ms) + waits + 2 ≤ left + k
      late : waits ≤ k → ending.left ms l s < left

    no_room : (k : ℕ) (s : S) → Room zero k s → ⊥
    no_room k s r = by (nat_lt k waits) refl
      where
        by : (b : Bool) → nat_lt k waits ≡ b → ⊥
        by true e = let below : k < waits = grind (arith, nat_tests) in let h = r.early below in omega arith
        by false e = let above : waits ≤ k = grind (arith, nat_tests) in let h = r.late above in omega arith

    next_fits : (k : ℕ) (s t : S) → dom.fits s (l ∷ ls) ≡ true → dom.fits t (l ∷ ls) ≡ true → dom.fits (next_of dom engine ms k s t) (l ∷ ls) ≡ true
    next_fits k s t f g = by (nat_lt k engine.widening.delay)
      where
        by : (b : Bool) → dom.fits (if b then dom.join s t else dom.widen ms s t) (l ∷ ls) ≡ true
        by true = laws.fitting.join (l ∷ ls) s t f g
        by false = laws.fitting.widen ms (l ∷ ls) s t rising f g

    -- where changes are counted a round keeps the state, or leaves fewer
    next_falls : (k : ℕ) (s t : S) → waits ≤ k → dom.fits s (l ∷ ls) ≡ true → dom.fits t (l ∷ ls) ≡ true → (next_of dom engine ms k s t ≡ s) ⊎ (ending.left ms l (next_of dom engine ms k s t) < ending.left ms l s)
    next_falls k s t above f g = by (nat_lt k engine.widening.delay) refl
      where
        by : (b : Bool) → nat_lt k engine.widening.delay ≡ b → ((if b then dom.join s t else dom.widen ms s t) ≡ s) ⊎ (ending.left ms l (if b then dom.join s t else dom.widen ms s t) < ending.left ms l s)
        by true e =
            let below : k < engine.widening.delay = grind (arith, nat_tests) in
            ending.joins_fall engine.widening.delay ms l ls s t (omega arith) f g
        by false e = ending.falls ms l ls s t f g

    next_room : (left k : ℕ) (s t : S) → dom.fits s (l ∷ ls) ≡ true → dom.fits t (l ∷ ls) ≡ true → Room (suc left) k s → next_of dom engine ms k s t ≢ s → Room left (suc k) (next_of dom engine ms k s t)
    next_room left k s t f g r differs = by (nat_lt k waits) refl
      where
        fallen : waits ≤ k → ending.left ms l (next_of dom engine ms k s t) < left
        fallen above =
            let h = r.late above in
            elim (next_falls k s t above f g) [
              | inl e ↦ absurd (differs e)
              | inr e ↦ omega arith
            ]

        by : (b : Bool) → nat_lt k waits ≡ b → Room left (suc k) (next_of dom engine ms k s t)
        by true e =
            let below : k < waits = grind (arith, nat_tests) in
            let h = r.early below in
            let few = ending.few ms l ls (next_of dom engine ms k s t) (next_fits k s t f g) in
            record { early = λ b. omega arith; late = λ a. omega arith }
        by false e =
            let above : waits ≤ k = grind (arith, nat_tests) in
            record { early = λ b. absurd (omega arith); late = λ a. fallen above }

    settled_known : (left k : ℕ) (s : S) (w : Value S) (go : S → Fixed S) → dom.fits s (l ∷ ls) ≡ true → Room (suc left) k s → Fit dom engine covers laws w (l ∷ ls) → Known w → ((t : S) → dom.fits t (l ∷ ls) ≡ true → Room left (suc k) t → Known (go t).value) → Known (settle dom engine k s (lift (next_of dom engine ms k s) w) go).value
    settled_known left k s (Over n z) go f r g j h = absurd j
    settled_known left k s (State w) go f r g j h = by (dom.same (next_of dom engine ms k s w) s) refl
      where
        by : (b : Bool) → dom.same (next_of dom engine ms k s w) s ≡ b → Known (if b then record { value = State s; index = k } else go (next_of dom engine ms k s w)).value
        by true e = tt
        by false e =
            h (next_of dom engine ms k s w) (next_fits k s w f g)
            (next_room left k s w f g r (λ i. let no : true ≡ false = sym ((laws.same (next_of dom engine ms k s w) s).1 i) ∙ e in cc))

    iterated_known : (body : Value S → Value S) (over : Value S) → ((v : Value S) → Fit dom engine covers laws v (l ∷ ls) → Fit dom engine covers laws (body v) (l ∷ ls)) → ((v : Value S) → Fit dom engine covers laws v (l ∷ ls) → Known v → Known (body v)) → (left k : ℕ) (s : S) → dom.fits s (l ∷ ls) ≡ true → Room left k s → Known (iterate dom engine ms body over left k s).value
    iterated_known body over keep knows zero k s f r = absurd (no_room k s r)
    iterated_known body over keep knows (suc left) k s f r =
        settled_known left k s (body (State s)) (iterate dom engine ms body over left (suc k)) f r (keep (State s) f) (knows (State s) f tt)
        (λ t ft rt. iterated_known body over keep knows left (suc k) t ft rt)

    pub fix_known : IsRoomy l ms → (body : Value S → Value S) (over a : Value S) → ((v : Value S) → Fit dom engine covers laws v (l ∷ ls) → Fit dom engine covers laws (body v) (l ∷ ls)) → ((v : Value S) → Fit dom engine covers laws v (l ∷ ls) → Known v → Known (body v)) → Fit dom engine covers laws a (l ∷ ls) → Known a → Known (fix dom engine ms body over a).value
    fix_known roomy body over (Over n z) keep knows f k = absurd k
    fix_known roomy body over (State s) keep knows f k =
        let few = ending.few ms l ls s f in
        iterated_known body over keep knows engine.budget 0 s f (record { early = λ b. omega arith; late = λ a. omega arith })
