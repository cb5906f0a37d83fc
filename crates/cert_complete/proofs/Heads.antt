-- The head of a loop is above the state before it, and above what a round makes of it.
use Rattle.std.specs.Prelude.{◌≡◌, ℕ, zero, suc, nat_lt, ℤ, List, Bool, true, false, if◌then◌else◌}
use Rattle.std.proofs.Common.{refl, subst, sym, ◌∙◌}
use Rattle.imp_slots.specs.Plain.{Layout}
use Rattle.concrete_sem.specs.Values.{Variables, Heap}
use Rattle.imp_chains.specs.Thresholds.{IsRising}
use Rattle.domain_laws.specs.Operations.{Operations}
use Rattle.domain_laws.specs.Laws.{Laws}
use Rattle.batch_meaning.specs.Values.{Value, State, Over, lift}
use Rattle.batch_meaning.specs.Batch.{LoopOptions, Fixed, next_of, settle, iterate, fix}
use Rattle.batch_sound.proofs.Values.{Fit}
use Rattle.cert_meaning.specs.Portable.{HasUpperBounds}

module _ {S : Type 0} (dom : Operations S) (engine : LoopOptions) (covers : S → Heap → List Variables → Type 0) (laws : Laws dom covers) (leq : S → S → Bool) (bounds : HasUpperBounds dom leq) (ls : List Layout) (thresholds : List ℤ) (rising : IsRising thresholds) where
  -- the next iterate fits, and is above the one before it and above what the body gives
  record IsNext (s w t : S) : Type 0 where
    fits : dom.fits t ls ≡ true
    left : leq s t ≡ true
    right : leq w t ≡ true

  next_is : (k : ℕ) (s w : S) → dom.fits s ls ≡ true → dom.fits w ls ≡ true → IsNext s w (next_of dom engine thresholds k s w)
  next_is k s w f g = go (nat_lt k engine.widening.delay)
    where
      go : (b : Bool) → IsNext s w (if b then dom.join s w else dom.widen thresholds s w)
      go true = record { fits = laws.fitting.join ls s w f g; left = bounds.join_left ls s w f g; right = bounds.join_right ls s w f g }
      go false = record { fits = laws.fitting.widen thresholds ls s w rising f g; left = bounds.widen_left thresholds ls s w rising f g; right = bounds.widen_right thresholds ls s w rising f g }

  -- The head x of a loop whose body this is, from the state a before it.
  pub record IsUp (body : Value S → Value S) (a x : S) : Type 0 where
    pub fits : dom.fits x ls ≡ true
    pub entry : leq a x ≡ true
    pub again : (w : S) → body (State x) ≡ State w → leq w x ≡ true

  module _ (body : Value S → Value S) (keep : (v : Value S) → Fit dom engine covers laws v ls → Fit dom engine covers laws (body v) ls) where
    settled : (k : ℕ) (s : S) (b : Value S) (go : S → Fixed S) (x : S) → dom.fits s ls ≡ true → body (State s) ≡ b → Fit dom engine covers laws b ls → ((t : S) → dom.fits t ls ≡ true → (go t).value ≡ State x → IsUp body t x) → (settle dom engine k s (lift (next_of dom engine thresholds k s) b) go).value ≡ State x → IsUp body s x
    settled k s (Over n z) go x fs is fb up e = absurd cc
    settled k s (State w) go x fs is fb up e =
        by (dom.same (next_of dom engine thresholds k s w) s) refl e
      where
        next : IsNext s w (next_of dom engine thresholds k s w)
        next = next_is k s w fs fb

        by : (c : Bool) → dom.same (next_of dom engine thresholds k s w) s ≡ c → (if c then record { value = State s; index = k } else go (next_of dom engine thresholds k s w)).value ≡ State x → IsUp body s x
        by true same e =
            let i : next_of dom engine thresholds k s w ≡ s = (laws.same (next_of dom engine thresholds k s w) s).0 same in
            let ends : State s ≡ State x = e in
            let came : s ≡ x = cc in
            subst (IsUp body s) came
            (record { fits = fs; entry = bounds.self ls s fs; again = λ v j. let both : State w ≡ State v = sym is ∙ j in let given : w ≡ v = cc in subst (λ v. leq v s ≡ true) given (subst (λ t. leq w t ≡ true) i next.right) })
        by false other e =
            let u = up (next_of dom engine thresholds k s w) next.fits e in
            record { fits = u.fits; entry = bounds.trans ls s (next_of dom engine thresholds k s w) x fs next.fits u.fits next.left u.entry; again = u.again }

    iterated : (n : ℕ) (z : List ℕ) (left k : ℕ) (s x : S) → dom.fits s ls ≡ true → (iterate dom engine thresholds body (Over n z) left k s).value ≡ State x → IsUp body s x
    iterated n z zero k s x fs e = absurd cc
    iterated n z (suc left) k s x fs e =
        settled k s (body (State s)) (iterate dom engine thresholds body (Over n z) left (suc k)) x fs refl (keep (State s) fs) (λ t ft e. iterated n z left (suc k) t x ft e) e

    pub head_is_up : (n : ℕ) (z : List ℕ) (a x : S) → dom.fits a ls ≡ true → (fix dom engine thresholds body (Over n z) (State a)).value ≡ State x → IsUp body a x
    head_is_up n z a x fa e = iterated n z engine.budget 0 a x fa e
