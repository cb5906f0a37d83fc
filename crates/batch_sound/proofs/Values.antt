-- What a value says, and that the operations on values keep it.
use Rattle.std.specs.Prelude.{◌≡◌, ℕ, zero, suc, nat_lt, ℤ, List, [], ◌∷◌, ◌++◌, Bool, true, false, if◌then◌else◌}
use Rattle.std.proofs.Common.{refl, subst}
use Rattle.imp_slots.specs.Plain.{Layout, Guard, Effect, Act, Does, Invoke}
use Rattle.imp_slots.specs.Fits.{fits_guard, fits_effect, fits_invoke}
use Rattle.concrete_sem.specs.Values.{Variables, Heap, Gives}
use Rattle.concrete_sem.specs.Evaluation.{truth_of}
use Rattle.concrete_sem.specs.Effects.{effect_of}
use Rattle.concrete_sem.specs.Passing.{pass, back}
use Rattle.concrete_sem.specs.Proper.{IsProper}
use Rattle.imp_chains.specs.Thresholds.{IsRising}
use Rattle.domain_laws.specs.Operations.{Operations}
use Rattle.domain_laws.specs.Laws.{Laws, fits_act}
use Rattle.batch_meaning.specs.Values.{Value, State, Over, lift, lift2}
use Rattle.batch_meaning.specs.Batch.{LoopOptions, Fixed, next_of, settle, iterate, fix, joined}

module _ {S : Type 0} (dom : Operations S) (engine : LoopOptions) (covers : S → Heap → List Variables → Type 0) (laws : Laws dom covers) where
  abbrev pub Says : Value S → Heap → List Variables → Type 0
  Says (State s) h ms = covers s h ms
  Says (Over n z) h ms = Unit {0}

  -- A value of frames of these procedures.
  abbrev pub Fit : Value S → List Layout → Type 0
  Fit (State s) ps = dom.fits s ps ≡ true
  Fit (Over n z) ps = Unit {0}

  pub fit_post : (act : Act) (p : Layout) (ps : List Layout) (v : Value S) → fits_act p act ≡ true → Fit v (p ∷ ps) → Fit (lift (dom.post act) v) (p ∷ ps)
  fit_post act p ps (State s) u f = laws.fitting.post act p ps s u f
  fit_post act p ps (Over k z) u f = tt

  pub fit_assume : (g : Guard) (b : Bool) (p : Layout) (ps : List Layout) (v : Value S) → fits_guard p g ≡ true → Fit v (p ∷ ps) → Fit (lift (dom.assume g b) v) (p ∷ ps)
  fit_assume g b p ps (State s) u f = laws.fitting.assume g b p ps s u f
  fit_assume g b p ps (Over k z) u f = tt

  pub fit_join : (ps : List Layout) (v w : Value S) → Fit v ps → Fit w ps → Fit (lift2 dom.join v w) ps
  fit_join ps (State s) (State t) f g = laws.fitting.join ps s t f g
  fit_join ps (State s) (Over n z) f g = tt
  fit_join ps (Over n z) w f g = tt

  pub fit_enter : (inv : Invoke) (p : Layout) (ps : List Layout) (v : Value S) → fits_invoke p inv ≡ true → Fit v (p ∷ ps) → Fit (lift (dom.enter inv.entering) v) (inv.entering.layout ∷ p ∷ ps)
  fit_enter inv p ps (State s) u f = laws.fitting.enter inv p ps s u f
  fit_enter inv p ps (Over k z) u f = tt

  pub fit_leave : (inv : Invoke) (p : Layout) (ps : List Layout) (v w : Value S) → fits_invoke p inv ≡ true → Fit v (p ∷ ps) → Fit w (inv.entering.layout ∷ p ∷ ps) → Fit (lift2 (dom.leave inv.returning) v w) (p ∷ ps)
  fit_leave inv p ps (State s) (State d) u f g = laws.fitting.leave inv p ps s d u f g
  fit_leave inv p ps (State s) (Over j z) u f g = tt
  fit_leave inv p ps (Over j z) w u f g = tt

  pub says_post : (e : Effect) (p : Layout) (ps : List Layout) (v : Value S) (h : Heap) (m : Variables) (ms : List Variables) (x : Heap × Variables) → fits_effect p e ≡ true → Fit v (p ∷ ps) → IsProper h (m ∷ ms) (p ∷ ps) → effect_of e h m ≡ Gives x → Says v h (m ∷ ms) → Says (lift (dom.post (Does e)) v) x.0 (x.1 ∷ ms)
  says_post e p ps (State s) h m ms x u f r g c = laws.post e p ps s h m ms x u f r g c
  says_post e p ps (Over k z) h m ms x u f r g c = tt

  pub says_assume : (g : Guard) (b : Bool) (p : Layout) (ps : List Layout) (v : Value S) (h : Heap) (m : Variables) (ms : List Variables) → fits_guard p g ≡ true → Fit v (p ∷ ps) → IsProper h (m ∷ ms) (p ∷ ps) → truth_of m g ≡ Gives b → Says v h (m ∷ ms) → Says (lift (dom.assume g b) v) h (m ∷ ms)
  says_assume g b p ps (State s) h m ms u f r e c = laws.assume g b p ps s h m ms u f r e c
  says_assume g b p ps (Over k z) h m ms u f r e c = tt

  pub says_enter : (inv : Invoke) (p : Layout) (ps : List Layout) (v : Value S) (h : Heap) (m m1 : Variables) (ms : List Variables) → fits_invoke p inv ≡ true → Fit v (p ∷ ps) → IsProper h (m ∷ ms) (p ∷ ps) → pass inv.entering m ≡ Gives m1 → Says v h (m ∷ ms) → Says (lift (dom.enter inv.entering) v) h (m1 ∷ m ∷ ms)
  says_enter inv p ps (State s) h m m1 ms u f r e c = laws.enter inv p ps s h m m1 ms u f r e c
  says_enter inv p ps (Over k z) h m m1 ms u f r e c = tt

  pub says_leave : (inv : Invoke) (p : Layout) (ps : List Layout) (v w : Value S) (h h2 : Heap) (m m1 m2 : Variables) (ms : List Variables) → fits_invoke p inv ≡ true → Fit v (p ∷ ps) → Fit w (inv.entering.layout ∷ p ∷ ps) → IsProper h (m ∷ ms) (p ∷ ps) → IsProper h2 (m2 ∷ m ∷ ms) (inv.entering.layout ∷ p ∷ ps) → pass inv.entering m ≡ Gives m1 → Says v h (m ∷ ms) → Says w h2 (m2 ∷ m ∷ ms) → Says (lift2 (dom.leave inv.returning) v w) h2 (back inv.returning m m2 ∷ ms)
  says_leave inv p ps (State s) (State d) h h2 m m1 m2 ms u f g r r2 e c k = laws.leave inv p ps s d h h2 m m1 m2 ms u f g r r2 e c k
  says_leave inv p ps (State s) (Over j z) h h2 m m1 m2 ms u f g r r2 e c k = tt
  says_leave inv p ps (Over j z) w h h2 m m1 m2 ms u f g r r2 e c k = tt

  pub fit_shed : (p : Layout) (ps : List Layout) (v : Value S) → Fit v (p ∷ ps) → Fit (lift dom.shed v) (p ∷ [])
  fit_shed p ps (State s) f = laws.fitting.shed p ps s f
  fit_shed p ps (Over n z) f = tt

  pub says_shed : (p : Layout) (ps : List Layout) (v : Value S) (h : Heap) (m : Variables) (ms : List Variables) → Fit v (p ∷ ps) → IsProper h (m ∷ ms) (p ∷ ps) → Says v h (m ∷ ms) → Says (lift dom.shed v) h (m ∷ [])
  says_shed p ps (State s) h m ms f r c = laws.shed p ps s h m ms f r c
  says_shed p ps (Over n z) h m ms f r c = tt

  -- Values of frames of these procedures.
  module _ (ps : List Layout) where
    -- Whatever the first value says yes to, the second does.
    pub record Below (v w : Value S) : Type 0 where
      pub says : (h : Heap) (ms : List Variables) → IsProper h ms ps → Says v h ms → Says w h ms

    pub below_self : (v : Value S) → Below v v
    below_self v = record { says = λ h ms r c. c }

    pub below_trans : (u v w : Value S) → Below u v → Below v w → Below u w
    below_trans u v w f g = record { says = λ h ms r c. g.says h ms r (f.says h ms r c) }

    pub below_over : (v : Value S) (n : ℕ) (z : List ℕ) → Below v (Over n z)
    below_over v n z = record { says = λ h ms r c. tt }

    pub below_left : (v w : Value S) → Fit v ps → Fit w ps → Below v (lift2 dom.join v w)
    below_left (State s) (State t) f g = record { says = λ h ms r c. laws.join_left ps s t h ms f g r c }
    below_left (State s) (Over n z) f g = below_over _ n z
    below_left (Over n z) w f g = below_over _ n z

    pub below_right : (v w : Value S) → Fit v ps → Fit w ps → Below w (lift2 dom.join v w)
    below_right (State s) (State t) f g = record { says = λ h ms r c. laws.join_right ps s t h ms f g r c }
    below_right (State s) (Over n z) f g = below_over _ n z
    below_right (Over n z) w f g = below_over _ n z

    -- the next iterate fits, and is above the one before it and above what the body gives
    record IsNext (s : S) (w v : Value S) : Type 0 where
      fit : Fit v ps
      left : Below (State s) v
      right : Below w v

    next_is : (thresholds : List ℤ) → IsRising thresholds → (k : ℕ) (s : S) (w : Value S) → dom.fits s ps ≡ true → Fit w ps → IsNext s w (lift (next_of dom engine thresholds k s) w)
    next_is thresholds rising k s (Over n z) f g = record { fit = tt; left = below_over _ n z; right = below_over _ n z }
    next_is thresholds rising k s (State t) f g = go (nat_lt k engine.widening.delay)
      where
        go : (b : Bool) → IsNext s (State t) (State (if b then dom.join s t else dom.widen thresholds s t))
        go true = record { fit = laws.fitting.join ps s t f g; left = record { says = λ h ms r c. laws.join_left ps s t h ms f g r c }; right = record { says = λ h ms r c. laws.join_right ps s t h ms f g r c } }
        go false = record { fit = laws.fitting.widen thresholds ps s t rising f g; left = record { says = λ h ms r c. laws.widen_left thresholds ps s t h ms rising f g r c }; right = record { says = λ h ms r c. laws.widen_right thresholds ps s t h ms rising f g r c } }

    -- A loop's head: it fits, and is above the value before the loop and above what the body makes of it.
    pub record IsHead (body : Value S → Value S) (a v : Value S) : Type 0 where
      pub fit : Fit v ps
      pub first : Below a v
      pub again : Below (body v) v

    settled : (body : Value S → Value S) (k : ℕ) (s : S) (w : Value S) (go : S → Fixed S) → dom.fits s ps ≡ true → IsNext s (body (State s)) w → ((t : S) → dom.fits t ps ≡ true → IsHead body (State t) (go t).value) → IsHead body (State s) (settle dom engine k s w go).value
    settled body k s (Over n z) go fs x f = record { fit = tt; first = below_over _ n z; again = below_over _ n z }
    settled body k s (State t) go fs x f = by (dom.same t s) refl
      where
        by : (b : Bool) → dom.same t s ≡ b → IsHead body (State s) (if b then record { value = State s; index = k } else go t).value
        by true e = record { fit = fs; first = below_self _; again = subst (λ x. Below (body (State s)) (State x)) ((laws.same t s).0 e) x.right }
        by false e = let y = f t x.fit in record { fit = y.fit; first = below_trans _ _ _ x.left y.first; again = y.again }

    iterated : (thresholds : List ℤ) → IsRising thresholds → (body : Value S → Value S) (n : ℕ) (z : List ℕ) → ((v : Value S) → Fit v ps → Fit (body v) ps) → (left k : ℕ) (s : S) → dom.fits s ps ≡ true → IsHead body (State s) (iterate dom engine thresholds body (Over n z) left k s).value
    iterated thresholds rising body n z keep zero k s fs = record { fit = tt; first = below_over _ n z; again = below_over _ n z }
    iterated thresholds rising body n z keep (suc left) k s fs =
        settled body k s (lift (next_of dom engine thresholds k s) (body (State s))) (iterate dom engine thresholds body (Over n z) left (suc k)) fs (next_is thresholds rising k s (body (State s)) fs (keep (State s) fs)) (λ t ft. iterated thresholds rising body n z keep left (suc k) t ft)

    pub fix_is_head : (thresholds : List ℤ) → IsRising thresholds → (body : Value S → Value S) (n : ℕ) (z : List ℕ) (a : Value S) → ((v : Value S) → Fit v ps → Fit (body v) ps) → Fit a ps → IsHead body a (fix dom engine thresholds body (Over n z) a).value
    fix_is_head thresholds rising body n z (State s) keep f = iterated thresholds rising body n z keep engine.budget 0 s f
    fix_is_head thresholds rising body n z (Over k y) keep f = record { fit = tt; first = below_over _ k y; again = below_over _ k y }

    -- Each value of a list fits; each is below this one.
    abbrev pub EachFit : List (Value S) → Type 0
    EachFit [] = Unit {0}
    EachFit (x ∷ xs) = Fit x ps × EachFit xs

    abbrev pub EachBelow : List (Value S) → Value S → Type 0
    EachBelow [] e = Unit {0}
    EachBelow (x ∷ xs) e = Below x e × EachBelow xs e

    pub fit_both : (xs ys : List (Value S)) → EachFit xs → EachFit ys → EachFit (xs ++ ys)
    fit_both [] ys f g = g
    fit_both (x ∷ xs) ys f g = (f.0, fit_both xs ys f.1 g)

    pub each_left : (xs ys : List (Value S)) (e : Value S) → EachBelow (xs ++ ys) e → EachBelow xs e
    each_left [] ys e h = tt
    each_left (x ∷ xs) ys e h = (h.0, each_left xs ys e h.1)

    pub each_right : (xs ys : List (Value S)) (e : Value S) → EachBelow (xs ++ ys) e → EachBelow ys e
    each_right [] ys e h = h
    each_right (x ∷ xs) ys e h = each_right xs ys e h.1

    pub each_over : (xs : List (Value S)) (n : ℕ) (z : List ℕ) → EachBelow xs (Over n z)
    each_over [] n z = tt
    each_over (x ∷ xs) n z = (below_over x n z, each_over xs n z)

    pub fit_joined : (v : Value S) (xs : List (Value S)) → Fit v ps → EachFit xs → Fit (joined dom engine v xs) ps
    fit_joined v [] f g = f
    fit_joined v (x ∷ xs) f g = fit_joined (lift2 dom.join v x) xs (fit_join ps v x f g.0) g.1

    pub joined_first : (v : Value S) (xs : List (Value S)) → Fit v ps → EachFit xs → Below v (joined dom engine v xs)
    joined_first v [] f g = below_self v
    joined_first v (x ∷ xs) f g = below_trans _ _ _ (below_left v x f g.0) (joined_first (lift2 dom.join v x) xs (fit_join ps v x f g.0) g.1)

    pub joined_each : (v : Value S) (xs : List (Value S)) → Fit v ps → EachFit xs → EachBelow xs (joined dom engine v xs)
    joined_each v [] f g = tt
    joined_each v (x ∷ xs) f g =
        let j = fit_join ps v x f g.0 in
        (below_trans _ _ _ (below_right v x f g.0) (joined_first (lift2 dom.join v x) xs j g.1), joined_each (lift2 dom.join v x) xs j g.1)
