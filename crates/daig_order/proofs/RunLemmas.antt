-- Each turn keeps a run and brings it nearer to its end, whatever keeps the cells.
use Rattle.std.proofs.lemmas.List.{reverse-append}
use Rattle.std.proofs.Common.{◌≡◌, ℕ, ◌+◌, ◌-◌, ◌*◌, ◌<◌, ◌≤◌, Bool, false, not, ◌||◌, List, [], ◌∷◌, ◌++◌, reverse, length, take, find, Option, Some, None, is_some, refl, sym, ap, ◌∙◌, subst, arith, length-append, add-mul}
use Rattle.daig_order.specs.Order.{member, System, IsAcyclic, seen, first_missing}
use Rattle.daig_order.specs.Store.{has, Holds, first_absent, Puts, missing_of, Leaves}
use Rattle.std.proofs.lemmas.Bool.{or_left, or_right}
use Rattle.daig_order.proofs.OrderLemmas.{member-append, Grows}
use Rattle.daig_order.specs.Machine.{AreBelow, waits, height, Working, Run, run_left}
use Rattle.daig_order.proofs.MachineLemmas.{working-start, working-push, working-fill, working-end, working-more, working-grows, height-low, height-push}
use mathlib.Core.Bool.{or-false}
use Rattle.base_values.proofs.Cases.{by_bool, none_of}
use Rattle.std.proofs.Math.Seq.{take-append_seam}

-- the measure falls at a push, and at a fill
work-push : (m a b r : ℕ) → a < b → m * (r + 1) + a < m * (r + 1) + b
work-push m a b r h = omega arith

work-fill : (m count a b r : ℕ) → count < m → a ≤ r → (m - (count + 1)) * (r + 1) + a < (m - count) * (r + 1) + b
work-fill m count a b r h k =
    let e : m - count ≡ (m - (count + 1)) + 1 = omega arith in
    rw (e, add-mul (m - (count + 1)) 1 (r + 1)) (omega arith)

find-eq : {T : Type 0} (p q : T → Bool) → ((x : T) → p x ≡ q x) → (xs : List T) → find p xs ≡ find q xs
find-eq p q e [] = refl
find-eq p q e (x ∷ xs) = rw (e x, find-eq p q e xs) refl

front : {T : Type 0} (ps qs rs : List T) (n : ℕ) → rs ≡ ps ++ qs → length ps ≡ n → ps ≡ take n rs
front ps qs rs n e k = rw (e, ← k) (sym (take-append_seam ps qs))

module _ {T V : Type 0} (s : System T) (law : IsAcyclic s) (value : T → V) (xs : List T) (bound : ℕ) (low : AreBelow s xs bound) (old : T → Option V) where
  pub run-start : (limit : ℕ) → Holds value old → Run s value xs bound old old [] limit 0
  run-start limit h = record {
    done = [];
    working = working-start s law (has old) xs bound low;
    counted = refl;
    within = omega arith;
    cells_are = λ x. sym (or-false (has old x));
    holds = h;
  }

  module _ (new : T → Option V) (stack : List T) (limit count : ℕ) (r : Run s value xs bound old new stack limit count) where
    missing-eq : (ys : List T) → first_absent new ys ≡ first_missing s (has old) r.done ys
    missing-eq ys = find-eq (λ x. not (has new x)) (λ x. not (seen s (has old) r.done x)) (λ x. ap not (r.cells_are x)) ys

    pub run-push : (i : T) → first_absent new (waits s xs stack) ≡ Some i → Run s value xs bound old new (i ∷ stack) limit count
    run-push i h = record {
      done = r.done;
      working = working-push s law (has old) xs bound low (missing_of s old xs) stack r.done i r.working (sym (missing-eq (waits s xs stack)) ∙ h);
      counted = r.counted;
      within = r.within;
      cells_are = r.cells_are;
      holds = r.holds;
    }

    pub run-lower : (i : T) → first_absent new (waits s xs stack) ≡ Some i → run_left s bound (length (missing_of s old xs)) (i ∷ stack) count < run_left s bound (length (missing_of s old xs)) stack count
    run-lower i h = work-push (length (missing_of s old xs) - count) (s.rank i) (height s bound stack) bound (height-push s law (has old) xs bound low stack r.done i (sym (missing-eq (waits s xs stack)) ∙ h))

    run-grows : Grows r.done (missing_of s old xs)
    run-grows = working-grows s law (has old) xs bound low (missing_of s old xs) stack r.done r.working

    -- what it leaves wherever it stops
    pub run-stops : Leaves s value xs old new limit count
    run-stops =
        let c : length r.done ≡ count = r.counted in
        let n : length (missing_of s old xs) ≡ length (r.done ++ run-grows.more) = ap length run-grows.is in
        record {
          adds = λ x. r.cells_are x ∙ ap (λ v. has old x || member s.same v x) (front r.done run-grows.more (missing_of s old xs) count run-grows.is r.counted);
          within = r.within;
          needed = omega (arith, length-append r.done run-grows.more);
          holds = r.holds;
        }

    pub run-end : stack ≡ [] → first_absent new xs ≡ None → count ≡ length (missing_of s old xs)
    run-end e h =
        let w = subst (λ (st : List T). Working s (has old) xs bound (missing_of s old xs) st r.done) e r.working in
        sym r.counted ∙ ap length (working-end s law (has old) xs bound low (missing_of s old xs) r.done w (sym (missing-eq xs) ∙ h))

  -- the name on top has no cell yet
  pub run-new : (new : T → Option V) (x : T) (rest : List T) (limit count : ℕ) → Run s value xs bound old new (x ∷ rest) limit count → new x ≡ None
  run-new new x rest limit count r = none_of (new x) (r.cells_are x ∙ r.working.stands.0)

  module _ (new : T → Option V) (x : T) (rest : List T) (limit count : ℕ) (r : Run s value xs bound old new (x ∷ rest) limit count) (ready : first_absent new (s.inputs x) ≡ None) where
    is_ready : first_missing s (has old) r.done (s.inputs x) ≡ None
    is_ready = sym (missing-eq new (x ∷ rest) limit count r (s.inputs x)) ∙ ready

    pub run-more : count < length (missing_of s old xs)
    run-more =
        let c : length r.done ≡ count = r.counted in
        let h : length r.done < length (missing_of s old xs) = working-more s law (has old) xs bound low (missing_of s old xs) rest r.done x r.working is_ready in
        omega arith

    pub run-fill : (later : T → Option V) (v : V) → v ≡ value x → Puts s.same new later x v → count < limit → Run s value xs bound old later rest limit (count + 1)
    run-fill later v is p lt = record {
      done = r.done ++ x ∷ [];
      working = working-fill s law (has old) xs bound low (missing_of s old xs) rest r.done x r.working is_ready;
      counted = let c : length r.done ≡ count = r.counted in omega (arith, length-append r.done (x ∷ []));
      within = omega arith;
      cells_are = λ y. by_bool (s.same y x)
          (λ k. rw (member-append s.same r.done (x ∷ []) y) (ap is_some (p.here y k) ∙ sym (or_right (has old y) _ (or_right (member s.same r.done y) _ (or_left (s.same y x) false k)))))
          (λ k. rw (member-append s.same r.done (x ∷ []) y, k, or-false (member s.same r.done y)) (ap is_some (p.others y k) ∙ r.cells_are y));
      holds = λ y w h. by_bool (s.same y x)
          (λ k. let e : y ≡ x = law.same_true y x k in let q : Some v ≡ Some w = sym (p.here y k) ∙ h in let vw : v ≡ w = cc in rw e (sym vw ∙ is))
          (λ k. r.holds y w (sym (p.others y k) ∙ h));
    }

    pub run-smaller : run_left s bound (length (missing_of s old xs)) rest (count + 1) < run_left s bound (length (missing_of s old xs)) (x ∷ rest) count
    run-smaller =
        let next = working-fill s law (has old) xs bound low (missing_of s old xs) rest r.done x r.working is_ready in
        work-fill (length (missing_of s old xs)) count (height s bound rest) (height s bound (x ∷ rest)) bound run-more
        (height-low s law (has old) xs bound low (missing_of s old xs) rest (r.done ++ x ∷ []) next)

-- the machine's turns, over a stack as the code has it, its top last
module _ {T V : Type 0} (s : System T) (law : IsAcyclic s) (value : T → V) (xs : List T) (bound : ℕ) (low : AreBelow s xs bound) (old new : T → Option V) (items : List T) (limit count : ℕ) (r : Run s value xs bound old new (reverse items) limit count) where
  pub leaves-at : Leaves s value xs old new limit count
  leaves-at = run-stops s law value xs bound low old new (reverse items) limit count r

  module _ (none : items ≡ []) where
    at_bottom : reverse items ≡ []
    at_bottom = ap reverse none

    pub demand-end : first_absent new xs ≡ None → count ≡ length (missing_of s old xs)
    demand-end h = run-end s law value xs bound low old new (reverse items) limit count r at_bottom h

  module _ (name : T) (rest : List T) (split : items ≡ rest ++ name ∷ []) where
    at_name : reverse items ≡ name ∷ reverse rest
    at_name = ap reverse split ∙ reverse-append rest (name ∷ [])

    under_name : Run s value xs bound old new (name ∷ reverse rest) limit count
    under_name = subst (λ (st : List T). Run s value xs bound old new st limit count) at_name r

    pub name-more : first_absent new (s.inputs name) ≡ None → count < length (missing_of s old xs)
    name-more h = run-more s law value xs bound low old new name (reverse rest) limit count under_name h

    pub name-fill : (later : T → Option V) (v : V) → first_absent new (s.inputs name) ≡ None → v ≡ value name → Puts s.same new later name v → count < limit → Run s value xs bound old later (reverse rest) limit (count + 1)
    name-fill later v h is p lt = run-fill s law value xs bound low old new name (reverse rest) limit count under_name h later v is p lt

    pub fill-smaller : first_absent new (s.inputs name) ≡ None → run_left s bound (length (missing_of s old xs)) (reverse rest) (count + 1) < run_left s bound (length (missing_of s old xs)) (reverse items) count
    fill-smaller h =
        subst (λ (st : List T). run_left s bound (length (missing_of s old xs)) (reverse rest) (count + 1) < run_left s bound (length (missing_of s old xs)) st count) (sym at_name)
        (run-smaller s law value xs bound low old new name (reverse rest) limit count under_name h)

    pub name-absent : new name ≡ None
    name-absent = run-new s law value xs bound low old new name (reverse rest) limit count under_name
