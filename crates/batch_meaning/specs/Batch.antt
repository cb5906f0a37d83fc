-- Batch interpretation: the value after a block from the value before it, by recursion on the syntax.
use Rattle.std.specs.Prelude.{ℕ, zero, suc, nat_lt, ◌==◌, ℤ, List, [], ◌∷◌, ◌++◌, length, true, false, if◌then◌else◌}
use Rattle.imp_slots.specs.Plain.{Guard, DoBreak, Does, Code, Stop, Simple, If, While, Call, Break, Routine}
use Rattle.imp_chains.specs.declared.widening.Widening.{Widening}
use Rattle.imp_chains.specs.Thresholds.{thresholds}
use Rattle.domain_laws.specs.Operations.{Operations}
use Rattle.batch_meaning.specs.Values.{Value, State, Over, lift, lift2}

-- How many rounds a loop may take, and how its iterates are made.
pub record LoopOptions : Type 0 where
  pub budget : ℕ
  pub widening : Widening

-- What a block gives: the value after it, and the values before the breaks that leave the loop around it.
pub record Passed (S : Type 0) : Type 0 where
  pub value : Value S
  pub leaving : List (Value S)

-- What the iterates of a loop come to: the value at its head, and the index of the iterate that it is.
pub record Fixed (S : Type 0) : Type 0 where
  pub value : Value S
  pub index : ℕ

-- these values leave before the others
abbrev pub with_leaving : {S : Type 0} → List (Value S) → Passed S → Passed S
with_leaving xs r = record { value = r.value; leaving = xs ++ r.leaving }

module _ {S : Type 0} (dom : Operations S) (engine : LoopOptions) where
  -- the next iterate after the k-th: joined below the delay, else widened
  abbrev pub next_of : List ℤ → (k : ℕ) → S → S → S
  next_of thresholds k s t = if nat_lt k engine.widening.delay then dom.join s t else dom.widen thresholds s t

  -- the state s is the k-th iterate and the value after it the next: Over, equal, or to be gone on with
  abbrev pub settle : (k : ℕ) → S → Value S → (S → Fixed S) → Fixed S
  settle k s (Over n z) go = record { value = Over n z; index = 0 }
  settle k s (State t) go = if dom.same t s then record { value = State s; index = k } else go t

  -- The iterates from the k-th on, which is the state s, with so many rounds left; `body` is what a round makes of the
  -- value at the head, `over` the loop's Over.
  abbrev pub iterate : List ℤ → (body : Value S → Value S) → (over : Value S) → (left k : ℕ) → S → Fixed S
  iterate thresholds body over zero k s = record { value = over; index = 0 }
  iterate thresholds body over (suc left) k s = settle k s (lift (next_of thresholds k s) (body (State s))) (iterate thresholds body over left (suc k))

  abbrev pub fix : List ℤ → (body : Value S → Value S) → (over : Value S) → Value S → Fixed S
  fix thresholds body over (State s) = iterate thresholds body over engine.budget 0 s
  fix thresholds body over (Over n z) = record { value = Over n z; index = 0 }

  abbrev pub joined : Value S → List (Value S) → Value S
  joined v [] = v
  joined v (x ∷ xs) = joined (lift2 dom.join v x) xs

  -- what the iterates of loop n come to under the call sites z, from the value before it
  abbrev pub head_of : List ℤ → (z : List ℕ) → (n : ℕ) → Guard → (Value S → Passed S) → Value S → Fixed S
  head_of thresholds z n g body a = fix thresholds (λ x. (body (lift (dom.assume g true) x)).value) (Over n z) a

  -- the value after a loop, from that at its head: where the guard is false, and where breaks leave it
  abbrev pub behind : Guard → (Value S → Passed S) → Value S → Value S
  behind g body v = joined (lift (dom.assume g false) v) (body (lift (dom.assume g true) v)).leaving

  -- A block of a procedure with these thresholds under the call sites z, from the value before it; `calls` gives what is
  -- after the body of the procedure that a statement calls.
  module _ (thresholds : List ℤ) (z : List ℕ) (calls : (n q : ℕ) → Value S → Value S) where
    abbrev pub batch : Code → Value S → Passed S
    batch Stop a = record { value = a; leaving = [] }
    batch (Simple n e r) a = batch r (lift (dom.post (Does e)) a)
    batch (If n g t e r) a =
        let x = batch t (lift (dom.assume g true) a) in
        let y = batch e (lift (dom.assume g false) a) in
        with_leaving (x.leaving ++ y.leaving) (batch r (lift2 dom.join x.value y.value))
    batch (While n g b r) a = batch r (behind g (batch b) (head_of thresholds z n g (batch b) a).value)
    batch (Call n i q r) a = batch r (lift2 (dom.leave i.returning) a (calls n q (lift (dom.enter i.entering) a)))
    batch (Break n r) a = with_leaving (a ∷ []) (batch r (lift (dom.post DoBreak) a))

  -- The value after procedure q's body, from the value before it. The procedures have the last one first, so those
  -- that one calls stand after it.
  abbrev pub procedure : List Routine → (z : List ℕ) → (q : ℕ) → Value S → Value S
  procedure [] z q a = a
  procedure (r ∷ earlier) z q a =
      if q == length earlier then (batch (thresholds engine.widening r) z (λ n. procedure earlier (n ∷ z)) r.code a).value else procedure earlier z q a

  -- the calls of a procedure that these stand before
  abbrev pub calls_of : List Routine → (z : List ℕ) → (n q : ℕ) → Value S → Value S
  calls_of earlier z n q a = procedure earlier (n ∷ z) q a
