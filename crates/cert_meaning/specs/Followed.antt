-- A block followed with written states in place of the heads of its loops: batch interpretation that iterates nothing.
use Rattle.std.specs.Prelude.{ℕ, ◌==◌, List, [], ◌∷◌, ◌++◌, length, reverse, Option, Some, None, Bool, true, false, if◌then◌else◌}
use Rattle.imp_slots.specs.Plain.{DoBreak, Does, Code, Stop, Simple, If, While, Call, Break, Routine}
use Rattle.domain_laws.specs.Operations.{Operations}
use Rattle.batch_meaning.specs.Places.{main_layout}

-- Why what is written of a loop does not do: no state is written, the state before the loop is not found below it,
-- or the state that a round makes of it is not.
pub data Why : Type 0 where
  Missing : Why
  Entry : Why
  Step : Why

-- What following a block comes to: the state after it with those before the breaks that leave the loop around it,
-- or the first loop whose written state does not do, with its call sites, the last first.
pub data Followed (S : Type 0) : Type 0 where
  Passes : (behind : S) → (leaving : List S) → Followed S
  Fails : (n : ℕ) → (z : List ℕ) → Why → Followed S

-- one thing after another: the first that fails ends it
abbrev pub passing : {S : Type 0} → Followed S → (S → List S → Followed S) → Followed S
passing (Passes s ss) f = f s ss
passing (Fails n z w) f = Fails n z w

-- these states leave before the others
abbrev pub with_leaving : {S : Type 0} → List S → Followed S → Followed S
with_leaving xs (Passes s ss) = Passes s (xs ++ ss)
with_leaving xs (Fails n z w) = Fails n z w

-- a test that fails with this fault
abbrev pub unless : {S : Type 0} → Bool → Followed S → Followed S → Followed S
unless true fault f = f
unless false fault f = fault

-- a state that is written, or this fault
abbrev pub where_written : {S : Type 0} → Option S → Followed S → (S → Followed S) → Followed S
where_written None fault f = fault
where_written (Some x) fault f = f x

-- the join of states, from left to right
abbrev pub joined : {S : Type 0} → Operations S → S → List S → S
joined dom s [] = s
joined dom s (x ∷ xs) = joined dom (dom.join s x) xs

-- `written` gives the state that is written of a loop under call sites, the last first.
module _ {S : Type 0} (dom : Operations S) (leq : S → S → Bool) (written : (z : List ℕ) → (n : ℕ) → Option S) where
  -- A block under the call sites z, from the state before it; `calls` follows the body of the procedure that a
  -- statement calls. A loop is gone through once, from its written state.
  module _ (z : List ℕ) (calls : (n q : ℕ) → S → Followed S) where
    abbrev pub followed : Code → S → Followed S
    followed Stop a = Passes a []
    followed (Simple n e r) a = followed r (dom.post (Does e) a)
    followed (If n g t e r) a =
        passing (followed t (dom.assume g true a)) (λ x xs.
        passing (followed e (dom.assume g false a)) (λ y ys.
        with_leaving (xs ++ ys) (followed r (dom.join x y))))
    followed (While n g b r) a =
        where_written (written z n) (Fails n z Missing) (λ x.
        unless (leq a x) (Fails n z Entry)
        (passing (followed b (dom.assume g true x)) (λ y ys.
        unless (leq y x) (Fails n z Step) (followed r (joined dom (dom.assume g false x) ys)))))
    followed (Call n i q r) a = passing (calls n q (dom.enter i.entering a)) (λ d ds. followed r (dom.leave i.returning a d))
    followed (Break n r) a = with_leaving (a ∷ []) (followed r (dom.post DoBreak a))

  -- The body of procedure q, from the state before it. The procedures have the last one first, so those that one
  -- calls stand after it.
  abbrev pub followed_procedure : List Routine → (z : List ℕ) → (q : ℕ) → S → Followed S
  followed_procedure [] z q a = Passes a []
  followed_procedure (r ∷ earlier) z q a =
      if q == length earlier then followed z (λ n. followed_procedure earlier (n ∷ z)) r.code a else followed_procedure earlier z q a

  abbrev pub followed_last : List Routine → S → Followed S
  followed_last [] a = Passes a []
  followed_last (r ∷ earlier) a = followed [] (λ n. followed_procedure earlier (n ∷ [])) r.code a

  -- The body of main, the last procedure, from its first state.
  abbrev pub followed_program : List Routine → Followed S
  followed_program program = followed_last (reverse program) (dom.init (main_layout (reverse program)))
