-- Verdicts without going through the graphs.
use Rattle.std.proofs.Common.{◌≡◌, ℕ, ◌<◌, Bool, true, false, cond, if◌then◌else◌, List, [], ◌∷◌, inl, inr, length, Option, None, Some, refl, sym, subst, arith}
use Rattle.std.specs.Prelude.{nat_le}
use Rattle.std.proofs.lemmas.Bool.{cases_Bool}
use Rattle.imp_slots.specs.Plain.{Term, Act, DoBreak, Does}
use Rattle.imp_words.specs.declared.verdict.Verdict.TheVariants.{Dead, Safe, May}
use Rattle.domain_laws.specs.Checks.{Check, Within, check_of, checked_guard}
use Rattle.domain_laws.specs.Guards.{verdict_on}
use Rattle.shape_graph.specs.Shape.{Shape}
use Rattle.dom_listseg_meaning.specs.State.{Segments, Top, Graphs}
use Rattle.dom_listseg_meaning.specs.Sets.{union, most, capped}
use Rattle.dom_listseg_meaning.specs.Operations.{join, assume, dead, check}
use Rattle.dom_listseg_meaning.proofs.ConvergenceLaws.{union-le}

capped-alive : (gs : List Shape) → 0 < length gs → dead (capped gs) ≡ false
unfolding capped dead
capped-alive [] h = absurd (omega arith)
capped-alive (g ∷ gs) h =
    elim (cases_Bool (nat_le (length (g ∷ gs)) most)) [
      | inl e ↦ subst (λ b. dead (cond b (Graphs (g ∷ gs)) Top) ≡ false) (sym e) refl
      | inr e ↦ subst (λ b. dead (cond b (Graphs (g ∷ gs)) Top) ≡ false) (sym e) refl
    ]

-- a join with itself describes something where the state does
join-alive : (s : Segments) → dead s ≡ false → dead (join s s) ≡ false
unfolding join dead
join-alive Top h = refl
join-alive (Graphs []) h = cc
join-alive (Graphs (g ∷ gs)) h = capped-alive (union (g ∷ gs) (g ∷ gs)) (let l = union-le (g ∷ gs) (g ∷ gs) in omega arith)

tests : (a b : Bool) → a ≡ false → b ≡ false → (if a then Dead else (if b then Safe else May)) ≡ May
tests true b h k = cc
tests false true h k = cc
tests false false h k = refl

-- of an index a state that describes something says nothing
pub index_may : (a : ℕ) (e : Term) (s : Segments) → dead s ≡ false → verdict_on assume dead (Some (Within a e)) s ≡ May
unfolding assume
index_may a e s h = tests (dead s) (dead (join s s)) h (join-alive s h)

-- a dead state says dead
pub dead_verdict : (a : Act) (s : Segments) → dead s ≡ true → check a s ≡ Dead
unfolding check
dead_verdict DoBreak s h = subst (λ b. (if b then Dead else Safe) ≡ Dead) (sym h) refl
dead_verdict (Does e) s h = by (check_of e)
  where
    by : (o : Option Check) → verdict_on assume dead o s ≡ Dead
    by None = subst (λ b. (if b then Dead else Safe) ≡ Dead) (sym h) refl
    by (Some c) = subst (λ b. (if b then Dead else (if dead (assume (checked_guard c) false s) then Safe else May)) ≡ Dead) (sym h) refl
