-- Procedures by their places.
use Rattle.std.specs.Prelude.{◌≡◌, ◌≢◌, ℕ, zero, suc, ◌<◌, ◌≤◌, List, [], ◌∷◌, ◌++◌, length, reverse, take, slice_get, Some, None, if◌then◌else◌}
use Rattle.std.proofs.Common.{refl, sym, ap, ◌∙◌, arith}
use Rattle.std.proofs.lemmas.List.{reverse-append, reverse-reverse, length-reverse, take-append-le}
use Rattle.imp_slots.specs.Plain.{Routine}
use Rattle.imp_chains.specs.Thresholds.{thresholds}
use Rattle.domain_laws.specs.Operations.{Operations}
use Rattle.batch_meaning.specs.Values.{Value}
use Rattle.batch_meaning.specs.Batch.{LoopOptions, batch, procedure, calls_of}
use Rattle.batch_meaning.specs.Places.{from}
use Rattle.batch_interp.specs.Frames.{Plan, earlier, thresholds_at, thresholds_of, calls_in, passed}
use Rattle.base_values.proofs.Cases.{by_test}
use Rattle.base_values.proofs.Lists.{get_last, get_other, get_take, take_take}
use Rattle.std.proofs.lemmas.Option.{slice_get_within, same_Some}
use Rattle.std.proofs.Math.Seq.{take-length}

-- what stands at a place that is there
pub there_at : (program : List Routine) (k : ℕ) → k < length program → (r : Routine) × (slice_get program k ≡ Some r)
there_at [] k h = absurd (omega arith)
there_at (r ∷ rs) zero h = (r, refl)
there_at (r ∷ rs) (suc k) h = there_at rs k (omega arith)

last_turned : (b : Routine) (ps : List Routine) → reverse (b ∷ ps) ≡ reverse ps ++ (b ∷ [])
last_turned b ps = reverse-append (b ∷ []) ps

get_turned : (b : Routine) (ps : List Routine) → slice_get (reverse (b ∷ ps)) (length ps) ≡ Some b
get_turned b ps = ap (λ xs. slice_get xs (length ps)) (last_turned b ps) ∙ ap (slice_get (reverse ps ++ (b ∷ []))) (sym (length-reverse ps)) ∙ get_last (reverse ps) b

get_behind : (b : Routine) (ps : List Routine) (q : ℕ) → q ≢ length ps → slice_get (reverse (b ∷ ps)) q ≡ slice_get (reverse ps) q
get_behind b ps q n = ap (λ xs. slice_get xs q) (last_turned b ps) ∙ get_other (reverse ps) b q (λ e. n (e ∙ length-reverse ps))

take_behind : (b : Routine) (ps : List Routine) (q : ℕ) → q ≤ length ps → take q (reverse (b ∷ ps)) ≡ take q (reverse ps)
take_behind b ps q h = ap (take q) (last_turned b ps) ∙ take-append-le q (reverse ps) (b ∷ []) (omega (arith, length-reverse ps))

-- the procedures from the q-th down, among those that stand last first
from_there : (ps : List Routine) (q : ℕ) (r : Routine) → slice_get (reverse ps) q ≡ Some r → from ps q ≡ r ∷ reverse (take q (reverse ps))
from_there [] q r e = absurd cc
from_there (b ∷ ps) q r e =
    by_test q (length ps) (λ c. (if c then b ∷ ps else from ps q) ≡ r ∷ reverse (take q (reverse (b ∷ ps))))
    (λ k.
    let same : b ≡ r = same_Some b r (sym (get_turned b ps) ∙ sym (ap (slice_get (reverse (b ∷ ps))) k) ∙ e) in
    let all : take q (reverse (b ∷ ps)) ≡ reverse ps = take_behind b ps q (omega arith) ∙ ap (λ i. take i (reverse ps)) (k ∙ sym (length-reverse ps)) ∙ take-length (reverse ps) in
    ap (λ x. x ∷ ps) same ∙ ap (λ xs. r ∷ xs) (sym (reverse-reverse ps) ∙ sym (ap reverse all)))
    (λ k.
    let there : slice_get (reverse ps) q ≡ Some r = sym (get_behind b ps q k) ∙ e in
    from_there ps q r there ∙ ap (λ xs. r ∷ reverse xs) (sym (take_behind b ps q (omega (arith, slice_get_within (reverse ps) q r there, length-reverse ps)))))

from_nowhere : (ps : List Routine) (q : ℕ) → slice_get (reverse ps) q ≡ None → from ps q ≡ []
from_nowhere [] q e = refl
from_nowhere (b ∷ ps) q e =
    by_test q (length ps) (λ c. (if c then b ∷ ps else from ps q) ≡ [])
    (λ k. let no : Some b ≡ None = sym (get_turned b ps) ∙ sym (ap (slice_get (reverse (b ∷ ps))) k) ∙ e in absurd cc)
    (λ k. from_nowhere ps q (sym (get_behind b ps q k) ∙ e))

-- the procedures before a place, from the q-th down
pub from_earlier : (program : List Routine) (place q : ℕ) (r : Routine) → slice_get (take place program) q ≡ Some r → from (earlier program place) q ≡ r ∷ earlier program q
from_earlier program place q r e =
    let back : reverse (reverse (take place program)) ≡ take place program = reverse-reverse (take place program) in
    from_there (earlier program place) q r (ap (λ xs. slice_get xs q) back ∙ e) ∙ ap (λ xs. r ∷ reverse xs) (ap (take q) back ∙ take_take program place q r e)

pub from_gone : (program : List Routine) (place q : ℕ) → slice_get (take place program) q ≡ None → from (earlier program place) q ≡ []
from_gone program place q e = from_nowhere (earlier program place) q (ap (λ xs. slice_get xs q) (reverse-reverse (take place program)) ∙ e)

module _ {S : Type 0} (dom : Operations S) (engine : LoopOptions) where
  value_of : List Routine → List ℕ → Value S → Value S
  value_of [] z a = a
  value_of (r ∷ rest) z a = (batch dom engine (thresholds engine.widening r) z (calls_of dom engine rest z) r.code a).value

  procedure_from : (ps : List Routine) (z : List ℕ) (q : ℕ) (a : Value S) → procedure dom engine ps z q a ≡ value_of (from ps q) z a
  unfolding value_of
  procedure_from [] z q a = refl
  procedure_from (b ∷ ps) z q a =
      by_test q (length ps) (λ c. (if c then (batch dom engine (thresholds engine.widening b) z (calls_of dom engine ps z) b.code a).value else procedure dom engine ps z q a) ≡ value_of (if c then b ∷ ps else from ps q) z a)
      (λ k. refl)
      (λ k. procedure_from ps z q a)

module _ {S : Type 0} (dom : Operations S) (plan : Plan) where
  -- a call of a procedure before the caller gives what is after its body
  pub call_there : (place : ℕ) (z : List ℕ) (n q : ℕ) (r : Routine) (a : Value S) → slice_get (take place plan.program) q ≡ Some r → calls_in dom plan place z n q a ≡ (passed dom plan q (n ∷ z) r.code a).value
  unfolding value_of
  call_there place z n q r a e =
      let here : slice_get plan.program q ≡ Some r = get_take plan.program place q r e in
      let m : thresholds plan.engine.widening r ≡ thresholds_at plan q = ap (thresholds_of plan.engine.widening) (sym here) in
      procedure_from dom plan.engine (earlier plan.program place) (n ∷ z) q a
      ∙ ap (λ ps. value_of dom plan.engine ps (n ∷ z) a) (from_earlier plan.program place q r e)
      ∙ ap (λ ms. (batch dom plan.engine ms (n ∷ z) (calls_of dom plan.engine (earlier plan.program q) (n ∷ z)) r.code a).value) m

  pub call_gone : (place : ℕ) (z : List ℕ) (n q : ℕ) (a : Value S) → slice_get (take place plan.program) q ≡ None → calls_in dom plan place z n q a ≡ a
  unfolding value_of
  call_gone place z n q a e = procedure_from dom plan.engine (earlier plan.program place) (n ∷ z) q a ∙ ap (λ ps. value_of dom plan.engine ps (n ∷ z) a) (from_gone plan.program place q e)
