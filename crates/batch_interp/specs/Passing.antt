-- What interpreting a block answers.
use Rattle.std.specs.Prelude.{◌≡◌, List, reverse, map, true}
use Rattle.imp_slots.specs.Plain.{Guard}
use Rattle.domain_laws.specs.Operations.{Operations}
use Rattle.batch_meaning.specs.Values as plain
use Rattle.batch_meaning.specs.Values.{Value, lift}
use Rattle.batch_meaning.specs.Batch as meaning
use Rattle.batch_meaning.specs.Batch.{Passed}
use Rattle.batch_interp.specs.declared.value.Answer.{Answer}
use Rattle.batch_interp.specs.declared.value.Answer.TheVariants.{State, Over}
use Rattle.batch_interp.specs.declared.blocks.Fixed.{Fixed}
use Rattle.batch_interp.specs.declared.blocks.Fixed.TheVariants as fixed

abbrev pub states : {S : Type 0} → List S → List (Value S)
states ss = map plain.State ss

-- A block ends in this answer, and the states that leave it come after those that left before.
abbrev pub Ends : {S : Type 0} → (before after : List S) → Passed S → Answer S → Type 0
Ends before after p (State t) = meaning.with_leaving (states before) p ≡ record { value = plain.State t; leaving = states after }
Ends before after p (Over n chain) = p.value ≡ plain.Over n (reverse chain)

-- The iterates of a loop come to this: the state at its head and what leaves the body from there, or a loop that is Over.
abbrev pub IsFixed : {S : Type 0} → Operations S → meaning.Fixed S → Guard → (body : Value S → Passed S) → Fixed S → Type 0
IsFixed dom f g body (fixed.At head leaving) = (f.value ≡ plain.State head) × ((body (lift (dom.assume g true) (plain.State head))).leaving ≡ states leaving)
IsFixed dom f g body (fixed.Over n chain) = f.value ≡ plain.Over n (reverse chain)
