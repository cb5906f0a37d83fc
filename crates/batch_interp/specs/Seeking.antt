-- What is known at the statements of a procedure, one by one.
use Rattle.std.specs.Prelude.{ℕ, List, [], ◌++◌, Option, Some, None, Bool, true, false, ◌||◌}
use Rattle.imp_slots.specs.Plain.{Invoke, Code, Stop, code_numbers}
use Rattle.imp_slots.specs.BlockViews.{before_code}
use Rattle.imp_slots.specs.declared.blocks.SlotNode.{SlotNode}
use Rattle.imp_slots.specs.declared.blocks.SlotNode.TheVariants.{Simple, If, While, Call, Break}
use Rattle.imp_chains.specs.Chains.{has}
use Rattle.domain_laws.specs.Operations.{Operations}
use Rattle.batch_meaning.specs.Values.{Value, lift}
use Rattle.batch_meaning.specs.Batch.{Fixed}
use Rattle.batch_meaning.specs.Places.{Spot, spot, spots}
use Rattle.batch_interp.specs.Answered.{value_of}
use Rattle.batch_interp.specs.Frames.{Plan, thresholds_at, calls_in, value_after, head_there, value_at_head}
use Rattle.batch_interp.specs.declared.spots.Seen.{Seen}

-- whether a statement of this number stands inside a statement
abbrev pub holds_inside : (number : ℕ) → SlotNode → Bool
holds_inside m (Simple n a) = false
holds_inside m (If n c t e) = has m (code_numbers t) || has m (code_numbers e)
holds_inside m (While n c b) = has m (code_numbers b)
holds_inside m (Call n i q) = false
holds_inside m (Break n) = false

-- the call of a call statement
abbrev pub call_at : SlotNode → Option (Invoke × ℕ)
call_at (Simple n a) = None
call_at (If n c t e) = None
call_at (While n c b) = None
call_at (Call n i q) = Some (i, q)
call_at (Break n) = None

module _ {S : Type 0} (dom : Operations S) (plan : Plan) (place : ℕ) (z : List ℕ) where
  -- the statements of a block in the procedure at a place, under the call sites z
  abbrev pub places : Code → Value S → List (ℕ × Spot S)
  places = spots dom plan.engine (thresholds_at plan place) z (calls_in dom plan place z)

  -- what the iterates of a loop there come to
  abbrev pub head_at : SlotNode → Value S → Option (Fixed S)
  head_at (Simple n a) v = None
  head_at (If n c t e) v = None
  head_at (While n c b) v = Some (head_there dom plan place z n c b v)
  head_at (Call n i q) v = None
  head_at (Break n) v = None

  -- what is known at a statement, from the value before it
  abbrev pub spot_at : SlotNode → Value S → Spot S
  spot_at s v = spot v (head_at s v) (value_after dom plan place z (before_code s Stop) v) (call_at s)

  abbrev pub spot_of : Seen S → Spot S
  spot_of s = spot_at s.node.now (value_of s.before)

  -- the statements inside a statement
  abbrev pub inner_of : SlotNode → Value S → List (ℕ × Spot S)
  inner_of (Simple n a) v = []
  inner_of (If n c t e) v = places t (lift (dom.assume c true) v) ++ places e (lift (dom.assume c false) v)
  inner_of (While n c b) v = places b (lift (dom.assume c true) (value_at_head dom plan place z n c b v))
  inner_of (Call n i q) v = []
  inner_of (Break n) v = []
