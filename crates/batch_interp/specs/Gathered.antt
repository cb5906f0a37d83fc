-- What a walk through a block gathers on the way.
use Rattle.std.specs.Prelude.{ℕ, List, [], ◌++◌, true, false}
use Rattle.imp_slots.specs.Plain.{Effect, Invoke, Code, Stop, Simple, If, While, Call, Break}
use Rattle.imp_slots.specs.ActionViews.{effect_of}
use Rattle.imp_slots.specs.declared.blocks.SlotNode.{SlotNode}
use Rattle.imp_slots.specs.declared.blocks.SlotNode.TheVariants as node
use Rattle.domain_laws.specs.Operations.{Operations}
use Rattle.batch_meaning.specs.Values.{Value, lift}
use Rattle.batch_interp.specs.Frames.{Plan, value_after, value_at_head}

-- What is gathered of a simple statement and of a call, from the value before it, and of a loop, from the one at its head.
pub record Gathering (S B : Type 0) : Type 0 where
  pub simple : ℕ → Effect → Value S → List B
  pub head : ℕ → Value S → List B
  pub call : ℕ → Invoke → (callee : ℕ) → Value S → List B

-- Nothing is gathered of calls, and of a simple statement by what it does.
abbrev pub within : {S B : Type 0} → (simple : Effect → Value S → List B) → (head : ℕ → Value S → List B) → Gathering S B
within simple head = record { simple = λ n e v. simple e v; head = head; call = λ n i q v. [] }

module _ {S B : Type 0} (of : Gathering S B) (dom : Operations S) (plan : Plan) (place : ℕ) (z : List ℕ) where
  -- what is gathered of a block, in the order of the text: of a loop before the statements inside it
  abbrev pub gathered : Code → Value S → List B
  gathered Stop v = []
  gathered (Simple n e r) v = of.simple n e v ++ gathered r (value_after dom plan place z (Simple n e Stop) v)
  gathered (If n g t e r) v =
      (gathered t (lift (dom.assume g true) v) ++ gathered e (lift (dom.assume g false) v)) ++ gathered r (value_after dom plan place z (If n g t e Stop) v)
  gathered (While n g b r) v =
      (of.head n (value_at_head dom plan place z n g b v) ++ gathered b (lift (dom.assume g true) (value_at_head dom plan place z n g b v)))
      ++ gathered r (value_after dom plan place z (While n g b Stop) v)
  gathered (Call n i q r) v = of.call n i q v ++ gathered r (value_after dom plan place z (Call n i q Stop) v)
  gathered (Break n r) v = gathered r (value_after dom plan place z (Break n Stop) v)

  -- what is gathered of one statement and the statements inside it
  abbrev pub gathered_in : SlotNode → Value S → List B
  gathered_in (node.Simple n a) v = of.simple n (effect_of a) v
  gathered_in (node.If n g t e) v = gathered t (lift (dom.assume g true) v) ++ gathered e (lift (dom.assume g false) v)
  gathered_in (node.While n g b) v = of.head n (value_at_head dom plan place z n g b v) ++ gathered b (lift (dom.assume g true) (value_at_head dom plan place z n g b v))
  gathered_in (node.Call n i q) v = of.call n i q v
  gathered_in (node.Break n) v = []
