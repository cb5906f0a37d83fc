-- The values at a block's statements, and those of a loop's iterates.
use Rattle.std.specs.Prelude.{ℕ, zero, suc, ℤ, List, [], ◌∷◌, ◌++◌, true, false}
use Rattle.imp_slots.specs.Plain.{Guard, DoBreak, Does, Code, Stop, Simple, If, While, Call, Break}
use Rattle.domain_laws.specs.Operations.{Operations}
use Rattle.batch_meaning.specs.Values.{Value, lift, lift2}
use Rattle.batch_meaning.specs.Batch.{LoopOptions, next_of, head_of, behind, batch}

-- A statement with what is after it, and the value before it.
pub record Local (S : Type 0) : Type 0 where
  pub before : Value S
  pub code : Code

module _ {S : Type 0} (dom : Operations S) (engine : LoopOptions) where
  -- The iterates of a loop.
  abbrev pub iterate_at : List ℤ → (Value S → Value S) → Value S → ℕ → Value S
  iterate_at thresholds body a zero = a
  iterate_at thresholds body a (suc k) = lift2 (next_of dom engine thresholds k) (iterate_at thresholds body a k) (body (iterate_at thresholds body a k))

  module _ (thresholds : List ℤ) (z : List ℕ) (calls : ℕ → ℕ → Value S → Value S) where
    -- The statements of a block that stand in no loop of it.
    abbrev pub locals : Code → Value S → List (ℕ × Local S)
    locals Stop a = []
    locals (Simple n effect r) a = (n, record { before = a; code = Simple n effect r }) ∷ locals r (lift (dom.post (Does effect)) a)
    locals (If n guard t e r) a =
        let at = lift (dom.assume guard true) a in
        let ae = lift (dom.assume guard false) a in
        (n, record { before = a; code = If n guard t e r }) ∷ (locals t at ++ (locals e ae ++ locals r (lift2 dom.join (batch dom engine thresholds z calls t at).value (batch dom engine thresholds z calls e ae).value)))
    locals (While n guard b r) a = (n, record { before = a; code = While n guard b r }) ∷ locals r (behind dom engine guard (batch dom engine thresholds z calls b) (head_of dom engine thresholds z n guard (batch dom engine thresholds z calls b) a).value)
    locals (Call n call q r) a = (n, record { before = a; code = Call n call q r }) ∷ locals r (lift2 (dom.leave call.returning) a (calls n q (lift (dom.enter call.entering) a)))
    locals (Break n r) a = (n, record { before = a; code = Break n r }) ∷ locals r (lift (dom.post DoBreak) a)

    -- One round of a loop's body, from the value at the head.
    abbrev pub round : Guard → Code → Value S → Value S
    round guard body v = (batch dom engine thresholds z calls body (lift (dom.assume guard true) v)).value
