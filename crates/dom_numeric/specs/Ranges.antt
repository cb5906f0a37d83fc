-- The range of an expression, over the ranges of slots.
use Rattle.std.specs.Prelude.{ℕ, pos, Option, Some, None}
use Rattle.imp_syntax.specs.declared.words.Operator.{Operator}
use Rattle.imp_syntax.specs.declared.words.Operator.TheVariants.{Add, Subtract, Multiply, Divide, Remainder}
use Rattle.imp_slots.specs.Plain.{Term, Literal, Slot, Length, Negative, Binary}
use Rattle.num_bounds.specs.Bounds.{Bounds}
use Rattle.num_bounds.specs.Operations.{single, word, sums, differences, negations, products, quotients, word_if, remainders}

-- an operation that needs a range gives none where there is none
abbrev pub if_range : {A : Type 0} → Option Bounds → (Bounds → Option A) → Option A
if_range None f = None
if_range (Some r) f = f r

-- the range of an operation's results, or none
abbrev pub operation : Operator → Bounds → Bounds → Option Bounds
operation Add a b = word (sums a b)
operation Subtract a b = word (differences a b)
operation Multiply a b = word (products a b)
operation Divide a b = word_if (quotients a b)
operation Remainder a b = remainders a b

-- the range of an expression whose slots have these ranges, or none
unfoldable pub range_by : (ℕ → Bounds) → Term → Option Bounds
range_by at (Literal n) = Some (single (pos n))
range_by at (Slot x) = Some (at x)
range_by at (Length a) = Some (at a)
range_by at (Negative e) = if_range (range_by at e) (λ r. word (negations r))
range_by at (Binary o a b) = if_range (range_by at a) (λ r. if_range (range_by at b) (operation o r))
