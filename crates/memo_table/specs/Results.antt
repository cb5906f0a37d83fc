-- The results of operations, by their numbers.
use Rattle.std.specs.Prelude.{◌≡◌, ℕ, List, Option, Some, None, option_map, slice_get, IfSome, Contains}
use Rattle.imp_slots.specs.ActionViews.{act_of}
use Rattle.imp_slots.specs.CallViews.{taken_of}
use Rattle.domain_laws.specs.Operations.{Operations}
use Rattle.state_table.specs.Numbers.{KeepsNumbers}
use Rattle.memo_table.specs.declared.operation.Operation.{Operation}
use Rattle.memo_table.specs.declared.operation.Operation.TheVariants.{Init, Post, Assume, Enter, Join, Leave, Widen}
use Rattle.memo_table.specs.declared.memo.Key.{Key}

abbrev pub both : {S : Type 0} → (S → S → S) → Option S → Option S → Option S
both f (Some s) (Some t) = Some (f s t)
both f (Some s) None = None
both f None o = None

module _ {S : Type 0} (dom : Operations S) where
  -- what an operation makes of the states that it is applied to, where they are there
  abbrev pub result_of : Operation → Option S → Option S → Option S
  result_of (Init layout) l r = Some (dom.init layout)
  result_of (Post stmt) l r = option_map (dom.post (act_of stmt)) l
  result_of (Assume guard sense) l r = option_map (dom.assume guard sense) l
  result_of (Enter entering) l r = option_map (dom.enter entering) l
  result_of Join l r = both dom.join l r
  result_of (Leave taken) l r = both (dom.leave (taken_of taken)) l r
  result_of (Widen thresholds) l r = both (dom.widen thresholds) l r

  -- the state that has a number, if one is given
  abbrev pub operand : List S → Option ℕ → Option S
  operand states None = None
  operand states (Some n) = slice_get states n

  module _ (operations : List Operation) (states : List S) where
    -- a number is that of the key's operation applied to the key's states
    abbrev pub IsResult : Key → ℕ → Type 0
    IsResult key n = (o : Operation) × (s : S) × (slice_get operations key.operation ≡ Some o) × (slice_get states n ≡ Some s) × (result_of o (operand states key.left) (operand states key.right) ≡ Some s)

    abbrev pub AreResults : List (Key × ℕ) → Type 0
    AreResults entries = (key : Key) (n : ℕ) → Contains entries (key, n) → IsResult key n

-- Whatever the operations and the tables are: where entries are results, so is what is found of a key; they are still
-- results later; and so where a result is kept for a key.
abbrev pub FindsResult : Type 0 → List (Key × ℕ) → Key → Option ℕ → Type 0
FindsResult S entries key found = (dom : Operations S) (operations : List Operation) (states : List S) → AreResults dom operations states entries → IfSome found (IsResult dom operations states key)

abbrev pub LeavesResults : Type 0 → List (Key × ℕ) → List (Key × ℕ) → Type 0
LeavesResults S old new = (dom : Operations S) (operations : List Operation) (states : List S) → AreResults dom operations states old → AreResults dom operations states new

abbrev pub AddsResult : Type 0 → List (Key × ℕ) → Key → ℕ → List (Key × ℕ) → Type 0
AddsResult S old key n new = (dom : Operations S) (operations : List Operation) (states : List S) → AreResults dom operations states old → IsResult dom operations states key n → AreResults dom operations states new

-- what is a result stays one, however the tables grow
abbrev pub ResultsStay : Type 0 → Type 0
ResultsStay S = (dom : Operations S) (operations later_operations : List Operation) (states later : List S) (entries : List (Key × ℕ))
    → KeepsNumbers operations later_operations → KeepsNumbers states later → AreResults dom operations states entries → AreResults dom later_operations later entries
