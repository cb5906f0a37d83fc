-- The text of a state.
use Rattle.std.specs.Prelude.{ℕ, ◌+◌, List, [], ◌∷◌, ◌++◌, codes}
use Rattle.imp_slots.specs.Plain.{Numeric, Layout}
use Rattle.dom_numeric.specs.Texts.{range_text, space_at}
use Rattle.dom_interval_meaning.specs.State.{Intervals, Empty, Within}
use Rattle.dom_interval_meaning.specs.declared.slot_range.SlotRange.{SlotRange}

-- the slots from slot n on
abbrev pub slots_text : ℕ → List Numeric → List SlotRange → List ℕ
slots_text n [] rs = []
slots_text n (k ∷ ks) [] = []
slots_text n (k ∷ ks) (r ∷ rs) = space_at n ++ range_text k r.range ++ slots_text (n + 1) ks rs

-- `none` where the state is Empty, `any` where there are no slots
abbrev pub ranges_text : List Numeric → List SlotRange → List ℕ
ranges_text [] rs = codes "any"
ranges_text (k ∷ ks) rs = slots_text 0 (k ∷ ks) rs

unfoldable pub text : Layout → Intervals → List ℕ
text l Empty = codes "none"
text l (Within rs) = ranges_text l.numbers rs
