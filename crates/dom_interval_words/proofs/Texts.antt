-- The text of slots, slot by slot.
use Rattle.std.proofs.Common.{◌≡◌, ℕ, ◌+◌, ◌<◌, List, ◌∷◌, ◌++◌, length, get_or, drop, Some, ap, sym, ◌∙◌, append_assoc}
use Rattle.base_values.proofs.Lists.{drop_item}
use Rattle.cert_words.specs.Words.{word_text, more_text}
use Rattle.dom_interval_meaning.specs.declared.slot_range.SlotRange.{SlotRange}
use Rattle.dom_interval_words.specs.Words.{slots_told}
use Rattle.dom_interval_words.specs.Slots.{slot_text}

slot_first : (r : SlotRange) (rs : List SlotRange) → more_text (slots_told (r ∷ rs)) ≡ slot_text r ++ more_text (slots_told rs)
slot_first r rs = sym (append_assoc (32 ∷ word_text (Some r.range.lo)) (32 ∷ word_text (Some r.range.hi)) (more_text (slots_told rs)))

-- one slot is written, the others are still to be written
pub slots_step : (text : List ℕ) (rs : List SlotRange) (i : ℕ) (r : SlotRange) → i < length rs → r ≡ get_or rs i r → text ++ more_text (slots_told (drop i rs)) ≡ (text ++ slot_text r) ++ more_text (slots_told (drop (i + 1) rs))
slots_step text rs i r h e =
    ap (λ rs. text ++ more_text (slots_told rs)) (drop_item rs i r h e) ∙ ap (λ xs. text ++ xs) (slot_first r (drop (i + 1) rs)) ∙ sym (append_assoc text (slot_text r) (more_text (slots_told (drop (i + 1) rs))))
