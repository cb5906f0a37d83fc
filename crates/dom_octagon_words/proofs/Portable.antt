-- The laws of octagons as words.
use Rattle.std.specs.Prelude.{◌≡◌, ℕ, ℤ, List, Option, Some, None, option_map, refl}
use Rattle.imp_slots.specs.Plain.{Layout}
use Rattle.cert_words.proofs.States.{words_are_portable}
use Rattle.cert_words.specs.States.{state_if}
use Rattle.cert_words.specs.Words.{words_of}
use Rattle.dom_octagon_meaning.specs.Covers.{covers}
use Rattle.dom_octagon_meaning.specs.Domain.{octagons}
use Rattle.dom_octagon_words.specs.Claims.{OctagonsArePortable}
use Rattle.dom_octagon_words.specs.Words.{state_words, state_in, kept_of, state_of_text, last_kinds, state_of, leq}
use Rattle.dom_octagon_words.proofs.Words.{octagon_words_are}
use Rattle.dom_octagon_words.proofs.Ordered.{octagon_order}

pub octagon_portable : OctagonsArePortable
octagon_portable = words_are_portable octagons covers state_words state_of leq octagon_words_are octagon_order

-- the state that is taken, by its matrix
pub taken_state : (ls : List Layout) (text : List ℕ) → option_map state_in (state_of_text (last_kinds ls) text) ≡ state_if (state_of ls) (words_of text)
taken_state ls text = by (words_of text)
  where
    by : (found : Option (List (Option ℤ))) → option_map state_in (state_if (kept_of (last_kinds ls)) found) ≡ state_if (state_of ls) found
    by None = refl
    by (Some ws) = refl
