-- Certificates as they are written, a line at a time.
use Rattle.std.specs.Prelude.{ℕ, List, [], ◌∷◌, ◌++◌, Option, Some, None, Vec, option_map, codes}
use Rattle.serde_json.specs.Data.{Data, string}
use Rattle.request_json.specs.Replies.{object_of, count, list_of}
use Rattle.imp_slots.specs.Plain.{Routine}
use Rattle.domain_laws.specs.Operations.{Operations}
use Rattle.batch_meaning.specs.Values.{Value}
use Rattle.batch_meaning.specs.Batch.{LoopOptions}
use Rattle.cert_meaning.specs.Portable.{Portable}
use Rattle.cert_lines.specs.Certificate.{Certificate, Lines, Gives, with_line, lines_text, certificate_text}

-- the line of a loop under a chain, which has the outermost call first
abbrev pub line_data : (n : ℕ) → (chain state : List ℕ) → Data
line_data n chain state = object_of ((codes "at", count n) ∷ (codes "chain", list_of count chain) ∷ (codes "state", string state) ∷ [])

-- what is written where these bytes came before: they stay before lines, and an Over stands alone
abbrev pub behind : List ℕ → Certificate → List ℕ
behind before (Lines ds) = before ++ lines_text ds
behind before (Gives n z) = certificate_text (Gives n z)

-- the line of an Over, or else these bytes
abbrev pub or_over : Option (List ℕ) → List ℕ → List ℕ
or_over None text = text
or_over (Some line) text = line

abbrev pub bytes_in : {Z : Type 0} → Option (Vec ℕ Z) → Option (List ℕ)
bytes_in o = option_map (λ (v : Vec _ _). v.items) o

module _ {S : Type 0} (dom : Operations S) (port : Portable S) (engine : LoopOptions) (program : List Routine) where
  -- loops under one chain, with the values at their heads, before more
  abbrev pub lines_under : (z : List ℕ) → List (ℕ × Option (Value S)) → Certificate → Certificate
  lines_under z [] more = more
  lines_under z (h ∷ hs) more = with_line dom port engine program z h.0 h.1 (lines_under z hs more)

  -- the loops of procedures under chains to them, before more
  abbrev pub all_lines : List (List ℕ × List (ℕ × Option (Value S))) → Certificate → Certificate
  all_lines [] more = more
  all_lines (u ∷ us) more = lines_under u.0 u.1 (all_lines us more)
