-- What checking a certificate comes to, and the line that says so.
use Rattle.std.specs.Prelude.{ℕ, List, [], ◌∷◌, ◌++◌, reverse, codes}
use Rattle.serde_json.specs.Data.{Data, string}
use Rattle.serde_json.specs.Written.{compact_text}
use Rattle.request_json.specs.Replies.{object_of, count, list_of}
use Rattle.serve_script.specs.Lines.{all_lines}
use Rattle.imp_slots.specs.Plain.{Routine}
use Rattle.domain_laws.specs.Operations.{Operations}
use Rattle.cert_meaning.specs.Portable.{Portable}
use Rattle.cert_meaning.specs.Followed.{Why, Missing, Entry as AtEntry, Step, Followed, Passes, Fails, followed_program}
use Rattle.cert_lines.specs.Lines.{Entries, Reads, Bad, written_in, entries}

pub data Verified : Type 0 where
  Yes : Verified
  BadLine : (line : ℕ) → Verified
  No : (n : ℕ) → (z : List ℕ) → Why → Verified

abbrev pub of_followed : {S : Type 0} → Followed S → Verified
of_followed (Passes s ss) = Yes
of_followed (Fails n z why) = No n z why

module _ {S : Type 0} (dom : Operations S) (port : Portable S) (program : List Routine) where
  abbrev pub of_entries : Entries S → Verified
  of_entries (Reads es) = of_followed (followed_program dom port.leq (written_in es) program)
  of_entries (Bad line) = BadLine line

  -- A bad line first; else the first loop, as main's body is followed, of which what is written does not do.
  unfoldable pub verify : (cert : List ℕ) → Verified
  verify cert = of_entries (entries port program 1 [] (all_lines cert))

abbrev pub why_name : Why → List ℕ
why_name Missing = codes "missing"
why_name AtEntry = codes "entry"
why_name Step = codes "step"

unfoldable pub verified_data : Verified → Data
verified_data Yes = object_of ((codes "verify", string (codes "yes")) ∷ [])
verified_data (BadLine line) = object_of ((codes "line", count line) ∷ (codes "verify", string (codes "no")) ∷ [])
verified_data (No n z why) =
    object_of ((codes "at", count n) ∷ (codes "chain", list_of count (reverse z)) ∷ (codes "verify", string (codes "no")) ∷ (codes "why", string (why_name why)) ∷ [])

abbrev pub verified_line : Verified → List ℕ
verified_line v = compact_text (verified_data v) ++ 10 ∷ []
