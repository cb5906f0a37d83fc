-- Reading the lines of a certificate.
use Rattle.std.specs.Prelude.{◌≡◌, ℕ, List, ◌∷◌, ◌++◌, Option, Some, None, Bool, true, false, option_map, if◌then◌else◌}
use Rattle.imp_slots.specs.Plain.{Routine}
use Rattle.serve_script.specs.Lines.{whole_lines, last_part, last_line}
use Rattle.cert_meaning.specs.Portable.{Portable}
use Rattle.cert_meaning.specs.Chained.{layouts_around}
use Rattle.cert_lines.specs.Lines as plain
use Rattle.cert_reading.specs.Table.{HasEntries}
use Rattle.cert_reading.specs.declared.entry.CertEntry.{CertEntry}
use Rattle.cert_reading.specs.declared.reading.Lines.{Lines}
use Rattle.cert_reading.specs.declared.reading.Lines.TheVariants.{Read, Bad}
use Rattle.cert_reading.specs.declared.reading.Next.{Next}
use Rattle.cert_reading.specs.declared.reading.Next.TheVariants.{More, Bad as Ended}

abbrev pub entry_told : {S : Type 0} → CertEntry S → plain.CertEntry S
entry_told e = record { at = e.at; sites = e.sites; state = e.state }

-- the entry of a loop, call sites and the text of a state
abbrev pub entry_with : {S : Type 0} → Portable S → List Routine → (at : ℕ) → (sites text : List ℕ) → Option (plain.CertEntry S)
entry_with port program at sites text =
    if plain.is_loop_under program at sites then option_map (λ s. record { at = at; sites = sites; state = s }) (port.take (layouts_around program (at ∷ sites)) text) else None

-- the lines of a text, where a part of the first line came before it
abbrev pub lines_from : (part text : List ℕ) → List (List ℕ)
lines_from part text = whole_lines part text ++ last_line (last_part part text)

-- Reading comes to this: a table of all entries, or the first bad line.
abbrev pub IsRead : {S : Type 0} → plain.Entries S → Lines S → Type 0
IsRead {S} r (Read table) = (es : List (plain.CertEntry S)) × (r ≡ plain.Reads es) × HasEntries table es
IsRead r (Bad line) = r ≡ plain.Bad line

-- an entry that is added to these, or none, or one whose loop and call sites have one
abbrev pub IsFirst : {S : Type 0} → Option (plain.CertEntry S) → List (plain.CertEntry S) → (after : List (List ℕ × S)) → Bool → Type 0
IsFirst {S} o es after true = (e : plain.CertEntry S) × (o ≡ Some e) × (plain.written_in es e.sites e.at ≡ None) × HasEntries after (e ∷ es)
IsFirst {S} o es after false = (go : List (plain.CertEntry S) → plain.Entries S) (line : ℕ) → plain.with_entry line es o go ≡ plain.Bad line

-- Whether a line is added: it has an entry, and no state was there under its loop and call sites. The table then has the
-- entry beside those before.
abbrev pub IsAdded : {S : Type 0} → Portable S → List Routine → (line : List ℕ) → (before after : List (List ℕ × S)) → Bool → Type 0
IsAdded {S} port program line before after added =
    (es : List (plain.CertEntry S)) → HasEntries before es → IsFirst (plain.entry_of port program line) es after added

-- The lines so far are read, and have these entries; with those to come they come to what all lines do.
pub record IsReading {S : Type 0} (port : Portable S) (program : List Routine) (table : List (List ℕ × S)) (line : ℕ) (rest : List (List ℕ)) (all : plain.Entries S) : Type 0 where
  pub entries : List (plain.CertEntry S)
  pub has : HasEntries table entries
  pub comes : plain.entries port program line entries rest ≡ all

-- Goes on by one byte, with the table, the number of the line and the pending line before and after it: what was read with
-- the byte before goes on after it, or the line that ended is bad.
abbrev pub GoesOn : {S : Type 0} → Portable S → List Routine → (byte : ℕ) → (table : List (List ℕ × S)) → (line : ℕ) → (part : List ℕ) → (table' : List (List ℕ × S)) → (line' : ℕ) → (part' : List ℕ) → Next → Type 0
GoesOn {S} port program byte table line part table' line' part' More = (all : plain.Entries S) (rest : List ℕ) → IsReading port program table line (lines_from part (byte ∷ rest)) all → IsReading port program table' line' (lines_from part' rest) all
GoesOn {S} port program byte table line part table' line' part' Ended = (all : plain.Entries S) (rest : List ℕ) → IsReading port program table line (lines_from part (byte ∷ rest)) all → all ≡ plain.Bad line'
