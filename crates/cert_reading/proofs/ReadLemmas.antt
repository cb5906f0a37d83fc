-- Lines read one after another.
use Rattle.std.proofs.Common.{ℕ, ◌≡◌, ◌+◌, ◌<◌, ◌≤◌, true, false, List, [], ◌∷◌, ◌++◌, length, drop, get_or, Some, None, Result, Ok, Err, IfOk, ◌≢◌, refl, sym, ap, subst, ◌∙◌, arith, drop-cons, add-one}
use Rattle.std.specs.Prelude.{◌==◌, ◌&&◌, if◌then◌else◌}
use Rattle.std.specs.Str.{bytes_eq}
use Rattle.std.specs.Map.{lookup}
use Rattle.std.proofs.lemmas.List.{drop_all}
use Rattle.imp_slots.specs.Plain.{Routine}
use Rattle.serve_script.specs.Lines.{whole_lines, last_part, last_line}
use Rattle.base_values.proofs.Cases.{by_test}
use Rattle.cert_meaning.specs.Portable.{Portable}
use Rattle.cert_lines.specs.Lines as plain
use Rattle.cert_lines.specs.Lines.{unless_there, with_entry, entry_of, entries}
use Rattle.cert_reading.specs.Table.{HasEntries}
use Rattle.cert_reading.specs.Reading.{entry_told, lines_from, IsRead, IsAdded, IsReading, GoesOn}
use Rattle.cert_reading.specs.declared.entry.CertEntry.{CertEntry}
use Rattle.cert_reading.specs.declared.reading.Lines.{Lines}
use Rattle.cert_reading.specs.declared.reading.Next.TheVariants as next
use Rattle.call_contexts.proofs.Placed.{same_names}

-- an entry is put into the table
pub entry_put : {S : Type 0} (before behind : List (List ℕ × S)) (es : List (plain.CertEntry S)) (e : plain.CertEntry S) (key : List ℕ) → key ≡ e.at ∷ e.sites → ((q : List ℕ) → lookup (bytes_eq q) behind ≡ (if bytes_eq key q then Some e.state else lookup (bytes_eq q) before)) → HasEntries before es → HasEntries behind (e ∷ es)
entry_put before behind es e key k put has z n =
    put (n ∷ z)
    ∙ ap (λ b. if b then Some e.state else lookup (bytes_eq (n ∷ z)) before) (ap (λ x. bytes_eq x (n ∷ z)) k ∙ same_names (e.at ∷ e.sites) (n ∷ z))
    ∙ ap (λ o. if (n == e.at && bytes_eq z e.sites) then Some e.state else o) (has z n)

-- no entry, or one whose place is taken
pub no_entry : {S : Type 0} (port : Portable S) (program : List Routine) (line : List ℕ) (before after : List (List ℕ × S)) → None ≡ entry_of port program line → IsAdded port program line before after false
no_entry port program line before after e es has go i = ap (λ o. with_entry i es o go) (sym e)

pub taken : {S : Type 0} (port : Portable S) (program : List Routine) (line : List ℕ) (before after : List (List ℕ × S)) (x : CertEntry S) (key : List ℕ) (s : S) → Some (entry_told x) ≡ entry_of port program line → key ≡ x.at ∷ x.sites → lookup (bytes_eq key) before ≡ Some s → IsAdded port program line before after false
taken port program line before after x key s e k l es has go i =
    ap (λ o. with_entry i es o go) (sym e)
    ∙ ap (λ o. unless_there o (plain.Bad i) (go (entry_told x ∷ es))) (sym (has x.sites x.at) ∙ ap (λ q. lookup (bytes_eq q) before) (sym k) ∙ l)

pub added : {S : Type 0} (port : Portable S) (program : List Routine) (line : List ℕ) (before behind : List (List ℕ × S)) (x : CertEntry S) (key : List ℕ) → Some (entry_told x) ≡ entry_of port program line → key ≡ x.at ∷ x.sites → lookup (bytes_eq key) before ≡ None → ((q : List ℕ) → lookup (bytes_eq q) behind ≡ (if bytes_eq key q then Some x.state else lookup (bytes_eq q) before)) → IsAdded port program line before behind true
added port program line before behind x key e k l put es has = (
  entry_told x,
  sym e,
  sym (has x.sites x.at) ∙ ap (λ q. lookup (bytes_eq q) before) (sym k) ∙ l,
  entry_put before behind es (entry_told x) key k put has,
)

module _ {S : Type 0} (port : Portable S) (program : List Routine) (all : plain.Entries S) where
  -- a line that is added, and one that is not
  pub line_read : (table more : List (List ℕ × S)) (i : ℕ) (line : List ℕ) (rest : List (List ℕ)) → IsAdded port program line table more true → IsReading port program table i (line ∷ rest) all → IsReading port program more (i + 1) rest all
  line_read table more i line rest a r =
      let x = a r.entries r.has in
      record {
        entries = x.0 ∷ r.entries;
        has = x.3;
        comes =
            sym (ap (λ o. with_entry i r.entries o (λ es. entries port program (i + 1) es rest)) x.1 ∙ ap (λ o. unless_there o (plain.Bad i) (entries port program (i + 1) (x.0 ∷ r.entries) rest)) x.2)
            ∙ r.comes;
      }

  pub line_bad : (table more : List (List ℕ × S)) (i : ℕ) (line : List ℕ) (rest : List (List ℕ)) → IsAdded port program line table more false → IsReading port program table i (line ∷ rest) all → all ≡ plain.Bad i
  line_bad table more i line rest a r = sym r.comes ∙ a r.entries r.has (λ es. entries port program (i + 1) es rest) i

  -- all lines are read
  pub all_read : (table : List (List ℕ × S)) (i : ℕ) → IsReading port program table i [] all → (es : List (plain.CertEntry S)) × (all ≡ plain.Reads es) × HasEntries table es
  all_read table i r = (r.entries, sym r.comes, r.has)

  along : (table : List (List ℕ × S)) (i : ℕ) (rest rest' : List (List ℕ)) → rest ≡ rest' → IsReading port program table i rest all → IsReading port program table i rest' all
  along table i rest rest' e r = subst (λ ls. IsReading port program table i ls all) e r

  alone : (part : List ℕ) → 0 < length part → last_line part ≡ part ∷ []
  alone [] h = absurd (omega arith)
  alone (b ∷ rest) h = refl

  -- what is after the last LF
  pub at_end : (table : List (List ℕ × S)) (i : ℕ) (part text : List ℕ) (k : ℕ) → length text ≤ k → IsReading port program table i (lines_from part (drop k text)) all → IsReading port program table i (last_line part) all
  at_end table i part text k h r = along table i (lines_from part (drop k text)) (last_line part) (ap (lines_from part) (drop_all k text h)) r

  -- the rest of the lines, and what is after the last LF
  pub rest_read : (table more : List (List ℕ × S)) (i : ℕ) (part : List ℕ) → 0 < length part → IsAdded port program part table more true → IsReading port program table i (last_line part) all → (es : List (plain.CertEntry S)) × (all ≡ plain.Reads es) × HasEntries more es
  rest_read table more i part h a r = all_read more (i + 1) (line_read table more i part [] a (along table i (last_line part) (part ∷ []) (alone part h) r))

  pub rest_bad : (table more : List (List ℕ × S)) (i : ℕ) (part : List ℕ) → 0 < length part → IsAdded port program part table more false → IsReading port program table i (last_line part) all → all ≡ plain.Bad i
  rest_bad table more i part h a r = line_bad table more i part [] a (along table i (last_line part) (part ∷ []) (alone part h) r)

-- the bytes from a place on
pub drop_byte : (xs : List ℕ) (i : ℕ) → i < length xs → drop i xs ≡ get_or xs i 0 ∷ drop (i + 1) xs
drop_byte xs i h = drop-cons xs i 0 h ∙ ap (λ k. get_or xs i 0 ∷ drop k xs) (sym (add-one i))

module _ {S : Type 0} (port : Portable S) (program : List Routine) where
  -- a byte other than LF goes on with the line
  pub goes_on : (byte : ℕ) (table : List (List ℕ × S)) (i : ℕ) (part longer : List ℕ) → byte ≢ 10 → longer ≡ part ++ byte ∷ [] → GoesOn port program byte table i part table i longer next.More
  goes_on byte table i part longer n e all rest r =
      along port program all table i (lines_from part (byte ∷ rest)) (lines_from longer rest)
      (by_test byte 10 (λ c. (if c then part ∷ whole_lines [] rest else whole_lines (part ++ byte ∷ []) rest) ++ last_line (if c then last_part [] rest else last_part (part ++ byte ∷ []) rest) ≡ lines_from (part ++ byte ∷ []) rest) (λ e. absurd (n e)) (λ n. refl)
      ∙ ap (λ p. lines_from p rest) (sym e))
      r

  pub one_byte : (all : plain.Entries S) (cert : List ℕ) (k : ℕ) (table more : List (List ℕ × S)) (i j : ℕ) (part longer : List ℕ) → k < length cert → GoesOn port program (get_or cert k 0) table i part more j longer next.More → IsReading port program table i (lines_from part (drop k cert)) all → IsReading port program more j (lines_from longer (drop (k + 1) cert)) all
  one_byte all cert k table more i j part longer h g r = g all (drop (k + 1) cert) (along port program all table i (lines_from part (drop k cert)) (lines_from part (get_or cert k 0 ∷ drop (k + 1) cert)) (ap (lines_from part) (drop_byte cert k h)) r)

  pub bad_byte : (all : plain.Entries S) (cert : List ℕ) (k : ℕ) (table more : List (List ℕ × S)) (i j : ℕ) (part longer : List ℕ) → k < length cert → GoesOn port program (get_or cert k 0) table i part more j longer next.Bad → IsReading port program table i (lines_from part (drop k cert)) all → all ≡ plain.Bad j
  bad_byte all cert k table more i j part longer h g r = g all (drop (k + 1) cert) (along port program all table i (lines_from part (drop k cert)) (lines_from part (get_or cert k 0 ∷ drop (k + 1) cert)) (ap (lines_from part) (drop_byte cert k h)) r)

  pub last_read : {E : Type 0} (x : Result (Lines S) E) (all : plain.Entries S) (cert : List ℕ) (k : ℕ) (table : List (List ℕ × S)) (i : ℕ) (part line : List ℕ) → length cert ≤ k → line ≡ part → IsReading port program table i (lines_from part (drop k cert)) all → IfOk x (λ y. (all : plain.Entries S) → IsReading port program table i (last_line line) all → IsRead all y) → IfOk x (IsRead all)
  last_read (Err error) all cert k table i part line h e r f = f
  last_read (Ok y) all cert k table i part line h e r f = f all (subst (λ l. IsReading port program table i (last_line l) all) (sym e) (at_end port program all table i part cert k h r))
