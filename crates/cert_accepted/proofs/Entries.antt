-- What is read of the lines of a certificate.
use Rattle.std.specs.Prelude.{◌≡◌, ◌≢◌, ◌<◌, ◌≤◌, ◌^◌, ◌+◌, ◌==◌, ◌&&◌, ℕ, List, [], ◌∷◌, ◌++◌, map, length, Option, Some, None, true, if◌then◌else◌}
use Rattle.std.specs.Str.{bytes_eq}
use Rattle.std.proofs.Common.{refl, sym, ap, ◌∙◌, subst, arith}
use Rattle.std.proofs.lemmas.Bool.{and_parts, and_from}
use Rattle.std.proofs.lemmas.Bool.Decides.{nat_tests}
use Rattle.std.proofs.lemmas.List.{length-append}
use Rattle.std.proofs.lemmas.Slice.Eq.{bytes_eq-Decides}
use Rattle.base_values.proofs.Cases.{by_bool}
use Rattle.base_values.proofs.Members.{Member, here, there, Each, none_there, each_more}
use Rattle.imp_syntax.specs.declared.edit.Location.TheVariants.{Head}
use Rattle.imp_slots.specs.Plain.{Routine}
use Rattle.imp_slots.specs.Fits.{Distinct}
use Rattle.imp_slots.proofs.Distinct.{not_in}
use Rattle.serde_json.specs.Data.{Data}
use Rattle.serde_json.specs.Written.{compact_text}
use Rattle.domain_laws.specs.Operations.{Operations}
use Rattle.batch_meaning.specs.Values.{Value, State, Over}
use Rattle.batch_meaning.specs.Batch.{LoopOptions}
use Rattle.batch_meaning.specs.Places.{value_at}
use Rattle.cert_meaning.specs.Portable.{Portable}
use Rattle.cert_meaning.specs.Written.{state_in}
use Rattle.cert_lines.specs.Certificate.{Certificate, Lines, Gives, in_front, state_data, with_line, certificate_of, lines_text}
use Rattle.cert_lines.specs.Lines.{CertEntry, written_in, Entries, Reads, Bad, unless_there, with_entry, entry_of, entries}

-- ---- what is written of a loop and call sites

module _ {S : Type 0} (e : CertEntry S) (es : List (CertEntry S)) where
  written_first : written_in (e ∷ es) e.sites e.at ≡ Some e.state
  written_first =
      let at : (e.at == e.at) ≡ true = grind (arith, nat_tests) in
      ap (λ c. if c then Some e.state else written_in es e.sites e.at) (and_from (e.at == e.at) (bytes_eq e.sites e.sites) at ((bytes_eq-Decides e.sites e.sites).1 refl))

  -- another loop, or other call sites
  written_later : (x : List ℕ × ℕ) → x ≢ (e.sites, e.at) → written_in (e ∷ es) x.0 x.1 ≡ written_in es x.0 x.1
  written_later x other =
      by_bool (x.1 == e.at && bytes_eq x.0 e.sites)
      (λ b.
      let p = and_parts (x.1 == e.at) (bytes_eq x.0 e.sites) b in
      let at : x.1 ≡ e.at = grind (arith, nat_tests, p.0) in
      let sites : x.0 ≡ e.sites = (bytes_eq-Decides x.0 e.sites).0 p.1 in
      absurd (other (λ i. (sites i, at i))))
      (λ b. ap (λ c. if c then Some e.state else written_in es x.0 x.1) b)

module _ {S : Type 0} (dom : Operations S) (port : Portable S) (engine : LoopOptions) (program : List Routine) where
  -- the value at the head of a loop under call sites, and the line and the entry of a state there
  abbrev pub value_of : List ℕ × ℕ → Option (Value S)
  value_of x = value_at dom engine program (Head x.1) x.0

  abbrev pub line_with : List ℕ × ℕ → S → Data
  line_with x s = state_data dom port engine program x.0 x.1 s

  abbrev pub entry_with : List ℕ × ℕ → S → CertEntry S
  entry_with x s = record { at = x.1; sites = x.0; state = s }

  -- ---- certificates that are lines

  in_front_lines : (d : Data) (more : Certificate) (ds : List Data) → in_front d more ≡ Lines ds → (rest : List Data) × (more ≡ Lines rest) × (ds ≡ d ∷ rest)
  in_front_lines d (Lines rest) ds e = (rest, refl, cc)
  in_front_lines d (Gives n z) ds e = absurd cc

  -- the loop has no value, or a state, which has the first line
  data Splits (x : List ℕ × ℕ) (o : Option (Value S)) (more : Certificate) (ds : List Data) : Type 0 where
    no_line : o ≡ None → more ≡ Lines ds → Splits x o more ds
    a_line : (s : S) (rest : List Data) → o ≡ Some (State s) → more ≡ Lines rest → ds ≡ line_with x s ∷ rest → Splits x o more ds

  splits : (x : List ℕ × ℕ) (o : Option (Value S)) (more : Certificate) (ds : List Data) → with_line dom port engine program x.0 x.1 o more ≡ Lines ds → Splits x o more ds
  splits x None more ds e = no_line refl e
  splits x (Some (State s)) more ds e = let k = in_front_lines (line_with x s) more ds e in a_line s k.0 refl k.1 k.2
  splits x (Some (Over m y)) more ds e = absurd cc

  -- no loop has an Over
  pub no_over : (xs : List (List ℕ × ℕ)) (ds : List Data) → certificate_of dom port engine program xs ≡ Lines ds → (x : List ℕ × ℕ) → Member x xs → (m : ℕ) (y : List ℕ) → value_of x ≡ Some (Over m y) → ⊥
  no_over [] ds e x i m y v = elim i [ ]
  no_over (x ∷ xs) ds e _ here m y v = by (splits x (value_of x) (certificate_of dom port engine program xs) ds e)
    where
      by : Splits x (value_of x) (certificate_of dom port engine program xs) ds → ⊥
      by (no_line o more) = let i : None ≡ Some (Over m y) = sym o ∙ v in absurd cc
      by (a_line s rest o more is) = let i : Some (State s) ≡ Some (Over m y) = sym o ∙ v in absurd cc
  no_over (x ∷ xs) ds e z (there i) m y v =
      by (splits x (value_of x) (certificate_of dom port engine program xs) ds e) (λ ds k. no_over xs ds k z i m y v)
    where
      by : Splits x (value_of x) (certificate_of dom port engine program xs) ds → ((ds : List Data) → certificate_of dom port engine program xs ≡ Lines ds → ⊥) → ⊥
      by (no_line o more) go = go ds more
      by (a_line s rest o more is) go = go rest more

  -- what holds of the line of each state holds of each line
  pub each_line : (P : Data → Type 0) (xs : List (List ℕ × ℕ)) (ds : List Data) → certificate_of dom port engine program xs ≡ Lines ds → ((x : List ℕ × ℕ) → Member x xs → (s : S) → value_of x ≡ Some (State s) → P (line_with x s)) → Each P ds
  each_line P [] ds e f = let i : [] ≡ ds = cc in subst (Each P) i (none_there P)
  each_line P (x ∷ xs) ds e f =
      by (splits x (value_of x) (certificate_of dom port engine program xs) ds e) (λ ds k. each_line P xs ds k (λ y m. f y (there m)))
    where
      by : Splits x (value_of x) (certificate_of dom port engine program xs) ds → ((ds : List Data) → certificate_of dom port engine program xs ≡ Lines ds → Each P ds) → Each P ds
      by (no_line o more) go = go ds more
      by (a_line s rest o more is) go = subst (Each P) (sym is) (each_more P (line_with x s) rest (f x here s o) (go rest more))

  -- ---- what the lines come to

  -- the line of a state that is short enough is no bad one, and says what was written
  abbrev pub IsReadBack : List ℕ × ℕ → Type 0
  IsReadBack x = (s : S) → value_of x ≡ Some (State s) → length (port.put s) < 2 ^ 64 → entry_of port program (compact_text (line_with x s)) ≡ Some (entry_with x s)

  -- nothing is written of it yet
  abbrev IsNew : List (CertEntry S) → List ℕ × ℕ → Type 0
  IsNew done x = written_in done x.0 x.1 ≡ None

  -- The lines of these loops, after entries of others, come to entries with the states of these loops.
  pub record Come (xs : List (List ℕ × ℕ)) (i : ℕ) (done : List (CertEntry S)) (ds : List Data) : Type 0 where
    pub told : List (CertEntry S)
    pub reads : entries port program i done (map compact_text ds) ≡ Reads told
    pub has : (x : List ℕ × ℕ) → Member x xs → written_in told x.0 x.1 ≡ state_in (value_of x)
    pub keeps : (x : List ℕ × ℕ) → (Member x xs → ⊥) → written_in told x.0 x.1 ≡ written_in done x.0 x.1

  module _ (x : List ℕ × ℕ) (xs : List (List ℕ × ℕ)) (i : ℕ) (done : List (CertEntry S)) (ds : List Data) (new : IsNew done x) (other : Member x xs → ⊥) where
    -- the first loop has no value
    passed : value_of x ≡ None → Come xs i done ds → Come (x ∷ xs) i done ds
    passed o c = record { told = c.told; reads = c.reads; has = has; keeps = λ y h. c.keeps y (λ m. h (there m)) }
      where
        has : (y : List ℕ × ℕ) → Member y (x ∷ xs) → written_in c.told y.0 y.1 ≡ state_in (value_of y)
        has _ here = c.keeps x other ∙ new ∙ sym (ap state_in o)
        has y (there m) = c.has y m

    -- the first loop has a state
    added : (s : S) (rest : List Data) → value_of x ≡ Some (State s) → ds ≡ line_with x s ∷ rest → entry_of port program (compact_text (line_with x s)) ≡ Some (entry_with x s) → Come xs (i + 1) (entry_with x s ∷ done) rest → Come (x ∷ xs) i done ds
    added s rest o is back c = record { told = c.told; reads = reads; has = has; keeps = keeps }
      where
        go : List (CertEntry S) → Entries S
        go es = entries port program (i + 1) es (map compact_text rest)

        reads : entries port program i done (map compact_text ds) ≡ Reads c.told
        reads =
            ap (λ ds. entries port program i done (map compact_text ds)) is ∙ ap (λ o. with_entry i done o go) back ∙
            ap (λ o. unless_there o (Bad i) (go (entry_with x s ∷ done))) new ∙ c.reads

        has : (y : List ℕ × ℕ) → Member y (x ∷ xs) → written_in c.told y.0 y.1 ≡ state_in (value_of y)
        has _ here = c.keeps x other ∙ written_first (entry_with x s) done ∙ sym (ap state_in o)
        has y (there m) = c.has y m

        keeps : (y : List ℕ × ℕ) → (Member y (x ∷ xs) → ⊥) → written_in c.told y.0 y.1 ≡ written_in done y.0 y.1
        keeps y h = c.keeps y (λ m. h (there m)) ∙ written_later (entry_with x s) done y (λ e. h (subst (λ z. Member z (x ∷ xs)) (sym e) here))

  -- a line's text is in the text of all
  line_short : (x : List ℕ × ℕ) (s : S) (ds rest : List Data) → ds ≡ line_with x s ∷ rest → length (lines_text ds) < 2 ^ 64 → (length (compact_text (line_with x s)) < 2 ^ 64) × (length (lines_text rest) < 2 ^ 64)
  line_short x s ds rest is h =
      let t = compact_text (line_with x s) in
      let all : length (lines_text ds) ≡ length ((t ++ 10 ∷ []) ++ lines_text rest) = ap (λ ds. length (lines_text ds)) is in
      let a : length ((t ++ 10 ∷ []) ++ lines_text rest) ≡ length (t ++ 10 ∷ []) + length (lines_text rest) = length-append (t ++ 10 ∷ []) (lines_text rest) in
      let b : length (t ++ 10 ∷ []) ≡ length t + 1 = length-append t (10 ∷ []) in
      (omega arith, omega arith)

  pub come : (longer : (x : List ℕ × ℕ) (s : S) → length (port.put s) ≤ length (compact_text (line_with x s))) (xs : List (List ℕ × ℕ)) (i : ℕ) (done : List (CertEntry S)) (ds : List Data) → certificate_of dom port engine program xs ≡ Lines ds → length (lines_text ds) < 2 ^ 64 → Each IsReadBack xs → Distinct xs → Each (IsNew done) xs → Come xs i done ds
  come longer [] i done ds e short back once new = record {
    told = done;
    reads = let none : ds ≡ [] = cc in ap (λ ds. entries port program i done (map compact_text ds)) none;
    has = λ x m. elim m [ ];
    keeps = λ x h. refl;
  }
  come longer (x ∷ xs) i done ds e short back once new =
      by (splits x (value_of x) (certificate_of dom port engine program xs) ds e)
      (λ j done ds k h n. come longer xs j done ds k h (record { at = λ y m. back.at y (there m) }) once.1 n)
    where
      other : Member x xs → ⊥
      other m = not_in x xs once.0 m

      by : Splits x (value_of x) (certificate_of dom port engine program xs) ds → ((j : ℕ) (done : List (CertEntry S)) (ds : List Data) → certificate_of dom port engine program xs ≡ Lines ds → length (lines_text ds) < 2 ^ 64 → Each (IsNew done) xs → Come xs j done ds) → Come (x ∷ xs) i done ds
      by (no_line o more) go = passed x xs i done ds (new.at x here) other o (go i done ds more short (record { at = λ y m. new.at y (there m) }))
      by (a_line s rest o more is) go =
          let k = line_short x s ds rest is short in
          let small : length (port.put s) < 2 ^ 64 = omega (arith, longer x s, k.0) in
          added x xs i done ds (new.at x here) other s rest o is (back.at x here s o small)
          (go (i + 1) (entry_with x s ∷ done) rest more k.1
          (record { at = λ y m. written_later (entry_with x s) done y (λ e. other (subst (λ z. Member z xs) e m)) ∙ new.at y (there m) }))
