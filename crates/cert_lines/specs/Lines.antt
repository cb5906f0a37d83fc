-- The lines of a certificate.
use Rattle.std.specs.Prelude.{ℕ, ◌==◌, ◌+◌, ◌&&◌, nat_le, List, [], ◌∷◌, length, reverse, Option, Some, None, Bool, true, false, option_and_then, option_map, codes, if◌then◌else◌}
use Rattle.std.specs.Str.{bytes_eq}
use Rattle.serde_json.specs.Data.{Data}
use Rattle.serde_json.specs.Find.{get}
use Rattle.request_json.specs.Members.{json_of, text_at, number_in, number_at, greatest_id, list_in}
use Rattle.imp_slots.specs.Plain.{Routine}
use Rattle.imp_chains.specs.Chains.{chains, holder, is_while}
use Rattle.cert_meaning.specs.Portable.{Portable}
use Rattle.cert_meaning.specs.Chained.{layouts_around}

-- What a line says: a loop, the call statements of a chain, the outermost first, and the text of a state.
pub record Line : Type 0 where
  pub at : ℕ
  pub chain : List ℕ
  pub state : List ℕ

-- at most 8 calls
abbrev pub short : List ℕ → Option (List ℕ)
short ns = if nat_le (length ns) 8 then Some ns else None

abbrev pub chain_at : Data → Option (List ℕ)
chain_at d = option_and_then short (option_and_then (list_in (number_in greatest_id)) (get (codes "chain") d))

abbrev pub line_in : Data → Option Line
line_in d =
    option_and_then (λ n. option_and_then (λ z. option_map (λ s. record { at = n; chain = z; state = s }) (text_at (codes "state") d)) (chain_at d))
    (number_at greatest_id (codes "at") d)

-- a line that is an object with these members
unfoldable pub line_of : List ℕ → Option Line
line_of bytes = option_and_then line_in (json_of bytes)

-- A state that is written of a loop under call sites, the last first.
pub record CertEntry (S : Type 0) : Type 0 where
  pub at : ℕ
  pub sites : List ℕ
  pub state : S

-- the state of the first entry of the loop with these call sites
abbrev pub written_in : {S : Type 0} → List (CertEntry S) → (z : List ℕ) → (n : ℕ) → Option S
written_in [] z n = None
written_in (e ∷ es) z n = if n == e.at && bytes_eq z e.sites then Some e.state else written_in es z n

abbrev pub is_chain : List ℕ → List (List ℕ) → Bool
is_chain z [] = false
is_chain z (y ∷ ys) = if bytes_eq z y then true else is_chain z ys

-- What reading the lines comes to: the entries, the last one first, or the first bad line, counted from 1.
pub data Entries (S : Type 0) : Type 0 where
  Reads : List (CertEntry S) → Entries S
  Bad : (line : ℕ) → Entries S

abbrev pub unless_there : {S : Type 0} → Option S → Entries S → Entries S → Entries S
unless_there None bad go = go
unless_there (Some s) bad go = bad

-- an entry before those before it, unless there is none, or its loop and call sites have one
abbrev pub with_entry : {S : Type 0} → (line : ℕ) → List (CertEntry S) → Option (CertEntry S) → (List (CertEntry S) → Entries S) → Entries S
with_entry line done None go = Bad line
with_entry line done (Some e) go = unless_there (written_in done e.sites e.at) (Bad line) (go (e ∷ done))

abbrev pub is_chain_to : List Routine → Option ℕ → List ℕ → Bool
is_chain_to program None z = false
is_chain_to program (Some p) z = is_chain z (chains program p)

-- whether n is a loop of the program, and z a chain of its procedure
abbrev pub is_loop_under : List Routine → ℕ → List ℕ → Bool
is_loop_under program n z = is_while n program && is_chain_to program (holder n program) z

module _ {S : Type 0} (port : Portable S) (program : List Routine) where
  abbrev pub entry_in : Line → Option (CertEntry S)
  entry_in l =
      let z = reverse l.chain in
      if is_loop_under program l.at z then option_map (λ s. record { at = l.at; sites = z; state = s }) (port.take (layouts_around program (l.at ∷ z)) l.state) else None

  abbrev pub entry_of : List ℕ → Option (CertEntry S)
  entry_of bytes = option_and_then entry_in (line_of bytes)

  -- the entries of these lines, the first of which is the i-th, after those before them
  abbrev pub entries : (i : ℕ) → List (CertEntry S) → List (List ℕ) → Entries S
  entries i done [] = Reads done
  entries i done (line ∷ lines) = with_entry i done (entry_of line) (λ es. entries (i + 1) es lines)
