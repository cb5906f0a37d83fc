-- Chains to procedures, and what call strings select. A chain has its last call site first.
use Rattle.std.specs.Prelude.{ℕ, zero, suc, ◌==◌, List, [], ◌∷◌, ◌++◌, length, map, reverse, Option, Some, None, Bool, true, false, if◌then◌else◌}
use Rattle.std.specs.Str.{bytes_eq}
use Rattle.imp_slots.specs.Plain.{Code, Stop, Simple, If, While, Call, Break, Routine, code_numbers}

-- the calls of procedure p in a block, in the order of the text
abbrev pub calls_to : (p : ℕ) → Code → List ℕ
calls_to p Stop = []
calls_to p (Simple n e r) = calls_to p r
calls_to p (If n g t e r) = calls_to p t ++ (calls_to p e ++ calls_to p r)
calls_to p (While n g b r) = calls_to p b ++ calls_to p r
calls_to p (Call n i q r) = if p == q then n ∷ calls_to p r else calls_to p r
calls_to p (Break n r) = calls_to p r

-- for each call in order, the chains of its procedure, with the call after them
abbrev pub extended : List (List ℕ) → List ℕ → List (List ℕ)
extended zs [] = []
extended zs (n ∷ ns) = map (λ z. n ∷ z) zs ++ extended zs ns

-- the chains to p through its calls in these procedures, the first of which is the k-th
abbrev pub through : (chains_of : ℕ → List (List ℕ)) → (k : ℕ) → List Routine → (p : ℕ) → List (List ℕ)
through chains_of k [] p = []
through chains_of k (r ∷ rs) p = extended (chains_of k) (calls_to p r.code) ++ through chains_of (suc k) rs p

-- the chains of fewer than that many call sites from main, the last procedure, to p, in order
abbrev pub chains_within : ℕ → List Routine → (p : ℕ) → List (List ℕ)
chains_within zero program p = []
chains_within (suc most) program p = if suc p == length program then [] ∷ [] else through (chains_within most program) 0 program p

-- The chains to procedure p. Each procedure calls earlier ones, so there are fewer call sites than procedures.
abbrev pub chains : List Routine → (p : ℕ) → List (List ℕ)
chains program p = chains_within (length program) program p

-- whether a chain ends in this list, both with the last call site first
abbrev pub ends_in : List ℕ → List ℕ → Bool
ends_in [] z = true
ends_in (k ∷ s) [] = false
ends_in (k ∷ s) (n ∷ z) = if k == n then ends_in s z else false

abbrev pub ending_in : List ℕ → List (List ℕ) → List (List ℕ)
ending_in s [] = []
ending_in s (z ∷ zs) = if ends_in s z then z ∷ ending_in s zs else ending_in s zs

-- the chains to p that a call string selects, which has the outermost call first
abbrev pub selected : List Routine → (p : ℕ) → (string : List ℕ) → List (List ℕ)
selected program p string = ending_in (reverse string) (chains program p)

-- The place of the first procedure, from the k-th on, that has a statement of this number.
abbrev pub has : ℕ → List ℕ → Bool
has n [] = false
has n (k ∷ ks) = if n == k then true else has n ks

abbrev pub holder_from : (n k : ℕ) → List Routine → Option ℕ
holder_from n k [] = None
holder_from n k (r ∷ rs) = if has n (code_numbers r.code) then Some k else holder_from n (suc k) rs

abbrev pub holder : (n : ℕ) → List Routine → Option ℕ
holder n program = holder_from n 0 program

-- the place of the first procedure, from the k-th on, of this name
abbrev pub named_from : List ℕ → (k : ℕ) → List Routine → Option ℕ
named_from x k [] = None
named_from x k (r ∷ rs) = if bytes_eq x r.name then Some k else named_from x (suc k) rs

abbrev pub named : List ℕ → List Routine → Option ℕ
named x program = named_from x 0 program

-- whether a block has a while of this number
abbrev pub has_while : ℕ → Code → Bool
has_while n Stop = false
has_while n (Simple m e r) = has_while n r
has_while n (If m g t e r) = if has_while n t then true else if has_while n e then true else has_while n r
has_while n (While m g b r) = if n == m then true else if has_while n b then true else has_while n r
has_while n (Call m i q r) = has_while n r
has_while n (Break m r) = has_while n r

abbrev pub is_while : ℕ → List Routine → Bool
is_while n [] = false
is_while n (r ∷ rs) = if has_while n r.code then true else is_while n rs
