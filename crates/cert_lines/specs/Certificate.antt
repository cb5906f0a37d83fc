-- The certificate of a program: a line for each loop under each chain.
use Rattle.std.specs.Prelude.{ℕ, suc, List, [], ◌∷◌, ◌++◌, map, reverse, Option, Some, None, codes}
use Rattle.imp_syntax.specs.declared.edit.Location.TheVariants.{Head}
use Rattle.serde_json.specs.Data.{Data, string}
use Rattle.serde_json.specs.Written.{compact_text}
use Rattle.request_json.specs.Replies.{object_of, count, list_of}
use Rattle.imp_slots.specs.Plain.{Routine}
use Rattle.imp_chains.specs.Chains.{chains}
use Rattle.domain_laws.specs.Operations.{Operations}
use Rattle.batch_meaning.specs.Values.{Value, State, Over}
use Rattle.batch_meaning.specs.Batch.{LoopOptions}
use Rattle.batch_meaning.specs.Places.{value_at}
use Rattle.cert_meaning.specs.Portable.{Portable}
use Rattle.cert_meaning.specs.Written.{loops}

-- each of these loops under a chain, then those under the other chains
abbrev pub under : (loops : List ℕ) → List (List ℕ) → List (List ℕ × ℕ)
under ns [] = []
under ns (z ∷ zs) = map (λ n. (z, n)) ns ++ under ns zs

-- the loops of procedures under their chains; the first of the procedures is the k-th
abbrev pub loops_from : List Routine → (k : ℕ) → List Routine → List (List ℕ × ℕ)
loops_from program k [] = []
loops_from program k (r ∷ rs) = under (loops r.code) (chains program k) ++ loops_from program (suc k) rs

-- the loops of a program under the chains of their procedures, in the order of the text
abbrev pub all_loops : List Routine → List (List ℕ × ℕ)
all_loops program = loops_from program 0 program

-- Lines, or the first Over.
pub data Certificate : Type 0 where
  Lines : List Data → Certificate
  Gives : (n : ℕ) → (z : List ℕ) → Certificate

abbrev pub in_front : Data → Certificate → Certificate
in_front d (Lines ds) = Lines (d ∷ ds)
in_front d (Gives n z) = Gives n z

module _ {S : Type 0} (dom : Operations S) (port : Portable S) (engine : LoopOptions) (program : List Routine) where
  -- a loop under a chain, with its state
  abbrev pub state_data : (z : List ℕ) → (n : ℕ) → S → Data
  state_data z n s = object_of ((codes "at", count n) ∷ (codes "chain", list_of count (reverse z)) ∷ (codes "state", string (port.put s)) ∷ [])

  abbrev pub with_line : (z : List ℕ) → (n : ℕ) → Option (Value S) → Certificate → Certificate
  with_line z n None more = more
  with_line z n (Some (State s)) more = in_front (state_data z n s) more
  with_line z n (Some (Over m y)) more = Gives m y

  abbrev pub certificate_of : List (List ℕ × ℕ) → Certificate
  certificate_of [] = Lines []
  certificate_of (x ∷ xs) = with_line x.0 x.1 (value_at dom engine program (Head x.1) x.0) (certificate_of xs)

  unfoldable pub certificate : Certificate
  certificate = certificate_of (all_loops program)

-- each line, with its LF
abbrev pub lines_text : List Data → List ℕ
lines_text [] = []
lines_text (d ∷ ds) = (compact_text d ++ 10 ∷ []) ++ lines_text ds

abbrev pub certificate_text : Certificate → List ℕ
certificate_text (Lines ds) = lines_text ds
certificate_text (Gives n z) = compact_text (object_of ((codes "chain", list_of count (reverse z)) ∷ (codes "over", count n) ∷ [])) ++ 10 ∷ []
