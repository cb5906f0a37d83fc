-- What is known at the heads of loops.
use Rattle.std.specs.Prelude.{ℕ, suc, List, [], ◌∷◌, ◌++◌, map, reverse, Option, Some}
use Rattle.imp_syntax.specs.declared.edit.Location.TheVariants.{Head as AtHead}
use Rattle.imp_slots.specs.Plain.{Code, Routine}
use Rattle.imp_chains.specs.Chains.{chains}
use Rattle.domain_laws.specs.Operations.{Operations}
use Rattle.batch_meaning.specs.Values.{Value}
use Rattle.batch_meaning.specs.Batch.{LoopOptions}
use Rattle.batch_meaning.specs.Places.{value_at}
use Rattle.cert_meaning.specs.Written.{loops}
use Rattle.batch_interp.specs.Answered.{value_of}
use Rattle.batch_interp.specs.Frames.{Plan}
use Rattle.batch_interp.specs.Gathered.{Gathering, gathered, within}
use Rattle.batch_interp.specs.declared.heads.LoopHead.{LoopHead}
use Rattle.batch_interp.specs.declared.heads.LoopsUnder.{LoopsUnder}

-- a loop, and the value at its head
abbrev pub loop_value : {S : Type 0} → LoopHead S → ℕ × Value S
loop_value h = (h.stmt, value_of h.value)

-- a loop, and the value at that location
abbrev pub head_told : {S : Type 0} → LoopHead S → ℕ × Option (Value S)
head_told h = (h.stmt, Some (value_of h.value))

-- these loops, each with the value at its head under the call sites z
abbrev pub heads_under : {S : Type 0} → Operations S → LoopOptions → List Routine → (loops : List ℕ) → (z : List ℕ) → List (ℕ × Option (Value S))
heads_under dom engine program ns z = map (λ n. (n, value_at dom engine program (AtHead n) z)) ns

-- the loops of a procedure under one chain to it, which has the last call first
abbrev pub under_told : {S : Type 0} → LoopsUnder S → List ℕ × List (ℕ × Option (Value S))
under_told u = (reverse u.chain, map head_told u.heads)

-- these loops under these chains
abbrev pub told_under : {S : Type 0} → Operations S → LoopOptions → List Routine → (loops : List ℕ) → List (List ℕ) → List (List ℕ × List (ℕ × Option (Value S)))
told_under dom engine program ns zs = map (λ z. (z, heads_under dom engine program ns z)) zs

-- the loops of procedures, the first of which is the k-th, under all chains to them
abbrev pub all_loops_told : {S : Type 0} → Operations S → LoopOptions → List Routine → (k : ℕ) → List Routine → List (List ℕ × List (ℕ × Option (Value S)))
all_loops_told dom engine program k [] = []
all_loops_told dom engine program k (r ∷ rs) = told_under dom engine program (loops r.code) (chains program k) ++ all_loops_told dom engine program (suc k) rs

-- of a loop its number, with the value at its head
abbrev pub of_loops : {S : Type 0} → Gathering S (ℕ × Value S)
of_loops = within (λ e v. []) (λ n v. (n, v) ∷ [])

-- the loops of a block in preorder, each with the value at its head
abbrev pub loop_values : {S : Type 0} → Operations S → Plan → (place : ℕ) → (z : List ℕ) → Code → Value S → List (ℕ × Value S)
loop_values = gathered of_loops
