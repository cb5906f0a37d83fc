-- The loops of a procedure, by their numbers.
use Rattle.std.specs.Prelude.{ℕ, ◌<◌, ◌≤◌, Bool, false, List, [], ◌∷◌, ◌++◌, length, slice_index, Option, Some, None, map, ◌==◌, ◌&&◌}
use Rattle.imp_slots.specs.Plain.{Code, Stop, Simple, If, While, Call, Break, Routine}
use Rattle.imp_table.specs.declared.change.Put.{Put}
use Rattle.imp_check.specs.declared.entry.Entry.{Entry}
use Rattle.call_contexts.specs.Places.{is_loop}
use Rattle.call_contexts.specs.Tallies.{rising}

-- the loops of a block, in the order of the text
abbrev pub whiles : Code → List ℕ
whiles Stop = []
whiles (Simple n e r) = whiles r
whiles (If n g t e r) = whiles t ++ (whiles e ++ whiles r)
whiles (While n g b r) = n ∷ (whiles b ++ whiles r)
whiles (Call n i q r) = whiles r
whiles (Break n r) = whiles r

-- those of a procedure, their numbers rising
abbrev pub loops : Routine → List ℕ
loops r = rising (whiles r.code)

abbrev pub all_loops : List Routine → List (List ℕ)
all_loops program = map loops program

-- whether this is a loop of the procedure at a place
abbrev pub loop_in : (place : ℕ) → Option Entry → Bool
loop_in k None = false
loop_in k (Some e) = (e.context.proc == k) && is_loop e.part

-- the numbers at which a change takes statements or brings them
abbrev pub put_numbers : List Put → List ℕ
put_numbers puts = map (λ (p : Put). p.number) puts

-- the place of a number that is not among these: lower ones stand before it, and higher ones from it on
pub record IsGap (ns : List ℕ) (n i : ℕ) : Type 0 where
  pub within : i ≤ length ns
  pub before : (k : ℕ) → k < i → slice_index ns k < n
  pub behind : (k : ℕ) → i ≤ k → k < length ns → n < slice_index ns k
