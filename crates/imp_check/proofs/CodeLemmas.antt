-- Blocks put together from statements.
use Rattle.std.proofs.Common.{ℕ, zero, suc, ◌≤◌, length, drop, sym, ◌∙◌, arith, ◌≡◌, refl, ap, List, [], ◌∷◌, ◌++◌}
use Rattle.imp_syntax.specs.Plain.{Statement, Ends, block_of}
use Rattle.imp_check.specs.Slots.{Resolver, code_in}
use Rattle.imp_slots.specs.Plain.{Code, Stop}
use Rattle.imp_slots.specs.BlockViews.{before_code, code_of}
use Rattle.imp_slots.specs.declared.blocks.SlotNode.{SlotNode}

-- statements with what comes after them
abbrev pub code_then : List SlotNode → Code → Code
code_then [] r = r
code_then (n ∷ ns) r = before_code n (code_then ns r)

pub then_added : (ns : List SlotNode) (n : SlotNode) (r : Code) → code_then (ns ++ n ∷ []) r ≡ code_then ns (before_code n r)
then_added [] n r = refl
then_added (m ∷ ns) n r = ap (before_code m) (then_added ns n r)

pub then_ends : (ns : List SlotNode) → code_then ns Stop ≡ code_of ns
then_ends [] = refl
then_ends (n ∷ ns) = ap (before_code n) (then_ends ns)

nothing_left : (ss : List Statement) (i : ℕ) → length ss ≤ i → block_of (drop i ss) ≡ Ends
nothing_left [] zero h = refl
nothing_left [] (suc i) h = refl
nothing_left (s ∷ ss) zero h = absurd (omega arith)
nothing_left (s ∷ ss) (suc i) h = nothing_left ss i (omega arith)

-- where nothing is to come, the statements are the block
pub code_end : (ns : List SlotNode) (f : Resolver) (ss : List Statement) (i : ℕ) (w : Code) → length ss ≤ i → code_then ns (code_in f (block_of (drop i ss))) ≡ w → code_of ns ≡ w
code_end ns f ss i w h told = sym (then_ends ns) ∙ ap (code_then ns) (sym (ap (code_in f) (nothing_left ss i h))) ∙ told
