-- The blocks inside a block are smaller.
use Rattle.std.proofs.Common.{ℕ, zero, suc, ◌≡◌, ◌<◌, ◌≤◌, List, [], ◌∷◌, ◌+◌, length, get_or, arith}
use Rattle.imp_slots.specs.Plain.{Code}
use Rattle.imp_slots.specs.Sizes.{code_size}
use Rattle.imp_slots.specs.BlockViews.{before_code, code_of, node_size}
use Rattle.imp_slots.specs.declared.blocks.SlotNode.{SlotNode}
use Rattle.imp_slots.specs.declared.blocks.SlotNode.TheVariants.{Simple, If, While, Call, Break}
use Rattle.imp_slots.specs.declared.blocks.SlotBlock.TheDeep.{deep-SlotNode}
use denote.Param.Weighed.{most}

pub deep_le : (s : SlotNode) (r : Code) → deep-SlotNode s + code_size r ≤ code_size (before_code s r)
deep_le (Simple n a) r = omega arith
deep_le (If n c t e) r = omega arith
deep_le (While n c b) r = omega arith
deep_le (Call n i q) r = omega arith
deep_le (Break n) r = omega arith

pub most_le : (ss : List SlotNode) → most deep-SlotNode ss ≤ code_size (code_of ss)
most_le [] = omega arith
most_le (s ∷ ss) = omega (arith, most_le ss, deep_le s (code_of ss))

-- A statement of a block is no larger than the block, by the size that counts the blocks inside it. So a recursion over
-- blocks and statements ends, by the measures `code_size block + 1` and `node_size statement`.
code_size-before : (s : SlotNode) (r : Code) → code_size (before_code s r) ≡ node_size s + code_size r
code_size-before (Simple n a) r = omega arith
code_size-before (If n c t e) r = omega arith
code_size-before (While n c b) r = omega arith
code_size-before (Call n i q) r = omega arith
code_size-before (Break n) r = omega arith

pub node_falls : (ss : List SlotNode) (i : ℕ) (s : SlotNode) → i < length ss → s ≡ get_or ss i s → node_size s ≤ code_size (code_of ss)
node_falls [] i s h e = absurd (omega arith)
node_falls (x ∷ ss) zero s h e = rw e (omega (arith, code_size-before x (code_of ss)))
node_falls (x ∷ ss) (suc i) s h e = omega (arith, code_size-before x (code_of ss), node_falls ss i s (omega arith) e)
