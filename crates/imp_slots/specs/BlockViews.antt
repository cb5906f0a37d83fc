-- What a list of statements says.
use Rattle.std.specs.Prelude.{ℕ, ◌+◌, List, [], ◌∷◌}
use Rattle.imp_slots.specs.Plain.{Code, Stop}
use Rattle.imp_slots.specs.Plain as plain
use Rattle.imp_slots.specs.Sizes.{code_size}
use Rattle.imp_slots.specs.ActionViews.{effect_of}
use Rattle.imp_slots.specs.declared.blocks.SlotNode.{SlotNode}
use Rattle.imp_slots.specs.declared.blocks.SlotNode.TheVariants.{Simple, If, While, Call, Break}

-- a statement, with what comes after it
abbrev pub before_code : SlotNode → Code → Code
before_code (Simple n a) r = plain.Simple n (effect_of a) r
before_code (If n c t e) r = plain.If n c t e r
before_code (While n c b) r = plain.While n c b r
before_code (Call n i q) r = plain.Call n i q r
before_code (Break n) r = plain.Break n r

abbrev pub code_of : List SlotNode → Code
code_of [] = Stop
code_of (s ∷ ss) = before_code s (code_of ss)

abbrev pub number_of : SlotNode → ℕ
number_of (Simple n a) = n
number_of (If n c t e) = n
number_of (While n c b) = n
number_of (Call n i q) = n
number_of (Break n) = n

-- how large a statement is: more than the blocks inside it, and no more than a block that it stands in
abbrev pub node_size : SlotNode → ℕ
node_size (Simple n a) = 1
node_size (If n c t e) = code_size t + code_size e + 3
node_size (While n c b) = code_size b + 2
node_size (Call n i q) = 1
node_size (Break n) = 1
