-- How large trees are.
use Rattle.std.specs.Prelude.{ℕ, ◌+◌}
use Rattle.imp_slots.specs.Plain.{Term, Literal, Slot, Length, Negative, Binary, Guard, Compare, CompareLinks, Not, And, Or, Code, Stop, Simple, If, While, Call, Break}

abbrev pub term_size : Term → ℕ
term_size (Literal n) = 1
term_size (Slot x) = 1
term_size (Length a) = 1
term_size (Negative e) = term_size e + 1
term_size (Binary o e f) = term_size e + term_size f + 1

abbrev pub guard_size : Guard → ℕ
guard_size (Compare r e f) = 1
guard_size (CompareLinks same p q) = 1
guard_size (Not c) = guard_size c + 1
guard_size (And c d) = guard_size c + guard_size d + 1
guard_size (Or c d) = guard_size c + guard_size d + 1

-- each statement counts 1, a block inside one 1 more
abbrev pub code_size : Code → ℕ
code_size Stop = 0
code_size (Simple n e r) = code_size r + 1
code_size (If n g t e r) = code_size t + code_size e + code_size r + 3
code_size (While n g b r) = code_size b + code_size r + 2
code_size (Call n i q r) = code_size r + 1
code_size (Break n r) = code_size r + 1
