-- The procedure of a location, or why there is none; which statements are loops.
use Rattle.std.specs.Prelude.{ℕ, Bool, true, false, Result, Ok, Err}
use Rattle.imp_syntax.specs.Plain.{Statement, Simple, Break, Call, If, While}
use Rattle.imp_words.specs.declared.refusal.QueryRefusal.{QueryRefusal}
use Rattle.batch_meaning.specs.Answers.{Found, In, Misses}

abbrev pub found_of : Result ℕ QueryRefusal → Found
found_of (Ok p) = In p
found_of (Err r) = Misses r

-- whether a statement is a loop
abbrev pub is_loop : Statement → Bool
is_loop (Simple n a) = false
is_loop (Break n) = false
is_loop (Call n x g es) = false
is_loop (If n c t e) = false
is_loop (While n c b) = true
