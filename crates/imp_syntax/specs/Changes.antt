-- Programs with one change.
use Rattle.std.specs.Prelude.{ℕ, ◌++◌, take, drop}
use Rattle.imp_syntax.specs.Plain.{Condition, Statement, Simple, Break, Call, If, While, Statements, block_of, statements_of}

-- the statement under another number
abbrev pub with_number : Statement → ℕ → Statement
with_number (Simple n a) m = Simple m a
with_number (Break n) m = Break m
with_number (Call n x f es) m = Call m x f es
with_number (If n c t e) m = If m c t e
with_number (While n c b) m = While m c b

-- an if or while with another condition, or the statement as it is
abbrev pub with_condition : Statement → Condition → Statement
with_condition (Simple n a) d = Simple n a
with_condition (Break n) d = Break n
with_condition (Call n x f es) d = Call n x f es
with_condition (If n c t e) d = If n d t e
with_condition (While n c b) d = While n d b

-- an if with another first or second block, a while with another body, or the statement as it is
abbrev pub with_then : Statement → Statements → Statement
with_then (Simple n a) u = Simple n a
with_then (Break n) u = Break n
with_then (Call n x f es) u = Call n x f es
with_then (If n c t e) u = If n c u e
with_then (While n c b) u = While n c b

abbrev pub with_else : Statement → Statements → Statement
with_else (Simple n a) u = Simple n a
with_else (Break n) u = Break n
with_else (Call n x f es) u = Call n x f es
with_else (If n c t e) u = If n c t u
with_else (While n c b) u = While n c b

abbrev pub with_body : Statement → Statements → Statement
with_body (Simple n a) u = Simple n a
with_body (Break n) u = Break n
with_body (Call n x f es) u = Call n x f es
with_body (If n c t e) u = If n c t e
with_body (While n c b) u = While n c u

-- a block with further statements from a place on
abbrev pub inserted : Statements → ℕ → Statements → Statements
inserted b at more = block_of (take at (statements_of b) ++ statements_of more ++ drop at (statements_of b))
