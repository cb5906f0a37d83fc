-- Programs with their statements numbered anew, in the order of the text.
use Rattle.std.specs.Prelude.{ℕ, zero, suc, ◌+◌, List, [], ◌∷◌}
use Rattle.imp_syntax.specs.Plain.{Statement, Simple, Break, Call, If, While, Statements, Ends, Starts, Procedure}

-- how many statements, with all inside them
abbrev mutual
  pub count_in : Statement → ℕ
  count_in (Simple n a) = 1
  count_in (Break n) = 1
  count_in (Call n x f es) = 1
  count_in (If n c t e) = 1 + count t + count e
  count_in (While n c b) = 1 + count b

  pub count : Statements → ℕ
  count Ends = 0
  count (Starts s ss) = count_in s + count ss

-- numbered from n on: a statement before those inside it, and these before those after it
abbrev mutual
  pub statement_from : ℕ → Statement → Statement
  statement_from n (Simple m a) = Simple n a
  statement_from n (Break m) = Break n
  statement_from n (Call m x f es) = Call n x f es
  statement_from n (If m c t e) = If n c (block_from (n + 1) t) (block_from (n + 1 + count t) e)
  statement_from n (While m c b) = While n c (block_from (n + 1) b)

  pub block_from : ℕ → Statements → Statements
  block_from n Ends = Ends
  block_from n (Starts s ss) = Starts (statement_from n s) (block_from (n + count_in s) ss)

abbrev pub procedures_from : ℕ → List Procedure → List Procedure
procedures_from n [] = []
procedures_from n (p ∷ ps) = record p { body = block_from n p.body } ∷ procedures_from (n + count p.body) ps

-- numbered 1, 2, .. in the order of the text
abbrev pub renumbered : List Procedure → List Procedure
renumbered ps = procedures_from 1 ps

-- so many numbers, one after the other from n on
abbrev pub counting : ℕ → ℕ → List ℕ
counting n zero = []
counting n (suc k) = n ∷ counting (n + 1) k

-- how many statements a program has
abbrev pub program_count : List Procedure → ℕ
program_count [] = 0
program_count (p ∷ ps) = count p.body + program_count ps

-- the tree without its numbers: each is 0
abbrev mutual
  pub bare_statement : Statement → Statement
  bare_statement (Simple n a) = Simple 0 a
  bare_statement (Break n) = Break 0
  bare_statement (Call n x f es) = Call 0 x f es
  bare_statement (If n c t e) = If 0 c (bare_block t) (bare_block e)
  bare_statement (While n c b) = While 0 c (bare_block b)

  pub bare_block : Statements → Statements
  bare_block Ends = Ends
  bare_block (Starts s ss) = Starts (bare_statement s) (bare_block ss)

abbrev pub bare : List Procedure → List Procedure
bare [] = []
bare (p ∷ ps) = record p { body = bare_block p.body } ∷ bare ps
