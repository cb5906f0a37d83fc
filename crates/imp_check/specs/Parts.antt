-- A statement without those inside it, and what is told of its blocks.
use Rattle.std.specs.Prelude.{ℕ, List, [], ◌∷◌, ◌++◌, Option, Some, None}
use Rattle.imp_syntax.specs.Plain.{Statement, Simple, Break, Call, If, While, Statements, Ends, Starts, number_of}
use Rattle.imp_check.specs.declared.entry.BlockEnds.{BlockEnds}

-- a statement with its blocks empty
abbrev pub part_of : Statement → Statement
part_of (Simple n a) = Simple n a
part_of (Break n) = Break n
part_of (Call n x g es) = Call n x g es
part_of (If n c t e) = If n c Ends Ends
part_of (While n c b) = While n c Ends

-- the first statement of a block, or else what stands after it; the last one, or else what stands before it
abbrev pub first_or : Statements → Option ℕ → Option ℕ
first_or Ends o = o
first_or (Starts s ss) o = Some (number_of s)

abbrev pub last_or : Statements → Option ℕ → Option ℕ
last_or Ends o = o
last_or (Starts s ss) o = last_or ss (Some (number_of s))

abbrev pub ends_of : Statements → BlockEnds
ends_of b = record { first = first_or b None; last = last_or b None }

abbrev pub no_ends : BlockEnds
no_ends = record { first = None; last = None }

-- the ends of the first block of an if or of the body of a while, and of the second block of an if
abbrev pub first_ends : Statement → BlockEnds
first_ends (Simple n a) = no_ends
first_ends (Break n) = no_ends
first_ends (Call n x g es) = no_ends
first_ends (If n c t e) = ends_of t
first_ends (While n c b) = ends_of b

abbrev pub second_ends : Statement → BlockEnds
second_ends (Simple n a) = no_ends
second_ends (Break n) = no_ends
second_ends (Call n x g es) = no_ends
second_ends (If n c t e) = ends_of e
second_ends (While n c b) = no_ends

-- the breaks that leave the loop around a block, in the order of the text
abbrev mutual
  pub leaving_in : Statement → List ℕ
  leaving_in (Simple n a) = []
  leaving_in (Break n) = n ∷ []
  leaving_in (Call n x g es) = []
  leaving_in (If n c t e) = leaving t ++ leaving e
  leaving_in (While n c b) = []

  pub leaving : Statements → List ℕ
  leaving Ends = []
  leaving (Starts s ss) = leaving_in s ++ leaving ss

-- the breaks that leave a while
abbrev pub breaks_of : Statement → List ℕ
breaks_of (Simple n a) = []
breaks_of (Break n) = []
breaks_of (Call n x g es) = []
breaks_of (If n c t e) = []
breaks_of (While n c b) = leaving b
