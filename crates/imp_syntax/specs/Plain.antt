-- Programs as plain data. A name is the list of its bytes, a number is 0 to 2^63 - 1.
use Rattle.std.specs.Prelude.{ℕ, List, [], ◌∷◌, ◌++◌, ◌+◌, Option}
use Rattle.imp_syntax.specs.declared.words.Declaration.{Declaration}
use Rattle.imp_syntax.specs.declared.words.Operator.{Operator}
use Rattle.imp_syntax.specs.declared.words.Relation.{Relation}

pub data Expression : Type 0 where
  Literal : ℕ → Expression
  Variable : List ℕ → Expression
  Length : List ℕ → Expression
  Negative : Expression → Expression
  Binary : Operator → Expression → Expression → Expression

-- A side of a comparison, or an argument of a call.
pub data Operand : Type 0 where
  Null : Operand
  Value : Expression → Operand

pub data Condition : Type 0 where
  Compare : Relation → Operand → Operand → Condition
  Not : Condition → Condition
  And : Condition → Condition → Condition
  Or : Condition → Condition → Condition

-- What a simple statement does that is neither a call nor a break. The variable that it sets stands first.
pub data Action : Type 0 where
  Skip : Action
  Assert : Condition → Action
  -- x = e, x = input, x = array e, x = null, x = new
  Assign : List ℕ → Expression → Action
  Input : List ℕ → Action
  MakeArray : List ℕ → Expression → Action
  SetNull : List ℕ → Action
  MakeCell : List ℕ → Action
  -- x = a[e], x = q.next, x = q.item
  ReadElement : (x a : List ℕ) → Expression → Action
  ReadNext : (x q : List ℕ) → Action
  ReadItem : (x q : List ℕ) → Action
  -- a[e] = f, p.next = q, p.item = e
  WriteElement : (a : List ℕ) → (e f : Expression) → Action
  WriteNext : (p q : List ℕ) → Action
  WriteItem : (p : List ℕ) → Expression → Action

-- Statements with their numbers, and lists of them.
mutual
  pub data Statement : Type 0 where
    Simple : (n : ℕ) → Action → Statement
    Break : (n : ℕ) → Statement
    -- the variable that takes the result, the callee, the arguments
    Call : (n : ℕ) → Option (List ℕ) → (callee : List ℕ) → List Operand → Statement
    If : (n : ℕ) → Condition → Statements → Statements → Statement
    While : (n : ℕ) → Condition → Statements → Statement

  pub data Statements : Type 0 where
    Ends : Statements
    Starts : Statement → Statements → Statements

pub record Procedure : Type 0 where
  pub name : List ℕ
  pub parameters : List Declaration
  pub outcome : Option Declaration
  pub locals : List Declaration
  pub body : Statements

-- A program is the list of its procedures, in the order of the text.

-- A list of statements as a block, and back.
abbrev pub block_of : List Statement → Statements
block_of [] = Ends
block_of (s ∷ ss) = Starts s (block_of ss)

abbrev pub statements_of : Statements → List Statement
statements_of Ends = []
statements_of (Starts s ss) = s ∷ statements_of ss

-- The number of a statement.
abbrev pub number_of : Statement → ℕ
number_of (Simple n a) = n
number_of (Break n) = n
number_of (Call n x f es) = n
number_of (If n c t e) = n
number_of (While n c b) = n

-- The numbers of statements and all inside them, in the order of the text.
abbrev mutual
  pub numbers_in : Statement → List ℕ
  numbers_in (Simple n a) = n ∷ []
  numbers_in (Break n) = n ∷ []
  numbers_in (Call n x f es) = n ∷ []
  numbers_in (If n c t e) = n ∷ (numbers t ++ numbers e)
  numbers_in (While n c b) = n ∷ numbers b

  pub numbers : Statements → List ℕ
  numbers Ends = []
  numbers (Starts s ss) = numbers_in s ++ numbers ss

-- The numbers of a program, in the order of the text.
abbrev pub program_numbers : List Procedure → List ℕ
program_numbers [] = []
program_numbers (p ∷ ps) = numbers p.body ++ program_numbers ps

-- How large trees are.
abbrev pub expression_size : Expression → ℕ
expression_size (Literal n) = 1
expression_size (Variable x) = 1
expression_size (Length x) = 1
expression_size (Negative e) = expression_size e + 1
expression_size (Binary o a b) = expression_size a + expression_size b + 1

abbrev pub condition_size : Condition → ℕ
condition_size (Compare r a b) = 1
condition_size (Not c) = condition_size c + 1
condition_size (And c d) = condition_size c + condition_size d + 1
condition_size (Or c d) = condition_size c + condition_size d + 1

abbrev mutual
  pub statement_size : Statement → ℕ
  statement_size (Simple n a) = 1
  statement_size (Break n) = 1
  statement_size (Call n x f es) = 1
  statement_size (If n c t e) = block_size t + block_size e + 2
  statement_size (While n c b) = block_size b + 2

  pub block_size : Statements → ℕ
  block_size Ends = 0
  block_size (Starts s ss) = statement_size s + block_size ss + 1
