-- Checked programs as plain data: variables are slots, callees are places in the program.
use Rattle.std.specs.Prelude.{ℕ, List, [], ◌∷◌, ◌++◌, Option, Bool}
use Rattle.imp_syntax.specs.declared.words.Operator.{Operator}
use Rattle.imp_syntax.specs.declared.words.Relation.{Relation}

-- A slot of a number: an int, or an array, of which domains know the length.
pub record Numeric : Type 0 where
  pub name : List ℕ
  pub is_array : Bool

-- The variables of a procedure: ints and arrays are the numeric slots, list variables the link slots, each counted
-- from 0 in the order of parameters, result, locals.
pub record Layout : Type 0 where
  pub numbers : List Numeric
  pub links : List (List ℕ)

-- An expression over numeric slots: Slot is the int of a slot, Length the length of the array of a slot.
pub data Term : Type 0 where
  Literal : ℕ → Term
  Slot : ℕ → Term
  Length : ℕ → Term
  Negative : Term → Term
  Binary : Operator → Term → Term → Term

-- A condition over slots. A comparison of links is == where `equal`, else !=; None is null.
pub data Guard : Type 0 where
  Compare : Relation → Term → Term → Guard
  CompareLinks : (equal : Bool) → (left right : Option ℕ) → Guard
  Not : Guard → Guard
  And : Guard → Guard → Guard
  Or : Guard → Guard → Guard

-- What a simple statement does that is neither a call nor a break. The slot that it sets stands first.
pub data Effect : Type 0 where
  Skip : Effect
  Assert : Guard → Effect
  -- x = e, x = input, x = a[e], x = q.item
  SetInt : (x : ℕ) → Term → Effect
  Input : (x : ℕ) → Effect
  ReadElement : (x a : ℕ) → Term → Effect
  ReadItem : (x q : ℕ) → Effect
  -- a = array e, a = b, a[e] = f
  MakeArray : (a : ℕ) → Term → Effect
  CopyArray : (a b : ℕ) → Effect
  WriteElement : (a : ℕ) → (e f : Term) → Effect
  -- p = null, p = new, p = q, p = q.next, p.next = q, p.item = e
  SetNull : (p : ℕ) → Effect
  MakeCell : (p : ℕ) → Effect
  CopyLink : (p q : ℕ) → Effect
  ReadNext : (p q : ℕ) → Effect
  WriteNext : (p q : ℕ) → Effect
  WriteItem : (p : ℕ) → Term → Effect

-- What a domain's post is asked of: a break, or a simple statement.
pub data Act : Type 0 where
  DoBreak : Act
  Does : Effect → Act

-- An argument of a call: an int, an array variable, a link.
pub data Argument : Type 0 where
  IntArgument : Term → Argument
  ArrayArgument : (a : ℕ) → Argument
  LinkArgument : Option ℕ → Argument

-- What entering a procedure uses: its layout, and the arguments in the order of its parameters.
pub record Entering : Type 0 where
  pub layout : Layout
  pub arguments : List Argument

-- A result that is taken: from a slot of the callee to a slot of the caller, numeric slots or link slots.
pub data Returning : Type 0 where
  NumericResult : (to from : ℕ) → Returning
  LinkResult : (to from : ℕ) → Returning

-- A call.
pub record Invoke : Type 0 where
  pub entering : Entering
  pub returning : Option Returning

-- A block: its first statement with its number, and what comes after it.
pub data Code : Type 0 where
  Stop : Code
  Simple : (n : ℕ) → Effect → Code → Code
  If : (n : ℕ) → Guard → Code → Code → Code → Code
  While : (n : ℕ) → Guard → Code → Code → Code
  Call : (n : ℕ) → Invoke → (callee : ℕ) → Code → Code
  Break : (n : ℕ) → Code → Code

-- A checked procedure. A checked program is the list of them, in the order of the text.
pub record Routine : Type 0 where
  pub name : List ℕ
  pub layout : Layout
  pub code : Code

-- The statement numbers of a block, in the order of the text.
abbrev pub code_numbers : Code → List ℕ
code_numbers Stop = []
code_numbers (Simple n e r) = n ∷ code_numbers r
code_numbers (If n g t e r) = n ∷ (code_numbers t ++ (code_numbers e ++ code_numbers r))
code_numbers (While n g b r) = n ∷ (code_numbers b ++ code_numbers r)
code_numbers (Call n i q r) = n ∷ code_numbers r
code_numbers (Break n r) = n ∷ code_numbers r
