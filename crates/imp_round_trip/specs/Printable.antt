-- Programs whose printed text is read back.
use Rattle.std.specs.Prelude.{◌≡◌, ℕ, ◌+◌, ◌<◌, ◌≤◌, true, List, [], ◌∷◌, Option, Some, None}
use Rattle.imp_lex.specs.declared.token.TokenKind.{TokenKind}
use Rattle.base_values.specs.Numbers.{greatest}
use Rattle.imp_lex.specs.Names.{is_name}
use Rattle.imp_syntax.specs.Plain as plain
use Rattle.imp_syntax.specs.Plain.{Expression, Literal, Variable, Length, Negative, Binary, Operand, Null, Value, Condition, Compare, Not, And, Or, Statement, Simple, Break, Call, If, While, Statements, Ends, Starts, Procedure}
use Rattle.imp_syntax.specs.declared.words.Declaration.{Declaration}
use Rattle.imp_parse.specs.Grammar.{IsExpression, IsCondition}
use Rattle.imp_parse.specs.Limits.{most, inside}
use Rattle.imp_parse.specs.Answer.{Fits}

-- ---- names and numbers

-- a name of the language
abbrev pub IsNamed : List ℕ → Type 0
IsNamed x = is_name x ≡ true

-- the names and numbers of an expression are the language's
abbrev pub HasWords : Expression → Type 0
HasWords (Literal n) = n ≤ greatest
HasWords (Variable x) = IsNamed x
HasWords (Length x) = IsNamed x
HasWords (Negative e) = HasWords e
HasWords (Binary op a b) = HasWords a × HasWords b

abbrev pub HasSideWords : Operand → Type 0
HasSideWords Null = Unit {0}
HasSideWords (Value e) = HasWords e

abbrev pub HasConditionWords : Condition → Type 0
HasConditionWords (Compare r a b) = HasSideWords a × HasSideWords b
HasConditionWords (Not c) = HasConditionWords c
HasConditionWords (And c d) = HasConditionWords c × HasConditionWords d
HasConditionWords (Or c d) = HasConditionWords c × HasConditionWords d

-- ---- trees of texts within the budget

-- some tokens within the budget of operators spell it, and its words are the language's
pub record IsExpressionOfText (e : Expression) : Type 0 where
  pub words : HasWords e
  pub tokens : List TokenKind
  pub spelled : IsExpression tokens e
  pub fits : Fits inside tokens

pub record IsConditionOfText (c : Condition) : Type 0 where
  pub words : HasConditionWords c
  pub tokens : List TokenKind
  pub spelled : IsCondition tokens c
  pub fits : Fits inside tokens

-- null, or such an expression
abbrev pub IsSideOfText : Operand → Type 0
IsSideOfText Null = Unit {0}
IsSideOfText (Value e) = IsExpressionOfText e

abbrev pub AreSidesOfText : List Operand → Type 0
AreSidesOfText [] = Unit {0}
AreSidesOfText (e ∷ es) = IsSideOfText e × AreSidesOfText es

-- ---- statements

abbrev pub IsPrintableAction : plain.Action → Type 0
IsPrintableAction plain.Skip = Unit {0}
IsPrintableAction (plain.Assert c) = IsConditionOfText c
IsPrintableAction (plain.Assign x e) = IsNamed x × IsExpressionOfText e
IsPrintableAction (plain.Input x) = IsNamed x
IsPrintableAction (plain.MakeArray x e) = IsNamed x × IsExpressionOfText e
IsPrintableAction (plain.SetNull x) = IsNamed x
IsPrintableAction (plain.MakeCell x) = IsNamed x
IsPrintableAction (plain.ReadElement x a e) = IsNamed x × IsNamed a × IsExpressionOfText e
IsPrintableAction (plain.ReadNext x q) = IsNamed x × IsNamed q
IsPrintableAction (plain.ReadItem x q) = IsNamed x × IsNamed q
IsPrintableAction (plain.WriteElement a e f) = IsNamed a × IsExpressionOfText e × IsExpressionOfText f
IsPrintableAction (plain.WriteNext p q) = IsNamed p × IsNamed q
IsPrintableAction (plain.WriteItem p e) = IsNamed p × IsExpressionOfText e

abbrev pub IsTargetNamed : Option (List ℕ) → Type 0
IsTargetNamed None = Unit {0}
IsTargetNamed (Some x) = IsNamed x

-- statements at this nesting of blocks, which is at most 32
abbrev mutual
  pub IsPrintableStatement : ℕ → Statement → Type 0
  IsPrintableStatement depth (Simple n a) = IsPrintableAction a
  IsPrintableStatement depth (Break n) = Unit {0}
  IsPrintableStatement depth (Call n x f es) = IsTargetNamed x × IsNamed f × AreSidesOfText es
  IsPrintableStatement depth (If n c t e) = IsConditionOfText c × (depth < most) × IsPrintableBlock (depth + 1) t × IsPrintableBlock (depth + 1) e
  IsPrintableStatement depth (While n c b) = IsConditionOfText c × (depth < most) × IsPrintableBlock (depth + 1) b

  pub IsPrintableBlock : ℕ → Statements → Type 0
  IsPrintableBlock depth Ends = Unit {0}
  IsPrintableBlock depth (Starts s ss) = IsPrintableStatement depth s × IsPrintableBlock depth ss

-- ---- programs

abbrev pub AreDeclarationsNamed : List Declaration → Type 0
AreDeclarationsNamed [] = Unit {0}
AreDeclarationsNamed (d ∷ ds) = IsNamed d.name × AreDeclarationsNamed ds

abbrev pub IsOutcomeNamed : Option Declaration → Type 0
IsOutcomeNamed None = Unit {0}
IsOutcomeNamed (Some d) = IsNamed d.name

pub record IsPrintableProcedure (p : Procedure) : Type 0 where
  pub name : IsNamed p.name
  pub parameters : AreDeclarationsNamed p.parameters
  pub outcome : IsOutcomeNamed p.outcome
  pub locals : AreDeclarationsNamed p.locals
  pub body : IsPrintableBlock 0 p.body

abbrev pub ArePrintable : List Procedure → Type 0
ArePrintable [] = Unit {0}
ArePrintable (p ∷ ps) = IsPrintableProcedure p × ArePrintable ps

-- a procedure at least; names and numbers of the language; expressions and conditions of texts within the budget; nesting at most 32
abbrev pub IsPrintable : List Procedure → Type 0
IsPrintable [] = ⊥
IsPrintable (p ∷ ps) = IsPrintableProcedure p × ArePrintable ps
