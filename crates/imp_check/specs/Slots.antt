-- Programs with variables as slots and callees as places. Where a name is of nothing, which no checked program has, the slot
-- is the number of slots.
use Rattle.std.specs.Prelude.{ℕ, suc, List, [], ◌∷◌, ◌++◌, Option, Some, None, Bool, true, false, ◌||◌, ◌&&◌, cond, slice_get}
use Rattle.std.specs.Str.{bytes_eq}
use Rattle.imp_syntax.specs.Plain.{Expression, Operand, Condition, Action, Statement, Statements, Procedure}
use Rattle.imp_syntax.specs.Plain as tree
use Rattle.imp_syntax.specs.declared.words.Declaration.{Declaration}
use Rattle.imp_syntax.specs.declared.words.VariableKind.{VariableKind}
use Rattle.imp_syntax.specs.declared.words.VariableKind.TheVariants.{Int, Array, List as OfLinks}
use Rattle.imp_syntax.specs.declared.words.Relation.{Relation}
use Rattle.imp_syntax.specs.declared.words.Relation.TheVariants.{Equal, NotEqual, Less, AtMost, Greater, AtLeast}
use Rattle.imp_slots.specs.Plain.{Numeric, Layout, Term, Guard, Effect, Argument, Returning, Invoke, Code, Routine}
use Rattle.imp_slots.specs.Plain as slot
use Rattle.imp_check.specs.Names.{place_named, variables}

-- the ints and arrays of a procedure, and its lists, each in order
abbrev pub with_numeric : VariableKind → List ℕ → List Numeric → List Numeric
with_numeric Int x ns = record { name = x; is_array = false } ∷ ns
with_numeric Array x ns = record { name = x; is_array = true } ∷ ns
with_numeric OfLinks x ns = ns

abbrev pub with_link : VariableKind → List ℕ → List (List ℕ) → List (List ℕ)
with_link Int x ls = ls
with_link Array x ls = ls
with_link OfLinks x ls = x ∷ ls

abbrev pub numerics : List Declaration → List Numeric
numerics [] = []
numerics (d ∷ ds) = with_numeric d.kind d.name (numerics ds)

abbrev pub links : List Declaration → List (List ℕ)
links [] = []
links (d ∷ ds) = with_link d.kind d.name (links ds)

abbrev pub layout_of : List Declaration → Layout
layout_of ds = record { numbers = numerics ds; links = links ds }

abbrev pub layout_in : Procedure → Layout
layout_in p = layout_of (variables p)

-- the slot of a name among ints and arrays, and among lists
abbrev pub number_slot : List Numeric → List ℕ → ℕ
number_slot [] x = 0
number_slot (n ∷ ns) x = cond (bytes_eq n.name x) 0 (suc (number_slot ns x))

abbrev pub link_slot : List (List ℕ) → List ℕ → ℕ
link_slot [] x = 0
link_slot (l ∷ ls) x = cond (bytes_eq l x) 0 (suc (link_slot ls x))

-- whether a name is of an array, of a list
abbrev pub names_array : List Numeric → List ℕ → Bool
names_array [] x = false
names_array (n ∷ ns) x = cond (bytes_eq n.name x) n.is_array (names_array ns x)

abbrev pub names_link : List (List ℕ) → List ℕ → Bool
names_link [] x = false
names_link (l ∷ ls) x = bytes_eq l x || names_link ls x

abbrev pub number_in : Layout → List ℕ → ℕ
number_in l x = number_slot l.numbers x

abbrev pub link_in : Layout → List ℕ → ℕ
link_in l x = link_slot l.links x

abbrev pub is_array_in : Layout → List ℕ → Bool
is_array_in l x = names_array l.numbers x

abbrev pub is_link_in : Layout → List ℕ → Bool
is_link_in l x = names_link l.links x

abbrev pub term_in : Layout → Expression → Term
term_in l (tree.Literal n) = slot.Literal n
term_in l (tree.Variable x) = slot.Slot (number_in l x)
term_in l (tree.Length x) = slot.Length (number_in l x)
term_in l (tree.Negative e) = slot.Negative (term_in l e)
term_in l (tree.Binary o a b) = slot.Binary o (term_in l a) (term_in l b)

-- whether an expression is a list variable alone
abbrev pub is_link_expression : Layout → Expression → Bool
is_link_expression l (tree.Literal n) = false
is_link_expression l (tree.Variable x) = is_link_in l x
is_link_expression l (tree.Length x) = false
is_link_expression l (tree.Negative e) = false
is_link_expression l (tree.Binary o a b) = false

abbrev pub is_link_operand : Layout → Operand → Bool
is_link_operand l tree.Null = true
is_link_operand l (tree.Value e) = is_link_expression l e

-- the link slot of a variable alone
abbrev pub link_of : Layout → Expression → Option ℕ
link_of l (tree.Literal n) = None
link_of l (tree.Variable x) = Some (link_in l x)
link_of l (tree.Length x) = None
link_of l (tree.Negative e) = None
link_of l (tree.Binary o a b) = None

abbrev pub side_in : Layout → Operand → Option ℕ
side_in l tree.Null = None
side_in l (tree.Value e) = link_of l e

abbrev pub operand_term : Layout → Operand → Term
operand_term l tree.Null = slot.Literal 0
operand_term l (tree.Value e) = term_in l e

abbrev pub is_equal : Relation → Bool
is_equal Equal = true
is_equal NotEqual = false
is_equal Less = false
is_equal AtMost = false
is_equal Greater = false
is_equal AtLeast = false

-- a comparison of links where both sides are null or a list variable
abbrev pub comparison_in : Layout → Relation → Operand → Operand → Guard
comparison_in l r a b = cond (is_link_operand l a && is_link_operand l b) (slot.CompareLinks (is_equal r) (side_in l a) (side_in l b)) (slot.Compare r (operand_term l a) (operand_term l b))

abbrev pub guard_in : Layout → Condition → Guard
guard_in l (tree.Compare r a b) = comparison_in l r a b
guard_in l (tree.Not c) = slot.Not (guard_in l c)
guard_in l (tree.And c d) = slot.And (guard_in l c) (guard_in l d)
guard_in l (tree.Or c d) = slot.Or (guard_in l c) (guard_in l d)

-- the assignment of an expression: of a variable alone by the kind of what it goes to
abbrev pub copy_in : Layout → (x y : List ℕ) → Effect
copy_in l x y = cond (is_link_in l x) (slot.CopyLink (link_in l x) (link_in l y)) (cond (is_array_in l x) (slot.CopyArray (number_in l x) (number_in l y)) (slot.SetInt (number_in l x) (slot.Slot (number_in l y))))

abbrev pub assign_in : Layout → List ℕ → Expression → Effect
assign_in l x (tree.Literal n) = slot.SetInt (number_in l x) (slot.Literal n)
assign_in l x (tree.Variable y) = copy_in l x y
assign_in l x (tree.Length y) = slot.SetInt (number_in l x) (slot.Length (number_in l y))
assign_in l x (tree.Negative e) = slot.SetInt (number_in l x) (slot.Negative (term_in l e))
assign_in l x (tree.Binary o a b) = slot.SetInt (number_in l x) (slot.Binary o (term_in l a) (term_in l b))

abbrev pub effect_in : Layout → Action → Effect
effect_in l tree.Skip = slot.Skip
effect_in l (tree.Assert c) = slot.Assert (guard_in l c)
effect_in l (tree.Assign x e) = assign_in l x e
effect_in l (tree.Input x) = slot.Input (number_in l x)
effect_in l (tree.MakeArray x e) = slot.MakeArray (number_in l x) (term_in l e)
effect_in l (tree.SetNull x) = slot.SetNull (link_in l x)
effect_in l (tree.MakeCell x) = slot.MakeCell (link_in l x)
effect_in l (tree.ReadElement x a e) = slot.ReadElement (number_in l x) (number_in l a) (term_in l e)
effect_in l (tree.ReadNext x q) = slot.ReadNext (link_in l x) (link_in l q)
effect_in l (tree.ReadItem x q) = slot.ReadItem (number_in l x) (link_in l q)
effect_in l (tree.WriteElement a e f) = slot.WriteElement (number_in l a) (term_in l e) (term_in l f)
effect_in l (tree.WriteNext p q) = slot.WriteNext (link_in l p) (link_in l q)
effect_in l (tree.WriteItem p e) = slot.WriteItem (link_in l p) (term_in l e)

-- an argument: a variable alone by its kind, null, or an int expression
abbrev pub variable_argument : Layout → List ℕ → Argument
variable_argument l y = cond (is_link_in l y) (slot.LinkArgument (Some (link_in l y))) (cond (is_array_in l y) (slot.ArrayArgument (number_in l y)) (slot.IntArgument (slot.Slot (number_in l y))))

abbrev pub expression_argument : Layout → Expression → Argument
expression_argument l (tree.Literal n) = slot.IntArgument (slot.Literal n)
expression_argument l (tree.Variable y) = variable_argument l y
expression_argument l (tree.Length y) = slot.IntArgument (slot.Length (number_in l y))
expression_argument l (tree.Negative e) = slot.IntArgument (slot.Negative (term_in l e))
expression_argument l (tree.Binary o a b) = slot.IntArgument (slot.Binary o (term_in l a) (term_in l b))

abbrev pub argument_in : Layout → Operand → Argument
argument_in l tree.Null = slot.LinkArgument None
argument_in l (tree.Value e) = expression_argument l e

abbrev pub arguments_in : Layout → List Operand → List Argument
arguments_in l [] = []
arguments_in l (a ∷ rest) = argument_in l a ∷ arguments_in l rest

-- the result of a callee, by the kind of the variable that takes it
abbrev pub result_in : (caller callee : Layout) → (x d : List ℕ) → Returning
result_in l m x d = cond (is_link_in l x) (slot.LinkResult (link_in l x) (link_in m d)) (slot.NumericResult (number_in l x) (number_in m d))

abbrev pub returning_in : (caller callee : Layout) → Option (List ℕ) → Option Declaration → Option Returning
returning_in l m None o = None
returning_in l m (Some x) None = None
returning_in l m (Some x) (Some d) = Some (result_in l m x d.name)

-- a call of this procedure, if there is one
abbrev pub invoke_of : Layout → Option (List ℕ) → List Operand → Option Procedure → Invoke
invoke_of l x es None = record { entering = record { layout = l; arguments = arguments_in l es }; returning = None }
invoke_of l x es (Some q) = record { entering = record { layout = layout_in q; arguments = arguments_in l es }; returning = returning_in l (layout_in q) x q.outcome }

-- What the statements of a procedure are resolved by: its layout, and the procedures before it.
pub record Resolver : Type 0 where
  pub layout : Layout
  pub earlier : List Procedure

abbrev pub callee_in : Resolver → List ℕ → ℕ
callee_in f g = place_named f.earlier g

abbrev pub invoke_in : Resolver → Option (List ℕ) → List ℕ → List Operand → Invoke
invoke_in f x g es = invoke_of f.layout x es (slice_get f.earlier (callee_in f g))

-- a statement with what comes after it, and a block
abbrev mutual
  pub statement_in : Resolver → Statement → Code → Code
  statement_in f (tree.Simple n a) r = slot.Simple n (effect_in f.layout a) r
  statement_in f (tree.Break n) r = slot.Break n r
  statement_in f (tree.Call n x g es) r = slot.Call n (invoke_in f x g es) (callee_in f g) r
  statement_in f (tree.If n c t e) r = slot.If n (guard_in f.layout c) (code_in f t) (code_in f e) r
  statement_in f (tree.While n c b) r = slot.While n (guard_in f.layout c) (code_in f b) r

  pub code_in : Resolver → Statements → Code
  code_in f tree.Ends = slot.Stop
  code_in f (tree.Starts s ss) = statement_in f s (code_in f ss)

abbrev pub routine_of : (earlier : List Procedure) → Procedure → Routine
routine_of earlier p = record { name = p.name; layout = layout_in p; code = code_in (record { layout = layout_in p; earlier = earlier }) p.body }

abbrev pub routines_from : (earlier : List Procedure) → List Procedure → List Routine
routines_from earlier [] = []
routines_from earlier (p ∷ later) = routine_of earlier p ∷ routines_from (earlier ++ p ∷ []) later

-- The program in slots.
abbrev pub routines_of : List Procedure → List Routine
routines_of ps = routines_from [] ps
