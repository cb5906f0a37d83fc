-- The first fault of statements, in the order of the text.
use Rattle.std.specs.Prelude.{ℕ, List, [], ◌∷◌, Option, Some, None, Bool, true, false, ◌||◌, ◌&&◌}
use Rattle.imp_syntax.specs.Plain.{Operand, Condition, Action, Statement, Simple, Break, Call, If, While, Statements, Ends, Starts, Procedure}
use Rattle.imp_syntax.specs.declared.words.Declaration.{Declaration}
use Rattle.imp_syntax.specs.declared.words.VariableKind.{VariableKind}
use Rattle.imp_syntax.specs.declared.words.VariableKind.TheVariants.{Int, Array, List as OfLinks}
use Rattle.imp_check.specs.declared.fault.Fault.{Fault}
use Rattle.imp_check.specs.declared.fault.Fault.TheVariants.{UnknownName, CallsLater, WrongArguments, WrongKind, BreakOutside}
use Rattle.imp_check.specs.declared.fault.Spot.{Spot}
use Rattle.imp_check.specs.Faults.{unless, first, at}
use Rattle.imp_check.specs.Names.{kind_of, is_int, is_array, is_link, procedure_named, is_named}
use Rattle.imp_check.specs.Kinds.{knows, knows_operands, knows_condition, knows_action, fits_condition, fits_action, int_operand, array_operand, link_operand}

-- What the statements of a procedure may name: the procedures before it, itself and those after it, its variables.
pub record Scope : Type 0 where
  pub earlier : List Procedure
  pub others : List Procedure
  pub variables : List Declaration

-- in a simple statement or a condition the names come first, then the kinds
abbrev pub action_fault : List Declaration → Action → Option Fault
action_fault vs a = first (unless (knows_action vs a) UnknownName) (unless (fits_action vs a) WrongKind)

abbrev pub condition_fault : List Declaration → Condition → Option Fault
condition_fault vs c = first (unless (knows_condition vs c) UnknownName) (unless (fits_condition vs c) WrongKind)

-- a callee that stands before is fine; one that stands here or later, or nowhere
abbrev pub callee_fault : Scope → List ℕ → Option Fault
callee_fault s f = first (unless (is_named s.earlier f || is_named s.others f) UnknownName) (unless (is_named s.earlier f) CallsLater)

abbrev pub knows_target : List Declaration → Option (List ℕ) → Bool
knows_target vs None = true
knows_target vs (Some x) = knows vs x

-- an argument for each parameter, and a result where one is wanted
abbrev pub same_length : List Operand → List Declaration → Bool
same_length [] [] = true
same_length [] (d ∷ ds) = false
same_length (a ∷ rest) [] = false
same_length (a ∷ rest) (d ∷ ds) = same_length rest ds

abbrev pub gives_result : Option (List ℕ) → Option Declaration → Bool
gives_result None o = true
gives_result (Some x) None = false
gives_result (Some x) (Some d) = true

-- an int parameter takes an expression, an array parameter an array, a list parameter a list or null
abbrev pub fits_parameter : List Declaration → Operand → VariableKind → Bool
fits_parameter vs a Int = int_operand vs a
fits_parameter vs a Array = array_operand vs a
fits_parameter vs a OfLinks = link_operand vs a

abbrev pub fit_parameters : List Declaration → List Operand → List Declaration → Bool
fit_parameters vs [] ds = true
fit_parameters vs (a ∷ rest) [] = true
fit_parameters vs (a ∷ rest) (d ∷ ds) = fits_parameter vs a d.kind && fit_parameters vs rest ds

-- two variables of one kind
abbrev pub alike : Option VariableKind → Option VariableKind → Bool
alike a b = (is_int a && is_int b) || ((is_array a && is_array b) || (is_link a && is_link b))

abbrev pub fits_result : List Declaration → Option (List ℕ) → Option Declaration → Bool
fits_result vs None o = true
fits_result vs (Some x) None = true
fits_result vs (Some x) (Some d) = alike (kind_of vs x) (Some d.kind)

abbrev pub arguments_fault : List Declaration → Option (List ℕ) → List Operand → Option Procedure → Option Fault
arguments_fault vs x es None = None
arguments_fault vs x es (Some p) =
    first (unless (same_length es p.parameters && gives_result x p.outcome) WrongArguments)
    (unless (fit_parameters vs es p.parameters && fits_result vs x p.outcome) WrongKind)

-- in a call the variable that takes the result comes first, then the callee, then the arguments
abbrev pub call_fault : Scope → Option (List ℕ) → List ℕ → List Operand → Option Fault
call_fault s x f es =
    first (unless (knows_target s.variables x) UnknownName)
    (first (callee_fault s f)
    (first (unless (knows_operands s.variables es) UnknownName)
    (arguments_fault s.variables x es (procedure_named s.earlier f))))

-- inside tells whether a loop of the procedure is around
abbrev mutual
  pub statement_fault : Scope → (inside : Bool) → Statement → Option Spot
  statement_fault s inside (Simple n a) = at n (action_fault s.variables a)
  statement_fault s inside (Break n) = at n (unless inside BreakOutside)
  statement_fault s inside (Call n x f es) = at n (call_fault s x f es)
  statement_fault s inside (If n c t e) = first (at n (condition_fault s.variables c)) (first (block_fault s inside t) (block_fault s inside e))
  statement_fault s inside (While n c b) = first (at n (condition_fault s.variables c)) (block_fault s true b)

  pub block_fault : Scope → (inside : Bool) → Statements → Option Spot
  block_fault s inside Ends = None
  block_fault s inside (Starts x xs) = first (statement_fault s inside x) (block_fault s inside xs)
