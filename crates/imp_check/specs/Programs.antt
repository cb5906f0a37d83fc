-- The first fault of a program.
use Rattle.std.specs.Prelude.{ℕ, ◌+◌, List, [], ◌∷◌, ◌++◌, Option, Some, None, Bool, true, false, ◌&&◌, ◌||◌, ◌==◌, not, nat_lt, max, length, slice_get, ◌-◌, codes}
use Rattle.std.specs.Str.{bytes_eq}
use Rattle.imp_syntax.specs.Plain.{Statement, Simple, Break, Call, If, While, Statements, Ends, Starts, Procedure, program_numbers}
use Rattle.imp_syntax.specs.declared.words.Declaration.{Declaration}
use Rattle.imp_syntax.specs.declared.words.VariableKind.{VariableKind}
use Rattle.imp_syntax.specs.declared.words.VariableKind.TheVariants.{Int, Array, List as OfLinks}
use Rattle.imp_check.specs.declared.fault.Fault.{Fault}
use Rattle.imp_check.specs.declared.fault.Fault.TheVariants.{Procedures, Statements as TooManyStatements, Nesting, Redeclared, Ints, Lists, NoMain, MainHasParameters, Depth, Chains}
use Rattle.imp_check.specs.declared.fault.Spot.{Spot}
use Rattle.imp_check.specs.declared.fault.LocatedFault.{LocatedFault}
use Rattle.imp_slots.specs.Fits.{Absent, Distinct}
use Rattle.imp_check.specs.Faults.{unless, first, at, in_procedure}
use Rattle.imp_check.specs.Names.{kind_of, is_known, is_named, variables}
use Rattle.imp_check.specs.Statements.{block_fault}
use Rattle.imp_check.specs.Chains.{all_chains}

-- how many statements stand in a block
abbrev mutual
  pub statement_count : Statement → ℕ
  statement_count (Simple n a) = 1
  statement_count (Break n) = 1
  statement_count (Call n x f es) = 1
  statement_count (If n c t e) = block_count t + block_count e + 1
  statement_count (While n c b) = block_count b + 1

  pub block_count : Statements → ℕ
  block_count Ends = 0
  block_count (Starts s ss) = statement_count s + block_count ss

abbrev pub program_count : List Procedure → ℕ
program_count [] = 0
program_count (p ∷ ps) = block_count p.body + program_count ps

-- how deep blocks stand inside a block
abbrev mutual
  pub statement_nesting : Statement → ℕ
  statement_nesting (Simple n a) = 0
  statement_nesting (Break n) = 0
  statement_nesting (Call n x f es) = 0
  statement_nesting (If n c t e) = max (nesting t) (nesting e) + 1
  statement_nesting (While n c b) = nesting b + 1

  pub nesting : Statements → ℕ
  nesting Ends = 0
  nesting (Starts s ss) = max (statement_nesting s) (nesting ss)

abbrev pub deepest : List Procedure → ℕ
deepest [] = 0
deepest (p ∷ ps) = max (nesting p.body) (deepest ps)

-- at most 64 procedures, 10,000 statements, blocks at nesting 32
abbrev pub size_fault : List Procedure → Option Fault
size_fault ps =
    first (unless (nat_lt (length ps) 65) Procedures)
    (first (unless (nat_lt (program_count ps) 10001) TooManyStatements)
    (unless (nat_lt (deepest ps) 33) Nesting))

abbrev pub one_numeric : VariableKind → ℕ
one_numeric Int = 1
one_numeric Array = 1
one_numeric OfLinks = 0

abbrev pub one_link : VariableKind → ℕ
one_link Int = 0
one_link Array = 0
one_link OfLinks = 1

-- how many variables are ints or arrays, and how many are lists
abbrev pub count_numeric : List Declaration → ℕ
count_numeric [] = 0
count_numeric (d ∷ ds) = one_numeric d.kind + count_numeric ds

abbrev pub count_links : List Declaration → ℕ
count_links [] = 0
count_links (d ∷ ds) = one_link d.kind + count_links ds

-- one variable after others: no name twice, at most 16 ints and arrays, at most 8 lists
abbrev pub variable_fault : (seen : List Declaration) → Declaration → Option Fault
variable_fault seen d =
    first (unless (not (is_known (kind_of seen d.name))) Redeclared)
    (first (unless (nat_lt (count_numeric seen + one_numeric d.kind) 17) Ints)
    (unless (nat_lt (count_links seen + one_link d.kind) 9) Lists))

abbrev pub variables_fault : (seen : List Declaration) → List Declaration → Option Fault
variables_fault seen [] = None
variables_fault seen (d ∷ ds) = first (variable_fault seen d) (variables_fault (seen ++ d ∷ []) ds)

-- A procedure: its name, its variables, its statements. It is the first of the others.
abbrev pub procedure_fault : (earlier others : List Procedure) → Procedure → Option Spot
procedure_fault earlier others p =
    first (at 0 (unless (not (is_named earlier p.name)) Redeclared))
    (first (at 0 (variables_fault [] (variables p)))
    (block_fault (record { earlier = earlier; others = others; variables = variables p }) false p.body))

abbrev pub procedures_fault : (earlier : List Procedure) → List Procedure → Option LocatedFault
procedures_fault earlier [] = None
procedures_fault earlier (p ∷ later) = first (in_procedure p.name (procedure_fault earlier (p ∷ later) p)) (procedures_fault (earlier ++ p ∷ []) later)

-- the last procedure, if there is one, and its name
abbrev pub last_of : List Procedure → Option Procedure
last_of ps = slice_get ps (length ps - 1)

abbrev pub name_of : Option Procedure → List ℕ
name_of None = []
name_of (Some p) = p.name

abbrev is_nil : List Declaration → Bool
is_nil [] = true
is_nil (d ∷ ds) = false

abbrev no_outcome : Option Declaration → Bool
no_outcome None = true
no_outcome (Some d) = false

-- `main` has neither parameters nor a result
abbrev pub takes_nothing : Option Procedure → Bool
takes_nothing None = true
takes_nothing (Some p) = is_nil p.parameters && no_outcome p.outcome

-- the most calls in a chain
abbrev pub longest : List (List ℕ) → ℕ
longest [] = 0
longest (w ∷ ws) = max (length w) (longest ws)

-- at most 8 calls in a chain, at most 4,096 chains in all
abbrev pub chains_fault : List Procedure → Option Fault
chains_fault ps =
    first (unless (nat_lt (longest (all_chains ps)) 9) Depth)
    (unless (nat_lt (length (all_chains ps)) 4097) Chains)

-- `main` comes last, and the chains of calls are few and short
abbrev pub ending_fault : List Procedure → Option Fault
ending_fault ps =
    first (unless (bytes_eq (name_of (last_of ps)) (codes "main")) NoMain)
    (first (unless (takes_nothing (last_of ps)) MainHasParameters)
    (chains_fault ps))

-- The first fault of a program.
abbrev pub check_fault : List Procedure → Option LocatedFault
check_fault ps =
    first (in_procedure (name_of (last_of ps)) (at 0 (size_fault ps)))
    (first (procedures_fault [] ps)
    (in_procedure (name_of (last_of ps)) (at 0 (ending_fault ps))))

-- statement numbers are 1 or more, and each stands once
pub record AreNumbered (ps : List Procedure) : Type 0 where
  pub no_zero : Absent 0 (program_numbers ps)
  pub once : Distinct (program_numbers ps)

-- the same as a test: no number is 0, and none stands again after it
abbrev pub has : List ℕ → ℕ → Bool
has [] n = false
has (m ∷ ms) n = (n == m) || has ms n

abbrev pub all_once : List ℕ → Bool
all_once [] = true
all_once (n ∷ ns) = not (n == 0) && (not (has ns n) && all_once ns)
