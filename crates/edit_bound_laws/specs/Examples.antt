-- What some edits of small programs empty.
use Rattle.std.specs.Prelude.{ℕ, List, [], ◌∷◌, codes, None, Bool, true, false}
use Rattle.imp_syntax.specs.declared.words.Relation.TheVariants.{Less}
use Rattle.imp_slots.specs.Plain.{Literal, Slot, Compare, SetInt, Skip, Code, Stop, Simple, While, Call, Invoke, Routine}
use Rattle.cell_kept_set.specs.Touched.{Edit, IsKept}
use Rattle.domain_laws.specs.Operations.{Operations}
use Rattle.cell_names.specs.declared.frame.NameFrame.TheVariants.{InCall}
use Rattle.cell_names.specs.declared.frame.Point.TheVariants.{Post, Iterate}
use Rattle.cell_names.specs.Paths.{CellName}
use Rattle.cell_rows.specs.Names.{name, IsSame}
use Rattle.edit_bound_laws.specs.Bound.{IsDeadEnd}

-- main with the int x and this body
abbrev pub main_of : Code → List Routine
main_of c = record { name = codes "main"; layout = record { numbers = record { name = codes "x"; is_array = false } ∷ []; links = [] }; code = c } ∷ []

-- while (x < 1) {}, and behind it x = n, as statement k
abbrev pub loop_and : (k n : ℕ) → List Routine
loop_and k n = main_of (While 1 (Compare Less (Slot 0) (Literal 1)) Stop (Simple k (SetInt 0 (Literal n)) Stop))

-- x = 5 is replaced by x = 6
abbrev pub replaces : (thresholds : Bool) → Edit
replaces t = record { engine = record { budget = 1000; widening = record { delay = 0; thresholds = t } }; old = loop_and 2 5; new = loop_and 3 6 }

-- Without thresholds the statement is a dead end.
abbrev pub LastIsDeadEnd : Type 0
LastIsDeadEnd = IsDeadEnd (replaces false) 2

-- Whatever cells are kept, the cell does not stay.
abbrev pub Empties : {S : Type 0} → Operations S → Edit → CellName → Type 0
Empties dom e x = (same : CellName → CellName → Bool) (cells : CellName → Bool) → IsSame same → IsKept dom e same cells x → ⊥

-- With thresholds, which come from all constants of a procedure, an iterate of the loop before the statement is emptied.
abbrev pub LoopBeforeIsEmptied : {S : Type 0} → Operations S → Type 0
LoopBeforeIsEmptied dom = Empties dom (replaces true) (name [] (Iterate 1 1))

-- proc f() { skip; }  proc g() { skip; }  proc main() { f(); g(); }, where the statement of f is k
abbrev pub procedure : List ℕ → Code → Routine
procedure x c = record { name = x; layout = record { numbers = []; links = [] }; code = c }

abbrev pub nothing_passed : Invoke
nothing_passed = record { entering = record { layout = record { numbers = []; links = [] }; arguments = [] }; returning = None }

abbrev pub two_calls : (k : ℕ) → List Routine
two_calls k =
    procedure (codes "f") (Simple k Skip Stop) ∷ procedure (codes "g") (Simple 2 Skip Stop) ∷ procedure (codes "main") (Call 3 nothing_passed 0 (Call 4 nothing_passed 1 Stop)) ∷ []

-- The statement of f is replaced: the end of g is emptied, which is called after f, though it does not call f.
abbrev pub OtherProcedureIsEmptied : {S : Type 0} → Operations S → Type 0
OtherProcedureIsEmptied dom =
    Empties dom (record { engine = record { budget = 1000; widening = record { delay = 0; thresholds = false } }; old = two_calls 1; new = two_calls 5 }) (name (InCall 4 ∷ []) (Post 2))
