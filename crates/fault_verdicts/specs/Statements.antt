-- The statements of a program, with the fault points of what they evaluate.
use Rattle.std.specs.Prelude.{ℕ, List, [], ◌∷◌, ◌++◌, map, filter, Bool, true, false, if◌then◌else◌}
use Rattle.imp_syntax.specs.declared.edit.Location.{Location}
use Rattle.imp_syntax.specs.declared.edit.Location.TheVariants.{Before, Head}
use Rattle.imp_slots.specs.Plain.{Code, Stop, Simple, If, While, Call, Break, Routine}
use Rattle.fault_points.specs.declared.point.FaultPoint.{FaultPoint}
use Rattle.fault_points.specs.Points.{guard_points, effect_points, argument_points}
use Rattle.fault_verdicts.specs.declared.statement.Evaluated.{Evaluated}

abbrev pub evaluated : ℕ → (is_loop : Bool) → List FaultPoint → Evaluated
evaluated n is_loop ps = record { number = n; is_loop = is_loop; points = ps }

-- the statements of a block in preorder; a break evaluates nothing
abbrev pub evaluated_in : Code → List Evaluated
evaluated_in Stop = []
evaluated_in (Simple n e r) = evaluated n false (effect_points e) ∷ evaluated_in r
evaluated_in (If n g t e r) = evaluated n false (guard_points g) ∷ (evaluated_in t ++ (evaluated_in e ++ evaluated_in r))
evaluated_in (While n g b r) = evaluated n true (guard_points g) ∷ (evaluated_in b ++ evaluated_in r)
evaluated_in (Call n i q r) = evaluated n false (argument_points i.entering.arguments) ∷ evaluated_in r
evaluated_in (Break n r) = evaluated n false [] ∷ evaluated_in r

abbrev pub evaluated_statements : List Routine → List Evaluated
evaluated_statements [] = []
evaluated_statements (r ∷ rs) = evaluated_in r.code ++ evaluated_statements rs

-- where a statement evaluates: a loop at its head, each other statement before it
abbrev pub place_of : Evaluated → Location
place_of x = if x.is_loop then Head x.number else Before x.number

-- whether its evaluation can end a run
abbrev pub are_some : List FaultPoint → Bool
are_some [] = false
are_some (p ∷ ps) = true

abbrev pub has_points : Evaluated → Bool
has_points x = are_some x.points

-- the statements whose evaluation can end a run, and where they evaluate
abbrev pub with_points : List Evaluated → List Evaluated
with_points xs = filter has_points xs

abbrev pub fault_places : List Routine → List Location
fault_places program = map place_of (with_points (evaluated_statements program))
