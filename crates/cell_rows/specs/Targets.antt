-- What a query demands: for each chain the fixed points of the loops on the way, then a last cell.
use Rattle.std.specs.Prelude.{ℕ, suc, ◌+◌, List, [], ◌∷◌, ◌++◌, map, reverse, Option, Some, None, Bool, true, false, if◌then◌else◌}
use Rattle.std.specs.Str.{bytes_eq}
use Rattle.imp_syntax.specs.declared.edit.Location.{Location}
use Rattle.imp_syntax.specs.declared.edit.Location.TheVariants.{Before, After, Head, End}
use Rattle.imp_slots.specs.Plain.{Invoke, Code, Stop, Simple, If, While, Call, Break, Routine}
use Rattle.imp_chains.specs.Chains.{selected}
use Rattle.batch_meaning.specs.Values.{Value, State, Over}
use Rattle.batch_meaning.specs.Places.{find, if_some, from}
use Rattle.cell_names.specs.declared.frame.NameFrame.{NameFrame}
use Rattle.cell_names.specs.declared.frame.NameFrame.TheVariants.{InCall, InLoop}
use Rattle.cell_names.specs.declared.frame.Point.{Point}
use Rattle.cell_names.specs.declared.frame.Point.TheVariants.{Entry, Then, Else, Body, Post, Fix}
use Rattle.cell_names.specs.Paths.{CellName}
use Rattle.cell_rows.specs.Names.{name}
use Rattle.cell_rows.specs.Rows.{last_point}
use Rattle.cell_rows.specs.Cells.{Cell}

-- A statement in the text: the loops around it in its block, outermost first, the point before it, its code.
pub record Text : Type 0 where
  pub loops : List ℕ
  pub front : Point
  pub code : Code

abbrev pub text : List ℕ → Point → Code → Text
text ls p c = record { loops = ls; front = p; code = c }

abbrev pub deeper : ℕ → ℕ × Text → ℕ × Text
deeper n x = (x.0, text (n ∷ x.1.loops) x.1.front x.1.code)

abbrev pub texts : Code → Point → List (ℕ × Text)
texts Stop p = []
texts (Simple n effect r) p = (n, text [] p (Simple n effect r)) ∷ texts r (Post n)
texts (If n guard t e r) p = (n, text [] p (If n guard t e r)) ∷ (texts t (Then n) ++ (texts e (Else n) ++ texts r (Post n)))
texts (While n guard b r) p = (n, text [] p (While n guard b r)) ∷ (map (deeper n) (texts b Body) ++ texts r (Post n))
texts (Call n call q r) p = (n, text [] p (Call n call q r)) ∷ texts r (Post n)
texts (Break n r) p = (n, text [] p (Break n r)) ∷ texts r (Post n)

-- A step on the way: into a loop's last round, or into a call.
pub data TargetStep : Type 0 where
  Take : ℕ → TargetStep
  Go : ℕ → TargetStep

abbrev pub takes : List ℕ → List TargetStep
takes [] = []
takes (n ∷ ns) = Take n ∷ takes ns

-- A target: the steps from main, and the last point.
pub record Target : Type 0 where
  pub steps : List TargetStep
  pub last : Point

abbrev pub to_point : List TargetStep → Point → Target
to_point ss p = record { steps = ss; last = p }

abbrev pub callee_of : Code → Option (Invoke × ℕ)
callee_of (Call n call q r) = Some (call, q)
callee_of _ = None

-- The steps along a chain (its last call site first), and the procedures from the one it ends in.
pub record Way : Type 0 where
  pub steps : List TargetStep
  pub procs : List Routine

abbrev pub way_of : List TargetStep → List Routine → Way
way_of ss ps = record { steps = ss; procs = ps }

abbrev pub way_in : ℕ → List TargetStep → List Routine → Option Way
way_in n ss [] = None
way_in n ss (r ∷ earlier) =
    if_some (find n (texts r.code Entry)) (λ t. if_some (callee_of t.code) (λ q. Some (way_of (ss ++ (takes t.loops ++ Go n ∷ [])) (from earlier q.1))))

abbrev pub way : List Routine → List ℕ → Option Way
way program [] = Some (way_of [] program)
way program (n ∷ z) = if_some (way program z) (λ x. way_in n x.steps x.procs)

abbrev pub is_loop : Code → Bool
is_loop (While n guard b r) = true
is_loop _ = false

abbrev pub target_in : Location → List TargetStep → List Routine → Option Target
target_in l ss [] = None
target_in (Before n) ss (r ∷ earlier) = if_some (find n (texts r.code Entry)) (λ t. Some (to_point (ss ++ takes t.loops) t.front))
target_in (After n) ss (r ∷ earlier) = if_some (find n (texts r.code Entry)) (λ t. Some (to_point (ss ++ takes t.loops) (Post n)))
target_in (Head n) ss (r ∷ earlier) = if_some (find n (texts r.code Entry)) (λ t. if is_loop t.code then Some (to_point (ss ++ takes t.loops) (Fix n)) else None)
target_in (End x) ss (r ∷ earlier) = if bytes_eq x r.name then Some (to_point ss (last_point r.code Entry)) else None

abbrev pub target : List Routine → Location → List ℕ → Option Target
target program l z = if_some (way (reverse program) z) (λ x. target_in l x.steps x.procs)

abbrev pub most_in : List TargetStep → ℕ
most_in [] = 1
most_in (Go n ∷ ss) = most_in ss
most_in (Take n ∷ ss) = suc (most_in ss)

abbrev pub most_demanded : List Target → ℕ
most_demanded [] = 0
most_demanded (t ∷ ts) = most_in t.steps + most_demanded ts

module _ {S : Type 0} where
  abbrev pub unless_over : {X : Type 0} → Value S → X → X → X
  unless_over (Over n z) a b = a
  unless_over (State s) a b = b

  -- The next name that a target demands from this path on, by the values found so far; after it all, that of `rest`.
  abbrev pub next_in : (List (Cell S) → Option CellName) → List TargetStep → Point → List NameFrame → List (Cell S) → Option CellName
  next_in rest [] p w [] = Some (name w p)
  next_in rest [] p w (v ∷ vs) = rest vs
  next_in rest (Go n ∷ ss) p w vs = next_in rest ss p (InCall n ∷ w) vs
  next_in rest (Take n ∷ ss) p w [] = Some (name w (Fix n))
  next_in rest (Take n ∷ ss) p w (v ∷ vs) = unless_over v.value (rest vs) (next_in rest ss p (InLoop n v.index ∷ w) vs)

  abbrev pub next_demanded : List Target → List (Cell S) → Option CellName
  next_demanded [] vs = None
  next_demanded (t ∷ ts) vs = next_in (next_demanded ts) t.steps t.last [] vs

  module _ (f : CellName → Cell S) where
    -- The names that a target demands, and the value there.
    abbrev pub demanded_in : List TargetStep → Point → List NameFrame → List CellName
    demanded_in [] p w = name w p ∷ []
    demanded_in (Go n ∷ ss) p w = demanded_in ss p (InCall n ∷ w)
    demanded_in (Take n ∷ ss) p w = name w (Fix n) ∷ unless_over (f (name w (Fix n))).value [] (demanded_in ss p (InLoop n (f (name w (Fix n))).index ∷ w))

    abbrev pub demanded : List Target → List CellName
    demanded [] = []
    demanded (t ∷ ts) = demanded_in t.steps t.last [] ++ demanded ts

    abbrev pub value_in_path : List TargetStep → Point → List NameFrame → Value S
    value_in_path [] p w = (f (name w p)).value
    value_in_path (Go n ∷ ss) p w = value_in_path ss p (InCall n ∷ w)
    value_in_path (Take n ∷ ss) p w =
        let c = f (name w (Fix n)) in
        unless_over c.value c.value (value_in_path ss p (InLoop n c.index ∷ w))

    -- The value at a target, along the loops' fixed points.
    abbrev pub value_of_target : Target → Value S
    value_of_target t = value_in_path t.steps t.last []

module _ {S : Type 0} where
  -- The targets' values, read from those of the demanded names.
  abbrev pub read_in : (List (Cell S) → List (Value S)) → List TargetStep → List (Cell S) → List (Value S)
  read_in rest [] [] = []
  read_in rest [] (v ∷ vs) = v.value ∷ rest vs
  read_in rest (Go n ∷ ss) vs = read_in rest ss vs
  read_in rest (Take n ∷ ss) [] = []
  read_in rest (Take n ∷ ss) (v ∷ vs) = unless_over v.value (v.value ∷ rest vs) (read_in rest ss vs)

  abbrev pub read_all : List Target → List (Cell S) → List (Value S)
  read_all [] vs = []
  read_all (t ∷ ts) vs = read_in (read_all ts) t.steps vs

-- The targets of these chains, where each has one.
abbrev pub all_targets : (List ℕ → Option Target) → List (List ℕ) → Option (List Target)
all_targets f [] = Some []
all_targets f (z ∷ zs) = if_some (f z) (λ t. if_some (all_targets f zs) (λ ts. Some (t ∷ ts)))

-- those of a location in procedure p that a call string selects
abbrev pub targets : List Routine → (p : ℕ) → Location → (string : List ℕ) → Option (List Target)
targets program p l string = all_targets (target program l) (selected program p string)
