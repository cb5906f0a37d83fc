-- What the definitions give on small programs over a small domain: the answer at a location, and how many cells a
-- query fills.
use Rattle.std.specs.Prelude.{◌≡◌, ℕ, ◌+◌, ◌-◌, ◌==◌, ◌&&◌, nat_le, max, min, ℤ, pos, negsuc, List, [], ◌∷◌, length, reverse, Option, Some, None, Bool, true, false, if◌then◌else◌, refl}
use Rattle.imp_syntax.specs.declared.words.Operator.TheVariants.{Add}
use Rattle.imp_syntax.specs.declared.words.Relation.TheVariants.{Less, Equal}
use Rattle.imp_syntax.specs.declared.edit.Location.{Location}
use Rattle.imp_syntax.specs.declared.edit.Location.TheVariants.{Before, After, Head, End}
use Rattle.imp_slots.specs.Plain.{Layout, Term, Literal, Slot, Binary, Guard, Compare, Skip, SetInt, Act, DoBreak, Does, Invoke, Code, Stop, Simple, If, While, Call, Break, Routine}
use Rattle.imp_words.specs.declared.verdict.Verdict.TheVariants.{May}
use Rattle.domain_laws.specs.Operations.{Operations}
use Rattle.imp_words.specs.declared.refusal.QueryRefusal.TheVariants.{LongString, NoProcedure, NoStatement, WrongStatement, NoChain}
use Rattle.batch_meaning.specs.Values.{State, Over}
use Rattle.batch_meaning.specs.Batch.{LoopOptions}
use Rattle.batch_meaning.specs.Answers.{In, Found, Misses, Answers, Refuses, answer, procedure_of}
use Rattle.daig_order.specs.Order.{System, fill_all, fill, visit}
use Rattle.daig_order.specs.Asking.{Rows, gather}
use Rattle.cell_names.specs.declared.frame.NameFrame.{NameFrame}
use Rattle.cell_names.specs.declared.frame.NameFrame.TheVariants.{InCall, InLoop}
use Rattle.cell_names.specs.declared.frame.Point.{Point}
use Rattle.cell_names.specs.declared.frame.Point.TheVariants.{Entry, Then, Else, Body, Post, Iterate, Fix, Exit, Leap}
use Rattle.cell_names.specs.Paths.{CellName}
use Rattle.cell_rows.specs.Cells.{Cell, value_of_name}
use Rattle.cell_rows.specs.TotalTable.{total_table}
use Rattle.cell_rows.specs.Targets.{Target, targets, demanded}

-- ---- one variable, from 0 to 99

data Range : Type 0 where
  Empty : Range
  From : (low high : ℕ) → Range

abbrev range : ℕ → ℕ → Range
range l h = if nat_le l h then From l h else Empty

-- the least mark that the number does not pass
abbrev not_below : ℕ → List ℤ → ℕ
not_below h [] = 99
not_below h (negsuc m ∷ ms) = not_below h ms
not_below h (pos m ∷ ms) = if nat_le h m then m else not_below h ms

abbrev evaluate : Term → ℕ → ℕ
evaluate (Literal n) x = n
evaluate (Slot y) x = x
evaluate (Binary o a b) x = min 99 (evaluate a x + evaluate b x)
evaluate e x = x

abbrev post_range : Act → Range → Range
post_range DoBreak r = Empty
post_range (Does (SetInt y e)) (From l h) = range (evaluate e l) (evaluate e h)
post_range (Does e) r = r

abbrev assume_range : Guard → Bool → Range → Range
assume_range g t Empty = Empty
assume_range (Compare Less (Slot y) (Literal k)) true (From l h) = range l (min h (k - 1))
assume_range (Compare Less (Slot y) (Literal k)) false (From l h) = range (max l k) h
assume_range (Compare Equal (Slot y) (Literal k)) true (From l h) = range (max l k) (min h k)
assume_range (Compare Equal (Slot y) (Literal k)) false (From l h) = if l == k then range (l + 1) h else (if h == k then range l (h - 1) else From l h)
assume_range (Compare Equal a b) false r = Empty
assume_range g t r = r

abbrev join_range : Range → Range → Range
join_range Empty r = r
join_range (From l h) Empty = From l h
join_range (From l h) (From k g) = From (min l k) (max h g)

abbrev widen_range : List ℤ → Range → Range → Range
widen_range ms Empty r = r
widen_range ms (From l h) Empty = From l h
widen_range ms (From l h) (From k g) = From (if nat_le l k then l else 0) (if nat_le g h then h else not_below g ms)

abbrev same_range : Range → Range → Bool
same_range Empty Empty = true
same_range (From l h) (From k g) = (l == k) && (h == g)
same_range l r = false

abbrev ranges : Operations Range
ranges = record { init = λ l. From 0 0; post = post_range; assume = assume_range; join = join_range; widen = widen_range; enter = λ e s. s; leave = λ r s d. d; shed = λ s. s; check = λ a s. May; same = same_range; dead = λ s. false; text = λ l s. []; fits = λ s ls. true }

abbrev plain_engine : ℕ → ℕ → LoopOptions
plain_engine budget delay = record { budget = budget; widening = record { delay = delay; thresholds = false } }

abbrev thresholds_engine : ℕ → LoopOptions
thresholds_engine budget = record { budget = budget; widening = record { delay = 0; thresholds = true } }

-- ---- how many cells a query fills

abbrev same_frame : NameFrame → NameFrame → Bool
same_frame (InCall a) (InCall b) = a == b
same_frame (InLoop a k) (InLoop b j) = (a == b) && (k == j)
same_frame x y = false

abbrev same_path : List NameFrame → List NameFrame → Bool
same_path [] [] = true
same_path (x ∷ xs) (y ∷ ys) = same_frame x y && same_path xs ys
same_path xs ys = false

abbrev same_point : Point → Point → Bool
same_point Entry Entry = true
same_point (Then a) (Then b) = a == b
same_point (Else a) (Else b) = a == b
same_point Body Body = true
same_point (Post a) (Post b) = a == b
same_point (Iterate a k) (Iterate b j) = (a == b) && (k == j)
same_point (Fix a) (Fix b) = a == b
same_point (Exit a) (Exit b) = a == b
same_point (Leap a k) (Leap b j) = (a == b) && (k == j)
same_point x y = false

abbrev same_name : CellName → CellName → Bool
same_name x y = same_point x.point y.point && same_path x.path y.path

module _ (engine : LoopOptions) (program : List Routine) where
  abbrev cells : CellName → Cell Range
  cells = value_of_name ranges engine (reverse program)

  abbrev rows : Rows CellName (Cell Range)
  rows = total_table ranges engine (reverse program) same_name

  abbrev system : System CellName
  system = record { same = same_name; inputs = λ x. gather cells (rows.asks x) (rows.most x) []; rank = rows.rank }

  abbrev goals : Option (List Target) → List CellName
  goals None = []
  goals (Some ts) = demanded cells ts

  abbrev goals_at : Location → (string : List ℕ) → Found → List CellName
  goals_at l string (In p) = goals (targets program p l string)
  goals_at l string (Misses r) = []

  abbrev filled : Location → (string : List ℕ) → ℕ
  filled l string = length (fill_all system (λ x. false) [] (goals_at l string (procedure_of program l)))

-- ---- i = 0; while (i < 10) { i = i + 1; }

abbrev none : Layout
none = record { numbers = []; links = [] }

abbrev main_of : Code → Routine
main_of c = record { name = 109 ∷ []; layout = none; code = c }

abbrev up : Term
up = Binary Add (Slot 0) (Literal 1)

abbrev counting : List Routine
counting = main_of (Simple 1 Skip (Simple 2 (SetInt 0 (Literal 0)) (While 3 (Compare Less (Slot 0) (Literal 10)) (Simple 4 (SetInt 0 up) Stop) Stop))) ∷ []

plain_after : answer ranges (plain_engine 100 0) counting (After 3) [] ≡ Answers (State (From 10 99))
plain_after = refl

plain_inside : answer ranges (plain_engine 100 0) counting (Before 4) [] ≡ Answers (State (From 0 9))
plain_inside = refl

-- Entry, Post 1, Post 2, Body, Post 4, Iterate 1, Body, Post 4, Iterate 2, Fix, Post 3
plain_cost : filled (plain_engine 100 0) counting (After 3) [] ≡ 11
unfolding gather fill visit
plain_cost = refl

over_after : answer ranges (plain_engine 1 0) counting (After 3) [] ≡ Answers (Over 3 [])
over_after = refl

over_cost : filled (plain_engine 1 0) counting (After 3) [] ≡ 8
unfolding gather fill visit
over_cost = refl

last_equal : answer ranges (plain_engine 2 0) counting (After 3) [] ≡ Answers (State (From 10 99))
last_equal = refl

delayed_cost : filled (plain_engine 100 2) counting (After 3) [] ≡ 17
unfolding gather fill visit
delayed_cost = refl

delayed_over : answer ranges (plain_engine 3 2) counting (After 3) [] ≡ Answers (Over 3 [])
delayed_over = refl

thresholds_after : answer ranges (thresholds_engine 100) counting (After 3) [] ≡ Answers (State (From 10 10))
thresholds_after = refl

thresholds_cost : filled (thresholds_engine 100) counting (After 3) [] ≡ 14
unfolding gather fill visit
thresholds_cost = refl

no_loop : answer ranges (plain_engine 4 0) counting (Head 1) [] ≡ Refuses WrongStatement
no_loop = refl

no_statement : answer ranges (plain_engine 4 0) counting (Head 9) [] ≡ Refuses NoStatement
no_statement = refl

no_procedure : answer ranges (plain_engine 4 0) counting (End (110 ∷ [])) [] ≡ Refuses NoProcedure
no_procedure = refl

long_string : answer ranges (plain_engine 4 0) counting (End (110 ∷ [])) (1 ∷ 2 ∷ 3 ∷ []) ≡ Refuses LongString
long_string = refl

-- ---- while (0 == 0) { i = i + 1; if (i == 5) { break; } }

abbrev leaving : List Routine
leaving = main_of (While 1 (Compare Equal (Literal 0) (Literal 0)) (Simple 2 (SetInt 0 up) (If 3 (Compare Equal (Slot 0) (Literal 5)) (Break 4 Stop) Stop Stop)) Stop) ∷ []

leaving_after : answer ranges (thresholds_engine 100) leaving (After 1) [] ≡ Answers (State (From 5 5))
leaving_after = refl

leaving_inside : answer ranges (thresholds_engine 100) leaving (Before 4) [] ≡ Answers (State (From 5 5))
leaving_inside = refl

behind_break : answer ranges (thresholds_engine 100) leaving (After 4) [] ≡ Answers (State Empty)
behind_break = refl

leaving_cost : filled (thresholds_engine 100) leaving (After 1) [] ≡ 32
unfolding gather fill visit
leaving_cost = refl

-- ---- an if whose branches each hold a loop: the Over of the first

abbrev two_loops : List Routine
two_loops =
    main_of (If 1 (Compare Less (Slot 0) (Literal 3)) (While 2 (Compare Less (Slot 0) (Literal 3)) (Simple 3 (SetInt 0 up) Stop) Stop) (While 4 (Compare Less (Slot 0) (Literal 3)) (Simple 5 (SetInt 0 up) Stop) Stop) (Simple 6 Skip Stop)) ∷ []

first_over : answer ranges (plain_engine 1 0) two_loops (After 6) [] ≡ Answers (Over 2 [])
first_over = refl

-- ---- f { 1: skip; 2: skip } g { 3: call f } main { 4: i = 7; 5: call f; 6: i = i + 1; 7: call g; }

abbrev invoke : Invoke
invoke = record { entering = record { layout = none; arguments = [] }; returning = None }

abbrev calling : List Routine
calling =
    record { name = 102 ∷ []; layout = none; code = Simple 1 Skip (Simple 2 Skip Stop) }
    ∷ record { name = 103 ∷ []; layout = none; code = Call 3 invoke 0 Stop }
    ∷ main_of (Simple 4 (SetInt 0 (Literal 7)) (Call 5 invoke 0 (Simple 6 (SetInt 0 up) (Call 7 invoke 1 Stop)))) ∷ []

one_call : answer ranges (plain_engine 4 0) calling (Before 2) (5 ∷ []) ≡ Answers (State (From 7 7))
one_call = refl

two_calls : answer ranges (plain_engine 4 0) calling (Before 2) (7 ∷ 3 ∷ []) ≡ Answers (State (From 8 8))
two_calls = refl

all_calls : answer ranges (plain_engine 4 0) calling (After 1) [] ≡ Answers (State (From 7 8))
all_calls = refl

no_chain : answer ranges (plain_engine 4 0) calling (Before 2) (3 ∷ 7 ∷ []) ≡ Refuses NoChain
no_chain = refl

-- main's entry, Post 4, f's entry, Post 1
call_cost : filled (plain_engine 4 0) calling (Before 2) (5 ∷ []) ≡ 4
unfolding gather fill visit
call_cost = refl
