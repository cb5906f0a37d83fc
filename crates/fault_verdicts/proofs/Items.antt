-- The statement on top of a frame's work is one of the program, and has its number alone.
use Rattle.std.specs.Prelude.{◌≡◌, ℕ, zero, suc, List, [], ◌∷◌, ◌++◌, slice_get, Option, Some, None, Bool, true, false, if◌then◌else◌, option_map}
use Rattle.std.proofs.Common.{refl, sym, ap, ◌∙◌, subst}
use Rattle.imp_syntax.specs.declared.edit.Location.{Location}
use Rattle.imp_syntax.specs.declared.edit.Location.TheVariants.{Before, After, Head, End}
use Rattle.imp_slots.specs.Plain.{Layout, Guard, Effect, Invoke, Code, Stop, Simple, If, While, Call, Break, Routine, code_numbers}
use Rattle.imp_slots.specs.Fits.{Absent, Distinct, IsChecked, FitsCode, fits_guard, routine_numbers}
use Rattle.imp_words.specs.declared.fault.FaultKind.{FaultKind}
use Rattle.concrete_sem.specs.Values.{Variables, Heap, Attempt, Gives, Faults, LacksInput}
use Rattle.concrete_sem.specs.Evaluation.{truth_of}
use Rattle.concrete_sem.specs.Effects.{effect_of}
use Rattle.concrete_sem.specs.Passing.{pass}
use Rattle.concrete_sem.specs.Steps.{Work, Ret, Do, Done, Test, Frame, In, Config, Step, Next, Faulted, push, leave_loop, chosen, goes_on, step_at, step_if_some, turn, returns_to, enters, step_frame}
use Rattle.concrete_sem.specs.Reach.{location_of}
use Rattle.concrete_sem.specs.WellFormed.{StandsIn, whole, behind_simple, then_block, else_block, behind_if, loop_body, behind_loop, behind_call, behind_break, IsWork}
use Rattle.batch_sound.proofs.Fitting.{callee}
use Rattle.base_values.proofs.Members.{Member, here, there, in_left, in_right}
use Rattle.std.proofs.lemmas.Option.{same_Some}
use Rattle.fault_points.specs.Points.{guard_points, effect_points, argument_points}
use Rattle.fault_points.specs.Exact.{NoneFails, SomeFails, AreExact, ExactIn}
use Rattle.fault_points.proofs.Fitting.{ClaimsFit, guards_fit, effects_fit, calls_fit}
use Rattle.fault_verdicts.specs.declared.statement.Evaluated.{Evaluated}
use Rattle.fault_verdicts.specs.Statements.{evaluated, evaluated_in, evaluated_statements, place_of}

-- the numbers of statements are the program's
abbrev numbers : List Evaluated → List ℕ
numbers [] = []
numbers (x ∷ xs) = x.number ∷ numbers xs

numbers_both : (xs ys : List Evaluated) → numbers (xs ++ ys) ≡ numbers xs ++ numbers ys
numbers_both [] ys = refl
numbers_both (x ∷ xs) ys = ap (λ k. x.number ∷ k) (numbers_both xs ys)

block_numbers : (c : Code) → numbers (evaluated_in c) ≡ code_numbers c
block_numbers Stop = refl
block_numbers (Simple n e r) = ap (λ k. n ∷ k) (block_numbers r)
block_numbers (If n g t e r) = rw (numbers_both, numbers_both, block_numbers t, block_numbers e, block_numbers r)
block_numbers (While n g b r) = rw (numbers_both, block_numbers b, block_numbers r)
block_numbers (Call n i q r) = ap (λ k. n ∷ k) (block_numbers r)
block_numbers (Break n r) = ap (λ k. n ∷ k) (block_numbers r)

program_numbers : (rs : List Routine) → numbers (evaluated_statements rs) ≡ routine_numbers rs
program_numbers [] = refl
program_numbers (r ∷ rs) = rw (numbers_both, block_numbers r.code, program_numbers rs)

number_there : (x : Evaluated) (xs : List Evaluated) → Member x xs → Member x.number (numbers xs)
number_there x [] m = elim m [ ]
number_there x (y ∷ xs) here = here
number_there x (y ∷ xs) (there m) = there (number_there x xs m)

not_absent : (n : ℕ) (ns : List ℕ) → Absent n ns → Member n ns → ⊥
not_absent n [] a m = elim m [ ]
not_absent n (k ∷ ns) a here = a.0 refl
not_absent n (k ∷ ns) a (there m) = not_absent n ns a.1 m

one_in : (xs : List Evaluated) → Distinct (numbers xs) → (x y : Evaluated) → Member x xs → Member y xs → x.number ≡ y.number → x ≡ y
one_in [] d x y m k e = elim m [ ]
one_in (z ∷ xs) d x y here here e = refl
one_in (z ∷ xs) d x y here (there k) e = absurd (not_absent z.number (numbers xs) d.0 (subst (λ n. Member n (numbers xs)) (sym e) (number_there y xs k)))
one_in (z ∷ xs) d x y (there m) here e = absurd (not_absent z.number (numbers xs) d.0 (subst (λ n. Member n (numbers xs)) e (number_there x xs m)))
one_in (z ∷ xs) d x y (there m) (there k) e = one_in xs d.1 x y m k e

pub one_of_number : (program : List Routine) → IsChecked program → (x y : Evaluated) → Member x (evaluated_statements program) → Member y (evaluated_statements program) → x.number ≡ y.number → x ≡ y
one_of_number program checked = one_in (evaluated_statements program) (subst Distinct (sym (program_numbers program)) checked.numbers_once)

-- the statements of a block that stands in a body are the body's
within : (body c : Code) → StandsIn body c → (x : Evaluated) → Member x (evaluated_in c) → Member x (evaluated_in body)
within body c whole x m = m
within body c (behind_simple s) x m = within body _ s x (there m)
within body c (then_block s) x m = within body _ s x (there (in_left _ m))
within body c (else_block {t = t} s) x m = within body _ s x (there (in_right (evaluated_in t) (in_left _ m)))
within body c (behind_if {t = t} {e = e} s) x m = within body _ s x (there (in_right (evaluated_in t) (in_right (evaluated_in e) m)))
within body c (loop_body s) x m = within body _ s x (there (in_left _ m))
within body c (behind_loop {b = b} s) x m = within body _ s x (there (in_right (evaluated_in b) m))
within body c (behind_call s) x m = within body _ s x (there m)
within body c (behind_break s) x m = within body _ s x (there m)

pub in_program : (rs : List Routine) (p : ℕ) (r : Routine) (x : Evaluated) → slice_get rs p ≡ Some r → Member x (evaluated_in r.code) → Member x (evaluated_statements rs)
in_program [] p r x e m = absurd (cc)
in_program (q ∷ rs) zero r x e m = in_left (evaluated_statements rs) (subst (λ (r : Routine). Member x (evaluated_in r.code)) (sym (same_Some q r e)) m)
in_program (q ∷ rs) (suc p) r x e m = in_right (evaluated_in q.code) (in_program rs p r x e m)

-- The statement of the item on top; a loop evaluates by its Test.
pub data Evaluates : Evaluated → Work → Type 0 where
  at_simple : {n : ℕ} {e : Effect} {r : Code} {w : Work} → Evaluates (evaluated n false (effect_points e)) (Do (Simple n e r) w)
  at_if : {n : ℕ} {g : Guard} {t e r : Code} {w : Work} → Evaluates (evaluated n false (guard_points g)) (Do (If n g t e r) w)
  at_call : {n : ℕ} {i : Invoke} {q : ℕ} {r : Code} {w : Work} → Evaluates (evaluated n false (argument_points i.entering.arguments)) (Do (Call n i q r) w)
  at_break : {n : ℕ} {r : Code} {w : Work} → Evaluates (evaluated n false []) (Do (Break n r) w)
  at_test : {n : ℕ} {g : Guard} {b : Code} {w : Work} → Evaluates (evaluated n true (guard_points g)) (Test n g b w)

pub located : (program : List Routine) (x : Evaluated) (w : Work) → Evaluates x w → location_of program w ≡ Some (place_of x)
located program x w at_simple = refl
located program x w at_if = refl
located program x w at_call = refl
located program x w at_break = refl
located program x w at_test = refl

pub belongs : (p : ℕ) (body : Code) (x : Evaluated) (w : Work) → Evaluates x w → IsWork p body w → Member x (evaluated_in body)
belongs p body x w (at_simple {n = n} {e = e} {r = r}) k = within body (Simple n e r) k.0 x here
belongs p body x w (at_if {n = n} {g = g} {t = t} {e = e} {r = r}) k = within body (If n g t e r) k.0 x here
belongs p body x w (at_call {n = n} {i = i} {q = q} {r = r}) k = within body (Call n i q r) k.0 x here
belongs p body x w (at_break {n = n} {r = r}) k = within body (Break n r) k.0 x here
belongs p body x w (at_test {n = n} {g = g} {b = b}) k = within body (While n g b k.0.0) k.0.1 x here

-- What an item on top of a frame's work fits.
abbrev pub FitsTop : List Routine → Layout → Work → Type 0
FitsTop before l (Do d w) = FitsCode before l d
FitsTop before l (Test n g b w) = fits_guard l g ≡ true
FitsTop before l (Done n o w) = Unit {0}
FitsTop before l (Ret p) = Unit {0}

-- where a step faults, what it attempts does
faulted : {A : Type 0} (m n : ℕ) (k : FaultKind) (o : Attempt A) (f : A → Step) → ((a : A) → f a ≡ Faulted n k → ⊥) → step_at m o f ≡ Faulted n k → (m ≡ n) × (o ≡ Faults k)
faulted m n k (Gives a) f none e = absurd (none a e)
faulted m n k (Faults j) f none e = (cc, cc)
faulted m n k LacksInput f none e = absurd cc

next_not : (c : Config) (n : ℕ) (k : FaultKind) → Next c ≡ Faulted n k → ⊥
next_not c n k e = cc

some_not : {A : Type 0} (o : Option A) (f : A → Config) (n : ℕ) (k : FaultKind) → step_if_some o (λ a. Next (f a)) ≡ Faulted n k → ⊥
some_not None f n k e = cc
some_not (Some a) f n k e = cc

returns_not : (h : Heap) (d : Variables) (below : List Frame) (n : ℕ) (k : FaultKind) → returns_to h d below ≡ Faulted n k → ⊥
returns_not h d [] n k e = cc
returns_not h d (In p v (Ret q) ∷ below) n k e = cc
returns_not h d (In p v (Do c w) ∷ below) n k e = cc
returns_not h d (In p v (Test m g b w) ∷ below) n k e = cc
returns_not h d (In p v (Done m None w) ∷ below) n k e = cc
returns_not h d (In p v (Done m (Some i) w) ∷ below) n k e = cc

went : {A : Type 0} (n : ℕ) (o : Attempt A) (f : A → Step) (d : Config) → step_at n o f ≡ Next d → (a : A) × (o ≡ Gives a)
went n (Gives a) f d e = (a, refl)
went n (Faults k) f d e = absurd cc
went n LacksInput f d e = absurd cc

module _ (program : List Routine) (p : ℕ) (below : List Frame) (h : Heap) (v : Variables) where
  abbrev steps : Work → Step
  steps = step_frame program p below h v

  -- The points of the statement are exact for the step.
  pub record Exactly (l : Layout) (x : Evaluated) (w : Work) : Type 0 where
    pub fails : (n : ℕ) (k : FaultKind) → steps w ≡ Faulted n k → (x.number ≡ n) × SomeFails v k x.points
    pub passes : (d : Config) → steps w ≡ Next d → NoneFails v x.points
    pub claims : ClaimsFit l x.points

  by_attempt : {A : Type 0} (l : Layout) (x : Evaluated) (w : Work) (o : Attempt A) (f : A → Step) → ((a : A) (n : ℕ) (k : FaultKind) → f a ≡ Faulted n k → ⊥) → steps w ≡ step_at x.number o f → AreExact v x.points o → ClaimsFit l x.points → Exactly l x w
  by_attempt l x w o f none is exact claims = record {
    fails = λ n k e. let t = faulted x.number n k o f (λ a. none a n k) (sym is ∙ e) in (t.0, exact.fails k t.1);
    passes = λ d e. let t = went x.number o f d (sym is ∙ e) in exact.passes t.0 t.1;
    claims = claims;
  }

  pub exactly : (before : List Routine) (l : Layout) (x : Evaluated) (w : Work) → Evaluates x w → FitsTop before l w → ExactIn l h v → Exactly l x w
  exactly before l x w (at_simple {n = n} {e = e} {r = r} {w = u}) f exact =
      by_attempt l x w (effect_of e h v) (λ y. Next (goes_on p below y.0 y.1 (Done n None (push r u)))) (λ a m k. next_not _ m k) refl (exact.effects e f.0) (effects_fit l e f.0)
  exactly before l x w (at_if {n = n} {g = g} {t = t} {e = e} {r = r} {w = u}) f exact =
      by_attempt l x w (truth_of v g) (λ b. Next (goes_on p below h v (push (chosen b t e) (Done n None (push r u))))) (λ a m k. next_not _ m k) refl (exact.guards g f.0) (guards_fit l g f.0)
  exactly before l x w (at_call {n = n} {i = i} {q = q} {r = r} {w = u}) f exact =
      let c = callee before l i q f.0 in
      by_attempt l x w (pass i.entering v) (λ y. step_if_some (slice_get program q) (λ c. Next (enters q (In p v (Done n (Some i) (push r u)) ∷ below) h y c)))
      (λ a m k. some_not (slice_get program q) (λ c. enters q (In p v (Done n (Some i) (push r u)) ∷ below) h a c) m k) refl (exact.calls i c.fits) (calls_fit l i c.fits)
  exactly before l x w (at_break {n = n} {r = r} {w = u}) f exact = record {
    fails = λ m k e. absurd (some_not (leave_loop u) (λ y. goes_on p below h v y) m k e);
    passes = λ d e. tt;
    claims = tt;
  }
  exactly before l x w (at_test {n = n} {g = g} {b = b} {w = u}) f exact =
      by_attempt l x w (truth_of v g) (λ t. Next (turn p below h v n g b u t)) (λ a m k. next_not _ m k) refl (exact.guards g f) (guards_fit l g f)

  -- a step that faults evaluates a statement
  pub faulting : (w : Work) (n : ℕ) (k : FaultKind) → steps w ≡ Faulted n k → (x : Evaluated) × Evaluates x w
  faulting (Ret q) n k e = absurd (returns_not h v below n k e)
  faulting (Done m i w) n k e = absurd cc
  faulting (Test m g b w) n k e = (_, at_test)
  faulting (Do Stop w) n k e = absurd cc
  faulting (Do (Simple m x d) w) n k e = (_, at_simple)
  faulting (Do (If m g s t d) w) n k e = (_, at_if)
  faulting (Do (While m g b d) w) n k e = absurd cc
  faulting (Do (Call m i q d) w) n k e = (_, at_call)
  faulting (Do (Break m d) w) n k e = (_, at_break)

-- Where a configuration stands at the place of a statement of the program, it evaluates that statement.
place_is : (x : Evaluated) (l : Location) → Some l ≡ Some (place_of x) → (b : Bool) → x.is_loop ≡ b → l ≡ (if b then Head x.number else Before x.number)
place_is x l e b i = same_Some _ _ e ∙ ap (λ b. if b then Head x.number else Before x.number) i

before_place : (x : Evaluated) (n : ℕ) → Some (Before n) ≡ Some (place_of x) → (x.is_loop ≡ false) × (n ≡ x.number)
before_place x n e = by x.is_loop refl
  where
    by : (b : Bool) → x.is_loop ≡ b → (x.is_loop ≡ false) × (n ≡ x.number)
    by true i = let k = place_is x (Before n) e true i in absurd cc
    by false i = let k = place_is x (Before n) e false i in (i, cc)

head_place : (x : Evaluated) (n : ℕ) → Some (Head n) ≡ Some (place_of x) → (x.is_loop ≡ true) × (n ≡ x.number)
head_place x n e = by x.is_loop refl
  where
    by : (b : Bool) → x.is_loop ≡ b → (x.is_loop ≡ true) × (n ≡ x.number)
    by true i = let k = place_is x (Head n) e true i in (i, cc)
    by false i = let k = place_is x (Head n) e false i in absurd cc

after_place : (x : Evaluated) (n : ℕ) → Some (After n) ≡ Some (place_of x) → ⊥
after_place x n e = by x.is_loop refl
  where
    by : (b : Bool) → x.is_loop ≡ b → ⊥
    by true i = let k = place_is x (After n) e true i in cc
    by false i = let k = place_is x (After n) e false i in cc

end_place : (x : Evaluated) (o : Option Routine) → option_map (λ (r : Routine). End r.name) o ≡ Some (place_of x) → ⊥
end_place x None e = cc
end_place x (Some r) e = by x.is_loop refl
  where
    by : (b : Bool) → x.is_loop ≡ b → ⊥
    by true i = let k = place_is x (End r.name) e true i in cc
    by false i = let k = place_is x (End r.name) e false i in cc

module _ (program : List Routine) (checked : IsChecked program) (x : Evaluated) (m : Member x (evaluated_statements program)) (p : ℕ) (r : Routine) (at : slice_get program p ≡ Some r) where
  same_as : (y : Evaluated) (w : Work) → Evaluates y w → IsWork p r.code w → y.number ≡ x.number → y ≡ x
  same_as y w e k i = one_of_number program checked y x (in_program program p r y at (belongs p r.code y w e k)) m i

  turned : (y : Evaluated) (w : Work) → Evaluates y w → IsWork p r.code w → y.number ≡ x.number → Evaluates x w
  turned y w e k i = subst (λ y. Evaluates y w) (same_as y w e k i) e

  pub standing_at : (w : Work) → IsWork p r.code w → location_of program w ≡ Some (place_of x) → Evaluates x w
  standing_at (Ret q) k e = absurd (end_place x (slice_get program q) e)
  standing_at (Done n i w) k e = absurd (after_place x n e)
  standing_at (Test n g b w) k e = turned _ (Test n g b w) at_test k (head_place x n e).1
  standing_at (Do Stop w) k e = absurd cc
  standing_at (Do (Simple n y d) w) k e = turned _ (Do (Simple n y d) w) at_simple k (before_place x n e).1
  standing_at (Do (If n g s t d) w) k e = turned _ (Do (If n g s t d) w) at_if k (before_place x n e).1
  standing_at (Do (While n g b d) w) k e =
      let i = before_place x n e in
      let y : Evaluated = evaluated n true (guard_points g) in
      let s : y ≡ x = one_of_number program checked y x (in_program program p r y at (within r.code (While n g b d) k.0 y here)) m i.1 in
      let t : true ≡ x.is_loop = ap (λ (y : Evaluated). y.is_loop) s in
      absurd (clash (t ∙ i.0))
    where
      clash : true ≡ false → ⊥
      clash e = cc
  standing_at (Do (Call n i q d) w) k e = turned _ (Do (Call n i q d) w) at_call k (before_place x n e).1
  standing_at (Do (Break n d) w) k e = turned _ (Do (Break n d) w) at_break k (before_place x n e).1
