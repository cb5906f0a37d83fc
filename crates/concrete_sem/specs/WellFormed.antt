-- Well-formed configurations: those that look like one of a run.
use Rattle.std.specs.Prelude.{◌≡◌, ◌≢◌, ℕ, suc, ◌-◌, List, [], ◌∷◌, length, slice_get, Option, Some, None, Bool, true, false, MatchOption}
use Rattle.imp_slots.specs.Plain.{Layout, Invoke, Code, Stop, Simple, If, While, Call, Break, Routine}
use Rattle.imp_slots.specs.Fits.{breaks}
use Rattle.concrete_sem.specs.Values.{Variables}
use Rattle.concrete_sem.specs.Steps.{Work, Ret, Do, Done, Test, Frame, In, Config}
use Rattle.concrete_sem.specs.Reach.{first_number}
use Rattle.concrete_sem.specs.Proper.{IsProper}

-- The block stands in the body: it is the body, the rest of a block there, or a block of a statement there.
pub data StandsIn (body : Code) : Code → Type 0 where
  whole : StandsIn body body
  behind_simple : {n : _} {e : _} {r : Code} → StandsIn body (Simple n e r) → StandsIn body r
  then_block : {n : _} {g : _} {t e r : Code} → StandsIn body (If n g t e r) → StandsIn body t
  else_block : {n : _} {g : _} {t e r : Code} → StandsIn body (If n g t e r) → StandsIn body e
  behind_if : {n : _} {g : _} {t e r : Code} → StandsIn body (If n g t e r) → StandsIn body r
  loop_body : {n : _} {g : _} {b r : Code} → StandsIn body (While n g b r) → StandsIn body b
  behind_loop : {n : _} {g : _} {b r : Code} → StandsIn body (While n g b r) → StandsIn body r
  behind_call : {n : _} {i : _} {q : _} {r : Code} → StandsIn body (Call n i q r) → StandsIn body r
  behind_break : {n : _} {r : Code} → StandsIn body (Break n r) → StandsIn body r

-- whether a Test is among the items
abbrev pub has_test : Work → Bool
has_test (Ret p) = false
has_test (Do c w) = has_test w
has_test (Done n i w) = has_test w
has_test (Test n g b w) = true

-- what the first statement of a block calls
abbrev pub first_call : Code → Option Invoke
first_call Stop = None
first_call (Simple n e r) = None
first_call (If n g t e r) = None
first_call (While n g b r) = None
first_call (Call n i q r) = Some i
first_call (Break n r) = None

-- The items are of statements of procedure p, whose body this is, then its Ret. A Test is of a while. Where a Do holds a
-- break that leaves the loop around it, there is a Test after.
abbrev pub IsWork : (p : ℕ) (body : Code) → Work → Type 0
IsWork p body (Ret q) = q ≡ p
IsWork p body (Do c w) = StandsIn body c × (c ≢ Stop) × (breaks c ≡ true → has_test w ≡ true) × IsWork p body w
IsWork p body (Done n i w) = ((c : Code) × StandsIn body c × (first_number c ≡ Some n) × (first_call c ≡ i)) × IsWork p body w
IsWork p body (Test n g b w) = ((r : Code) × StandsIn body (While n g b r)) × IsWork p body w

-- on top of the work stands the Done of a call of procedure q
abbrev pub Awaits : (body : Code) → Work → (q : ℕ) → Type 0
Awaits body (Ret p) q = ⊥
Awaits body (Do c w) q = ⊥
Awaits body (Test n g b w) q = ⊥
Awaits body (Done n None w) q = ⊥
Awaits body (Done n (Some i) w) q = (r : Code) × StandsIn body (Call n i q r)

abbrev pub layout_at : Option Routine → Layout
layout_at None = record { numbers = []; links = [] }
layout_at (Some r) = r.layout

-- the variables of the frames, the last frame's first
abbrev pub variables_of : List Frame → List Variables
variables_of [] = []
variables_of (In p v w ∷ below) = v ∷ variables_of below

module _ (program : List Routine) where
  -- The frames, the last one first: the first is main's and no other, and each other stands on a caller that awaits it.
  abbrev pub AreStacked : List Frame → Type 0
  AreStacked [] = ⊥
  AreStacked (In p v w ∷ []) = suc p ≡ length program
  AreStacked (In p v w ∷ In q u t ∷ below) = (suc p ≢ length program) × MatchOption (slice_get program q) ⊥ (λ r. Awaits r.code t p) × AreStacked (In q u t ∷ below)

  -- each frame's work is of its procedure
  abbrev pub DoTheirWork : List Frame → Type 0
  DoTheirWork [] = Unit {0}
  DoTheirWork (In p v w ∷ below) = MatchOption (slice_get program p) ⊥ (λ r. IsWork p r.code w) × DoTheirWork below

  -- the layouts of the frames' procedures, the last frame's first
  abbrev pub layouts_of : List Frame → List Layout
  layouts_of [] = []
  layouts_of (In p v w ∷ below) = layout_at (slice_get program p) ∷ layouts_of below

  pub record IsWellFormed (c : Config) : Type 0 where
    pub stacked : AreStacked c.frames
    pub work : DoTheirWork c.frames
    pub proper : IsProper c.heap (variables_of c.frames) (layouts_of c.frames)

  -- The run is ended: main's frame alone, with its Ret on top.
  pub record IsEnded (c : Config) : Type 0 where
    pub variables : Variables
    pub frames : c.frames ≡ In (length program - 1) variables (Ret (length program - 1)) ∷ []
