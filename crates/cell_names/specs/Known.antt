-- The paths and names that have numbers.
use Rattle.std.specs.Prelude.{◌≡◌, ℕ, ◌≤◌, List, [], ◌∷◌, ◌++◌, Some, slice_get, length, map, ◌⊎◌}
use Rattle.cell_names.specs.declared.frame.NameFrame.{NameFrame}
use Rattle.cell_names.specs.declared.path.Name.{Name}
use Rattle.cell_names.specs.declared.path.PathStep.{PathStep}
use Rattle.cell_names.specs.Paths.{CellName, path_at, paths_of, name_in}

-- A path or a name has its place as its number.
pub record Known : Type 0 where
  pub paths : List (List NameFrame)
  pub names : List CellName

-- each number keeps what it names
abbrev pub KeepsNumbers : {A : Type 0} → List A → List A → Type 0
KeepsNumbers {A} old new = (n : ℕ) (x : A) → slice_get old n ≡ Some x → slice_get new n ≡ Some x

-- what is named has one number
abbrev pub IsOnce : {A : Type 0} → List A → Type 0
IsOnce {A} xs = (m n : ℕ) (x : A) → slice_get xs m ≡ Some x → slice_get xs n ≡ Some x → m ≡ n

-- x has the number n: as before, or at the end where it had none
abbrev pub Adds : {A : Type 0} → List A → List A → A → ℕ → Type 0
Adds old new x n = ((slice_get old n ≡ Some x) × (new ≡ old)) ⊎ (((m : ℕ) → slice_get old m ≡ Some x → ⊥) × (n ≡ length old) × (new ≡ old ++ x ∷ []))

abbrev pub known_of : List PathStep → List Name → Known
known_of steps names = record { paths = paths_of steps; names = map (name_in (paths_of steps)) names }

-- a step at place k leads on by a frame from the path before it, which is one of the k + 1 there
abbrev pub Leads : List (List NameFrame) → ℕ → PathStep → Type 0
Leads paths k s = (s.before ≤ k) × (f : NameFrame) × (s.frames ≡ f ∷ path_at paths s.before)

abbrev pub StepsLead : List PathStep → Type 0
StepsLead steps = (k : ℕ) (s : PathStep) → slice_get steps k ≡ Some s → Leads (paths_of steps) k s

-- the paths of names are there
abbrev pub NamesWithin : ℕ → List Name → Type 0
NamesWithin most names = (k : ℕ) (x : Name) → slice_get names k ≡ Some x → x.path ≤ most

-- what holds of the steps and names that are kept
pub record IsKept (steps : List PathStep) (names : List Name) : Type 0 where
  pub steps_lead : StepsLead steps
  pub names_within : NamesWithin (length steps) names
  pub steps_once : IsOnce steps
  pub names_once : IsOnce names
