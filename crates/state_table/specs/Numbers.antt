-- The numbers of a table's states: a state's number is its place in the list.
use Rattle.std.specs.Prelude.{◌≡◌, ℕ, Bool, true, List, [], ◌∷◌, ◌++◌, Some, slice_get, length, if◌then◌else◌, ◌⊎◌}
use Rattle.std.specs.List.{list_any}

-- the table with a state: as it is where an equal one is there, else with the state at its end
abbrev pub with_state : {T : Type 0} → (T → T → Bool) → List T → T → List T
with_state eq states state = if list_any (eq state) states then states else states ++ state ∷ []

-- a number whose state is equal to this one
abbrev pub IsNumberOf : {T : Type 0} → (T → T → Bool) → List T → T → ℕ → Type 0
IsNumberOf {T} eq states state n = (s : T) × (slice_get states n ≡ Some s) × (eq state s ≡ true)

-- each number keeps its state
abbrev pub KeepsNumbers : {T : Type 0} → List T → List T → Type 0
KeepsNumbers {T} old new = (n : ℕ) (s : T) → slice_get old n ≡ Some s → slice_get new n ≡ Some s

-- equal states have one number
abbrev pub AreOnce : {T : Type 0} → (T → T → Bool) → List T → Type 0
AreOnce {T} eq states = (m n : ℕ) (s t : T) → slice_get states m ≡ Some s → slice_get states n ≡ Some t → eq s t ≡ true → m ≡ n

-- `==` tells any two values apart that are not the same
abbrev pub TellsApart : {T : Type 0} → (T → T → Bool) → Type 0
TellsApart {T} eq = (x y : T) → eq x y ≡ true → x ≡ y

-- a state has the number n: as before, or at the end where it had none
abbrev pub Adds : {T : Type 0} → List T → List T → T → ℕ → Type 0
Adds old new state n = ((slice_get old n ≡ Some state) × (new ≡ old)) ⊎ (((m : ℕ) → slice_get old m ≡ Some state → ⊥) × (n ≡ length old) × (new ≡ old ++ state ∷ []))
