-- The states of a table in the middle of a sweep, each with a mark: 0 for none.
use Rattle.std.specs.Prelude.{◌≡◌, ℕ, zero, suc, ◌<◌, Bool, true, false, List, [], ◌∷◌, map, filter, Some, slice_get}

-- whether a mark is one
abbrev pub is_mark : ℕ → Bool
is_mark zero = false
is_mark (suc mark) = true

-- one more than a count where a mark is one
abbrev pub counted : (mark count : ℕ) → ℕ
counted zero count = count
counted (suc mark) count = suc count

module _ {T : Type 0} where
  abbrev pub states_in : List (T × ℕ) → List T
  states_in entries = map (λ e. e.0) entries

  -- the marked states, in their order
  abbrev pub marked_states : List (T × ℕ) → List T
  marked_states entries = states_in (filter (λ e. is_mark e.1) entries)

  -- how many states are marked
  abbrev pub mark_count : List (T × ℕ) → ℕ
  mark_count [] = 0
  mark_count (e ∷ entries) = counted e.1 (mark_count entries)

  -- how many are marked of those before a place: the number that a state there has when only the marked are left
  abbrev pub rank : List (T × ℕ) → ℕ → ℕ
  rank [] n = 0
  rank (e ∷ entries) zero = 0
  rank (e ∷ entries) (suc n) = counted e.1 (rank entries n)

  -- the state of a number is marked
  abbrev pub IsMarked : List (T × ℕ) → ℕ → Type 0
  IsMarked entries n = (s : T) × (mark : ℕ) × (slice_get entries n ≡ Some (s, suc mark))

  -- the marks of the first so many states tell the numbers that they will have
  abbrev pub AreNumberedBelow : List (T × ℕ) → ℕ → Type 0
  AreNumberedBelow entries count = (n : ℕ) (s : T) (mark : ℕ) → n < count → slice_get entries n ≡ Some (s, suc mark) → mark ≡ rank entries n

  -- each mark tells the number that the state will have
  abbrev pub AreNumbered : List (T × ℕ) → Type 0
  AreNumbered entries = (n : ℕ) (s : T) (mark : ℕ) → slice_get entries n ≡ Some (s, suc mark) → mark ≡ rank entries n
