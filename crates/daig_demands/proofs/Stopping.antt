-- The iterates of a loop, by the last two.
use Rattle.std.proofs.Common.{◌≡◌, ℕ, zero, suc, ◌+◌, List, [], ◌∷◌, ◌++◌, length, Some, None, Bool, true, false, if◌then◌else◌, nat_lt, refl, ap, ◌∙◌, arith, sym, add-zero, zero-add}
use Rattle.std.proofs.lemmas.Bool.Decides.{nat_tests}
use Rattle.domain_laws.specs.Operations.{Operations}
use Rattle.batch_meaning.specs.Values.{Value, State, Over}
use Rattle.batch_meaning.specs.Batch.{LoopOptions, settle}
use Rattle.cell_rows.specs.Cells.{Cell, cell, plain, again, wants, wants_at, wants_first, ends, ends_at, ends_first}
use Rattle.daig_demands.specs.Stops.{state_of, last_state, goes_on, stops_with}
use Rattle.base_values.proofs.Cases.{less_test}

is_not_less : (k n : ℕ) → n ≡ k → false ≡ nat_lt k n
is_not_less k n e = grind (arith, nat_tests)

move : (a k : ℕ) → a + suc k ≡ suc a + k
move a k = omega arith

module _ {S : Type 0} (dom : Operations S) (engine : LoopOptions) where
  -- After one more state.
  last_wants : (l k : ℕ) (t : S) → wants dom engine l t [] ≡ nat_lt (suc k) (suc l + k)
  last_wants zero k t = is_not_less (suc k) (suc zero + k) (omega arith)
  last_wants (suc l) k t = sym (less_test (suc k) (suc (suc l) + k) (omega arith))

  goes : (left k : ℕ) (s : S) (vs : List (Cell S)) (v : Cell S) → wants dom engine left s vs ≡ true →
      wants dom engine left s (vs ++ v ∷ []) ≡ goes_on dom (left + k) (suc (length vs + k)) (last_state (Some s) vs) v.value
  goes zero k s vs v h = absurd cc
  goes (suc l) k s [] v h = by_last v.value ∙ ap (λ n. goes_on dom (suc l + k) (suc n) (Some s) v.value) (sym (zero-add k))
    where
      by_last : (u : Value S) → again dom engine s u (λ t. wants dom engine l t []) ≡ goes_on dom (suc l + k) (suc k) (Some s) u
      by_last (Over n z) = refl
      by_last (State t) = ap (λ b. if dom.same t s then false else b) (last_wants l k t)
  goes (suc l) k s (c ∷ vs) v h = by_first c.value (λ t g. goes l (suc k) t vs v g) h
    where
      Later : S → Type 0
      Later t = wants dom engine l t vs ≡ true → wants dom engine l t (vs ++ v ∷ []) ≡ goes_on dom (l + suc k) (suc (length vs + suc k)) (last_state (Some t) vs) v.value

      by_same : (t : S) → Later t → (b : Bool) → (if b then false else wants dom engine l t vs) ≡ true →
          (if b then false else wants dom engine l t (vs ++ v ∷ [])) ≡ goes_on dom (suc l + k) (suc (suc (length vs) + k)) (last_state (Some t) vs) v.value
      by_same t f true h = absurd cc
      by_same t f false h =
          f h
          ∙ ap (λ n. goes_on dom n (suc (length vs + suc k)) (last_state (Some t) vs) v.value) (move l k)
          ∙ ap (λ n. goes_on dom (suc l + k) (suc n) (last_state (Some t) vs) v.value) (move (length vs) k)

      by_first : (u : Value S) → ((t : S) → Later t) → again dom engine s u (λ t. wants dom engine l t vs) ≡ true →
          again dom engine s u (λ t. wants dom engine l t (vs ++ v ∷ [])) ≡ goes_on dom (suc l + k) (suc (suc (length vs) + k)) (last_state (state_of u) vs) v.value
      by_first (Over n z) f h = absurd cc
      by_first (State t) f h = by_same t (f t) (dom.same t s) h

  pub wants_by_last : (vs : List (Cell S)) (v : Cell S) → wants_first dom engine vs ≡ true → wants_first dom engine (vs ++ v ∷ []) ≡ goes_on dom engine.budget (length vs) (last_state None vs) v.value
  wants_by_last [] v h = by_first v.value
    where
      by_state : (n : ℕ) (s : S) → wants dom engine n s [] ≡ nat_lt 0 n
      by_state zero s = is_not_less 0 0 refl
      by_state (suc n) s = sym (less_test 0 (suc n) (omega arith))

      by_first : (u : Value S) → wants_at dom engine u [] ≡ goes_on dom engine.budget 0 None u
      by_first (Over m z) = refl
      by_first (State s) = by_state engine.budget s
  wants_by_last (c ∷ vs) v h = by_first c.value h
    where
      by_first : (u : Value S) → wants_at dom engine u vs ≡ true → wants_at dom engine u (vs ++ v ∷ []) ≡ goes_on dom engine.budget (suc (length vs)) (last_state (state_of u) vs) v.value
      by_first (Over m z) h = absurd cc
      by_first (State s) h =
          goes engine.budget 0 s vs v h
          ∙ ap (λ n. goes_on dom n (suc (length vs + 0)) (last_state (Some s) vs) v.value) (add-zero engine.budget)
          ∙ ap (λ n. goes_on dom engine.budget (suc n) (last_state (Some s) vs) v.value) (add-zero (length vs))

  module _ (over : Value S) where
    no_more : (l k : ℕ) (t : S) → ends dom engine over l k t [] ≡ plain over
    no_more zero k t = refl
    no_more (suc l) k t = refl

    ends_so : (left k : ℕ) (s : S) (vs : List (Cell S)) (v : Cell S) → wants dom engine left s vs ≡ true → wants dom engine left s (vs ++ v ∷ []) ≡ false →
        ends dom engine over left k s (vs ++ v ∷ []) ≡ stops_with dom over (suc (length vs + k)) (last_state (Some s) vs) v.value
    ends_so zero k s vs v h g = absurd cc
    ends_so (suc l) k s [] v h g = by_last v.value ∙ ap (λ n. stops_with dom over (suc n) (Some s) v.value) (sym (zero-add k))
      where
        by_last : (u : Value S) → settle dom engine k s u (λ t. ends dom engine over l (suc k) t []) ≡ stops_with dom over (suc k) (Some s) u
        by_last (Over n z) = refl
        by_last (State t) = ap (λ c. if dom.same t s then cell (State s) k else c) (no_more l (suc k) t)
    ends_so (suc l) k s (c ∷ vs) v h g = by_first c.value (λ t i j. ends_so l (suc k) t vs v i j) h g
      where
        Later : S → Type 0
        Later t = wants dom engine l t vs ≡ true → wants dom engine l t (vs ++ v ∷ []) ≡ false → ends dom engine over l (suc k) t (vs ++ v ∷ []) ≡ stops_with dom over (suc (length vs + suc k)) (last_state (Some t) vs) v.value

        by_same : (t : S) → Later t → (b : Bool) → (if b then false else wants dom engine l t vs) ≡ true → (if b then false else wants dom engine l t (vs ++ v ∷ [])) ≡ false →
            (if b then cell (State s) k else ends dom engine over l (suc k) t (vs ++ v ∷ [])) ≡ stops_with dom over (suc (suc (length vs) + k)) (last_state (Some t) vs) v.value
        by_same t f true h g = absurd cc
        by_same t f false h g = f h g ∙ ap (λ n. stops_with dom over (suc n) (last_state (Some t) vs) v.value) (move (length vs) k)

        by_first : (u : Value S) → ((t : S) → Later t) → again dom engine s u (λ t. wants dom engine l t vs) ≡ true → again dom engine s u (λ t. wants dom engine l t (vs ++ v ∷ [])) ≡ false →
            settle dom engine k s u (λ t. ends dom engine over l (suc k) t (vs ++ v ∷ [])) ≡ stops_with dom over (suc (suc (length vs) + k)) (last_state (state_of u) vs) v.value
        by_first (Over n z) f h g = absurd cc
        by_first (State t) f h g = by_same t (f t) (dom.same t s) h g

    pub ends_by_last : (vs : List (Cell S)) (v : Cell S) → wants_first dom engine vs ≡ true → wants_first dom engine (vs ++ v ∷ []) ≡ false → ends_first dom engine over (vs ++ v ∷ []) ≡ stops_with dom over (length vs) (last_state None vs) v.value
    ends_by_last [] v h g = by_first v.value g
      where
        by_first : (u : Value S) → wants_at dom engine u [] ≡ false → ends_at dom engine over u [] ≡ stops_with dom over 0 None u
        by_first (Over m z) g = refl
        by_first (State s) g = no_more engine.budget 0 s
    ends_by_last (c ∷ vs) v h g = by_first c.value h g
      where
        by_first : (u : Value S) → wants_at dom engine u vs ≡ true → wants_at dom engine u (vs ++ v ∷ []) ≡ false → ends_at dom engine over u (vs ++ v ∷ []) ≡ stops_with dom over (suc (length vs)) (last_state (state_of u) vs) v.value
        by_first (Over m z) h g = absurd cc
        by_first (State s) h g = ends_so engine.budget 0 s vs v h g ∙ ap (λ n. stops_with dom over (suc n) (last_state (Some s) vs) v.value) (add-zero (length vs))
