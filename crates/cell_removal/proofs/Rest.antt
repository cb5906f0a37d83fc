-- Cells without those of a plan.
use Rattle.std.proofs.Common.{◌≡◌, ℕ, ◌<◌, ◌+◌, List, [], ◌∷◌, length, take, get_or, Option, Some, None, IsSome, slice_get, refl, sym, ap, subst, ◌∙◌, inl, inr, arith}
use Rattle.std.proofs.lemmas.List.Sums.{fold_more}
use Rattle.std.specs.FinMap.{get, remove}
use Rattle.daig_graph.specs.Cells.{Filled, IsUnused}
use Rattle.daig_graph.specs.Held.{IsIn}
use Rattle.daig_graph.proofs.Maps.{get-remove-here, get-remove-other}
use Rattle.cell_removal.specs.Removal.{Cells, without, IsOrder, RestStays}
use Rattle.cell_removal.proofs.Ins.{in_none, in_first, in_more, in_cases, in_or_not, in_take, taken}
use Rattle.std.proofs.lemmas.Bool.{cases_eq}

module _ {V : Type 0} where
  one_less : (cells : Cells V) (x n : ℕ) → get cells n ≡ None → get (remove cells x) n ≡ None
  one_less cells x n h =
      elim (cases_eq n x) [
        | inl e ↦ subst (λ k. get (remove cells x) k ≡ None) (sym e) (get-remove-here cells x)
        | inr ne ↦ get-remove-other cells x n ne ∙ h
      ]

  rest_none : (cells : Cells V) (xs : List ℕ) (n : ℕ) → get cells n ≡ None → get (without cells xs) n ≡ None
  rest_none cells [] n h = h
  rest_none cells (x ∷ xs) n h = rest_none (remove cells x) xs n (one_less cells x n h)

  pub rest_gone : (cells : Cells V) (xs : List ℕ) (n : ℕ) → IsIn xs n → get (without cells xs) n ≡ None
  rest_gone cells [] n m = in_none n m
  rest_gone cells (x ∷ xs) n m =
      elim (in_cases n x xs m) [
        | inl e ↦ rest_none (remove cells x) xs n (subst (λ k. get (remove cells x) k ≡ None) e (get-remove-here cells x))
        | inr k ↦ rest_gone (remove cells x) xs n k
      ]

  pub rest_other : (cells : Cells V) (xs : List ℕ) (n : ℕ) → (IsIn xs n → ⊥) → get (without cells xs) n ≡ get cells n
  rest_other cells [] n h = refl
  rest_other cells (x ∷ xs) n h =
      rest_other (remove cells x) xs n (λ m. h (in_more n x xs m))
      ∙ get-remove-other cells x n (λ e. h (subst (λ k. IsIn (x ∷ xs) k) (sym e) (in_first x xs)))

  pub rest_cell : (cells : Cells V) (xs : List ℕ) (n : ℕ) (f : Filled V) → get (without cells xs) n ≡ Some f → (get cells n ≡ Some f) × (IsIn xs n → ⊥)
  rest_cell cells xs n f e =
      elim (in_or_not n xs) [
        | inl m ↦ (let g = rest_gone cells xs n m in absurd cc)
        | inr out ↦ (sym (rest_other cells xs n out) ∙ e, out)
      ]

  some_there : (o p : Option (Filled V)) → o ≡ p → IsSome p → IsSome o
  some_there o p e h = subst IsSome (sym e) h

  -- What holds of a cell whose turn has come: it is there, and nothing uses it any more.
  module _ (cells : Cells V) (plan : List ℕ) (order : IsOrder cells plan) (i x : ℕ) (at : slice_get plan i ≡ Some x) where
    not_yet : IsIn (take i plan) x → ⊥
    not_yet m =
        let t = taken plan i x m in
        let e : t.0 ≡ i = order.once t.0 i x t.2 at in
        let lt : t.0 < i = t.1 in
        omega arith

    pub still_there : IsSome (get (without cells (take i plan)) x)
    still_there = some_there _ _ (rest_other cells (take i plan) x not_yet) (order.there x (i, at))

    pub is_unused : IsUnused (without cells (take i plan)) x
    is_unused y place f e s =
        let r = rest_cell cells (take i plan) y f e in
        let u = order.users_first i x y at (place, (f, r.0, s)) in
        r.1 (in_take plan i u.0 y u.1 u.2)

  -- one step
  pub one_more : (cells now new : Cells V) (plan : List ℕ) (i : ℕ) → i < length plan → now ≡ without cells (take i plan) → new ≡ remove now (get_or plan i 0) → new ≡ without cells (take (i + 1) plan)
  one_more cells now new plan i h e r = r ∙ ap (λ c. remove c (get_or plan i 0)) e ∙ sym (fold_more remove cells plan i 0 h)

pub rest_stays : {V : Type 0} → RestStays V
rest_stays cells plan n = (rest_gone cells plan n, rest_other cells plan n)
