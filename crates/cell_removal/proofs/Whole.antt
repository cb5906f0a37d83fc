-- The removal of several cells.
use Rattle.std.proofs.Common.{◌≡◌, ℕ, ◌<◌, ◌≤◌, ◌+◌, List, [], ◌∷◌, ◌++◌, length, take, get_or, IsSome, sym, subst, inl, inr}
use Rattle.std.proofs.lemmas.List.{take_more, take_all}
use Rattle.std.proofs.lemmas.Option.{slice_get-get_or}
use Rattle.std.specs.FinMap.{get}
use Rattle.daig_graph.specs.Cells.{AreCells}
use Rattle.daig_graph.specs.Held.{IsIn}
use Rattle.cell_removal.specs.Marks.{HasMark, AreMarked}
use Rattle.cell_removal.specs.Removal.{Cells, LeadsTo, itself, through, IsOrder, Removes, Adds}
use Rattle.cell_removal.proofs.Ins.{in_none, in_left, in_last, in_pushed}

pub leads_as : {V : Type 0} (cells : Cells V) (these those : ℕ → Type 0) → ((n : ℕ) → these n → those n) → (n : ℕ) → LeadsTo cells these n → LeadsTo cells those n
leads_as cells these those f n (itself _ t) = itself n (f n t)
leads_as cells these those f n (through m _ l u) = through m n (leads_as cells these those f m l) u

-- what leads to what is planned is planned
pub leads_in : {V : Type 0} (cells : Cells V) (plan : List ℕ) → IsOrder cells plan → (n : ℕ) → LeadsTo cells (IsIn plan) n → IsIn plan n
leads_in cells plan order n (itself _ t) = t
leads_in cells plan order n (through m _ l u) =
    let k = leads_in cells plan order m l in
    let f = order.users_first k.0 m n k.1 u in
    (f.0, f.2)

module _ {V : Type 0} (cells : Cells V) where
  -- a cell that is planned already
  pub adds_there : (cell : ℕ) (marks old : List ℕ) → AreMarked marks old → HasMark marks cell → Adds cells cell old old
  adds_there cell marks old marked h = let m = (marked cell).0 h in record { here = m; kept = λ x k. k; only = λ x k. inl k }

  pub removes_none : (plan : List ℕ) → plan ≡ [] → Removes cells (IsIn []) plan
  removes_none plan e = subst (Removes cells (IsIn [])) (sym e) (record {
    order = record { there = λ x m. in_none x m; once = λ m n x a b. absurd cc; users_first = λ i x y a u. absurd cc };
    only = λ x m. in_none x m;
    each = λ x l. none x l;
  })
    where
      none : (x : ℕ) → LeadsTo cells (IsIn []) x → IsIn [] x
      none x (itself _ t) = t
      none x (through m _ l u) = in_none m (none m l)

  -- one cell more
  one_more : (front : List ℕ) (x : ℕ) (old new : List ℕ) → Removes cells (IsIn front) old → IsOrder cells new → Adds cells x old new → Removes cells (IsIn (front ++ x ∷ [])) new
  one_more front x old new r order a = record {
    order = order;
    only = λ n m. elim (a.only n m) [
      | inl k ↦ leads_as cells (IsIn front) (IsIn (front ++ x ∷ [])) (λ y t. in_left y front (x ∷ []) t) n (r.only n k)
      | inr l ↦ leads_as cells (λ y. y ≡ x) (IsIn (front ++ x ∷ [])) (λ y e. subst (IsIn (front ++ x ∷ [])) (sym e) (in_last x front)) n l
    ];
    each = λ n l. leads_in cells new order n (leads_as cells (IsIn (front ++ x ∷ [])) (IsIn new) (λ y t. elim (in_pushed y x front t) [
      | inl f ↦ a.kept y (r.each y (itself y f))
      | inr e ↦ subst (IsIn new) e a.here
    ]) n l);
  }

  pub removes_more : (touched : List ℕ) (i : ℕ) (old new : List ℕ) → i < length touched → Removes cells (IsIn (take i touched)) old → IsOrder cells new → Adds cells (get_or touched i 0) old new → Removes cells (IsIn (take (i + 1) touched)) new
  removes_more touched i old new h r order a =
      subst (λ xs. Removes cells (IsIn xs) new) (sym (take_more touched i 0 h)) (one_more (take i touched) (get_or touched i 0) old new r order a)

  pub touched_there : (touched : List ℕ) (i : ℕ) → i < length touched → AreCells cells touched → IsSome (get cells (get_or touched i 0))
  touched_there touched i h are = are i (get_or touched i 0) (slice_get-get_or touched i 0 h)

  pub removes_all : (touched : List ℕ) (i : ℕ) (plan : List ℕ) → length touched ≤ i → Removes cells (IsIn (take i touched)) plan → Removes cells (IsIn touched) plan
  removes_all touched i plan h r = subst (λ xs. Removes cells (IsIn xs) plan) (take_all i touched h) r
