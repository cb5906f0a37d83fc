-- Looking for a user that is not marked.
use Rattle.std.proofs.Common.{◌≡◌, ℕ, ◌⊎◌, List, [], ◌∷◌, refl, sym, subst, inl, inr}
use Rattle.daig_graph.specs.Held.{IsIn}
use Rattle.daig_graph.specs.declared.graph.Use.{Use}
use Rattle.cell_removal.specs.Removal.{IsFirst}
use Rattle.cell_removal.proofs.Ins.{in_none, in_first, in_more, in_cases}

-- what is left of these users, where all before are marked
pub record IsBehind (marked : ℕ → Type 0) (users rest : List Use) : Type 0 where
  pub front : (u : Use) → IsIn users u → marked u.cell ⊎ IsIn rest u
  pub back : (u : Use) → IsIn rest u → IsIn users u

pub behind_first : (marked : ℕ → Type 0) (users : List Use) → IsBehind marked users users
behind_first marked users = record { front = λ u m. inr m; back = λ u m. m }

module _ (marked : ℕ → Type 0) (users left rest : List Use) (u : Use) (b : IsBehind marked users left) (e : left ≡ u ∷ rest) where
  or_rest : (v : Use) → IsIn left v → (u ≡ v) ⊎ IsIn rest v
  or_rest v m = in_cases v u rest (subst (λ xs. IsIn xs v) e m)

  rest_back : (v : Use) → IsIn rest v → IsIn users v
  rest_back v m = b.back v (subst (λ xs. IsIn xs v) (sym e) (in_more v u rest m))

  pub behind_next : marked u.cell → IsBehind marked users rest
  behind_next p = record {
    front = λ v m. elim (b.front v m) [
      | inl k ↦ inl k
      | inr l ↦ elim (or_rest v l) [ inl q ↦ inl (subst (λ (w : Use). marked w.cell) q p) | inr r ↦ inr r ]
    ];
    back = rest_back;
  }

  pub behind_found : (marked u.cell → ⊥) → IsFirst marked users rest u.cell
  behind_found n = record {
    place = u.place;
    there = b.back u (subst (λ xs. IsIn xs u) (sym e) (in_first u rest));
    new = n;
    others = λ v m. elim (b.front v m) [
      | inl k ↦ inl k
      | inr l ↦ elim (or_rest v l) [ inl q ↦ inr (inl (subst (λ (w : Use). w.cell ≡ u.cell) q refl)) | inr r ↦ inr (inr r) ]
    ];
    less = rest_back;
  }

pub behind_all : (marked : ℕ → Type 0) (users left : List Use) → IsBehind marked users left → left ≡ [] → (u : Use) → IsIn users u → marked u.cell
behind_all marked users left b e u m = elim (b.front u m) [ inl k ↦ k | inr l ↦ in_none u (subst (λ xs. IsIn xs u) e l) ]
