-- The touched cells, statement by statement.
use Rattle.std.proofs.Common.{◌≡◌, ℕ, ◌<◌, ◌≤◌, ◌+◌, ◌⊎◌, ◌↔◌, List, [], ◌∷◌, ◌++◌, Some, IsSome, length, take, get_or, refl, sym, ap, ◌∙◌, subst, inl, inr}
use Rattle.std.proofs.lemmas.List.{take_more, take_all}
use Rattle.std.proofs.lemmas.Option.{slice_get-get_or}
use Rattle.daig_graph.specs.Cells.{AreCells, IsOwned}
use Rattle.daig_graph.specs.Held.{IsIn}
use Rattle.cell_names.specs.Paths.{CellName}
use Rattle.imp_flow.specs.Plans.{Plan}
use Rattle.cell_removal.specs.Removal.{Cells, Removes}
use Rattle.cell_removal.proofs.Ins.{in_none, in_left, in_last, in_pushed}
use Rattle.edit_invalidate.specs.Touched.{KeepsCell, name_at, inputs_at, IsTouchedOf, AddsTouched, AreTouched, AreNamed}
use Rattle.cell_removal.proofs.Whole.{leads_as}

-- the item of a turn
pub at_turn : (all front : List ℕ) (x : ℕ) → (length front < length all) × (x ≡ get_or all (length front) x) → IsIn all x
at_turn all front x t = (length front, slice_get-get_or all (length front) x t.0 ∙ ap Some (sym t.1))

-- a cell of a statement has a name
pub owned_named : {V : Type 0} (cells : Cells V) (names : List CellName) (stmt x : ℕ) → IsOwned cells stmt x → AreNamed cells names → x < length names
owned_named cells names stmt x o named = named x (subst IsSome (sym o.1) refl)

module _ {V : Type 0} (old new : Plan) (names : List CellName) (cells : Cells V) where
  -- Of the first of a statement's cells those that are touched are added.
  abbrev pub Seen : (stmt : ℕ) → (front before after : List ℕ) → Type 0
  Seen stmt front before after = (n : ℕ) → IsIn after n ↔ (IsIn before n ⊎ (IsIn front n × IsTouchedOf old new names cells stmt n))

  pub seen_none : (stmt : ℕ) (before : List ℕ) → Seen stmt [] before before
  seen_none stmt before n = (λ m. inl m, λ s. elim s [ inl m ↦ m | inr p ↦ in_none n p.0 ])

  -- a cell that keeps its row
  pub seen_kept : (stmt x : ℕ) (front before after : List ℕ) → Seen stmt front before after → KeepsCell old new (name_at names x) (inputs_at cells x) → Seen stmt (front ++ x ∷ []) before after
  seen_kept stmt x front before after s k n = (
    λ m. elim ((s n).0 m) [ inl b ↦ inl b | inr p ↦ inr (in_left n front (x ∷ []) p.0, p.1) ],
    λ c. elim c [
      | inl b ↦ (s n).1 (inl b)
      | inr p ↦ elim (in_pushed n x front p.0) [
        | inl f ↦ (s n).1 (inr (f, p.1))
        | inr e ↦ absurd (p.1.lost (subst (λ y. KeepsCell old new (name_at names y) (inputs_at cells y)) e k))
      ]
    ],
  )

  -- and one that does not
  pub seen_touched : (stmt x : ℕ) (front before after : List ℕ) → Seen stmt front before after → IsOwned cells stmt x → (KeepsCell old new (name_at names x) (inputs_at cells x) → ⊥) → Seen stmt (front ++ x ∷ []) before (after ++ x ∷ [])
  seen_touched stmt x front before after s o lost n = (
    λ m. elim (in_pushed n x after m) [
      | inl a ↦ elim ((s n).0 a) [ inl b ↦ inl b | inr p ↦ inr (in_left n front (x ∷ []) p.0, p.1) ]
      | inr e ↦ inr (subst (IsIn (front ++ x ∷ [])) e (in_last x front), subst (IsTouchedOf old new names cells stmt) e (record { owned = o; lost = lost }))
    ],
    λ c. elim c [
      | inl b ↦ in_left n after (x ∷ []) ((s n).1 (inl b))
      | inr p ↦ elim (in_pushed n x front p.0) [
        | inl f ↦ in_left n after (x ∷ []) ((s n).1 (inr (f, p.1)))
        | inr e ↦ subst (IsIn (after ++ x ∷ [])) e (in_last x after)
      ]
    ],
  )

  pub seen_all : (stmt : ℕ) (all before after : List ℕ) → ((x : ℕ) → IsIn all x ↔ IsOwned cells stmt x) → Seen stmt all before after → AddsTouched old new names cells stmt before after
  seen_all stmt all before after are s n = (
    λ m. elim ((s n).0 m) [ inl b ↦ inl b | inr p ↦ inr p.1 ],
    λ c. elim c [ inl b ↦ (s n).1 (inl b) | inr t ↦ (s n).1 (inr ((are n).1 t.owned, t)) ],
  )

  -- of no statement
  pub touched_none : AreTouched old new names cells [] []
  touched_none n = (λ m. in_none n m, λ t. in_none t.stmt t.changed)

  -- of one statement more
  pub touched_more : (front before after : List ℕ) (stmt : ℕ) → AreTouched old new names cells front before → AddsTouched old new names cells stmt before after → AreTouched old new names cells (front ++ stmt ∷ []) after
  touched_more front before after stmt are adds n = (
    λ m. elim ((adds n).0 m) [
      | inl b ↦ (let t = (are n).0 b in record { stmt = t.stmt; changed = in_left t.stmt front (stmt ∷ []) t.changed; touched = t.touched })
      | inr t ↦ record { stmt = stmt; changed = in_last stmt front; touched = t }
    ],
    λ t. elim (in_pushed t.stmt stmt front t.changed) [
      | inl f ↦ (adds n).1 (inl ((are n).1 (record { stmt = t.stmt; changed = f; touched = t.touched })))
      | inr e ↦ (adds n).1 (inr (subst (λ k. IsTouchedOf old new names cells k n) (sym e) t.touched))
    ],
  )

  pub touched_next : (stmts : List ℕ) (i : ℕ) (before after : List ℕ) → i < length stmts → AreTouched old new names cells (take i stmts) before → AddsTouched old new names cells (get_or stmts i 0) before after → AreTouched old new names cells (take (i + 1) stmts) after
  touched_next stmts i before after h are adds = subst (λ xs. AreTouched old new names cells xs after) (sym (take_more stmts i 0 h)) (touched_more (take i stmts) before after (get_or stmts i 0) are adds)

  -- of all
  pub touched_end : (stmts : List ℕ) (i : ℕ) (xs : List ℕ) → length stmts ≤ i → AreTouched old new names cells (take i stmts) xs → AreTouched old new names cells stmts xs
  touched_end stmts i xs h are = subst (λ ys. AreTouched old new names cells ys xs) (take_all i stmts h) are

  pub touched_cells : (stmts xs : List ℕ) → AreTouched old new names cells stmts xs → AreCells cells xs
  touched_cells stmts xs are i x e = let o = ((are x).0 (i, e)).touched.owned in subst IsSome (sym o.1) refl

pub removes_same : {V : Type 0} (cells : Cells V) (these those : ℕ → Type 0) (plan : List ℕ) → ((n : ℕ) → these n ↔ those n) → Removes cells these plan → Removes cells those plan
removes_same cells these those plan same r = record {
  order = r.order;
  only = λ n m. leads_as cells these those (λ k t. (same k).0 t) n (r.only n m);
  each = λ n l. r.each n (leads_as cells those these (λ k t. (same k).1 t) n l);
}
