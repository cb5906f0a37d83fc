-- Demands one after another are one demand for all their names.
use Rattle.std.proofs.Common.{◌≡◌, ℕ, zero, suc, Bool, true, false, ◌||◌, List, [], ◌∷◌, ◌++◌, fold, refl, sym, ap, ◌∙◌, subst, ◌↔◌, inl, inr, append_assoc, append-nil}
use Rattle.daig_order.specs.Order.{System, IsAcyclic, member, seen, visit, fill, fill_all}
use Rattle.daig_order.specs.OrderLaws.{IsDistinct, Needed, IsClosed}
use Rattle.daig_order.specs.InTurn.{missing_in_turn, all_demanded}
use Rattle.daig_order.proofs.OrderLemmas.{member-append, visit-seen, visit-new}
use Rattle.daig_order.proofs.OrderLawProofs.{order-distinct, order-needed, needed-seen}
use Rattle.daig_order.proofs.TheoremProofs.{ceiling, below}
use Rattle.std.proofs.lemmas.Bool.{or_cases}
use Rattle.base_values.proofs.Cases.{by_bool, not_both}
use Rattle.std.proofs.Math.Bool.{or_assoc}
use Rattle.std.proofs.lemmas.List.Sums.{fold-append}

module _ {T : Type 0} (s : System T) (law : IsAcyclic s) (kept : T → Bool) (first : List T) where
  -- what was kept, and what was filled first
  abbrev with_first : T → Bool
  with_first = seen s kept first

  same-seen : (d : List T) (x : T) → seen s kept (first ++ d) x ≡ seen s with_first d x
  same-seen d x = ap (λ b. kept x || b) (member-append s.same first d x) ∙ sym (or_assoc (kept x) (member s.same first x) (member s.same d x))

  -- a demand that goes on fills what one fills that begins where these are kept
  shift-fold : (f : ℕ) → ((d : List T) (x : T) → visit s kept f (first ++ d) x ≡ first ++ visit s with_first f d x) → (d xs : List T) → fold (visit s kept f) (first ++ d) xs ≡ first ++ fold (visit s with_first f) d xs
  shift-fold f one d [] = refl
  shift-fold f one d (x ∷ xs) = ap (λ v. fold (visit s kept f) v xs) (one d x) ∙ shift-fold f one (visit s with_first f d x) xs

  shift-visit : (f : ℕ) (d : List T) (x : T) → visit s kept f (first ++ d) x ≡ first ++ visit s with_first f d x
  shift-visit zero d x = unfold visit in refl
  shift-visit (suc f) d x =
      by_bool (seen s with_first d x)
      (λ k. visit-seen s law kept (suc f) (first ++ d) x (same-seen d x ∙ k) ∙ ap (λ v. first ++ v) (sym (visit-seen s law with_first (suc f) d x k)))
      (λ k.
      visit-new s law kept f (first ++ d) x (same-seen d x ∙ k)
      ∙ ap (λ v. v ++ x ∷ []) (shift-fold f (shift-visit f) d (s.inputs x))
      ∙ append_assoc first (fold (visit s with_first f) d (s.inputs x)) (x ∷ [])
      ∙ ap (λ v. first ++ v) (sym (visit-new s law with_first f d x k)))

  shift-fill : (d : List T) (x : T) → fill s kept (first ++ d) x ≡ first ++ fill s with_first d x
  unfolding fill
  shift-fill d x = shift-visit (suc (s.rank x)) d x

  shift-all : (d xs : List T) → fill_all s kept (first ++ d) xs ≡ first ++ fill_all s with_first d xs
  shift-all d [] = refl
  shift-all d (x ∷ xs) = ap (λ v. fill_all s kept v xs) (shift-fill d x) ∙ shift-all (fill s with_first d x) xs

module _ {T : Type 0} (s : System T) (law : IsAcyclic s) where
  pub turns-one : (kept : T → Bool) (xss : List (List T)) → missing_in_turn s kept xss ≡ fill_all s kept [] (all_demanded xss)
  turns-one kept [] = refl
  turns-one kept (xs ∷ xss) =
      let first = fill_all s kept [] xs in
      ap (λ v. first ++ v) (turns-one (seen s kept first) xss)
      ∙ sym (shift-all s law kept first [] (all_demanded xss))
      ∙ ap (λ v. fill_all s kept v (all_demanded xss)) (append-nil first)
      ∙ sym (fold-append (fill s kept) [] xs (all_demanded xss))

  pub turns-union : (kept : T → Bool) → IsClosed s kept → (xss : List (List T)) → IsDistinct s.same (missing_in_turn s kept xss) × ((x : T) → (member s.same (missing_in_turn s kept xss) x ≡ true) ↔ (Needed s (all_demanded xss) x × (kept x ≡ false)))
  turns-union kept c xss =
      let xs = all_demanded xss in
      let low = below s law xs in (
        subst (IsDistinct s.same) (sym (turns-one kept xss)) (order-distinct s law kept xs (ceiling s xs) low),
        λ x. (
          λ m. order-needed s law kept xs (ceiling s xs) low x (ap (λ v. member s.same v x) (sym (turns-one kept xss)) ∙ m),
          λ n.
              ap (λ v. member s.same v x) (turns-one kept xss)
              ∙ (elim (or_cases (kept x) (member s.same (fill_all s kept [] xs) x) (needed-seen s law kept xs (ceiling s xs) low x c n.0)) [
                | inl k ↦ not_both (kept x) k n.1
                | inr m ↦ m
              ]),
        ),
      )
